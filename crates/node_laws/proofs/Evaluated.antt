-- An outcome of evaluation is one that the node sees: each value of the rules is one of the code.
use Rattle.std.specs.Prelude.{◌≡◌, ℕ, List, [], ◌∷◌, map, refl}
use Rattle.std.proofs.Common.{ap, sym, subst}
use Rattle.erl_term.specs.Term.{tree, term_of}
use Rattle.erl_term.specs.Tree as term
use Rattle.erl_term.specs.Tree.{Tree, Trees, count}
use Rattle.erl_semantics.specs.Acts.{act_of, place, receiver}
use Rattle.erl_semantics.specs.Jobs as jobs
use Rattle.erl_semantics.specs.Jobs.{Evaluates}
use Rattle.erl_semantics.specs.State as state
use Rattle.erl_semantics.specs.State.{World}
use Rattle.erl_semantics.specs.Views.{end_of, outcome_of}
use Rattle.erl_semantics.specs.declared.acts.Act.{Act}
use Rattle.erl_semantics.specs.declared.acts.Act.TheVariants as acts
use Rattle.erl_semantics.specs.declared.acts.Place.{Place}
use Rattle.erl_semantics.specs.declared.acts.Place.TheVariants as places
use Rattle.erl_semantics.specs.declared.acts.Receiver.{Receiver}
use Rattle.erl_semantics.specs.declared.acts.Receiver.TheVariants as receivers
use Rattle.erl_semantics.specs.declared.outcome.End.{End}
use Rattle.erl_semantics.specs.declared.outcome.End.TheVariants as ends
use Rattle.erl_semantics.specs.declared.outcome.Outcome.{Outcome}
use Rattle.erl_semantics.specs.Starting.{remote_function}
use Rattle.erl_steps.proofs.Ends.{from_outside_ends}

pub tree_back : (t : Tree) → tree (term_of t) ≡ t
tree_back (term.int n) = refl
tree_back (term.atom a) = refl
tree_back (term.pid n) = refl
tree_back (term.tuple ts) = refl
tree_back (term.list ts) = refl

place_there : state.Place → Place
place_there (state.server m t) = places.Server m (term_of t)
place_there (state.loop m serial f args) = places.Loop m serial f args

place_back : (p : state.Place) → place (place_there p) ≡ p
unfolding place_there
place_back (state.server m t) = ap (λ u. state.server m u) (tree_back t)
place_back (state.loop m serial f args) = refl

receiver_there : state.Receiver → Receiver
receiver_there (state.named name) = receivers.Named name
receiver_there (state.process n) = receivers.Process n

receiver_back : (r : state.Receiver) → receiver (receiver_there r) ≡ r
unfolding receiver_there
receiver_back (state.named name) = refl
receiver_back (state.process n) = refl

act_there : state.Act → Act
act_there (state.send to t) = acts.Send (receiver_there to) (term_of t)
act_there (state.reply n t) = acts.Reply n (term_of t)
act_there (state.start p) = acts.Start (place_there p)
act_there (state.name name by_register) = acts.Name name by_register

act_back : (a : state.Act) → act_of (act_there a) ≡ a
unfolding act_there
act_back (state.send to t) = λ i. state.send (receiver_back to i) (tree_back t i)
act_back (state.reply n t) = ap (λ u. state.reply n u) (tree_back t)
act_back (state.start p) = ap (λ q. state.start q) (place_back p)
act_back (state.name name by_register) = refl

acts_back : (list : List state.Act) → map act_of (map act_there list) ≡ list
acts_back [] = refl
acts_back (a ∷ others) = λ i. act_back a i ∷ acts_back others i

end_there : state.Result → End
end_there (state.value t) = ends.Value (term_of t)
end_there (state.rest p) = ends.Rest (place_there p)
end_there (state.exit t) = ends.Exit (term_of t)

end_back : (r : state.Result) → end_of (end_there r) ≡ r
unfolding end_there
end_back (state.value t) = ap (λ u. state.value u) (tree_back t)
end_back (state.rest p) = ap (λ q. state.rest q) (place_back p)
end_back (state.exit t) = ap (λ u. state.exit u) (tree_back t)

outcome_there : jobs.Outcome → Outcome
outcome_there o = record { acts = map act_there o.acts; end = end_there o.ended }

outcome_back : (o : jobs.Outcome) → outcome_of (outcome_there o) ≡ o
unfolding outcome_there
outcome_back o = λ i. record { acts = acts_back o.acts i; ended = end_back o.ended i }

-- Something comes of each call, as the node sees it.
pub evaluated : (w : World) (m f : List ℕ) (args : Trees) → (o : Outcome) × Evaluates w m f args (outcome_of o)
evaluated w m f args =
    let o = from_outside_ends w f (remote_function w m f (count args)) args in
    (outcome_there o.0, subst (λ x. Evaluates w m f args x) (sym (outcome_back o.0)) o.1)
