-- Evaluating gives one outcome.
use Rattle.std.proofs.Common.{◌≡◌, ℕ, List, [], ◌∷◌, map, refl, sym, ap, ◌∙◌}
use Rattle.erl_term.specs.Term.{term_of, term_of-tree, tree}
use Rattle.erl_term.specs.Tree.{Trees}
use Rattle.erl_semantics.proofs.Outcomes.{from_outside-once}
use Rattle.erl_semantics.specs.Acts.{act_of, place, receiver}
use Rattle.erl_semantics.specs.Jobs as jobs
use Rattle.erl_semantics.specs.Jobs.{Evaluates}
use Rattle.erl_semantics.specs.State as state
use Rattle.erl_semantics.specs.declared.acts.Act.{Act}
use Rattle.erl_semantics.specs.declared.acts.Act.TheVariants as acts
use Rattle.erl_semantics.specs.declared.acts.Place.{Place}
use Rattle.erl_semantics.specs.declared.acts.Place.TheVariants as places
use Rattle.erl_semantics.specs.declared.acts.Receiver.{Receiver}
use Rattle.erl_semantics.specs.declared.acts.Receiver.TheVariants as receivers
use Rattle.erl_semantics.specs.Views.{outcome_of, end_of}
use Rattle.erl_semantics.specs.declared.outcome.Outcome.{Outcome}
use Rattle.erl_semantics.specs.declared.outcome.End.{End}
use Rattle.erl_semantics.specs.declared.outcome.End.TheVariants as ends

-- What contracts see of an outcome tells it.

abbrev place_back : state.Place → Place
place_back (state.server m s) = places.Server m (term_of s)
place_back (state.loop m serial name args) = places.Loop m serial name args

place_again : (p : Place) → place_back (place p) ≡ p
place_again (places.Server m s) = ap (places.Server m) (term_of-tree s)
place_again (places.Loop m serial name args) = refl

abbrev receiver_back : state.Receiver → Receiver
receiver_back (state.named name) = receivers.Named name
receiver_back (state.process n) = receivers.Process n

receiver_again : (r : Receiver) → receiver_back (receiver r) ≡ r
receiver_again (receivers.Named name) = refl
receiver_again (receivers.Process n) = refl

abbrev act_back : state.Act → Act
act_back (state.send to t) = acts.Send (receiver_back to) (term_of t)
act_back (state.reply number t) = acts.Reply number (term_of t)
act_back (state.start p) = acts.Start (place_back p)
act_back (state.name name by_register) = acts.Name name by_register

act_again : (a : Act) → act_back (act_of a) ≡ a
act_again (acts.Send to t) = ap (λ r. acts.Send r (term_of (tree t))) (receiver_again to) ∙ ap (acts.Send to) (term_of-tree t)
act_again (acts.Reply number t) = ap (acts.Reply number) (term_of-tree t)
act_again (acts.Start p) = ap acts.Start (place_again p)
act_again (acts.Name name by_register) = refl

acts_again : (all : List Act) → map act_back (map act_of all) ≡ all
acts_again [] = refl
acts_again (a ∷ others) = ap (λ x. x ∷ map act_back (map act_of others)) (act_again a) ∙ ap (λ xs. a ∷ xs) (acts_again others)

abbrev end_back : state.Result → End
end_back (state.rest p) = ends.Rest (place_back p)
end_back (state.value t) = ends.Value (term_of t)
end_back (state.exit t) = ends.Exit (term_of t)

end_again : (e : End) → end_back (end_of e) ≡ e
end_again (ends.Rest p) = ap ends.Rest (place_again p)
end_again (ends.Value t) = ap ends.Value (term_of-tree t)
end_again (ends.Exit t) = ap ends.Exit (term_of-tree t)

abbrev outcome_back : jobs.Outcome → Outcome
outcome_back o = record { acts = map act_back o.acts; end = end_back o.ended }

outcome_again : (o : Outcome) → outcome_back (outcome_of o) ≡ o
outcome_again o = (λ j. record { acts = acts_again o.acts j; end = end_again o.end j })

pub evaluates-once : (w : state.World) (m f : List ℕ) (args : Trees) (o p : Outcome) → Evaluates w m f args (outcome_of o) → Evaluates w m f args (outcome_of p) → o ≡ p
evaluates-once w m f args o p first second =
    sym (outcome_again o) ∙ ap outcome_back (from_outside-once first second) ∙ outcome_again p
