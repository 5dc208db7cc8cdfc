-- A function that is applied does one thing, or fails for one reason.
use Rattle.std.proofs.Common.{◌≡◌, ℕ, List, map, None, sym, ap, ◌∙◌}
use Rattle.std.proofs.lemmas.Option.{none-some, same_Some}
use Rattle.callback_lang.proofs.Evaluated.{evaluates-once}
use Rattle.erl_semantics.specs.State.{plain}
use Rattle.erl_semantics.specs.Views.{instance}
use Rattle.erl_semantics.specs.declared.instance.Instance.{Instance}
use Rattle.erl_semantics.specs.declared.outcome.Outcome.{Outcome}
use Rattle.erl_term.specs.Term.{term_of, term_of-tree, tree}
use Rattle.erl_term.specs.Tree.{Trees}
use Rattle.erl_term.specs.declared.term.Term.{Term}
use Rattle.process_effects.specs.Begins.{acts_begun, begun_told}
use Rattle.process_effects.specs.declared.told.Reply.{Reply}
use Rattle.process_store.specs.Table.{Table}
use Rattle.upgrade_calls.specs.Applying.{Applies, FailsToApply, Gives, fault_of}
use Rattle.upgrade_calls.specs.Laws.{AppliesOneWay}

gives-once : (code : List Instance) (m f : List ℕ) (args : Trees) (o p : Outcome) → Gives code m f args o → Gives code m f args p → o ≡ p
gives-once code m f args o p first second = evaluates-once (record { code = map instance code; pid = 0; mode = plain }) m f args o p first second

applies-once : (code : List Instance) (m f : List ℕ) (args : Trees) (t after last : Table) (told said : List Reply) → Applies code m f args t after told → Applies code m f args t last said → (after ≡ last) × (told ≡ said)
applies-once code m f args t after last told said first second =
    let same = gives-once code m f args first.outcome second.outcome first.gives second.gives in
    (first.done ∙ ap (λ o. acts_begun None code o.acts t) same ∙ sym second.done, first.tells ∙ ap (λ o. begun_told None code o.acts t) same ∙ sym second.tells)

fails-once : (code : List Instance) (m f : List ℕ) (args : Trees) (r q : Term) → FailsToApply code m f args r → FailsToApply code m f args q → r ≡ q
fails-once code m f args r q first second =
    let same = gives-once code m f args first.outcome second.outcome first.gives second.gives in
    let trees_same = same_Some (tree r) (tree q) (sym first.fails ∙ ap fault_of same ∙ second.fails) in
    sym (term_of-tree r) ∙ ap term_of trees_same ∙ term_of-tree q

never_both : (code : List Instance) (m f : List ℕ) (args : Trees) (t after : Table) (told : List Reply) (r : Term) → Applies code m f args t after told → FailsToApply code m f args r → ⊥
never_both code m f args t after told r applies fails =
    none-some (tree r) (sym applies.good ∙ ap fault_of (gives-once code m f args applies.outcome fails.outcome applies.gives fails.gives) ∙ fails.fails)

pub applies_one_way : AppliesOneWay
applies_one_way = record { applies = applies-once; fails = fails-once; never_both = never_both }
