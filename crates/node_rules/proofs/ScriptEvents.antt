-- Events of a script have one outcome: it begins, and it goes on, or is given up.
use Rattle.std.proofs.Common.{◌≡◌, ℕ, Bool, true, false, List, inl, inr, Option, None, Some, Ok, Err, refl, sym, ap, subst, ◌∙◌}
use Rattle.std.proofs.lemmas.Option.{none-some, same_Some}
use Rattle.std.specs.Prelude.{◌⊎◌}
use Rattle.code_server.specs.declared.error.CodeError.TheVariants as code_error
use Rattle.erl_term.specs.declared.term.Term.{Term}
use Rattle.low_instructions.specs.declared.low.Low.{Low}
use Rattle.node_restart.specs.Restart.{restart_refusal}
use Rattle.node_rules.proofs.Accepting.{Acceptance}
use Rattle.node_rules.proofs.Restarts.{restarts-once}
use Rattle.node_rules.specs.Node.{NodeState}
use Rattle.node_rules.specs.Scripts.{Advances, CannotRestart, FallsBack, GivesUp, GoesOn, GoesOnBy, HasFailed, Installs, IsCarriedOut, LacksSerials, Outcome, RefusesAdvance, begun_as, is_past, next_in, parts_in, reporting, target_in, with_parts}
use Rattle.node_types.specs.declared.event.Answer.TheVariants as answer
use Rattle.node_types.specs.declared.event.Refusal.{Refusal}
use Rattle.node_types.specs.declared.event.Refusal.TheVariants as refusal
use Rattle.process_effects.specs.declared.told.Reply.{Reply}
use Rattle.release_statuses.specs.Statuses.{restarted}
use Rattle.release_table.specs.declared.table.Release.{Release}
use Rattle.script_laws.proofs.OneOutcome.{instructions_have_one_outcome}
use Rattle.script_runner.specs.Instructions.{Fails, IsAtEnd, busy_of}
use Rattle.script_runner.specs.Parts.{Parts}
use Rattle.script_runner.specs.declared.halt.Halt.TheVariants as halt
use Rattle.script_state.specs.Runner.{RunnerState}

-- Install: the release of a version is one, and so is the script that leads to it.
pub one_install : (vsn : List ℕ) (n : NodeState) (r s : Outcome) → Installs vsn n r → Installs vsn n s → r ≡ s
one_install vsn n (Err e) (Err f) (it, refused, is) (other, refused_too, also) =
    ap Err (is ∙ ap refusal.OfInstall (same_Some it other (sym refused ∙ refused_too)) ∙ sym also)
one_install vsn n (Err e) (Ok b) (it, refused, is) second = absurd (none-some it (sym second.unrefused ∙ refused))
one_install vsn n (Ok a) (Err f) first (it, refused, is) = absurd (none-some it (sym first.unrefused ∙ refused))
one_install vsn n (Ok a) (Ok b) first second =
    let target = same_Some first.target second.target (sym first.found ∙ second.found) in
    let entry = same_Some first.entry second.entry (sym first.script ∙ second.script) in
    ap Ok (first.is ∙ (λ i. begun_as (target i).release (entry i) n) ∙ sym second.is)

-- The node falls back on one release: the permanent one.

falls_back-once : (reason : Term) (n : NodeState) (a b : Acceptance) → FallsBack reason n a → FallsBack reason n b → a ≡ b
falls_back-once reason n a b first second =
    let release = same_Some first.permanent second.permanent (sym first.found ∙ second.found) in
    let both = restarts-once first.permanent second.permanent (restarted n.releases) n a b first.told second.told in
    both (answer.Restarted reason) release first.restarts second.restarts first.answers second.answers first.notes second.notes

falls_back_or_lacks : (reason : Term) (n : NodeState) (a : Acceptance) → FallsBack reason n a → LacksSerials n → ⊥
falls_back_or_lacks reason n a falls lacks =
    let release = same_Some falls.permanent lacks.permanent (sym falls.found ∙ lacks.found) in
    let same = ap (λ (r : Release). restart_refusal r n.modules) release in
    none-some code_error.CounterEnd (sym falls.restarts.unrefused ∙ same ∙ lacks.at_end)

gives_up-once : (past : Bool) (reason : Term) (s : RunnerState) (n : NodeState) (a b : Acceptance) →
    GivesUp past reason s n a → GivesUp past reason s n b → a ≡ b
gives_up-once false reason s n a b first second = first ∙ sym second
gives_up-once true reason s n a b first second = falls_back-once reason n a b first second

-- Advance: the next instruction does one thing, or fails for one reason, and never both, where nobody has to be waited for.
module _ (r : Release) (give_up : Bool) (i : Low) (s : RunnerState) (n : NodeState) where
  abbrev Waits : Type 0
  Waits = busy_of give_up i (parts_in s n) ≡ None

  abbrev Goes : Acceptance → Type 0
  Goes a = IsCarriedOut r i s n a ⊎ HasFailed r i s n a

  abbrev carried_as : Parts → List Reply → Acceptance
  carried_as parts told = record { node = with_parts parts s n; answer = answer.Ran i; note = reporting told }

  carried-once : (a b : Acceptance) → IsCarriedOut r i s n a → IsCarriedOut r i s n b → a ≡ b
  carried-once a b first second =
      let both = instructions_have_one_outcome.does r i (parts_in s n) first.parts second.parts first.told second.told in
      let same = both first.does second.does in
      first.is ∙ (λ j. carried_as (same.0 j) (same.1 j)) ∙ sym second.is

  fails-once : (x y : Term) → Waits → Fails r i (parts_in s n) x → Fails r i (parts_in s n) y → x ≡ y
  fails-once x y waits first second =
      let both = instructions_have_one_outcome.halts r give_up i (parts_in s n) (halt.Failed x) (halt.Failed y) in
      let same : halt.Failed x ≡ halt.Failed y = both (waits, first) (waits, second) in
      cc

  fails_or_ends : (x : Term) → Waits → Fails r i (parts_in s n) x → IsAtEnd r i (parts_in s n) → ⊥
  fails_or_ends x waits fails ends =
      let both = instructions_have_one_outcome.halts r give_up i (parts_in s n) (halt.Failed x) halt.CounterEnd in
      let same : halt.Failed x ≡ halt.CounterEnd = both (waits, fails) (waits, ends) in
      cc

  carried_or_fails : (a : Acceptance) (x : Term) → Waits → IsCarriedOut r i s n a → Fails r i (parts_in s n) x → ⊥
  carried_or_fails a x waits it fails =
      let never = instructions_have_one_outcome.never_both r give_up i (parts_in s n) it.parts it.told (halt.Failed x) in
      never waits it.does (waits, fails)

  carried_or_ends : (a : Acceptance) → Waits → IsCarriedOut r i s n a → IsAtEnd r i (parts_in s n) → ⊥
  carried_or_ends a waits it ends =
      let never = instructions_have_one_outcome.never_both r give_up i (parts_in s n) it.parts it.told halt.CounterEnd in
      never waits it.does (waits, ends)

  failed-once : (a b : Acceptance) → Waits → HasFailed r i s n a → HasFailed r i s n b → a ≡ b
  failed-once a b waits first second =
      let reason = fails-once first.reason second.reason waits first.fails second.fails in
      let here = subst (λ (x : Term). GivesUp (is_past s) x s n a) reason first.gives_up in
      gives_up-once (is_past s) second.reason s n a b here second.gives_up

  goes-once : (a b : Acceptance) → Waits → Goes a → Goes b → a ≡ b
  goes-once a b waits (inl first) (inl second) = carried-once a b first second
  goes-once a b waits (inl first) (inr second) = absurd (carried_or_fails a second.reason waits first second.fails)
  goes-once a b waits (inr first) (inl second) = absurd (carried_or_fails b first.reason waits second first.fails)
  goes-once a b waits (inr first) (inr second) = failed-once a b waits first second

  failed_or_cannot : (a : Acceptance) → HasFailed r i s n a → CannotRestart r i s n → ⊥
  failed_or_cannot a failed cannot =
      let falls = subst (λ b. GivesUp b failed.reason s n a) cannot.past failed.gives_up in
      falls_back_or_lacks failed.reason n a falls cannot.lacks

-- An advance is refused for one reason, and never accepted then.

data IsUnadvanced (r : Release) (give_up : Bool) (i : Low) (s : RunnerState) (n : NodeState) : Refusal → Type 0 where
  busy : (pid : ℕ) → busy_of give_up i (parts_in s n) ≡ Some pid → IsUnadvanced r give_up i s n (refusal.Busy pid)
  at_end : busy_of give_up i (parts_in s n) ≡ None → IsAtEnd r i (parts_in s n) ⊎ CannotRestart r i s n →
      IsUnadvanced r give_up i s n refusal.CounterEnd

unadvanced_is : (e : Refusal) (r : Release) (give_up : Bool) (i : Low) (s : RunnerState) (n : NodeState) →
    RefusesAdvance e r give_up i s n → IsUnadvanced r give_up i s n e
unadvanced_is (refusal.Busy pid) r give_up i s n refuses = busy pid refuses
unadvanced_is refusal.CounterEnd r give_up i s n refuses = at_end refuses.0 refuses.1
unadvanced_is _ r give_up i s n refuses = absurd refuses

one_unadvanced : (r : Release) (give_up : Bool) (i : Low) (s : RunnerState) (n : NodeState) (e f : Refusal) →
    IsUnadvanced r give_up i s n e → IsUnadvanced r give_up i s n f → e ≡ f
one_unadvanced r give_up i s n _ _ (busy pid is) (busy other also) = ap refusal.Busy (same_Some pid other (sym is ∙ also))
one_unadvanced r give_up i s n _ _ (busy pid is) (at_end waits why) = absurd (none-some pid (sym waits ∙ is))
one_unadvanced r give_up i s n _ _ (at_end waits why) (busy pid is) = absurd (none-some pid (sym waits ∙ is))
one_unadvanced r give_up i s n _ _ (at_end waits why) (at_end also other) = refl

goes_or_not : (r : Release) (give_up : Bool) (i : Low) (s : RunnerState) (n : NodeState) (a : Acceptance) (e : Refusal) →
    Waits r give_up i s n → Goes r give_up i s n a → IsUnadvanced r give_up i s n e → ⊥
goes_or_not r give_up i s n a _ waits goes (busy pid is) = none-some pid (sym waits ∙ is)
goes_or_not r give_up i s n a _ waits (inl carried) (at_end also (inl ends)) =
    carried_or_ends r give_up i s n a waits carried ends
goes_or_not r give_up i s n a _ waits (inl carried) (at_end also (inr cannot)) =
    carried_or_fails r give_up i s n a cannot.reason waits carried cannot.fails
goes_or_not r give_up i s n a _ waits (inr failed) (at_end also (inl ends)) =
    fails_or_ends r give_up i s n failed.reason waits failed.fails ends
goes_or_not r give_up i s n a _ waits (inr failed) (at_end also (inr cannot)) =
    failed_or_cannot r give_up i s n a failed cannot

-- So it has one outcome, by the instruction that is next, if one is left.

by_instruction : (o : Option Low) (r : Release) (give_up : Bool) (s : RunnerState) (n : NodeState) (x y : Outcome) →
    GoesOnBy o r give_up s n x → GoesOnBy o r give_up s n y → x ≡ y
by_instruction None r give_up s n x y first second = first ∙ sym second
by_instruction (Some i) r give_up s n (Err e) (Err f) first second =
    let here = unadvanced_is e r give_up i s n first in
    ap Err (one_unadvanced r give_up i s n e f here (unadvanced_is f r give_up i s n second))
by_instruction (Some i) r give_up s n (Err e) (Ok b) first second =
    absurd (goes_or_not r give_up i s n b e second.0 second.1 (unadvanced_is e r give_up i s n first))
by_instruction (Some i) r give_up s n (Ok a) (Err f) first second =
    absurd (goes_or_not r give_up i s n a f first.0 first.1 (unadvanced_is f r give_up i s n second))
by_instruction (Some i) r give_up s n (Ok a) (Ok b) first second =
    ap Ok (goes-once r give_up i s n a b first.0 first.1 second.1)

by_release : (o : Option Release) (give_up : Bool) (s : RunnerState) (n : NodeState) (x y : Outcome) →
    GoesOn o give_up s n x → GoesOn o give_up s n y → x ≡ y
by_release None give_up s n x y first second = absurd first
by_release (Some r) give_up s n x y first second = by_instruction (next_in s) r give_up s n x y first second

pub one_advance : (give_up : Bool) (o : Option RunnerState) (n : NodeState) (x y : Outcome) →
    Advances give_up o n x → Advances give_up o n y → x ≡ y
one_advance give_up None n x y first second = first ∙ sym second
one_advance give_up (Some s) n x y first second = by_release (target_in s n) give_up s n x y first second
