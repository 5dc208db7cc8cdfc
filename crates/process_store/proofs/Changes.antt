-- Elementary changes of one process: what they leave alone, and what takes them back.
use Rattle.std.proofs.Common.{◌≡◌, ℕ, List, Option, None, Some, IfSome, option_map, sym, ap, subst, ◌∙◌, arith}
use Rattle.erl_term.specs.declared.term.Term.{Term}
use Rattle.erl_semantics.specs.declared.acts.Place.{Place}
use Rattle.erl_semantics.specs.declared.instance.Instance.{Instance}
use Rattle.process_index.specs.Index.{Names}
use Rattle.process_index.specs.Numbers.{Owners}
use Rattle.process_store.specs.declared.living.ProcessEntry.{ProcessEntry}
use Rattle.process.proofs.Restating.{still_server}
use Rattle.process_store.specs.Changes.{CanRestate, CanUnrestate, Turned, rest_living, restate_living}
use Rattle.process_store.specs.Indexed.{IsIndexed}
use Rattle.process_store.specs.Table.{changed_slots, living_at}
use Rattle.process_store.proofs.Indexes.{IsIndexed-kept}
use Rattle.process_store.proofs.Slots.{living_changed}

-- a change that leaves name, pid and calls alone leaves the indexes right
pub changed_indexed : (f : ProcessEntry → ProcessEntry) → ((l : ProcessEntry) → (f l).process.name ≡ l.process.name) → ((l : ProcessEntry) → (f l).process.pid ≡ l.process.pid) → ((l : ProcessEntry) → (f l).calls ≡ l.calls) → (names : Names) (open_calls : Owners) (slots now : List (Option ProcessEntry)) (pid : ℕ) → IsIndexed names open_calls slots → now ≡ changed_slots f pid slots → IsIndexed names open_calls now
changed_indexed f same_name same_pid same_calls names open_calls slots now pid indexed is =
    subst (IsIndexed names open_calls) (sym is) (IsIndexed-kept f same_name same_pid same_calls names open_calls slots pid indexed)

-- a process that rests has turned
pub rested_turned : (at : Place) (rests_in : Option Instance) (slots now : List (Option ProcessEntry)) (pid : ℕ) → now ≡ changed_slots (rest_living at rests_in) pid slots → IfSome (living_at now pid) Turned
rested_turned at rests_in slots now pid is =
    let f = rest_living at rests_in in
    subst (λ o. IfSome o Turned) (sym (ap (λ x. living_at x pid) is ∙ living_changed f slots pid)) (elim (living_at slots pid) as (λ o. IfSome (option_map f o) Turned) [ None ↦ tt | Some l ↦ omega arith ])

-- one that has got another state can have its former one again

can_unrestate : (state : Term) (turns : ℕ) (o : Option ProcessEntry) → CanRestate turns o → CanUnrestate turns (option_map (restate_living state turns) o)
can_unrestate state turns None can = can
can_unrestate state turns (Some l) can = (still_server l.process.place state can.0, can.1, omega arith)

pub restated_fits : (state : Term) (turns : ℕ) (slots now : List (Option ProcessEntry)) (pid : ℕ) → CanRestate turns (living_at slots pid) → now ≡ changed_slots (restate_living state turns) pid slots → CanUnrestate turns (living_at now pid)
restated_fits state turns slots now pid can is =
    let f = restate_living state turns in
    subst (CanUnrestate turns) (sym (ap (λ x. living_at x pid) is ∙ living_changed f slots pid)) (can_unrestate state turns (living_at slots pid) can)
