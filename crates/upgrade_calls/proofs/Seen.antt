-- What evaluating and counting read of a process, its place and its turn, no message and no reply changes.
use Rattle.std.proofs.Common.{◌≡◌, ℕ, ◌<◌, ◌^◌, List, [], ◌∷◌, All, Option, None, Some, option_map, refl, sym, ap, subst, ◌∙◌}
use Rattle.std.proofs.lemmas.List.Elements.{All-from_recursion, recursion_from_All}
use Rattle.std.proofs.lemmas.Option.{none-some, same_Some}
use Rattle.std.specs.List.{AllByRecursion}
use Rattle.erl_semantics.specs.declared.acts.Act.{Act}
use Rattle.erl_semantics.specs.declared.acts.Place.{Place}
use Rattle.erl_semantics.specs.declared.instance.Instance.{Instance}
use Rattle.erl_semantics.specs.declared.outcome.Outcome.{Outcome}
use Rattle.erl_term.specs.declared.term.Term.{Term}
use Rattle.process_store.specs.Table.{Table, living}
use Rattle.process_store.specs.declared.living.ProcessEntry.{ProcessEntry}
use Rattle.process_effects.specs.Begins.{acts_begun}
use Rattle.process_table.specs.States.{all_restated}
use Rattle.process_table.specs.declared.states.StateChange.{StateChange}
use Rattle.upgrade_calls.proofs.NewStates.{AllFound, all_found, restated, restated_by}
use Rattle.upgrade_calls.proofs.StatesFirst.{MessagesOnly, read_begun}
use Rattle.upgrade_calls.specs.Changing.{Changes, FailsToChange, Gives, GivesAt, HasTurnLeft, IsServer}
use Rattle.upgrade_calls.specs.Evaluated.{CanCount, IsChange}
use Rattle.upgrade_calls.specs.NewStates.{AreRising, change_of, place_by, state_of}
use Rattle.upgrade_calls.specs.declared.changing.CodeChangeCall.{CodeChangeCall}

abbrev pub seen : Option ProcessEntry → Option (Place × ℕ)
seen l = option_map (λ (it : ProcessEntry). (it.process.place, it.process.turn)) l

pub seen_begun : (code : List Instance) (p : ℕ) (acts : List Act) (t : Table) → MessagesOnly acts → seen (living p (acts_begun None code acts t)) ≡ seen (living p t)
seen_begun code p acts t only = read_begun seen (λ m l. refl) (λ c l. refl) code p acts t only

-- what is read alike

gives_there : (code : List Instance) (c : CodeChangeCall) (l m : Option ProcessEntry) (o : Outcome) → seen l ≡ seen m → Gives code c l o → Gives code c m o
gives_there code c None m o same gives = absurd gives
gives_there code c (Some l) None o same gives = absurd (none-some (l.process.place, l.process.turn) (sym same))
gives_there code c (Some l) (Some m) o same gives =
    subst (λ (at : Place). GivesAt code c at o) (ap (λ (x : Place × ℕ). x.0) (same_Some (l.process.place, l.process.turn) (m.process.place, m.process.turn) same)) gives

pub changes_there : (code : List Instance) (c : CodeChangeCall) (t u : Table) (o : Outcome) (state : Term) → seen (living c.pid t) ≡ seen (living c.pid u) → Changes code c t o state → Changes code c u o state
changes_there code c t u o state same changes = record {
  gives = gives_there code c (living c.pid t) (living c.pid u) o same changes.gives;
  returns = changes.returns;
}

pub fails_there : (code : List Instance) (c : CodeChangeCall) (t u : Table) (reason : Term) → seen (living c.pid t) ≡ seen (living c.pid u) → FailsToChange code c t reason → FailsToChange code c u reason
fails_there code c t u reason same fails = record {
  outcome = fails.outcome;
  gives = gives_there code c (living c.pid t) (living c.pid u) fails.outcome same fails.gives;
  returns = fails.returns;
}

left_there : (l m : Option ProcessEntry) → seen l ≡ seen m → HasTurnLeft l → HasTurnLeft m
left_there l None same left = tt
left_there None (Some m) same left = absurd (none-some (m.process.place, m.process.turn) same)
left_there (Some l) (Some m) same left =
    subst (λ n. n < 2 ^ 64) (ap (λ (x : Place × ℕ). x.1) (same_Some (l.process.place, l.process.turn) (m.process.place, m.process.turn) same)) left

-- A turn can be counted on where it is counted then.

counted_on : (d : StateChange) (l : Option ProcessEntry) → CanCount d.turns l → HasTurnLeft (option_map (restated_by (Some d)) l)
counted_on d None can = tt
counted_on d (Some l) can = can

counted_back : (d : StateChange) (l : Option ProcessEntry) → IsServer l → HasTurnLeft (option_map (restated_by (Some d)) l) → CanCount d.turns l
counted_back d None server left = server
counted_back d (Some l) server left = left

module _ (code : List Instance) (acts : List Act) (only : MessagesOnly acts) (cs : List StateChange) (t : Table) (rising : AreRising cs) where
  stands : (d : StateChange) → change_of d.pid cs ≡ Some d → seen (living d.pid (acts_begun None code acts (all_restated cs t))) ≡ seen (option_map (restated_by (Some d)) (living d.pid t))
  stands d is =
      seen_begun code d.pid acts (all_restated cs t) only ∙ ap seen (restated d.pid cs t rising) ∙ ap (λ o. seen (option_map (restated_by o) (living d.pid t))) is

  all_left_of : (ds : List StateChange) → AllFound cs ds → AllByRecursion (λ (d : StateChange). CanCount d.turns (living d.pid t)) ds → AllByRecursion (λ (d : StateChange). HasTurnLeft (living d.pid (acts_begun None code acts (all_restated cs t)))) ds
  all_left_of [] found can = tt
  all_left_of (d ∷ ds) found can =
      (left_there (option_map (restated_by (Some d)) (living d.pid t)) (living d.pid (acts_begun None code acts (all_restated cs t))) (sym (stands d found.0)) (counted_on d (living d.pid t) can.0), all_left_of ds found.1 can.1)

  all_count_of : (ds : List StateChange) → AllFound cs ds → AllByRecursion (IsChange t) ds → AllByRecursion (λ (d : StateChange). HasTurnLeft (living d.pid (acts_begun None code acts (all_restated cs t)))) ds → AllByRecursion (λ (d : StateChange). CanCount d.turns (living d.pid t)) ds
  all_count_of [] found are left = tt
  all_count_of (d ∷ ds) found are left =
      (counted_back d (living d.pid t) are.0.1 (left_there (living d.pid (acts_begun None code acts (all_restated cs t))) (option_map (restated_by (Some d)) (living d.pid t)) (stands d found.0) left.0), all_count_of ds found.1 are.1 left.1)

  pub all_left : All (λ (d : StateChange). CanCount d.turns (living d.pid t)) cs → All (λ (d : StateChange). HasTurnLeft (living d.pid (acts_begun None code acts (all_restated cs t)))) cs
  all_left can =
      All-from_recursion (λ (d : StateChange). HasTurnLeft (living d.pid (acts_begun None code acts (all_restated cs t)))) cs
      (all_left_of cs (all_found cs rising) (recursion_from_All (λ (d : StateChange). CanCount d.turns (living d.pid t)) cs can))

  pub all_count : All (IsChange t) cs → All (λ (d : StateChange). HasTurnLeft (living d.pid (acts_begun None code acts (all_restated cs t)))) cs → All (λ (d : StateChange). CanCount d.turns (living d.pid t)) cs
  all_count are left =
      All-from_recursion (λ (d : StateChange). CanCount d.turns (living d.pid t)) cs
      (all_count_of cs (all_found cs rising) (recursion_from_All (IsChange t) cs are) (recursion_from_All (λ (d : StateChange). HasTurnLeft (living d.pid (acts_begun None code acts (all_restated cs t)))) cs left))

-- What `code_change/3` gives in the state that a process is to get, or has, it gives where all states are given.

abbrev place_at : Option ProcessEntry → Option Place
place_at l = option_map (λ (it : ProcessEntry). it.process.place) l

place_given : (d : Option StateChange) (l : Option ProcessEntry) → place_at (option_map (restated_by d) l) ≡ place_by (option_map (λ (c : StateChange). c.state) d) l
place_given None None = refl
place_given None (Some l) = refl
place_given (Some d) None = refl
place_given (Some d) (Some l) = refl

gives_at : (code : List Instance) (c : CodeChangeCall) (l : Option ProcessEntry) (at : Place) (o : Outcome) → place_at l ≡ Some at → GivesAt code c at o → Gives code c l o
gives_at code c None at o is gives = absurd (none-some at is)
gives_at code c (Some l) at o is gives = subst (λ (p : Place). GivesAt code c p o) (sym (same_Some l.process.place at is)) gives

pub gives_given : (code : List Instance) (c : CodeChangeCall) (cs : List StateChange) (t : Table) (at : Place) (o : Outcome) → AreRising cs → place_by (state_of c.pid cs) (living c.pid t) ≡ Some at → GivesAt code c at o → Gives code c (living c.pid (all_restated cs t)) o
gives_given code c cs t at o rising is gives =
    gives_at code c (living c.pid (all_restated cs t)) at o (ap place_at (restated c.pid cs t rising) ∙ place_given (change_of c.pid cs) (living c.pid t) ∙ is) gives
