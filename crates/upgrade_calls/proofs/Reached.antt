-- Evaluating goes from change to change: all states so far given first, and then all acts so far done, is what has come of the changes
-- so far, in order, and of what else was asked for.
use Rattle.std.proofs.Common.{◌≡◌, inl, inr, ℕ, ◌+◌, ◌<◌, List, [], ◌∷◌, ◌++◌, length, length-append, map, Option, None, Some, refl, sym, ap, subst, ◌∙◌, arith}
use Rattle.std.proofs.lemmas.List.{append-nil, append_assoc}
use Rattle.std.proofs.lemmas.List.Elements.{All-from_recursion, recursion_from_All}
use Rattle.std.specs.Cmp.{ranks}
use Rattle.std.specs.List.{AllByRecursion}
use Rattle.std.specs.Ordering.{MatchOrdering, match_ordering, nat_cmp}
use Rattle.std.specs.declared.cmp.Ordering.TheVariants.{Less, Equal, Greater}
use Rattle.erl_semantics.proofs.OutcomeLaws.{evaluates_keeps}
use Rattle.erl_semantics.specs.Acts.{act_of}
use Rattle.erl_semantics.specs.OutcomeLaws.{IsMessage}
use Rattle.erl_semantics.specs.declared.acts.Act.{Act}
use Rattle.erl_semantics.specs.declared.acts.Place.{Place}
use Rattle.erl_semantics.specs.declared.acts.Place.TheVariants.{Server, Loop}
use Rattle.erl_semantics.specs.declared.instance.Instance.{Instance}
use Rattle.erl_semantics.specs.declared.outcome.Outcome.{Outcome}
use Rattle.erl_term.specs.declared.term.Term.{Term}
use Rattle.process_effects.specs.Begins.{acts_begun, begun_told}
use Rattle.process_effects.specs.declared.told.Reply.{Reply}
use Rattle.process_store.specs.Table.{Table, living}
use Rattle.process_store.specs.declared.living.ProcessEntry.{ProcessEntry}
use Rattle.process_table.specs.States.{all_restated}
use Rattle.process_table.specs.declared.states.StateChange.{StateChange}
use Rattle.upgrade_calls.proofs.NewStates.{apart, put_restated, rising_put, within_put}
use Rattle.upgrade_calls.proofs.Seen.{changes_there, fails_there, seen, seen_begun}
use Rattle.upgrade_calls.proofs.StatesFirst.{MessagesOnly, acts_begun-append, begun_told-append, messages_append, state_first, told_first}
use Rattle.upgrade_calls.specs.Changing.{AllChange, AreCounted, Changes, FailsToChange, FirstUnchanged, Gives, GivesAt, HasTurnLeft, IsServer, after_change, change_told, with_state}
use Rattle.upgrade_calls.specs.Evaluated.{AreEvaluated, AreMessages, Evaluated, HasChanged, IsChange, asked, nothing_evaluated, processes_after, told_after}
use Rattle.upgrade_calls.specs.NewStates.{AreRising, AreWithin, change_to, with_new}
use Rattle.upgrade_calls.specs.declared.changing.CodeChangeCall.{CodeChangeCall}
use Rattle.upgrade_calls.specs.declared.changing.ChangeFailed.{ChangeFailed}
use Rattle.values.specs.Failure.{Fails}
use Rattle.values.specs.declared.failure.Failure.{Failure}
use Rattle.values.specs.declared.failure.Failure.TheVariants.{Refused, Memory}

-- What `code_change/3` does is messages and replies.

messages_in : (acts : List Act) → AllByRecursion IsMessage (map act_of acts) → MessagesOnly acts
messages_in [] all = tt
messages_in (a ∷ acts) all = (all.0, messages_in acts all.1)

messages_at : (code : List Instance) (c : CodeChangeCall) (at : Place) (o : Outcome) → GivesAt code c at o → MessagesOnly o.acts
messages_at code c (Server m s) o gives =
    messages_in o.acts (recursion_from_All IsMessage (map act_of o.acts) ((evaluates_keeps _ _ _ _ _ gives).messages refl))
messages_at code c (Loop m serial f args) o gives = absurd gives

messages_of : (code : List Instance) (c : CodeChangeCall) (l : Option ProcessEntry) (o : Outcome) → Gives code c l o → MessagesOnly o.acts
messages_of code c None o gives = absurd gives
messages_of code c (Some l) o gives = messages_at code c l.process.place o gives

-- What holds of the pids of all that are to get a state holds where one more gets one.
module _ (P : ℕ → Type 0) where
  abbrev AllPids : List StateChange → Type 0
  AllPids cs = AllByRecursion (λ (c : StateChange). P c.pid) cs

  pids_put : (pid : ℕ) (state : Term) (cs : List StateChange) → P pid → AllPids cs → AllPids (with_new pid state cs)
  pids_put pid state [] here all = (here, tt)
  pids_put pid state (c ∷ cs) here all =
      elim (nat_cmp pid c.pid) as (λ o. AllPids (match_ordering o (change_to pid state 1 ∷ c ∷ cs) (change_to pid state (c.turns + 1) ∷ cs) (c ∷ with_new pid state cs))) [
        | Less ↦ (here, all)
        | Equal ↦ (here, all.1)
        | Greater ↦ (all.0, pids_put pid state cs here all.1)
      ]

  pids_back : (pid : ℕ) (state : Term) (cs : List StateChange) → AllPids (with_new pid state cs) → P pid × AllPids cs
  pids_back pid state [] all = (all.0, tt)
  pids_back pid state (c ∷ cs) all =
      elim (nat_cmp pid c.pid) as (λ o. MatchOrdering o (pid < c.pid) (pid ≡ c.pid) (c.pid < pid) → AllPids (match_ordering o (change_to pid state 1 ∷ c ∷ cs) (change_to pid state (c.turns + 1) ∷ cs) (c ∷ with_new pid state cs)) → P pid × AllPids (c ∷ cs)) [
        | Less ↦ λ below them. (them.0, them.1)
        | Equal ↦ λ same them. (them.0, (subst P same them.0, them.1))
        | Greater ↦ λ above them. let more = pids_back pid state cs them.1 in (more.0, (them.0, more.1))
      ] (ranks pid c.pid) all

abbrev AllLeft : Table → List StateChange → Type 0
AllLeft u cs = AllPids (λ pid. HasTurnLeft (living pid u)) cs

changes_put : (t : Table) (pid : ℕ) (state : Term) (cs : List StateChange) → IsServer (living pid t) → AllByRecursion (IsChange t) cs → AllByRecursion (IsChange t) (with_new pid state cs)
changes_put t pid state [] server all = ((omega arith, server), tt)
changes_put t pid state (c ∷ cs) server all =
    elim (nat_cmp pid c.pid) as (λ o. AllByRecursion (IsChange t) (match_ordering o (change_to pid state 1 ∷ c ∷ cs) (change_to pid state (c.turns + 1) ∷ cs) (c ∷ with_new pid state cs))) [
      | Less ↦ ((omega arith, server), all)
      | Equal ↦ ((omega arith, server), all.1)
      | Greater ↦ (all.0, changes_put t pid state cs server all.1)
    ]

-- Turns of some changes, and of others behind them.

counted_behind : (u : Table) (cs : List CodeChangeCall) (c : CodeChangeCall) → AreCounted cs u → HasTurnLeft (living c.pid u) → AreCounted (cs ++ c ∷ []) u
counted_behind u [] c counted left = (left, tt)
counted_behind u (first ∷ cs) c counted left = (counted.0, counted_behind u cs c counted.1 left)

counted_before : (u : Table) (cs : List CodeChangeCall) (c : CodeChangeCall) → AreCounted (cs ++ c ∷ []) u → AreCounted cs u × HasTurnLeft (living c.pid u)
counted_before u [] c counted = (tt, counted.0)
counted_before u (first ∷ cs) c counted = let rest = counted_before u cs c counted.1 in ((counted.0, rest.0), rest.1)

-- One more: its state is given behind the others, and its acts are done behind the others.
module _ (code : List Instance) (t : Table) (c : CodeChangeCall) (states : List StateChange) (acts : List Act) (rising : AreRising states) (only : MessagesOnly acts) where
  abbrev now : Table
  now = acts_begun None code acts (all_restated states t)

  pub seen_now : seen (living c.pid (all_restated states t)) ≡ seen (living c.pid (acts_begun None code acts (all_restated states t)))
  seen_now = sym (seen_begun code c.pid acts (all_restated states t) only)

  given_first : (state : Term) → acts_begun None code acts (all_restated (with_new c.pid state states) t) ≡ with_state c state (acts_begun None code acts (all_restated states t))
  given_first state =
      ap (acts_begun None code acts) (put_restated c.pid state states t rising) ∙ state_first code state 1 acts (all_restated states t) c.pid only

  module _ (o : Outcome) (state : Term) where
    one_more : acts_begun None code (acts ++ o.acts) (all_restated (with_new c.pid state states) t) ≡ after_change code c o state (acts_begun None code acts (all_restated states t))
    one_more =
        acts_begun-append code acts o.acts (all_restated (with_new c.pid state states) t) only ∙ ap (acts_begun None code o.acts) (given_first state)

    told_more : begun_told None code (acts ++ o.acts) (all_restated (with_new c.pid state states) t) ≡ begun_told None code acts (all_restated states t) ++ change_told code c o state (acts_begun None code acts (all_restated states t))
    told_more =
        let before = ap (begun_told None code acts) (put_restated c.pid state states t rising) ∙ told_first code state 1 acts (all_restated states t) c.pid only in
        begun_told-append code acts o.acts (all_restated (with_new c.pid state states) t) only
        ∙ (λ i. before i ++ begun_told None code o.acts (given_first state i))

-- What is evaluated once one more has changed.
abbrev pub with_change : CodeChangeCall → Term → List Act → Evaluated → Evaluated
with_change c state acts e = record { changes = e.changes ++ c ∷ []; states = with_new c.pid state e.states; acts = e.acts ++ acts }

pub one_changed : (code : List Instance) (t : Table) (c : CodeChangeCall) (e : Evaluated) (o : Outcome) (state : Term) → AreEvaluated t e → IsServer (living c.pid t) → Changes code c (all_restated e.states t) o state → HasChanged code c t e (with_change c state o.acts e)
one_changed code t c e o state it server changes =
    let only = recursion_from_All (λ (a : Act). IsMessage (act_of a)) e.acts it.messages in
    let now = processes_after code e t in
    let here = changes_there code c (all_restated e.states t) now o state (seen_now code t c e.states e.acts it.rising only) changes in
    let left = λ (u : Table) (d : StateChange). HasTurnLeft (living d.pid u) in
    let long : length e.changes + 1 ≡ length (e.changes ++ c ∷ []) = omega (arith, length-append e.changes (c ∷ [])) in
    record {
      outcome = o;
      state = state;
      changes = here;
      evaluated = record {
        messages = All-from_recursion (λ (a : Act). IsMessage (act_of a)) (e.acts ++ o.acts) (messages_append e.acts o.acts only (messages_of code c (living c.pid now) o here.gives));
        apart = apart (with_new c.pid state e.states) (rising_put c.pid state e.states it.rising);
        rising = rising_put c.pid state e.states it.rising;
        within = subst (λ n. AreWithin n (with_new c.pid state e.states)) long (within_put c.pid state (length e.changes) e.states it.within);
        changes = All-from_recursion (IsChange t) (with_new c.pid state e.states) (changes_put t c.pid state e.states server (recursion_from_All (IsChange t) e.states it.changes));
        counts = λ u all.
            let back = pids_back (λ pid. HasTurnLeft (living pid u)) c.pid state e.states (recursion_from_All (left u) (with_new c.pid state e.states) all) in
            counted_behind u e.changes c (it.counts u (All-from_recursion (left u) e.states back.1)) back.0;
        counted = λ u all.
            let before = counted_before u e.changes c all in
            All-from_recursion (left u) (with_new c.pid state e.states) (pids_put (λ pid. HasTurnLeft (living pid u)) c.pid state e.states before.1 (recursion_from_All (left u) e.states (it.counted u before.0)));
      };
      last = refl;
      processes = one_more code t c e.states e.acts it.rising only o state;
      tells = told_more code t c e.states e.acts it.rising only o state;
    }

-- it fails, of the processes as they are by then
pub one_fails : (code : List Instance) (t : Table) (c : CodeChangeCall) (e : Evaluated) (reason : Term) → AreEvaluated t e → FailsToChange code c (all_restated e.states t) reason → FailsToChange code c (processes_after code e t) reason
one_fails code t c e reason it fails =
    let only = recursion_from_All (λ (a : Act). IsMessage (act_of a)) e.acts it.messages in
    fails_there code c (all_restated e.states t) (processes_after code e t) reason (seen_now code t c e.states e.acts it.rising only) fails

pub fails_after : (x : Failure ChangeFailed) (code : List Instance) (t : Table) (c : CodeChangeCall) (e : Evaluated) → AreEvaluated t e → Fails (λ (failed : ChangeFailed). (failed.pid ≡ c.pid) × FailsToChange code c (all_restated e.states t) failed.reason) (Unit {0}) x → Fails (λ (failed : ChangeFailed). (failed.pid ≡ c.pid) × FailsToChange code c (processes_after code e t) failed.reason) (Unit {0}) x
fails_after (Refused failed) code t c e it fails = (fails.0, one_fails code t c e failed.reason it fails.1)
fails_after Memory code t c e it fails = tt

-- More is asked for.

pub nothing_yet : (t : Table) → AreEvaluated t nothing_evaluated
nothing_yet t = record {
  messages = All-from_recursion (λ (a : Act). IsMessage (act_of a)) [] tt;
  apart = tt;
  rising = tt;
  within = tt;
  changes = All-from_recursion (IsChange t) [] tt;
  counts = λ u all. tt;
  counted = λ u all. All-from_recursion (λ (d : StateChange). HasTurnLeft (living d.pid u)) [] tt;
}

pub more_asked : (t : Table) (acts : List Act) (e : Evaluated) → AreMessages acts → AreEvaluated t e → AreEvaluated t (asked acts e)
more_asked t acts e more it =
    let only = recursion_from_All (λ (a : Act). IsMessage (act_of a)) e.acts it.messages in
    record {
      messages = All-from_recursion (λ (a : Act). IsMessage (act_of a)) (e.acts ++ acts) (messages_append e.acts acts only (recursion_from_All (λ (a : Act). IsMessage (act_of a)) acts more));
      apart = it.apart;
      rising = it.rising;
      within = it.within;
      changes = it.changes;
      counts = it.counts;
      counted = it.counted;
    }

-- it is done behind the rest
pub asked_after : (code : List Instance) (t : Table) (acts : List Act) (e : Evaluated) → AreEvaluated t e → (processes_after code (asked acts e) t ≡ acts_begun None code acts (processes_after code e t)) × (told_after code (asked acts e) t ≡ told_after code e t ++ begun_told None code acts (processes_after code e t))
asked_after code t acts e it =
    let only = recursion_from_All (λ (a : Act). IsMessage (act_of a)) e.acts it.messages in
    (acts_begun-append code e.acts acts (all_restated e.states t) only, begun_told-append code e.acts acts (all_restated e.states t) only)

-- How far it has come: what comes of the rest comes, behind what was told so far, of all.
pub record Reached (code : List Instance) (cs : List CodeChangeCall) (t : Table) (from : Evaluated) (rest : List CodeChangeCall) (e : Evaluated) : Type 0 where
  pub since : List Reply
  pub tells : told_after code e t ≡ told_after code from t ++ since
  pub all : (after : Table) (others : List Reply) → AllChange code rest (processes_after code e t) after others →
      AllChange code cs (processes_after code from t) after (since ++ others)
  pub fails : (failed : ChangeFailed) → FirstUnchanged code rest (processes_after code e t) failed →
      FirstUnchanged code cs (processes_after code from t) failed

pub none_reached : (code : List Instance) (cs : List CodeChangeCall) (t : Table) (e : Evaluated) → Reached code cs t e cs e
none_reached code cs t e = record {
  since = [];
  tells = sym (append-nil (told_after code e t));
  all = λ after others x. x;
  fails = λ failed x. x;
}

pub more_reached : (code : List Instance) (cs : List CodeChangeCall) (t : Table) (from e f : Evaluated) (c : CodeChangeCall) (rest : List CodeChangeCall) → Reached code cs t from (c ∷ rest) e → HasChanged code c t e f → Reached code cs t from rest f
more_reached code cs t from e f c rest reached has =
    let now = processes_after code e t in
    let said = change_told code c has.outcome has.state now in
    record {
      since = reached.since ++ said;
      tells = has.tells ∙ ap (λ (r : List Reply). r ++ said) reached.tells ∙ append_assoc (told_after code from t) reached.since said;
      all = λ after others x.
          let there : AllChange code rest (after_change code c has.outcome has.state now) after others = subst (λ (u : Table). AllChange code rest u after others) has.processes x in
          let more = reached.all after (said ++ others) (has.outcome, has.state, others, has.changes, there, refl) in
          subst (λ (r : List Reply). AllChange code cs (processes_after code from t) after r) (sym (append_assoc reached.since said others)) more;
      fails = λ failed x.
          let there : FirstUnchanged code rest (after_change code c has.outcome has.state now) failed = subst (λ (u : Table). FirstUnchanged code rest u failed) has.processes x in
          reached.fails failed (inr (has.outcome, has.state, has.changes, there));
    }

-- All have changed, or the first has failed.

pub all_reached : (code : List Instance) (cs : List CodeChangeCall) (t : Table) (from e : Evaluated) → Reached code cs t from [] e → (told : List Reply) × AllChange code cs (processes_after code from t) (processes_after code e t) told × (told_after code e t ≡ told_after code from t ++ told)
all_reached code cs t from e reached =
    let now = processes_after code e t in
    let all = subst (AllChange code cs (processes_after code from t) now) (append-nil reached.since) (reached.all now [] (refl, refl)) in
    (reached.since, all, reached.tells)

pub first_fails : (x : Failure ChangeFailed) (code : List Instance) (cs : List CodeChangeCall) (t : Table) (from e : Evaluated) (c : CodeChangeCall) (rest : List CodeChangeCall) → Reached code cs t from (c ∷ rest) e → Fails (λ (failed : ChangeFailed). (failed.pid ≡ c.pid) × FailsToChange code c (processes_after code e t) failed.reason) (Unit {0}) x → Fails (FirstUnchanged code cs (processes_after code from t)) (Unit {0}) x
first_fails (Refused failed) code cs t from e c rest reached fails = reached.fails failed (inl (fails.0, fails.1))
first_fails Memory code cs t from e c rest reached fails = tt
