-- Each event has an outcome.
use Rattle.std.specs.Prelude.{◌≡◌, ◌⊎◌, ℕ, Bool, true, false, IsSome, if◌then◌else◌, List, [], ◌∷◌, slice_get, Option, None, Some, option_map, Ok, Err}
use Rattle.std.specs.Prelude.{option_and_then, refl}
use Rattle.std.proofs.Common.{inl, inr, ap, sym, subst, ◌∙◌, true≢false}
use Rattle.std.proofs.lemmas.List.Quantifiers.{position-Some}
use Rattle.std.proofs.lemmas.Option.{none-some, slice_get-get_or}
use Rattle.std.specs.List.{slice_index_or}
use Rattle.std.specs.Str.{bytes_eq}
use Rattle.app_table.specs.Applications.{child_of}
use Rattle.app_table.specs.Children.{is_due}
use Rattle.app_table.specs.declared.child.Child.{Child}
use Rattle.code_loading.specs.Current.{current_code}
use Rattle.code_server.specs.declared.error.CodeError.{CodeError}
use Rattle.code_server.specs.declared.error.CodeError.TheVariants as code_error
use Rattle.erl_semantics.specs.declared.jobs.Done.{Done}
use Rattle.erl_term.specs.declared.term.Term.{Term}
use Rattle.install_checks.specs.Installing.{entry_refusal, install_refusal, script_to, unless_refused}
use Rattle.install_checks.specs.declared.installing.InstallError.{InstallError}
use Rattle.install_checks.specs.declared.installing.InstallError.TheVariants as install_error
use Rattle.low_instructions.specs.declared.low.Low.{Low}
use Rattle.node_laws.proofs.Deciding.{IsDecided, by_test, is_job}
use Rattle.node_laws.proofs.Instructions.{Comes, comes}
use Rattle.node_laws.proofs.Purging.{purged_names, swept}
use Rattle.node_laws.proofs.Restarting.{restarts_as, tells_restart}
use Rattle.node_laws.proofs.Starting.{ChildStarts, child_starts}
use Rattle.node_laws.proofs.Taking.{takes}
use Rattle.node_laws.specs.Laws.{EachEventHasAnOutcome}
use Rattle.node_restart.specs.Restart.{lacks_serials, restart_refusal}
use Rattle.node_rules.proofs.Accepting.{Acceptance}
use Rattle.node_rules.specs.Node.{IsInstalling, IsSoundNode, NodeState, RunsScript}
use Rattle.node_rules.specs.Scripts.{Advances, FallsBack, GoesOn, GoesOnBy, Installs, IsRestarted, MakesPermanent, Outcome, RebootsOld}
use Rattle.node_rules.specs.Scripts.{Sweeps, UnlessInstalling, begun_as, finished_as, is_past, next_in, parts_in, permanent_as, permanent_in}
use Rattle.node_rules.specs.Scripts.{reboot_refused, reboot_wants, reboots_refused, recovered_as, reporting, swept_as, target_in, with_parts}
use Rattle.node_rules.specs.Step.{Commits, Revives, arrived, deletes, loads, purges, release_removed, revived_as, set_unpacked}
use Rattle.node_rules.specs.Step.{soft_purges}
use Rattle.node_types.specs.declared.event.Answer.TheVariants as answer
use Rattle.node_types.specs.declared.event.Event.TheVariants.{Arrive, Take, Commit, Revive, Load, Delete, Purge, SoftPurge, SetUnpacked, Remove, Install, Advance, MakePermanent, RebootOld, Sweep}
use Rattle.node_types.specs.declared.event.Refusal.{Refusal}
use Rattle.node_types.specs.declared.event.Refusal.TheVariants as refusal
use Rattle.otp_files.specs.declared.upgrade.Entry.{Entry}
use Rattle.process_effects.specs.Commits.{IsRunning, job_at}
use Rattle.process_effects.specs.declared.told.Reply.{Reply}
use Rattle.process_store.specs.Changes.{CanTurn, CanTurnAt}
use Rattle.process_store.specs.Table.{living, next_pid}
use Rattle.process_store.specs.declared.living.ProcessEntry.{ProcessEntry}
use Rattle.std.specs.Bool.{Decides}
use Rattle.std.specs.Prelude.{◌<◌, ◌^◌, ◌+◌, nat_lt, IfSome}
use Rattle.std.proofs.Common.{rules}
use Rattle.process_table.specs.declared.error.ProcError.TheVariants as proc
use Rattle.release_statuses.proofs.Permanent.{permanent-there}
use Rattle.release_statuses.specs.Statuses.{HasPermanent, has_status, is_permanent, listed, permanent_refusal, index_of, index_with}
use Rattle.release_statuses.specs.Statuses.{reboot_refusal, rebooted, restarted, running, status_of, unless_old, vsn_of}
use Rattle.release_statuses.specs.declared.error.RelError.{RelError}
use Rattle.release_statuses.specs.declared.listed.Listed.{Listed}
use Rattle.release_statuses.specs.declared.status.Status.TheVariants.{Permanent}
use Rattle.release_table.specs.declared.table.Release.{Release}
use Rattle.script_runner.specs.Instructions.{Fails, busy_of}
use Rattle.script_state.specs.Finding.{script_for}
use Rattle.script_state.specs.Runner.{RunnerState}
use Rattle.sys_protocol.specs.ChildStarts.{after_start, start_told}
use Rattle.sys_protocol.specs.declared.error.SysError.TheVariants as sys

abbrev SomeOutcome : (Outcome → Type 0) → Type 0
SomeOutcome Is = (r : Outcome) × Is r

-- while a script runs
unless_installing : (o : Option RunnerState) (Is : Outcome → Type 0) → SomeOutcome Is → SomeOutcome (UnlessInstalling o Is)
unless_installing None Is it = it
unless_installing (Some s) Is it = (Err refusal.Installing, refl)

-- Commit

below : (a b : ℕ) → Decides (nat_lt a b) (a < b)
below a b = (λ is. search rules, λ less. search rules)

commits_by : (done : Done) (n : NodeState) → IsRunning done.job n.processes ⊎ (IsRunning done.job n.processes → ⊥) →
    CanTurnAt done.job.pid n.processes ⊎ (CanTurnAt done.job.pid n.processes → ⊥) → SomeOutcome (Commits done n)
commits_by done n (inl runs) (inl turns) = (Ok _, ((runs, turns), refl))
commits_by done n (inl runs) (inr never) = (Err (refusal.OfProcesses proc.CounterEnd), (proc.CounterEnd, (runs, never), refl))
commits_by done n (inr never) turns = (Err (refusal.OfProcesses proc.Stale), (proc.Stale, never, refl))

turn_or_not : (l : Option ProcessEntry) → IsDecided (IfSome l CanTurn)
turn_or_not None = inl tt
turn_or_not (Some l) = by_test (nat_lt (l.process.turn + 1) (2 ^ 64)) (below (l.process.turn + 1) (2 ^ 64))

commits : (done : Done) (n : NodeState) → SomeOutcome (Commits done n)
commits done n =
    commits_by done n (is_job (job_at (living done.job.pid n.processes)) done.job)
    (turn_or_not (living done.job.pid n.processes))

-- Revive

revives_due : (app : List ℕ) (id : Term) (n : NodeState) (c : Child) → child_of app id n.apps ≡ Some c → is_due c ≡ true →
    ChildStarts (current_code n.modules) c.spec n.processes → SomeOutcome (Revives app id n)
revives_due app id n c found due (inl (o, starts)) =
    let t = n.processes in
    let after = after_start (current_code n.modules) o t in
    let told = start_told (current_code n.modules) o t in (
      Ok (revived_as app id (next_pid t) after told n),
      record {
        child = c;
        found = found;
        due = due;
        pid = next_pid t;
        after = after;
        told = told;
        restarts = (refl, (o, starts, refl, refl));
        is = refl;
      },
    )
revives_due app id n c found due (inr (reason, fails)) =
    let e = sys.StartFailed (record { child = c.spec.id; reason = reason }) in
    (Err (refusal.OfApps e), (e, (c, found, due, (refl, fails)), refl))

revives_by : (app : List ℕ) (id : Term) (n : NodeState) (c : Child) → child_of app id n.apps ≡ Some c → (due : Bool) →
    is_due c ≡ due → SomeOutcome (Revives app id n)
revives_by app id n c found true due =
    revives_due app id n c found due (child_starts (current_code n.modules) c.spec n.processes)
revives_by app id n c found false due = (Err (refusal.OfApps sys.NotDue), (sys.NotDue, (c, found, due), refl))

revives_of : (app : List ℕ) (id : Term) (n : NodeState) (child : Option Child) → child_of app id n.apps ≡ child →
    SomeOutcome (Revives app id n)
revives_of app id n None found = (Err (refusal.OfApps sys.NoChild), (sys.NoChild, found, refl))
revives_of app id n (Some c) found = revives_by app id n c found (is_due c) refl

-- Install

refused_by : (o : Option RelError) (other : Option InstallError) → unless_refused o other ≡ None → other ≡ None
refused_by None other is = is
refused_by (Some e) other is = absurd (none-some (install_error.OfReleases e) (sym is))

entry_found : (entry : Option (Entry Term Low)) (n : NodeState) → entry_refusal entry n.modules n.processes ≡ None →
    (it : Entry Term Low) × (entry ≡ Some it)
entry_found None n is = absurd (none-some install_error.NoMatchingRelup (sym is))
entry_found (Some entry) n is = (entry, refl)

target_found : (now target : Option Listed) (entry : Entry Term Low) →
    option_and_then (λ one. option_and_then (λ new. script_for one.release new.release) target) now ≡ Some entry →
    (it : Listed) × (target ≡ Some it)
target_found None target entry is = absurd (none-some entry is)
target_found (Some one) None entry is = absurd (none-some entry is)
target_found (Some one) (Some target) entry is = (target, refl)

installs_by : (vsn : List ℕ) (n : NodeState) (why : Option InstallError) →
    install_refusal vsn n.releases n.modules n.processes ≡ why →
    SomeOutcome (Installs vsn n)
installs_by vsn n (Some it) is = (Err (refusal.OfInstall it), (it, is, refl))
installs_by vsn n None is =
    let entry = entry_found (script_to vsn n.releases) n
    (refused_by _ (entry_refusal (script_to vsn n.releases) n.modules n.processes) is) in
    let target = target_found (running n.releases) (listed vsn n.releases) entry.0 entry.1 in (
      Ok (begun_as target.0.release entry.0 n),
      record {
        unrefused = is;
        target = target.0;
        found = target.1;
        entry = entry.0;
        script = entry.1;
        is = refl;
      },
    )

-- Make permanent, and sweep

permanent_by : (vsn : List ℕ) (n : NodeState) → IsSoundNode n → (why : Option RelError) → permanent_refusal vsn n.releases ≡ why →
    SomeOutcome (MakesPermanent vsn n)
permanent_by vsn n kept (Some it) is = (Err (refusal.OfReleases it), (it, is, refl))
permanent_by vsn n kept None is =
    let names = purged_names (is_permanent (status_of vsn n.releases)) n kept.consistent.sound in
    (Ok (permanent_as vsn names.0 n), (is, names.0, names.1, refl))

sweeps : (n : NodeState) → IsSoundNode n → SomeOutcome (Sweeps n)
sweeps n kept =
    let names = swept n.modules n.processes kept.consistent.sound in
    (Ok (swept_as names.0 n), (names.0, names.1, refl))

-- A restart

abbrev Restarted : Release → List Listed → NodeState → Type 0
Restarted r releases n = (after : NodeState) × (told : List Reply) × IsRestarted r releases n after told

restarts : (r : Release) (releases : List Listed) (n : NodeState) → restart_refusal r n.modules ≡ None → Restarted r releases n
restarts r releases n unrefused =
    let told = tells_restart n.processes in
    let boots = restarts_as r n.modules n.processes in (
      record { modules = boots.0; processes = boots.1; apps = boots.2; releases = releases; runner = None },
      told.0,
      record {
        unrefused = unrefused;
        tells = told.1;
        boots = boots.3;
        is = refl;
      },
    )

-- the release of a version is listed where its index is known

index_listed : (vsn : List ℕ) (releases : List Listed) (index : ℕ) → index_of vsn releases ≡ Some index → (d : Listed) →
    (it : Listed) × (listed vsn releases ≡ Some it)
index_listed vsn releases index at d =
    let within = position-Some (λ it. bytes_eq vsn (vsn_of it)) releases index d at in (
      slice_index_or releases index d,
      ap (λ o. option_and_then (slice_get releases) o) at ∙ slice_get-get_or releases index d within.0,
    )

-- Reboot old

old_listed : (o : Option Listed) → unless_old (option_map (λ it. it.status) o) ≡ None → (it : Listed) × (o ≡ Some it)
old_listed None is = absurd (let no : ⊥ = cc in no)
old_listed (Some it) is = (it, refl)

unrefused_parts : (o : Option RelError) (wants : Option CodeError) → reboots_refused o wants ≡ None → (o ≡ None) ×
    (wants ≡ None)
unrefused_parts (Some e) wants is = absurd (none-some (refusal.OfReleases e) (sym is))
unrefused_parts None (Some e) is = absurd (none-some refusal.CounterEnd (sym is))
unrefused_parts None None is = (refl, refl)

reboots_by : (vsn : List ℕ) (n : NodeState) (why : Option Refusal) → reboot_refused vsn n ≡ why → SomeOutcome (RebootsOld vsn n)
reboots_by vsn n (Some e) is = (Err e, is)
reboots_by vsn n None is =
    let parts = unrefused_parts (reboot_refusal vsn n.releases) (reboot_wants (listed vsn n.releases) n) is in
    let old = old_listed (listed vsn n.releases) parts.0 in
    let unrefused = ap (λ o. reboot_wants o n) (sym old.1) ∙ parts.1 in
    let it = restarts old.0.release (rebooted vsn n.releases) n unrefused in (
      Ok (record { node = it.0; answer = answer.Unit; note = reporting it.1 }),
      record {
        unrefused = parts.0;
        old = old.0;
        found = old.1;
        told = it.1;
        restarts = it.2;
        answers = refl;
        notes = refl;
      },
    )

-- Advance: the permanent release is there to fall back on

permanent_at : (n : NodeState) (index : Option ℕ) → index_with Permanent n.releases ≡ index → HasPermanent n.releases →
    (d : Listed) →
    (r : Release) × (permanent_in n ≡ Some r)
permanent_at n None at has d = absurd (permanent-there n.releases at has)
permanent_at n (Some index) at has d =
    let within = position-Some (has_status Permanent) n.releases index d at in
    let it = slice_index_or n.releases index d in (
      it.release,
      ap (λ o. option_map (λ x. x.release) (option_and_then (slice_get n.releases) o)) at
          ∙ ap (λ o. option_map (λ x. x.release) o) (slice_get-get_or n.releases index d within.0),
    )

module _ (r : Release) (give_up : Bool) (i : Low) (s : RunnerState) (n : NodeState)
    (waits : busy_of give_up i (parts_in s n) ≡ None) where
  abbrev Goes : Type 0
  Goes = SomeOutcome (GoesOnBy (Some i) r give_up s n)

  falls_by : (reason : Term) → Fails r i (parts_in s n) reason → is_past s ≡ true → (p : Release) → permanent_in n ≡ Some p →
      (b : Bool) → lacks_serials p n.modules.next ≡ b → Goes
  falls_by reason fails past p found true is = (
    Err refusal.CounterEnd,
    (
      waits,
      inr (record {
        reason = reason;
        fails = fails;
        past = past;
        lacks = record { permanent = p; found = found; at_end = ap (λ b. if b then Some code_error.CounterEnd else None) is };
      }),
    ),
  )
  falls_by reason fails past p found false is =
      let it = restarts p (restarted n.releases) n (ap (λ b. if b then Some code_error.CounterEnd else None) is) in
      let made : Acceptance = record { node = it.0; answer = answer.Restarted reason; note = reporting it.1 } in
      let falls : FallsBack reason n made = record {
        permanent = p;
        found = found;
        told = it.1;
        restarts = it.2;
        answers = refl;
        notes = refl;
      } in
      (Ok made, (waits, inr (record { reason = reason; fails = fails; gives_up = Prim.rw past falls })))

  fails_by : (reason : Term) → Fails r i (parts_in s n) reason → (p : Release) × (permanent_in n ≡ Some p) → (past : Bool) →
      is_past s ≡ past → Goes
  fails_by reason fails permanent true is =
      falls_by reason fails is permanent.0 permanent.1 (lacks_serials permanent.0 n.modules.next) refl
  fails_by reason fails permanent false is =
      (Ok (recovered_as reason s n), (waits, inr (record { reason = reason; fails = fails; gives_up = Prim.rw is refl })))

  goes_by : (p : Release) × (permanent_in n ≡ Some p) → Comes r i (parts_in s n) → Goes
  goes_by permanent (inl (q, told, does)) = (
    Ok (record { node = with_parts q s n; answer = answer.Ran i; note = reporting told }),
    (waits, inl (record { parts = q; told = told; does = does; is = refl })),
  )
  goes_by permanent (inr (inl (reason, fails))) = fails_by reason fails permanent (is_past s) refl
  goes_by permanent (inr (inr ends)) = (Err refusal.CounterEnd, (waits, inl ends))

advance_waits : (r : Release) (give_up : Bool) (i : Low) (s : RunnerState) (n : NodeState) → IsSoundNode n →
    (p : Release) × (permanent_in n ≡ Some p) → (busy : Option ℕ) → busy_of give_up i (parts_in s n) ≡ busy →
    SomeOutcome (GoesOnBy (Some i) r give_up s n)
advance_waits r give_up i s n kept permanent (Some pid) is = (Err (refusal.Busy pid), is)
advance_waits r give_up i s n kept permanent None is =
    goes_by r give_up i s n is permanent (comes r i (parts_in s n) kept.consistent.sound)

advance_next : (r : Release) (give_up : Bool) (next : Option Low) (s : RunnerState) (n : NodeState) → IsSoundNode n →
    (p : Release) × (permanent_in n ≡ Some p) → SomeOutcome (GoesOnBy next r give_up s n)
advance_next r give_up None s n kept permanent = (Ok (finished_as s n), refl)
advance_next r give_up (Some i) s n kept permanent =
    advance_waits r give_up i s n kept permanent (busy_of give_up i (parts_in s n)) refl

some_listed : (releases : List Listed) → HasPermanent releases → Listed
some_listed [] has = absurd (true≢false (sym has))
some_listed (it ∷ releases) has = it

index_known : (o : Option ℕ) → IsSome o → (index : ℕ) × (o ≡ Some index)
index_known None known = absurd (true≢false (sym known))
index_known (Some index) known = (index, refl)

advance_target : (give_up : Bool) (s : RunnerState) (n : NodeState) → IsSoundNode n → HasPermanent n.releases →
    (target : Listed) × (listed s.target n.releases ≡ Some target) → SomeOutcome (GoesOn (target_in s n) give_up s n)
advance_target give_up s n kept has (target, found) =
    let permanent = permanent_at n (index_with Permanent n.releases) refl has (some_listed n.releases has) in
    subst (λ o. SomeOutcome (GoesOn (option_map (λ it. it.release) o) give_up s n)) (sym found)
    (advance_next target.release give_up (next_in s) s n kept permanent)

advances_by : (give_up : Bool) (o : Option RunnerState) (n : NodeState) → n.runner ≡ o → IsSoundNode n → HasPermanent n.releases →
    SomeOutcome (Advances give_up o n)
advances_by give_up None n is kept has = (Err refusal.NotInstalling, refl)
advances_by give_up (Some s) n is kept has =
    let script : IsInstalling s n.releases n.apps = subst (λ o. RunsScript o n.releases n.apps) is kept.script in
    let index = index_known (index_of s.target n.releases) script.known in
    advance_target give_up s n kept has (index_listed s.target n.releases index.0 index.1 (some_listed n.releases has))

pub each_event_has_an_outcome : EachEventHasAnOutcome
each_event_has_an_outcome n (Arrive client name body) kept has = (arrived client name body n, refl)
each_event_has_an_outcome n (Take pid) kept has = takes pid n
each_event_has_an_outcome n (Commit done) kept has = commits done n
each_event_has_an_outcome n (Revive app id) kept has = revives_of app id n (child_of app id n.apps) refl
each_event_has_an_outcome n (Load m) kept has = unless_installing n.runner (λ it. it ≡ loads m n) (loads m n, refl)
each_event_has_an_outcome n (Delete name) kept has =
    unless_installing n.runner (λ it. it ≡ deletes name n) (deletes name n, refl)
each_event_has_an_outcome n (Purge name) kept has = unless_installing n.runner (λ it. it ≡ purges name n) (purges name n, refl)
each_event_has_an_outcome n (SoftPurge name) kept has =
    unless_installing n.runner (λ it. it ≡ soft_purges name n) (soft_purges name n, refl)
each_event_has_an_outcome n (SetUnpacked release) kept has = (set_unpacked release n, refl)
each_event_has_an_outcome n (Remove vsn) kept has =
    unless_installing n.runner (λ it. it ≡ release_removed vsn n) (release_removed vsn n, refl)
each_event_has_an_outcome n (Install vsn) kept has =
    unless_installing n.runner (Installs vsn n)
    (installs_by vsn n (install_refusal vsn n.releases n.modules n.processes) refl)
each_event_has_an_outcome n (Advance give_up) kept has = advances_by give_up n.runner n refl kept has
each_event_has_an_outcome n (MakePermanent vsn) kept has =
    unless_installing n.runner (MakesPermanent vsn n) (permanent_by vsn n kept (permanent_refusal vsn n.releases) refl)
each_event_has_an_outcome n (RebootOld vsn) kept has =
    unless_installing n.runner (RebootsOld vsn n) (reboots_by vsn n (reboot_refused vsn n) refl)
each_event_has_an_outcome n Sweep kept has = sweeps n kept
