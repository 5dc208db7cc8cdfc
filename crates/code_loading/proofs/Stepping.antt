-- Arrivals, takes, commits and starts leave no process with code that is gone.
use Rattle.std.proofs.Common.{◌≡◌, ℕ, zero, suc, Bool, true, false, All, List, [], ◌∷◌, ◌++◌, map, slice_get, Option, None, Some, option_and_then, option_map, filter_map, IfSome, cond, refl, sym, ap, subst, ◌∙◌}
use Rattle.std.proofs.lemmas.List.Elements.{All-cons, All-head, All-nil, All-tail}
use Rattle.std.proofs.lemmas.Option.{none-some, same_Some}
use Rattle.std.specs.List.{cons_option}
use Rattle.std.proofs.lemmas.Grind.{not_there}
use Rattle.erl_term.specs.Tree.{Trees}
use Rattle.erl_semantics.proofs.OutcomeLaws.{evaluates_keeps, job_keeps, start_in}
use Rattle.erl_semantics.specs.Jobs.{Evaluates}
use Rattle.erl_semantics.specs.OutcomeLaws.{IsPlaceIn}
use Rattle.erl_semantics.specs.State.{World}
use Rattle.erl_semantics.specs.Views.{job_of, outcome_of, end_of, instance}
use Rattle.erl_semantics.specs.declared.outcome.Outcome.{Outcome}
use Rattle.erl_semantics.specs.declared.jobs.Done.{Done}
use Rattle.erl_term.specs.declared.term.Term.{Term}
use Rattle.erl_semantics.specs.State as state
use Rattle.erl_semantics.specs.declared.acts.Act.{Act}
use Rattle.erl_semantics.specs.declared.acts.Act.TheVariants as act
use Rattle.erl_semantics.specs.declared.acts.Place.{Place}
use Rattle.erl_semantics.specs.declared.acts.Place.TheVariants.{Server, Loop}
use Rattle.erl_ir.specs.Module.{Forms}
use Rattle.erl_semantics.specs.declared.jobs.Job.{Job}
use Rattle.erl_semantics.specs.declared.outcome.End.{End}
use Rattle.erl_semantics.specs.declared.outcome.End.TheVariants.{Rest, Value, Exit}
use Rattle.erl_semantics.specs.declared.instance.Instance.{Instance}
use Rattle.code_server.specs.Modules.{Entry, IsModuleTable, Table as Loaded, current_of}
use Rattle.code_server.specs.declared.modules.Instance as code
use Rattle.process.proofs.FoundAgain.{job_code_stands}
use Rattle.process.proofs.Standing.{current-at_index, index-of_entry}
use Rattle.process.specs.JobCode.{IsJobCode, job_code}
use Rattle.process.specs.Named.{StandsIn, as_current}
use Rattle.process.proofs.Living.{held-all}
use Rattle.process.specs.Ended.{PlaceStands, CodeStands, held}
use Rattle.process.specs.Process.{ProcessState, job_by, resumed_by, run_by, started, suspended_by, with_state}
use Rattle.process.specs.declared.activity.Activity.{Activity}
use Rattle.process.specs.declared.activity.Activity.TheVariants.{Idle, Suspended, Runs}
use Rattle.process_effects.specs.Begins.{act_begun, acts_begun, name_left}
use Rattle.process_effects.specs.Acts.{act_done, acts_done, closed_at, receiver_of, sent}
use Rattle.process_effects.specs.Commits.{IsRunning, is_loaded_as, job_at, loaded_as, rests_in}
use Rattle.process_effects.proofs.Ends.{others_stay}
use Rattle.process_effects.specs.Ends.{Stands, all_vacated}
use Rattle.process_index.specs.declared.calls.Call.{Call}
use Rattle.process_store.proofs.Slots.{kept_all}
use Rattle.process_store.specs.Changes.{closed_living, owner_of, rest_living, restate_living, resume_living, suspend_living}
use Rattle.process_store.specs.Living.{arrived, run, takes_next}
use Rattle.process_store.specs.Table.{Table, added, changed, changed_slots, living, living_at, next_pid, pid_of}
use Rattle.process_store.specs.declared.living.ProcessEntry.{ProcessEntry}
use Rattle.process_table.specs.Commit.{committed, concluded}
use Rattle.process_table.specs.Messages.{message_of}
use Rattle.process_table.specs.States.{all_resumed, all_suspended}
use Rattle.process_table.specs.Steps.{IsCode, IsCodeOf, after_arrival, arrived_at, call_of, entered, taken, taken_at}
use Rattle.code_loading.specs.Current.{current_code, current_in, named}
use Rattle.code_loading.proofs.Naming.{rests, starts_in}
use Rattle.code_loading.specs.Laws.{StartsIn, StepsKeepCode}
use Rattle.code_loading.specs.Consistent.{Enters, EntersAt, EntersBy, IsConsistent, RestsAt}

-- What holds of each process that lives, by the table of modules.

abbrev pub Holds : Loaded Forms → ProcessEntry → Type 0
Holds m l = Stands m l.process × Enters l.process

abbrev pub AllHold : Loaded Forms → Table → Type 0
AllHold m t = (pid : ℕ) → IfSome (living pid t) (Holds m)

-- it holds of everybody but one, and of what that one becomes
kept_but : (P : ProcessEntry → Type 0) (f : ProcessEntry → ProcessEntry) (slots : List (Option ProcessEntry)) (pid : ℕ) → IfSome (living_at slots pid) (λ l. P (f l)) → (q : ℕ) → IfSome (living_at slots q) P → IfSome (living_at (changed_slots f pid slots) q) P
kept_but P f [] pid one q holds = holds
kept_but P f (None ∷ ss) zero one zero holds = tt
kept_but P f (Some l ∷ ss) zero one zero holds = one
kept_but P f (s ∷ ss) zero one (suc q) holds = holds
kept_but P f (s ∷ ss) (suc pid) one zero holds = holds
kept_but P f (s ∷ ss) (suc pid) one (suc q) holds = kept_but P f ss pid one q holds

-- and of one more
kept_with : (P : ProcessEntry → Type 0) (slots : List (Option ProcessEntry)) (l : ProcessEntry) → P l → (q : ℕ) → IfSome (living_at slots q) P → IfSome (living_at (slots ++ Some l ∷ []) q) P
kept_with P [] l one zero holds = one
kept_with P [] l one (suc q) holds = tt
kept_with P (s ∷ ss) l one zero holds = holds
kept_with P (s ∷ ss) l one (suc q) holds = kept_with P ss l one q holds

-- where a job comes to rest, that is in its code
abbrev EndsIn : List Instance → End → Type 0
EndsIn code (Rest at) = RestsAt at (rests_in at code)
EndsIn code (Value v) = Unit {0}
EndsIn code (Exit reason) = Unit {0}

module _ (m : Loaded Forms) where
  -- A message comes, and a call is closed.

  all_sent : (message : Term) (call : Option Call) (pid : ℕ) (t : Table) → AllHold m t → AllHold m (changed (arrived message call) pid t)
  all_sent message call pid t all q = kept_all (Holds m) (arrived message call) (λ l holds. holds) t.slots pid q (all q)

  sent_to : (message : Term) (o : Option ℕ) (t : Table) → AllHold m t → AllHold m (sent message o t)
  sent_to message None t all = all
  sent_to message (Some pid) t all = all_sent message None pid t all

  closed_to : (o : Option (ℕ × Call)) (t : Table) → AllHold m t → AllHold m (closed_at o t)
  closed_to None t all = all
  closed_to (Some it) t all = λ q. kept_all (Holds m) (closed_living it.1) (λ l holds. holds) t.slots it.0 q (all q)

  arrived_to : (o : Option ℕ) (message : Option Term) (call : Option Call) (t : Table) → AllHold m t → AllHold m (arrived_at o message call t)
  arrived_to None message call t all = all
  arrived_to (Some pid) None call t all = all
  arrived_to (Some pid) (Some message) call t all = all_sent message call pid t all

  -- The acts of a job are done.

  act_kept : (a : Act) (t : Table) → AllHold m t → AllHold m (act_done a t)
  act_kept (act.Send to message) t all = sent_to message (receiver_of to t) t all
  act_kept (act.Reply number reply) t all = closed_to (owner_of number t) t all
  act_kept (act.Start place) t all = all
  act_kept (act.Name name by_register) t all = all

  acts_kept : (acts : List Act) (t : Table) → AllHold m t → AllHold m (acts_done acts t)
  acts_kept [] t all = all
  acts_kept (a ∷ others) t all = acts_kept others (act_done a t) (act_kept a t all)

  -- A process comes to rest in code that stands.

  first_stands : (i : Instance) (o : Option Instance) (b : Bool) → StandsIn m (instance i) → PlaceStands m o → PlaceStands m (cond b (Some i) o)
  first_stands i o true one others = one
  first_stands i o false one others = others

  found_stands : (name : List ℕ) (serial : ℕ) (code : List Instance) → All (StandsIn m) (map instance code) → PlaceStands m (loaded_as name serial code)
  found_stands name serial [] all = tt
  found_stands name serial (i ∷ code) all =
      first_stands i (loaded_as name serial code) (is_loaded_as name serial i) (All-head (StandsIn m) (instance i) (map instance code) all) (found_stands name serial code (All-tail (StandsIn m) (instance i) (map instance code) all))

  rests_stand : (at : Place) (code : List Instance) → All (StandsIn m) (map instance code) → PlaceStands m (rests_in at code)
  rests_stand (Server name state) code all = tt
  rests_stand (Loop name serial f args) code all = found_stands name serial code all

  rested_holds : (at : Place) (code : List Instance) (l : ProcessEntry) → All (StandsIn m) (map instance code) → RestsAt at (rests_in at code) → Holds m (rest_living at (rests_in at code) l)
  rested_holds at code l all is = ((rests_stand at code all, tt), (is, tt))

  -- the code of a job that a process runs

  ran_code : (p : ProcessState) (a : Activity) (job : Job) → CodeStands m a → job_by p a ≡ Some job → All (StandsIn m) (map instance job.code)
  ran_code p Idle job code is = absurd (none-some job is)
  ran_code p Suspended job code is = absurd (none-some job is)
  ran_code p (Runs r) job code is = subst (λ c. All (StandsIn m) (map instance c)) (ap (λ j. j.code) (same_Some _ job is)) code

  job_stands : (o : Option ProcessEntry) (job : Job) → IfSome o (Holds m) → job_at o ≡ Some job → All (StandsIn m) (map instance job.code)
  job_stands None job holds is = absurd (none-some job is)
  job_stands (Some l) job holds is = ran_code l.process l.process.activity job holds.0.1 is

  concluded_kept : (job : Job) (acts : List Act) (end : End) (t : Table) → EndsIn job.code end → AllHold m t → IsRunning job t → AllHold m (concluded job acts end t)
  concluded_kept job acts (Rest at) t named all is =
      λ q. kept_all (Holds m) (rest_living at (rests_in at job.code)) (λ l holds. rested_holds at job.code l (job_stands (living job.pid t) job (all job.pid) is) named) (acts_done acts t).slots job.pid q (acts_kept acts t all q)
  concluded_kept job acts (Value v) t named all is = λ q. others_stay (Holds m) (acts_done acts t).slots job.pid q (acts_kept acts t all q)
  concluded_kept job acts (Exit reason) t named all is = λ q. others_stay (Holds m) (acts_done acts t).slots job.pid q (acts_kept acts t all q)

  -- What evaluating has done in code that stands.

  added_kept : (name : Option (List ℕ)) (place : Place) (code : List Instance) (t : Table) → All (StandsIn m) (map instance code) → RestsAt place (rests_in place code) → AllHold m t → AllHold m (added name place (rests_in place code) t)
  added_kept name place code t stands named all =
      λ q. kept_with (Holds m) t.slots (record { process = started (next_pid t) name place (rests_in place code); calls = [] }) ((rests_stand place code stands, tt), (named, tt)) q (all q)

  begun_kept : (name : Option (List ℕ)) (code : List Instance) (a : Act) (t : Table) → All (StandsIn m) (map instance code) → StartsIn code a → AllHold m t → AllHold m (act_begun name code a t)
  begun_kept name code (act.Send to message) t stands named all = sent_to message (receiver_of to t) t all
  begun_kept name code (act.Reply number reply) t stands named all = closed_to (owner_of number t) t all
  begun_kept name code (act.Start place) t stands named all = added_kept name place code t stands named all
  begun_kept name code (act.Name n by_register) t stands named all = all

  all_begun_kept : (name : Option (List ℕ)) (code : List Instance) (acts : List Act) (t : Table) → All (StandsIn m) (map instance code) → All (StartsIn code) acts → AllHold m t → AllHold m (acts_begun name code acts t)
  all_begun_kept name code [] t stands named all = all
  all_begun_kept name code (a ∷ others) t stands named all =
      all_begun_kept (name_left name a) code others (act_begun name code a t) stands (All-tail (StartsIn code) a others named)
      (begun_kept name code a t stands (All-head (StartsIn code) a others named) all)

  -- A process takes a message, and enters an instance.

  code_of : (i : Instance) (code : List Instance) (seen : List state.Instance) → map instance code ≡ seen → IsJobCode m (instance i) seen → (reached : List Instance) × (code ≡ i ∷ reached)
  code_of i code _ is (job_code {reached = reached} all) =
      (map held reached, sym (held-all code) ∙ ap (map held) is)

  current_stands : (name : List ℕ) (o : Option (code.Instance Forms)) (i : Instance) → current_of name m ≡ o → option_map (λ (c : code.Instance Forms). record { name = name; serial = c.serial; «module» = c.code }) o ≡ Some i → StandsIn m (instance i)
  current_stands name None i is so = absurd (none-some i so)
  current_stands name (Some c) i is so = subst (λ x. StandsIn m (instance x)) (same_Some _ i so) (as_current is)

  place_stands : (o : Option Instance) (i : Instance) → PlaceStands m o → o ≡ Some i → StandsIn m (instance i)
  place_stands o i stands is = subst (PlaceStands m) is stands

  entered_stands : (at : Place) (rests : Option Instance) (i : Instance) → PlaceStands m rests → entered m at rests ≡ Some i → StandsIn m (instance i)
  entered_stands (Server name state) rests i stands is = current_stands name (current_of name m) i refl is
  entered_stands (Loop name serial f args) rests i stands is = place_stands rests i stands is

  enters_at : (at : Place) (rests : Option Instance) (i : Instance) (code : List Instance) → RestsAt at rests → entered m at rests ≡ Some i → (reached : List Instance) × (code ≡ i ∷ reached) → EntersAt rests code
  enters_at (Server name state) rests i code none is front = subst (λ o. EntersAt o code) (sym none) tt
  enters_at (Loop name serial f args) rests i code named is front = subst (λ o. EntersAt o code) (sym is) front

  enters_none : (at : Place) (rests : Option Instance) (code : List Instance) → RestsAt at rests → entered m at rests ≡ None → EntersAt rests code
  enters_none (Server name state) rests code none is = subst (λ o. EntersAt o code) (sym none) tt
  enters_none (Loop name serial f args) rests code named is = subst (λ o. EntersAt o code) (sym is) tt

  taken_code : (at : Place) (rests o : Option Instance) (entry_serial : ℕ) (code : List Instance) → IsModuleTable m → PlaceStands m rests → RestsAt at rests → entered m at rests ≡ o → IsCode m o entry_serial code → All (StandsIn m) (map instance code) × EntersAt rests code
  taken_code at rests None entry_serial code sound stands rest is it =
      (subst (λ c. All (StandsIn m) (map instance c)) (sym it.1) (All-nil (StandsIn m)), enters_none at rests code rest is)
  taken_code at rests (Some i) entry_serial code sound stands rest is it = (
    job_code_stands m (instance i) (map instance code) sound (entered_stands at rests i stands is) it.1,
    enters_at at rests i code rest is (code_of i code (map instance code) refl it.1),
  )

  run_holds : (position entry_serial : ℕ) (code : List Instance) (l : ProcessEntry) (message : Option Term) → Holds m l → All (StandsIn m) (map instance code) → EntersAt l.process.rests_in code → Holds m (record { process = run_by message position entry_serial code l.process; calls = l.calls })
  run_holds position entry_serial code l None holds stands enters = holds
  run_holds position entry_serial code l (Some message) holds stands enters = ((holds.0.0, stands), (holds.1.0, enters))

  one_takes : (o : Option ProcessEntry) (job : Job) (position : ℕ) → IsModuleTable m → IfSome o (Holds m) → IsCodeOf m o job → IfSome o (λ l. Holds m (run position job.entry_serial job.code l))
  one_takes None job position sound holds it = tt
  one_takes (Some l) job position sound holds it =
      let code = taken_code l.process.place l.process.rests_in (entered m l.process.place l.process.rests_in) job.entry_serial job.code sound holds.0.0 holds.1.0 refl it in
      run_holds position job.entry_serial job.code l (slice_get l.process.mailbox position) holds code.0 code.1

  taken_kept : (o : Option ℕ) (pid : ℕ) (job : Job) (t : Table) → IsModuleTable m → AllHold m t → IsCodeOf m (living pid t) job → AllHold m (taken_at o pid job.entry_serial job.code t)
  taken_kept None pid job t sound all it = all
  taken_kept (Some position) pid job t sound all it =
      λ q. kept_but (Holds m) (run position job.entry_serial job.code) t.slots pid (one_takes (living pid t) job position sound (all pid) it) q (all q)

-- A job comes to rest in its code, and so do the processes that a call from outside starts.

done_in : (done : Done) (end : End) → done.outcome.end ≡ end → EndsIn done.job.code end
done_in done (Rest (Server m s)) is = refl
done_in done (Rest (Loop m serial f args)) is = rests (Loop m serial f args) done.job.code
    (λ none. not_there done.gives (λ gives. none ((job_keeps (job_of done.job) (outcome_of done.outcome) gives).rests_in m serial f args (ap end_of is))))
done_in done (Value v) is = tt
done_in done (Exit reason) is = tt

calls_start_in : (w : World) (code : List Instance) (m f : List ℕ) (args : Trees) (o : Outcome) → w.code ≡ map instance code → Evaluates w m f args (outcome_of o) → All (StartsIn code) o.acts
calls_start_in w code m f args o is evaluates = starts_in code o.acts
    (λ p has. subst (λ c. IsPlaceIn c p) is (start_in w (outcome_of o) p (evaluates_keeps w m f args (outcome_of o) evaluates) has))

-- What holds of each process, and of all.

both : (m : Loaded Forms) (o : Option ProcessEntry) → IfSome o (λ l. Stands m l.process) → IfSome o (λ l. Enters l.process) → IfSome o (Holds m)
both m None p q = tt
both m (Some l) p q = (p, q)

stand_of : (m : Loaded Forms) (o : Option ProcessEntry) → IfSome o (Holds m) → IfSome o (λ l. Stands m l.process)
stand_of m None holds = tt
stand_of m (Some l) holds = holds.0

enter_of : (m : Loaded Forms) (o : Option ProcessEntry) → IfSome o (Holds m) → IfSome o (λ l. Enters l.process)
enter_of m None holds = tt
enter_of m (Some l) holds = holds.1

all_hold : (m : Loaded Forms) (t : Table) → IsConsistent m t → AllHold m t
all_hold m t kept pid = both m (living pid t) (kept.stand pid) (kept.enter pid)

consistent : (m : Loaded Forms) (t : Table) → IsModuleTable m → AllHold m t → IsConsistent m t
consistent m t sound all = record {
  sound = sound;
  stand = λ pid. stand_of m (living pid t) (all pid);
  enter = λ pid. enter_of m (living pid t) (all pid);
}

-- Each module's current code stands.

one_stands : (m : Loaded Forms) (name : List ℕ) (o : Option (code.Instance Forms)) (rest : List Instance) → current_of name m ≡ o → All (StandsIn m) (map instance rest) → All (StandsIn m) (map instance (cons_option (option_map (named name) o) rest))
one_stands m name None rest is all = all
one_stands m name (Some c) rest is all = All-cons (StandsIn m) (instance (named name c)) (map instance rest) (as_current is) all

all_stand : (m : Loaded Forms) (es : List (Entry Forms)) → ((j : ℕ) (entry : Entry Forms) → slice_get es j ≡ Some entry → current_of entry.0 m ≡ entry.1.current) → All (StandsIn m) (map instance (filter_map current_in es))
all_stand m [] current = All-nil (StandsIn m)
all_stand m (e ∷ es) current = one_stands m e.0 e.1.current (filter_map current_in es) (current 0 e refl) (all_stand m es (λ j. current (suc j)))

currents_stand : (m : Loaded Forms) → IsModuleTable m → All (StandsIn m) (map instance (current_code m))
currents_stand m sound = all_stand m m.entries current
  where
    current : (j : ℕ) (entry : Entry Forms) → slice_get m.entries j ≡ Some entry → current_of entry.0 m ≡ entry.1.current
    current j entry at =
        current-at_index entry.0 m j (index-of_entry m.entries j entry sound.distinct at) ∙ ap (option_and_then (λ e. e.1.current)) at

-- Processes are suspended and resumed, get another state, and end.

suspended_stands : (m : Loaded Forms) (a : Activity) → CodeStands m a → CodeStands m (suspended_by a)
suspended_stands m Idle stands = tt
suspended_stands m Suspended stands = tt
suspended_stands m (Runs r) stands = stands

resumed_stands : (m : Loaded Forms) (a : Activity) → CodeStands m a → CodeStands m (resumed_by a)
resumed_stands m Idle stands = tt
resumed_stands m Suspended stands = tt
resumed_stands m (Runs r) stands = stands

suspended_enters : (rests : Option Instance) (a : Activity) → EntersBy rests a → EntersBy rests (suspended_by a)
suspended_enters rests Idle enters = tt
suspended_enters rests Suspended enters = tt
suspended_enters rests (Runs r) enters = enters

resumed_enters : (rests : Option Instance) (a : Activity) → EntersBy rests a → EntersBy rests (resumed_by a)
resumed_enters rests Idle enters = tt
resumed_enters rests Suspended enters = tt
resumed_enters rests (Runs r) enters = enters

stated_rests : (state : Term) (at : Place) (rests : Option Instance) → RestsAt at rests → RestsAt (with_state state at) rests
stated_rests state (Server m s) rests is = is
stated_rests state (Loop m serial f args) rests is = is

module _ (m : Loaded Forms) where
  suspended_holds : (l : ProcessEntry) → Holds m l → Holds m (suspend_living l)
  suspended_holds l holds =
      let p = l.process in
      ((holds.0.0, suspended_stands m p.activity holds.0.1), (holds.1.0, suspended_enters p.rests_in p.activity holds.1.1))

  resumed_holds : (l : ProcessEntry) → Holds m l → Holds m (resume_living l)
  resumed_holds l holds =
      let p = l.process in
      ((holds.0.0, resumed_stands m p.activity holds.0.1), (holds.1.0, resumed_enters p.rests_in p.activity holds.1.1))

  restated_holds : (state : Term) (turns : ℕ) (l : ProcessEntry) → Holds m l → Holds m (restate_living state turns l)
  restated_holds state turns l holds = (holds.0, (stated_rests state l.process.place l.process.rests_in holds.1.0, holds.1.1))

  all_suspended_kept : (pids : List ℕ) (t : Table) → AllHold m t → AllHold m (all_suspended pids t)
  all_suspended_kept [] t all = all
  all_suspended_kept (pid ∷ pids) t all =
      all_suspended_kept pids (changed suspend_living pid t) (λ q. kept_all (Holds m) suspend_living suspended_holds t.slots pid q (all q))

  all_resumed_kept : (pids : List ℕ) (t : Table) → AllHold m t → AllHold m (all_resumed pids t)
  all_resumed_kept [] t all = all
  all_resumed_kept (pid ∷ pids) t all =
      all_resumed_kept pids (changed resume_living pid t) (λ q. kept_all (Holds m) resume_living resumed_holds t.slots pid q (all q))

  all_ended_kept : (pids : List ℕ) (t : Table) → AllHold m t → AllHold m (all_vacated pids t)
  all_ended_kept [] t all = all
  all_ended_kept (pid ∷ pids) t all = λ q. others_stay (Holds m) (all_vacated pids t).slots pid q (all_ended_kept pids t all q)

pub steps_keep_code : StepsKeepCode
steps_keep_code = record {
  arrivals = λ client name body m t kept. consistent m (after_arrival client name body t) kept.sound (arrived_to m (pid_of name t) (message_of body) (call_of client body) t (all_hold m t kept));
  takes = λ pid job m t kept it. consistent m (taken pid job.entry_serial job.code t) kept.sound (taken_kept m (takes_next (living pid t)) pid job t kept.sound (all_hold m t kept) it);
  commits = λ done m t kept is. consistent m (committed done t) kept.sound (concluded_kept m done.job done.outcome.acts done.outcome.end t (done_in done done.outcome.end refl) (all_hold m t kept) is);
  starts = λ name code acts m t kept stands named. consistent m (acts_begun name code acts t) kept.sound (all_begun_kept m name code acts t stands named (all_hold m t kept));
  suspends = λ pids m t kept. consistent m (all_suspended pids t) kept.sound (all_suspended_kept m pids t (all_hold m t kept));
  resumes = λ pids m t kept. consistent m (all_resumed pids t) kept.sound (all_resumed_kept m pids t (all_hold m t kept));
  restates = λ state turns pid m t kept. consistent m (changed (restate_living state turns) pid t) kept.sound
      (λ q. kept_all (Holds m) (restate_living state turns) (restated_holds m state turns) t.slots pid q (all_hold m t kept q));
  ends = λ pids m t kept. consistent m (all_vacated pids t) kept.sound (all_ended_kept m pids t (all_hold m t kept));
  currents = currents_stand;
  evaluated = calls_start_in;
}
