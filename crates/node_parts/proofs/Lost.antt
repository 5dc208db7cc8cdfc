-- A record holds only what its step has taken.
use Rattle.std.proofs.Common.{◌≡◌, ◌∙◌, ◌+◌, ◌≤◌, ◌⊎◌, ◌++◌, inl, inr, ℕ, zero, suc, List, [], ◌∷◌, IsPermutation, insert, Option, None, Some, option_map, option_to_list, refl, sym, ap, subst, arith}
use Rattle.std.specs.List.{flat_map}
use Rattle.std.proofs.lemmas.List.{append-nil}
use Rattle.std.proofs.lemmas.List.Sorted.{IsPermutation-insert, IsPermutation-refl}
use Rattle.std.proofs.lemmas.List.Sums.{sum_by-append, sum_by-cons}
use Rattle.app_table.specs.Pieces as apps
use Rattle.code_loading.specs.Pieces.{CodeLost, among}
use Rattle.code_server.specs.Modules.{Entry, Table as Loaded, emptied as without_code, in_entries, in_entry, in_slot}
use Rattle.code_server.specs.declared.modules.Instance.{Instance}
use Rattle.erl_ir.specs.Module.{Forms}
use Rattle.process_store.specs.Pieces as processes
use Rattle.process_store.specs.Pieces.{AreNotAmong, Piece, pieces_at}
use Rattle.process_store.specs.Table.{Table, empty_table}
use Rattle.release_statuses.specs.Undo.{IsRemoval, TakesBack}
use Rattle.release_statuses.specs.declared.listed.Listed.{Listed}
use Rattle.release_statuses.specs.declared.undo.ReleasesUndo as releases_undo
use Rattle.release_statuses.specs.declared.undo.ReleasesUndo.TheVariants.{Added, Removed, Statuses}
use Rattle.script_ends.specs.Ends.{FinishBack, RecoveryBack}
use Rattle.script_ends.specs.declared.ending.Finish.{Finish}
use Rattle.script_ends.specs.declared.ending.Recovery.{Recovery}
use Rattle.script_runner.proofs.Taken.{instances_taken, no_instance, no_process, processes_taken, specs_taken}
use Rattle.script_state.specs.Runner.{RunnerState, runner_of}
use Rattle.node_rules.specs.Node.{NodeState}
use Rattle.node_rules.specs.Scripts.{parts_in}
use Rattle.node_parts.specs.Pieces.{AllTaken, HoldsLost, ReleasesLost, ScriptLost, specs_kept, instances_in, removed_by, removed_if_any, specs_of}
use Rattle.node_parts.specs.Record.{ReleasesBack, RestartBack, Restores}
use Rattle.node_parts.specs.declared.record.Displaced.{Displaced}
use Rattle.node_parts.specs.declared.record.WayBack.{WayBack}
use Rattle.node_parts.specs.declared.record.WayBack.TheVariants.{OfProcesses, OfChildren, OfCode, OfDeletion, OfReleases, OfInstall, OfInstruction, OfFinish, OfRecovery, OfPurges, OfRestart}

-- of releases

releases_taken : (u : releases_undo.ReleasesUndo) (before after : List Listed) → TakesBack u before after → ReleasesLost (removed_by u) before after
releases_taken Added before after takes = inl refl
releases_taken (Removed index it) before after takes =
    inr (subst (λ (l : List Listed). IsPermutation (it ∷ after) l) takes.back (IsPermutation-insert after index it))
releases_taken (Statuses former) before after takes = inl refl

none_removed : (u : releases_undo.ReleasesUndo) → (IsRemoval u → ⊥) → removed_by u ≡ []
none_removed Added kept = refl
none_removed (Removed index it) kept = absurd (kept tt)
none_removed (Statuses former) kept = refl

none_if_any : (o : Option releases_undo.ReleasesUndo) (before after : List Listed) → ReleasesBack o before after → removed_if_any o ≡ []
none_if_any None before after back = refl
none_if_any (Some u) before after back = none_removed u back.1

-- of a restart

none_among : (held : List Piece) → AreNotAmong [] held
none_among [] = tt
none_among (x ∷ held) = (tt, none_among held)

nobody : (pid : ℕ) → pieces_at pid empty_table ≡ []
nobody zero = refl
nobody (suc pid) = refl

all_same : (xs : List Piece) → xs ≡ xs ++ []
all_same [] = refl
all_same (x ∷ xs) = ap (λ ys. x ∷ ys) (all_same xs)

all_processes : (t before : Table) → t ≡ before → processes.HoldsLost (λ pid. pieces_at pid t) before empty_table
all_processes t before same pid =
    let all : pieces_at pid before ≡ pieces_at pid t ++ [] = ap (pieces_at pid) (sym same) ∙ all_same (pieces_at pid t) in
    (([], all), subst (λ others. AreNotAmong others (pieces_at pid t)) (sym (nobody pid)) (none_among (pieces_at pid t)))

among_both : (n : ℕ) (xs ys : List (Instance Forms)) → among n (xs ++ ys) ≡ among n xs + among n ys
among_both n xs ys = sum_by-append (λ (x : Instance Forms). in_slot n (Some x)) xs ys

among_one : (n : ℕ) (o : Option (Instance Forms)) → among n (option_to_list o) ≡ in_slot n o
among_one n None = refl
among_one n (Some i) = omega (arith, sum_by-cons (λ (x : Instance Forms). in_slot n (Some x)) i [])

among_all : (n : ℕ) (es : List (Entry Forms)) → among n (flat_map instances_in es) ≡ in_entries n es
among_all n [] = refl
among_all n (e ∷ es) =
    omega (arith, among_both n (instances_in e) (flat_map instances_in es), among_both n (option_to_list e.1.current) (option_to_list e.1.former), among_one n e.1.current, among_one n e.1.former, among_all n es, sum_by-cons (in_entry n) e es)

all_code : (m before after : Loaded Forms) → m ≡ before → after.entries ≡ [] → CodeLost (flat_map instances_in m.entries) before after
all_code m before after same none n some =
    omega (arith, among_all n m.entries, ap (λ (x : Loaded Forms). in_entries n x.entries) same, ap (in_entries n) none)

-- of specifications: those of a script that has ended, or all

all_of : (xs ys : List apps.Piece) → xs ≡ ys → AllTaken xs ys []
all_of xs ys same = subst (λ (l : List apps.Piece). IsPermutation (xs ++ []) l) (append-nil xs ∙ same) (IsPermutation-refl (xs ++ []))

finished_script : (u : Finish) (s : RunnerState) (before after : NodeState) → before.runner ≡ Some s → FinishBack u s before.processes after.processes before.releases after.releases → after ≡ record before { processes = after.processes; releases = after.releases; runner = None } → AllTaken (apps.held_former u.runner.former) (specs_of before) (specs_of after)
finished_script u s before after ran back is =
    let former : apps.held_former u.runner.former ≡ specs_kept before.runner = ap (λ (r : RunnerState). apps.held_former r.former) back.runner ∙ ap specs_kept (sym ran) in
    let left : specs_of after ≡ apps.pieces before.apps = ap specs_of is in
    let whole : apps.held_former u.runner.former ++ specs_of after ≡ specs_of before = ap (λ l. apps.held_former u.runner.former ++ l) left ∙ ap (λ l. l ++ apps.pieces before.apps) former in
    subst (λ (l : List apps.Piece). IsPermutation (apps.held_former u.runner.former ++ specs_of after) l) whole (IsPermutation-refl (apps.held_former u.runner.former ++ specs_of after))

given_up : (u : Recovery) (s : RunnerState) (before after : NodeState) → before.runner ≡ Some s → RecoveryBack u s before.apps after.apps → after ≡ record before { apps = after.apps; runner = None } → AllTaken (apps.held_back u.specs) (specs_of before) (specs_of after)
given_up u s before after ran back is =
    let left : specs_of after ≡ apps.pieces after.apps = ap (λ (n : NodeState). specs_kept n.runner ++ apps.pieces after.apps) is in
    let old : specs_of before ≡ apps.held_former s.former ++ apps.pieces before.apps = ap (λ o. specs_kept o ++ apps.pieces before.apps) ran in
    subst (λ (l : List apps.Piece). IsPermutation (apps.held_back u.specs ++ specs_of after) l) (sym old) (subst (λ (l : List apps.Piece). IsPermutation (apps.held_back u.specs ++ l) (apps.held_former s.former ++ apps.pieces before.apps)) (sym left) back.pieces)

all_specs : (d : Displaced) (before after : NodeState) → RestartBack d before after → AllTaken (specs_kept (option_map runner_of d.runner) ++ apps.pieces d.apps) (specs_of before) []
all_specs d before after back =
    let former = ap specs_kept back.runner in
    let rest = ap apps.pieces back.apps in
    all_of (specs_kept (option_map runner_of d.runner) ++ apps.pieces d.apps) (specs_of before) (ap (λ l. l ++ apps.pieces d.apps) former ∙ ap (λ l. specs_kept before.runner ++ l) rest)

-- of the script that ran at a restart, if one did
script_stopped : (held before after : Option RunnerState) → held ≡ before → after ≡ None → ScriptLost held before after
script_stopped None before after is none = tt
script_stopped (Some s) before after is none = (sym is, none)

-- of each way back
pub held_lost : (w : WayBack) (before after : NodeState) → Restores w before after → HoldsLost w before after
held_lost (OfProcesses undo) before after (takes, is, lost) = record {
  processes = lost;
  instances = no_instance before.modules after.modules;
  specs = tt;
  releases = inl refl;
  script = tt;
}
held_lost (OfChildren undo ended) before after (takes, apps, is, lost, specs) = record {
  processes = lost;
  instances = no_instance before.modules after.modules;
  specs = specs;
  releases = inl refl;
  script = tt;
}
held_lost (OfCode undo) before after (takes, is) = record {
  processes = takes.code.pieces;
  instances = takes.code.instances;
  specs = takes.specs;
  releases = inl refl;
  script = tt;
}
held_lost (OfDeletion undo) before after (fits, back, is, none) = record {
  processes = no_process before.processes after.processes;
  instances = subst (λ (o : Option (Instance Forms)). CodeLost (option_to_list o) before.modules after.modules) (sym none) (no_instance before.modules after.modules);
  specs = tt;
  releases = inl refl;
  script = tt;
}
held_lost (OfReleases undo) before after (takes, is) = record {
  processes = no_process before.processes after.processes;
  instances = no_instance before.modules after.modules;
  specs = tt;
  releases = releases_taken undo before.releases after.releases takes;
  script = tt;
}
held_lost OfInstall before after (s, back) = record {
  processes = no_process before.processes after.processes;
  instances = no_instance before.modules after.modules;
  specs = tt;
  releases = inl refl;
  script = tt;
}
held_lost (OfInstruction undo) before after (s, now, back) = record {
  processes = processes_taken undo (parts_in s before) (parts_in now after) back.back;
  instances = instances_taken undo (parts_in s before) (parts_in now after) back.back;
  specs = specs_taken undo (parts_in s before) (parts_in now after) back.back;
  releases = inl refl;
  script = tt;
}
held_lost (OfFinish undo) before after (s, ran, back, is) = record {
  processes = no_process before.processes after.processes;
  instances = no_instance before.modules after.modules;
  specs = finished_script undo s before after ran back is;
  releases = inl (none_removed undo.statuses back.kept);
  script = (ran ∙ ap Some (sym back.runner), ap (λ (n : NodeState). n.runner) is);
}
held_lost (OfRecovery undo) before after (s, ran, back, is) = record {
  processes = no_process before.processes after.processes;
  instances = no_instance before.modules after.modules;
  specs = given_up undo s before after ran back is;
  releases = inl refl;
  script = (ran ∙ ap Some (sym back.runner), ap (λ (n : NodeState). n.runner) is);
}
held_lost (OfPurges undo statuses) before after (purges, listed, is) = record {
  processes = purges.code.pieces;
  instances = purges.code.instances;
  specs = purges.specs;
  releases = inl (none_if_any statuses before.releases after.releases listed);
  script = tt;
}
held_lost (OfRestart d) before after back = record {
  processes = all_processes d.processes before.processes back.processes;
  instances = all_code d.modules before.modules (without_code after.modules) back.modules refl;
  specs = all_specs d before after back;
  releases = inl (none_removed d.statuses back.kept);
  script = script_stopped (option_map runner_of d.runner) before.runner after.runner back.runner back.stopped;
}
