-- The node before a step, from what was changed and what wasn't.
use Rattle.std.proofs.Common.{◌≡◌, ◌∙◌, ℕ, ◌+◌, List, Option, Some, ap, arith, subst, sym}
use Rattle.std.proofs.lemmas.Option.{same_Some}
use Rattle.app_table.specs.Undo.{Fits}
use Rattle.code_replacement.specs.Replacing.{HasItsCode, RunningSystem}
use Rattle.code_replacement.specs.Undo as replacing
use Rattle.code_replacement.specs.declared.undo.Purges.{Purges}
use Rattle.code_replacement.specs.declared.undo.ReplacementUndo as replacing_undo
use Rattle.node_parts.specs.Record.{LeadsBack, ReleasesBack}
use Rattle.node_parts.specs.declared.record.WayBack.TheVariants.{OfCode, OfInstall, OfInstruction, OfPurges}
use Rattle.node_rules.specs.Node.{IsSoundNode, NodeState}
use Rattle.node_rules.specs.Scripts.{parts_in, running_in}
use Rattle.release_statuses.specs.declared.listed.Listed.{Listed}
use Rattle.release_statuses.specs.declared.undo.ReleasesUndo as releases_undo
use Rattle.script_runner.specs.Instructions.{running_of}
use Rattle.script_runner.specs.Parts.{Parts}
use Rattle.script_runner.specs.Undo as instructions
use Rattle.script_runner.specs.declared.undo.InstructionUndo as instructions_undo
use Rattle.script_state.specs.Runner.{RunnerState, runner_of}
use Rattle.script_state.specs.declared.runner.Runner.{Runner}

-- what a kept node runs has its code
abbrev kept_code : (n : NodeState) → IsSoundNode n → HasItsCode (running_in n)
kept_code n kept = record { sound = kept.consistent.sound; stand = kept.consistent.stand }

-- code was replaced
pub code_back : (u undo : replacing_undo.ReplacementUndo) (before now : NodeState) (r : RunningSystem) → u ≡ undo → LeadsBack (OfCode undo) before now →
    ((b : RunningSystem) → HasItsCode b → replacing.TakesBack u b (running_in now) → r ≡ b) →
    record now { modules = r.modules; processes = r.processes; apps = r.apps } ≡ before
code_back u undo before now r same (kept, (takes, others)) gives =
    let takes_back = subst (λ (x : replacing_undo.ReplacementUndo). replacing.TakesBack x (running_in before) (running_in now)) (sym same) takes in
    let ran = gives (running_in before) (kept_code before kept) takes_back in
    (λ i. record {
      modules = (ran i).modules;
      processes = (ran i).processes;
      apps = (ran i).apps;
      releases = (others i).releases;
      runner = (others i).runner;
    })

-- code was purged, and statuses were changed, or not
pub purges_back : (u undo : Purges) (statuses : Option releases_undo.ReleasesUndo) (before now : NodeState) (r : RunningSystem) (releases : List Listed) →
    u ≡ undo → LeadsBack (OfPurges undo statuses) before now →
    ((b : RunningSystem) → HasItsCode b → replacing.PurgesBack u b (running_in now) → r ≡ b) →
    ((b : List Listed) → ReleasesBack statuses b now.releases → releases ≡ b) →
    record now { modules = r.modules; processes = r.processes; apps = r.apps; releases = releases } ≡ before
purges_back u undo statuses before now r releases same (kept, (takes, of_releases, others)) gives put =
    let takes_back = subst (λ (x : Purges). replacing.PurgesBack x (running_in before) (running_in now)) (sym same) takes in
    let ran = gives (running_in before) (kept_code before kept) takes_back in
    let listed = put before.releases of_releases in
    (λ i. record {
      modules = (ran i).modules;
      processes = (ran i).processes;
      apps = (ran i).apps;
      releases = listed i;
      runner = (others i).runner;
    })

-- a script has begun: its specifications can be put back
pub install_fits : (before now : NodeState) (runner : Runner) → now.runner ≡ Some (runner_of runner) → LeadsBack OfInstall before now →
    Fits runner.former now.apps
install_fits before now runner runs (kept, (s, back)) =
    let same = same_Some (runner_of runner) s (sym runs ∙ ap (λ (n : NodeState). n.runner) back.is) in
    subst (λ (x : RunnerState). Fits x.former now.apps) (sym same) back.fits

less_one : (a b : ℕ) → a + 1 ≡ b + 1 → a ≡ b
less_one a b same = omega arith

-- an instruction was carried out
pub instruction_back : (u undo : instructions_undo.InstructionUndo) (before now : NodeState) (here : RunnerState) (p : Parts) (next : ℕ) →
    u ≡ undo → now.runner ≡ Some here → LeadsBack (OfInstruction undo) before now →
    ((b : Parts) → HasItsCode (running_of b) → instructions.TakesBack u b (parts_in here now) → p ≡ b) →
    next + 1 ≡ here.progress.next →
    record {
      modules = p.modules;
      processes = p.processes;
      apps = p.apps;
      releases = now.releases;
      runner = Some (record here {
        progress = record { next = next; suspended = p.suspended; stopped = p.stopped; versions = p.versions };
      });
    } ≡ before
instruction_back u undo before now here p next same runs (kept, (s, at, back)) gives stepped =
    let is : here ≡ at = same_Some here at (sym runs ∙ back.runs) in
    let takes : instructions.TakesBack undo (parts_in s before) (parts_in here now) =
    subst (λ (x : RunnerState). instructions.TakesBack undo (parts_in s before) (parts_in x now)) (sym is) back.back in
    let takes_back = subst (λ (x : instructions_undo.InstructionUndo). instructions.TakesBack x (parts_in s before) (parts_in here now)) (sym same) takes in
    let stood : p ≡ parts_in s before = gives (parts_in s before) (kept_code before kept) takes_back in
    let others : here ≡ record s { progress = at.progress } = is ∙ back.goes_on in
    let count : next ≡ s.progress.next =
    less_one next s.progress.next (stepped ∙ ap (λ (x : RunnerState). x.progress.next) is ∙ back.one) in
    let ran : Some (record here {
      progress = record { next = next; suspended = p.suspended; stopped = p.stopped; versions = p.versions };
    }) ≡ Some s = (λ i. Some (record {
      target = (others i).target;
      other = (others i).other;
      description = (others i).description;
      script = (others i).script;
      former = (others i).former;
      progress = record {
        next = count i;
        suspended = (stood i).suspended;
        stopped = (stood i).stopped;
        versions = (stood i).versions;
      };
    })) in
    let runner = ran ∙ sym back.ran in
    (λ i. record {
      modules = (stood i).modules;
      processes = (stood i).processes;
      apps = (stood i).apps;
      releases = back.releases i;
      runner = runner i;
    })

-- an instruction wasn't taken back, and nothing was changed
pub instruction_stays : (now : NodeState) (here : RunnerState) (p : Parts) (next : ℕ) → now.runner ≡ Some here → p ≡ parts_in here now →
    next ≡ here.progress.next →
    record {
      modules = p.modules;
      processes = p.processes;
      apps = p.apps;
      releases = now.releases;
      runner = Some (record here {
        progress = record { next = next; suspended = p.suspended; stopped = p.stopped; versions = p.versions };
      });
    } ≡ now
instruction_stays now here p next runs same stays =
    let ran : Some (record here {
      progress = record { next = next; suspended = p.suspended; stopped = p.stopped; versions = p.versions };
    }) ≡ Some here = (λ i. Some (record {
      target = here.target;
      other = here.other;
      description = here.description;
      script = here.script;
      former = here.former;
      progress = record {
        next = stays i;
        suspended = (same i).suspended;
        stopped = (same i).stopped;
        versions = (same i).versions;
      };
    })) in
    let runner = ran ∙ sym runs in
    (λ i. record {
      modules = (same i).modules;
      processes = (same i).processes;
      apps = (same i).apps;
      releases = now.releases;
      runner = runner i;
    })
