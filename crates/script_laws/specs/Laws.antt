-- What holds of every instruction of a script, whatever the parts of the node are (appup(4), Low-Level Instructions).
use Rattle.std.specs.Prelude.{◌≡◌, Bool, List, None}
use Rattle.children_live.specs.Children.{ChildrenLive}
use Rattle.code_loading.specs.Consistent.{IsConsistent}
use Rattle.low_instructions.specs.declared.low.Low.{Low}
use Rattle.process_effects.specs.declared.told.Reply.{Reply}
use Rattle.release_table.specs.declared.table.Release.{Release}
use Rattle.script_runner.specs.Instructions.{RunsInstruction, Halts, busy_of}
use Rattle.script_runner.specs.Parts.{Parts}
use Rattle.script_runner.specs.declared.halt.Halt.{Halt}

-- An instruction that is carried out leaves the parts in one state, and clients are told one thing; one that isn't is halted for
-- one reason. Where no process has to be waited for, an instruction that is carried out isn't halted.
pub record InstructionsHaveOneOutcome : Type 0 where
  pub does : (r : Release) (i : Low) (p q s : Parts) (told said : List Reply) → RunsInstruction r i p q told →
      RunsInstruction r i p s said →
      (q ≡ s) × (told ≡ said)
  pub halts : (r : Release) (give_up : Bool) (i : Low) (p : Parts) (h k : Halt) → Halts h r give_up i p →
      Halts k r give_up i p → h ≡ k
  pub never_both : (r : Release) (give_up : Bool) (i : Low) (p q : Parts) (told : List Reply) (h : Halt) →
      busy_of give_up i p ≡ None → RunsInstruction r i p q told → Halts h r give_up i p → ⊥

-- Modules differ in name, and each instance that a process uses is its module's current or old code: an instruction that is
-- carried out keeps that.
pub record InstructionsKeepCode : Type 0 where
  pub keeps : (r : Release) (i : Low) (p q : Parts) (told : List Reply) → RunsInstruction r i p q told →
      IsConsistent p.modules p.processes → IsConsistent q.modules q.processes

-- Each child that runs is a process that lives, and no two are one process: an instruction that is carried out keeps that.
pub record InstructionsKeepChildren : Type 0 where
  pub keeps : (r : Release) (i : Low) (p q : Parts) (told : List Reply) → RunsInstruction r i p q told →
      ChildrenLive p.apps p.processes → ChildrenLive q.apps q.processes
