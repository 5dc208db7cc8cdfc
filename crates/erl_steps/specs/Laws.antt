-- What holds of each step of the machine.
use Rattle.std.specs.Prelude.{◌<◌}
use Rattle.erl_semantics.specs.State.{World}
use Rattle.erl_steps.specs.Machine.{Control, evaluate, run, give, settle, end, Machine, stepping}
use Rattle.erl_steps.specs.Leading.{Final, Comes}
use Rattle.erl_steps.specs.Work.{work_left}

-- What by the rules comes of what a step leaves, comes of what was there before it.
abbrev pub StepsKeepToTheRules : Type 0
StepsKeepToTheRules = (w : World) (next : Control) (m : Machine) (f : Final) →
    Comes w (stepping w next m).0 (stepping w next m).1 f → Comes w next m f

-- evaluating has ended
abbrev pub HasEnded : Control → Type 0
HasEnded (evaluate e) = ⊥
HasEnded (run es) = ⊥
HasEnded (give t) = ⊥
HasEnded (settle p) = ⊥
HasEnded (end r) = Unit {0}

-- A step leaves less to do, until evaluating has ended.
abbrev pub StepsLeaveLess : Type 0
StepsLeaveLess = (w : World) (next : Control) (m : Machine) → ¬ HasEnded next →
    work_left w (stepping w next m).0 (stepping w next m).1 < work_left w next m
