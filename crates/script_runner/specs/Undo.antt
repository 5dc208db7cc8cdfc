-- What takes an instruction back: from the parts after the instruction it gives those before, and it holds no piece of a
-- process, no instance of code and no specification but what the instruction has taken. Parts that it doesn't name weren't
-- changed.
use Rattle.std.specs.Prelude.{◌≡◌, ◌≤◌, ◌-◌, length, take}
use Rattle.code_changes.specs.Undo as changes
use Rattle.code_replacement.specs.Undo as code
use Rattle.process_store.specs.Pieces.{HoldsLost}
use Rattle.process_table.specs.States.{all_resumed, all_unresumed}
use Rattle.script_children.specs.Pieces.{SpecsTaken, held_apps, held_processes}
use Rattle.script_children.specs.Undo as children
use Rattle.script_state.specs.ObjectCode.{but_last_noted}
use Rattle.script_runner.specs.Instructions.{running_of, supervised_of}
use Rattle.script_runner.specs.Parts.{Parts}
use Rattle.script_runner.specs.declared.undo.InstructionUndo.{InstructionUndo}
use Rattle.script_runner.specs.declared.undo.InstructionUndo.TheVariants.{Nothing, Read, Replaced, Purged, Suspended, Resumed, Changed, Children}
use Rattle.suspensions.specs.Suspending.{but_last, last_of}
use Rattle.upgrade_calls.specs.Changing.{held_changed}

abbrev pub TakesBack : InstructionUndo → Parts → Parts → Type 0
TakesBack Nothing p q = q ≡ p
TakesBack (Read count) p q = (count ≤ length q.versions) × (but_last_noted count q.versions ≡ p.versions) ×
    (q ≡ record p { versions = q.versions })
TakesBack (Replaced u) p q = code.TakesBack u (running_of p) (running_of q) ×
    (q ≡ record p { modules = q.modules; processes = q.processes; apps = q.apps })
TakesBack (Purged u) p q = code.PurgesBack u (running_of p) (running_of q) ×
    (q ≡ record p { modules = q.modules; processes = q.processes; apps = q.apps })
TakesBack (Suspended count) p q = (count ≤ length q.suspended) ×
    (all_resumed (last_of count q.suspended) q.processes ≡ p.processes) ×
    (but_last count q.suspended ≡ p.suspended) × (q ≡ record p { processes = q.processes; suspended = q.suspended })
TakesBack (Resumed u) p q = (all_unresumed u.resumed q.processes ≡ p.processes) × (u.former.items ≡ p.suspended) ×
    (q ≡ record p { processes = q.processes; suspended = q.suspended })
TakesBack (Changed u) p q = changes.TakesBack u p.apps p.processes q.apps q.processes ×
    (q ≡ record p { processes = q.processes; apps = q.apps }) ×
    HoldsLost (held_changed u.processes q.processes) p.processes q.processes
TakesBack (Children u count) p q = children.TakesBack u (supervised_of p) (supervised_of q) × (count ≤ length q.stopped) ×
    (take (length q.stopped - count) q.stopped ≡ p.stopped) ×
    (q ≡ record p { processes = q.processes; apps = q.apps; stopped = q.stopped }) ×
    HoldsLost (held_processes u q.processes) p.processes q.processes × SpecsTaken (held_apps u q.apps) p.apps q.apps
