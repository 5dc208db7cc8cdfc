-- Changes of the processes that stand together or are given up together, and what takes them back.
use Rattle.std.specs.Prelude.{◌-◌, List, [], ◌∷◌, None}
use Rattle.process_effects.specs.Parted.{AllReopen, all_reopened}
use Rattle.process_store.specs.Inverses.{WasStarted}
use Rattle.process_store.specs.Living.{unarrived}
use Rattle.process_store.specs.Table.{Table, changed, living, next_pid, without_last}
use Rattle.process_effects.specs.declared.change.Addition.{Addition}
use Rattle.process_effects.specs.declared.change.Addition.TheVariants.{Sent, Started}
use Rattle.process_effects.specs.declared.batch.Batched.{Batched}

-- The last message of a process goes, or the last process.
abbrev pub change_undone : Addition → Table → Table
change_undone (Sent pid) t = changed (unarrived None) pid t
change_undone Started t = without_last t

-- these changes are taken back, the last of them first
abbrev pub all_undone : List Addition → Table → Table
all_undone [] t = t
all_undone (c ∷ cs) t = change_undone c (all_undone cs t)

-- What taking one back needs: of a start that the last process has no open calls.
abbrev pub FitsOne : Addition → Table → Type 0
FitsOne (Sent pid) t = Unit {0}
FitsOne Started t = WasStarted (living (next_pid t - 1) t)

-- each of them can be taken back when its turn comes
abbrev pub AllFit : List Addition → Table → Type 0
AllFit [] t = Unit {0}
AllFit (c ∷ cs) t = AllFit cs t × FitsOne c (all_undone cs t)

-- What takes back changes that stand: the calls are open again, and then the changes go.

abbrev pub unbatched : Batched → Table → Table
unbatched u t = all_undone u.changes (all_reopened u.closed t)

abbrev pub CanUnbatch : Batched → Table → Type 0
CanUnbatch u t = AllReopen u.closed t × AllFit u.changes (all_reopened u.closed t)
