-- The install was refused, or the script was run to its end.
use Rattle.upgrade_rehearsal.proofs.Going.{goes_both}
use Rattle.upgrade_rehearsal.proofs.Leading.{on_ok, whatever}
use Rattle.upgrade_rehearsal.proofs.Ways.{goes_nowhere, goes_to_end}
use Rattle.upgrade_rehearsal.specs.Going.{Extends}
use Rattle.upgrade_rehearsal.proofs.way.go.Goals as goal

pub returns-in-Some-clause-way : goal.returns-in-Some-clause-way
returns-in-Some-clause-way g c = goes_nowhere c.go_nowhere.result _ _ _ _ c.args.player.now c.install.new.player c.in-Some.is
    c.in_ok-why.ensures c.go_nowhere.ensures

pub returns-in-Some-clause-journal : goal.returns-in-Some-clause-journal
returns-in-Some-clause-journal g c = whatever c.go_nowhere.result (Extends c.args.player.now.journal c.install.new.player.journal)
    c.in_ok-why.ensures.journal

pub returns-in-None-clause-way : goal.returns-in-None-clause-way
returns-in-None-clause-way g c = goes_to_end c.go_to_end.result _ _ _ c.args.player.now c.install.new.player c.go_to_end.new.player
    c.in-None.is c.in_ok-why.ensures c.go_to_end.ensures.way

pub returns-in-None-clause-journal : goal.returns-in-None-clause-journal
returns-in-None-clause-journal g c = on_ok c.go_to_end.result (Extends c.install.new.player.journal c.go_to_end.new.player.journal)
    (Extends c.args.player.now.journal c.go_to_end.new.player.journal) (goes_both _ _ _ c.in_ok-why.ensures.journal)
    c.go_to_end.ensures.journal
