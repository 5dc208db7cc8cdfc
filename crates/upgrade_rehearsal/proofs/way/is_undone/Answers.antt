-- It goes back to where it was, and the node is as it was seen.
use Rattle.std.proofs.Common.{◌∙◌, ap, sym}
use Rattle.upgrade_rehearsal.proofs.Leading.{back_at, stage_again}
use Rattle.upgrade_rehearsal.specs.Seen.{node_view}
use Rattle.upgrade_rehearsal.specs.Stages.{Stage}
use Rattle.upgrade_rehearsal.proofs.way.is_undone.Goals as goal

pub returns-clause-back : goal.returns-clause-back
returns-clause-back c = back_at _ _ c.advance.new.player _ c.requires.bookmark c.in_ok-advance.ensures.journal c.in_ok-undo.ensures.journal
    c.in_ok-undo.ensures.arrivals

pub returns-clause-same : goal.returns-clause-same
returns-clause-same c =
    let back = back_at _ c.args.player.now c.advance.new.player c.undo.new.self c.requires.bookmark c.in_ok-advance.ensures.journal c.in_ok-undo.ensures.journal
    c.in_ok-undo.ensures.arrivals in
    c.same.ensures.1 (c.in_ok-view.ensures ∙ ap (λ (s : Stage). node_view s.node) (stage_again _ _ back) ∙ sym c.requires.before)
