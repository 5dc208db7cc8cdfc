-- The record is as it was done.
use Rattle.std.proofs.Common.{◌∙◌, ap, sym}
use Rattle.upgrade_rehearsal.proofs.Going.{goes_both}
use Rattle.upgrade_rehearsal.proofs.Leading.{back_at, stage_again}
use Rattle.upgrade_rehearsal.proofs.Whole.{shown_by}
use Rattle.upgrade_rehearsal.specs.Players.{IsBackAt}
use Rattle.upgrade_rehearsal.specs.Seen.{node_view}
use Rattle.upgrade_rehearsal.specs.Stages.{Stage}
use Rattle.upgrade_rehearsal.proofs.rehearsing.show.Goals as goal

pub returns : goal.returns
returns g c =
    let both = goes_both _ _ _ c.in_ok-up.ensures.journal c.in_ok-down.ensures.journal in
    let back : IsBackAt c.play_before.new.player c.undo.new.self =
    back_at _ c.play_before.new.player c.go_down.new.player c.undo.new.self c.bookmark-begin.ensures both
    c.in_ok-undo.ensures.journal c.in_ok-undo.ensures.arrivals in
    let stands = stage_again c.play_before.new.player c.undo.new.self back in
    shown_by _ _ _ _ _ _ _ c.know.new.self c.play_before.new.player c.go_up.new.player _ _ _ _
    (c.as_str.ensures.chars ∙ c.in_ok-up_to.ensures) (c.as_str-2.ensures.chars ∙ c.in_ok-up_to.ensures)
    c.in_ok-know.ensures c.in_ok-happened.ensures c.in_ok-up.ensures.way (c.in_ok-up.ensures.boot c.args.to c.in_ok-fresh.ensures)
    c.is_finished.ensures c.in_ok-down.ensures.way
    (c.same-is_as_before.ensures.1 (c.in_ok-view.ensures ∙ ap (λ (s : Stage). node_view s.node) stands ∙ sym c.in_ok-happened.ensures.1)) stands
    c.is_down-was_down.ensures c.in_ok-returned.ensures
