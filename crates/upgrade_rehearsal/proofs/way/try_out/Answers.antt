-- It comes back from both trials.
use Rattle.std.proofs.Common.{◌∙◌, ap, sym}
use Rattle.upgrade_rehearsal.proofs.Leading.{back_twice, bookmark_again, stage_again}
use Rattle.upgrade_rehearsal.specs.Seen.{node_view}
use Rattle.upgrade_rehearsal.specs.Stages.{Stage}
use Rattle.upgrade_rehearsal.proofs.way.try_out.Goals as goal

pub is_undone-requires-clause-bookmark : goal.is_undone-requires-clause-bookmark
is_undone-requires-clause-bookmark c = bookmark_again _ _ _ c.in_ok-jobs.ensures.back c.bookmark-bookmark.ensures

pub is_undone-requires-clause-before : goal.is_undone-requires-clause-before
is_undone-requires-clause-before c =
    c.requires ∙ ap (λ (s : Stage). node_view s.node) (sym (stage_again _ _ c.in_ok-jobs.ensures.back))

pub returns-clause-back : goal.returns-clause-back
returns-clause-back c = back_twice _ _ _ c.in_ok-jobs.ensures.back c.in_ok-is_as_before.ensures.back
