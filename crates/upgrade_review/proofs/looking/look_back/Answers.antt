-- There is a way down, or there is none.
use Rattle.std.proofs.Common.{ap}
use Rattle.std.specs.Option.{option_copied}
use Rattle.upgrade_review.proofs.Whole.{amiss_down, amiss_without}
use Rattle.upgrade_review.proofs.looking.look_back.Goals as goal
use Rattle.upgrade_review.proofs.looking.look_back.Goals.{in-Some+in_ok-note_not_undone-in-Some, in-None+in_ok-note-in-None}

pub returns-clause-found : goal.returns-clause-found
returns-clause-found c f =
    let up = c.args.up.now in
    let way = option_copied c.args.down in
    let nothing = c.new-found.ensures.items in
    elim c.match-down.branch [
      | in-Some+in_ok-note_not_undone-in-Some w ↦
          amiss_down up w.in-Some.down.now way _ _ _ (ap option_copied w.in-Some.is) nothing (ap (λ v. v.items) w.found-is)
          w.in_ok-note_not_undone-in-Some.ensures f
      | in-None+in_ok-note-in-None w ↦
          amiss_without up way _ _ _ (ap option_copied w.in-None.is) nothing (ap (λ v. v.items) w.found-is)
          w.in_ok-note-in-None.ensures f
    ]
