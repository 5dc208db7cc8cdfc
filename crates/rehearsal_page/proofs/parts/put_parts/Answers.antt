-- One piece more.
use Rattle.std.proofs.Common.{sym, refl, append-nil, []}
use Rattle.rehearsal_page.specs.Escaping.{brackets}
use Rattle.rehearsal_page.specs.Page.{StandsBefore}
use Rattle.rehearsal_page.specs.Parts.{AreWritten, markup_of}
use Rattle.rehearsal_page.proofs.Written.{added-more, brackets-more}
use Rattle.rehearsal_page.proofs.parts.put_parts.Goals as goal

pub loop-part-init : goal.loop-part-init
unfolding AreWritten markup_of
loop-part-init c = (([], refl, sym (append-nil c.args.out.now.items)), sym (append-nil (brackets c.args.out.now.items)))

pub loop-part-preserved : goal.loop-part-preserved
loop-part-preserved c =
    let old = c.args.out.now.items in
    let mid = c.loop-part.out.items in
    let new = c.put_part.new.out.items in (
      added-more c.args.parts.now c.loop-part.part-index _ old mid new c.loop-part-test.true c.loop-part.invariant.0 c.in_ok-put_part.ensures.written,
      brackets-more c.args.parts.now c.loop-part.part-index _ old mid new c.loop-part-test.true c.loop-part.invariant.1 c.in_ok-put_part.ensures.brackets,
    )

pub returns-clause-stands : goal.returns-clause-stands
unfolding StandsBefore
returns-clause-stands c = (c.loop-part.invariant.0.0, c.loop-part.invariant.0.2)
