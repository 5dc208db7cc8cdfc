-- The first piece is what a page begins with.
use Rattle.std.proofs.Common.{◌++◌, subst}
use Rattle.rehearsal_page.specs.Page.{StandsBefore, page_begin}
use Rattle.rehearsal_page.proofs.Standing.{first-stands, stands-last}
use Rattle.rehearsal_page.proofs.head.put_title.Goals as goal

pub returns : goal.returns
returns c =
    let old = c.args.out.now.items in
    let mid = c.put_parts.new.out.items in
    let begun = first-stands _ _ old mid c.in_ok-put_parts.ensures.written in
    stands-last c.put_parts-2.result (old ++ page_begin) mid c.put_parts-2.new.out.items (subst (λ first. StandsBefore (old ++ first) mid) begun.1 begun.2) c.put_parts-2.ensures.stands
