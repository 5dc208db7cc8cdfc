-- In three pieces.
use Rattle.console_answers.proofs.Commenting.{one_added}
use Rattle.console_answers.proofs.comments.put_comment.Goals as goal

pub returns : goal.returns
returns c =
    one_added c.args.out.now.items c.extend_from_slice.new.self.items c.put_line.new.out.items c.extend_from_slice-2.new.self.items c.args.text.now c.in_ok-extend_from_slice.ensures.items c.in_ok-put_line.ensures c.in_ok-extend_from_slice-2.ensures.items
