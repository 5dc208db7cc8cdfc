-- Comments after comments.
use Rattle.console_answers.proofs.Commenting.{more_added}
use Rattle.node_console.proofs.remarks.put_remarks.Goals as goal

pub returns : goal.returns
returns c =
    more_added c.args.out.now.items c.put_failed.new.out.items c.put_ended.new.out.items
    (more_added c.args.out.now.items c.put_remark.new.out.items c.put_failed.new.out.items c.in_ok-put_remark.ensures c.in_ok-put_failed.ensures)
    c.in_ok-put_ended.ensures
