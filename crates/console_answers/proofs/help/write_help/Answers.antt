-- One comment more in each turn.
use Rattle.console_answers.proofs.Commenting.{more_added, none_added}
use Rattle.console_answers.proofs.help.write_help.Goals as goal

pub loop-word-init : goal.loop-word-init
loop-word-init c = none_added c.args.out.now.items

pub loop-word-preserved : goal.loop-word-preserved
loop-word-preserved c =
    more_added c.args.out.now.items c.loop-word.out.items c.put_comment.new.out.items c.loop-word.invariant c.in_ok-put_comment.ensures
