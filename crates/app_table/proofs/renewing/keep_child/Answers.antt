-- It moves, and gets its new specification.
use Rattle.app_table.proofs.Renewals.{kept_back, kept_is}
use Rattle.app_table.proofs.renewing.keep_child.Goals as goal

pub returns-clause-kept : goal.returns-clause-kept
returns-clause-kept c = kept_is c.args.row.now.items c.move_child.new.row.items c.args.at c.args.from c.index_mut.result.now c.respecify-former.new.child c.args.spec c.requires.ordered c.requires.there c.move_child.ensures.moved c.index_mut.ensures.value c.respecify-former.ensures.new

pub returns-clause-back : goal.returns-clause-back
returns-clause-back c = kept_back c.args.row.now.items c.move_child.new.row.items c.args.at c.args.from c.index_mut.result.now c.respecify-former.new.child c.args.spec c.requires.ordered c.requires.there c.move_child.ensures.moved c.index_mut.ensures.value c.respecify-former.ensures.new c.respecify-former.result c.respecify-former.ensures.back
