-- By the change: the slots that were lent are written as it says, and the instance that went is given, and how its old code was
-- purged later.
use Rattle.std.proofs.Common.{◌∙◌}
use Rattle.code_server.specs.declared.indices.SlotChange.TheVariants.{Stack, Unstack, ReplaceOld}
use Rattle.code_server.specs.Indices.{changed_slots, gone_slot}
use Rattle.code_server.proofs.Standing.{at_lent, with_slots_from_write}
use Rattle.code_server.proofs.indices.change_at.Goals as goal

pub returns-in-Stack-clause-changed : goal.returns-in-Stack-clause-changed
returns-in-Stack-clause-changed g c =
    let v = c.index_mut-slots.result.now in
    rw c.in-Stack.is (with_slots_from_write (changed_slots (Stack c.in-Stack.instance c.in-Stack.post)) c.args.table.now.entries c.args.index v _ c.index_mut-slots.ensures.value cc)

pub returns-in-Stack-clause-gone : goal.returns-in-Stack-clause-gone
returns-in-Stack-clause-gone g c =
    rw c.in-Stack.is (c.replace-former.ensures.value ∙ at_lent (gone_slot (Stack c.in-Stack.instance c.in-Stack.post)) c.args.table.now.entries c.args.index c.index_mut-slots.result.now c.index_mut-slots.ensures.value)

pub returns-in-Stack-clause-post : goal.returns-in-Stack-clause-post
returns-in-Stack-clause-post g c =
    c.replace.ensures.value ∙ at_lent (λ slots. slots.post) c.args.table.now.entries c.args.index c.index_mut-slots.result.now c.index_mut-slots.ensures.value

pub returns-in-Unstack-clause-changed : goal.returns-in-Unstack-clause-changed
returns-in-Unstack-clause-changed g c =
    let v = c.index_mut-slots.result.now in
    rw c.in-Unstack.is (with_slots_from_write (changed_slots (Unstack c.in-Unstack.instance c.in-Unstack.post)) c.args.table.now.entries c.args.index v _ c.index_mut-slots.ensures.value cc)

pub returns-in-Unstack-clause-gone : goal.returns-in-Unstack-clause-gone
returns-in-Unstack-clause-gone g c =
    rw c.in-Unstack.is (c.replace-current-in-Unstack.ensures.value ∙ at_lent (gone_slot (Unstack c.in-Unstack.instance c.in-Unstack.post)) c.args.table.now.entries c.args.index c.index_mut-slots.result.now c.index_mut-slots.ensures.value)

pub returns-in-Unstack-clause-post : goal.returns-in-Unstack-clause-post
returns-in-Unstack-clause-post g c =
    c.replace-in-Unstack.ensures.value ∙ at_lent (λ slots. slots.post) c.args.table.now.entries c.args.index c.index_mut-slots.result.now c.index_mut-slots.ensures.value

pub returns-in-ReplaceOld-clause-changed : goal.returns-in-ReplaceOld-clause-changed
returns-in-ReplaceOld-clause-changed g c =
    let v = c.index_mut-slots.result.now in
    rw c.in-ReplaceOld.is (with_slots_from_write (changed_slots (ReplaceOld c.in-ReplaceOld.instance c.in-ReplaceOld.post)) c.args.table.now.entries c.args.index v _ c.index_mut-slots.ensures.value cc)

pub returns-in-ReplaceOld-clause-gone : goal.returns-in-ReplaceOld-clause-gone
returns-in-ReplaceOld-clause-gone g c =
    rw c.in-ReplaceOld.is (c.replace-former-in-ReplaceOld.ensures.value ∙ at_lent (gone_slot (ReplaceOld c.in-ReplaceOld.instance c.in-ReplaceOld.post)) c.args.table.now.entries c.args.index c.index_mut-slots.result.now c.index_mut-slots.ensures.value)

pub returns-in-ReplaceOld-clause-post : goal.returns-in-ReplaceOld-clause-post
returns-in-ReplaceOld-clause-post g c =
    c.replace-in-ReplaceOld.ensures.value ∙ at_lent (λ slots. slots.post) c.args.table.now.entries c.args.index c.index_mut-slots.result.now c.index_mut-slots.ensures.value
