-- What is begun in the store is begun in the table.
use Rattle.std.proofs.Common.{◌++◌, List, OnOk, subst}
use Rattle.process_effects.specs.Begins.{IsUnderWay, acts_begun, begun_told}
use Rattle.process_effects.specs.declared.told.Reply.{Reply}
use Rattle.process_store.specs.Table.{Table}
use Rattle.process_table.proofs.processes.Processes.begin.Goals as goal

pub returns-clause-begun : goal.returns-clause-begun
returns-clause-begun c =
    let batch = c.args.batch.now in
    let more = c.begin.new.batch in
    subst (λ (t : Table). OnOk c.begin.result ((before after : Table) (told : List Reply) → IsUnderWay batch.changes.items batch.answers.items before t after told → IsUnderWay more.changes.items more.answers.items before c.begin.new.store (acts_begun c.args.name c.args.code.now c.args.acts after) (told ++ begun_told c.args.name c.args.code.now c.args.acts after))) c.self.view_is c.begin.ensures.ok
