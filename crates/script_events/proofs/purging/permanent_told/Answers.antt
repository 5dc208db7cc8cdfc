-- Each list is told so.
use Rattle.std.proofs.Common.{◌∙◌, List, None, ap, map}
use Rattle.code_loading.specs.Purging.{downs_of_purges}
use Rattle.process_effects.specs.declared.told.Reply.{Reply}
use Rattle.undo_journal.specs.declared.reversible.Told.{Told}
use Rattle.node_parts.proofs.Accepting.{each_of}
use Rattle.node_types.specs.declared.event.Answer.{Answer}
use Rattle.node_types.specs.declared.event.Answer.TheVariants as answer
use Rattle.node_types.specs.Note.{Note}
use Rattle.script_events.proofs.purging.permanent_told.Goals as goal

pub returns : goal.returns
returns c =
    let said : List Reply → Told Answer Note = λ rs. record { answer = answer.Unit; note = record { replies = rs; arrival = None } } in
    c.tell_done.ensures ∙ ap (map said) c.in_ok-lists.ensures ∙ each_of said (downs_of_purges c.args.names.now c.args.parts.now.modules c.args.parts.now.processes) c.args.n
