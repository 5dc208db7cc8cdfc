-- The journal of a node may go to another thread.
use denote.Param.Send.{IsSend}
use Rattle.node_core.specs.contracts.node.Node as Node
use Rattle.node_core.specs.contracts.stepping.NodeReversible.TheImpl.{ghosts}
use Rattle.node_parts.specs.contracts.record.Record as Record
use Rattle.node_sends.proofs.NodeCore as node_core
use Rattle.node_sends.proofs.NodeParts as node_parts
use Rattle.node_sends.proofs.NodeTypes as node_types
use Rattle.node_sends.proofs.UndoJournal as undo_journal
use Rattle.node_types.specs.contracts.event.Answer as Answer
use Rattle.node_types.specs.contracts.event.Event as Event
use Rattle.node_types.specs.contracts.event.Refusal as Refusal
use Rattle.node_types.specs.contracts.note.Note as Note
use Rattle.undo_journal.specs.contracts.journal.Journal as Journal

pub node_journal_send : IsSend (Journal.the_row Node.the_row Event.the_row Record.the_row Answer.the_row Note.the_row Refusal.the_row ghosts)
node_journal_send = undo_journal.journal_send Node.the_row Event.the_row Record.the_row Answer.the_row Note.the_row Refusal.the_row ghosts node_core.node_send node_parts.record_send node_types.note_send
