-- What of entries and lines may go to another thread.
use denote.RattleType.{RattleType}
use denote.Struct.Field.{row_field}
use denote.Param.Send.{IsSend, view_send, sendable}
use denote.Param.SendFields.{as_row_send, declared_send, variants_send}
use Rattle.std.proofs.Crossing.{crosses}
use Rattle.std.specs.contracts.result.Result as Result
use Rattle.erl_semantics.specs.contracts.jobs.Job as Job
use Rattle.erl_term.proofs.atom.Atom.TheSendSync as atom
use Rattle.node_history.specs.contracts.answer.KeptAnswer as KeptAnswer
use Rattle.node_history.specs.contracts.answer.KeptAnswer.TheInside as KeptAnswerInside
use Rattle.node_history.specs.contracts.command.Command as Command
use Rattle.node_history.specs.contracts.command.Fault as Fault
use Rattle.node_history.specs.contracts.command.Said as Said
use Rattle.node_history.specs.contracts.entry.Entry as Entry
use Rattle.node_history.specs.contracts.entry.Line as Line
use Rattle.node_sends.proofs.ErlSemantics as erl_semantics
use Rattle.node_sends.proofs.ErlTerm as erl_term
use Rattle.node_sends.proofs.NodeTypes as node_types
use Rattle.node_sends.proofs.ProcessEffects as process_effects
use Rattle.node_sends.proofs.ReleaseStatuses as release_statuses
use Rattle.node_sends.proofs.Values as values
use Rattle.node_types.specs.contracts.event.Answer as Answer
use Rattle.node_types.specs.contracts.note.Note as Note
use Rattle.undo_journal.specs.contracts.report.Report as Report
use Rattle.values.proofs.row.Row.TheSendSync as row
use Rattle.values.proofs.shared.Shared.TheSendSync as shared
use Rattle.values.specs.contracts.reserved.Boxed as Boxed

result_send : (T E : RattleType) → IsSend T → IsSend E → IsSend (Result.the_row T E)
result_send T E s e = variants_send (Result.enum T E) ((as_row_send (row_field T) s, tt), ((as_row_send (row_field E) e, tt), tt))

kept_answer_fields : IsSend KeptAnswerInside.the_row
kept_answer_fields = declared_send KeptAnswerInside.the_type (
  values.option_send (Boxed.the_row Answer.the_row) (values.boxed_send Answer.the_row node_types.answer_send),
  tt,
)

kept_answer_send : IsSend KeptAnswer.the_row
kept_answer_send = view_send _ _ _ _ _ kept_answer_fields

command_send : IsSend Command.the_row
command_send = variants_send Command.enum (
  (search (node_types.event_send, node_types.event_sync, shared.the_send, crosses, sendable) depth 60 fits 20000, tt),
  (
    (
      search (atom.the_send, atom.the_sync, shared.the_send, crosses, sendable) depth 60 fits 20000,
      (search (erl_term.term_send, erl_term.term_sync, shared.the_send, crosses, sendable) depth 60 fits 20000, tt),
    ),
    (
      (search sendable, tt),
      (tt, ((search sendable, tt), ((search sendable, tt), ((search sendable, tt), ((search sendable, tt), (tt, tt)))))),
    ),
  ),
)

fault_send : IsSend Fault.the_row
fault_send = variants_send Fault.enum (
  (search (node_types.refusal_send, node_types.refusal_sync, shared.the_send, crosses, sendable) depth 60 fits 20000, tt),
  (tt, (tt, (tt, tt))),
)

report_send : IsSend (Report.the_row Note.the_row)
report_send = declared_send (Report.the_type Note.the_row) (
  search sendable,
  (search (node_types.note_send, row.the_send, crosses, sendable) depth 60 fits 20000, tt),
)

said_send : IsSend Said.the_row
said_send = variants_send Said.enum (
  (kept_answer_send, tt),
  (
    (search sendable, tt),
    (
      (values.option_send (Boxed.the_row Job.the_row) (values.boxed_send Job.the_row erl_semantics.job_send), tt),
      (
        (search sendable, tt),
        (
          (values.boxed_send (Report.the_row Note.the_row) report_send, tt),
          (
            tt,
            (
              (search (erl_semantics.job_send, erl_semantics.job_sync, shared.the_send, crosses, sendable) depth 60 fits 20000, tt),
              (
                (
                  search (
                    process_effects.reply_send,
                    process_effects.reply_sync,
                    row.the_send,
                    row.the_sync,
                    shared.the_send,
                    crosses,
                    sendable,
                  ) depth 60 fits 20000,
                  tt,
                ),
                (
                  (
                    search (
                      release_statuses.listed_send,
                      release_statuses.listed_sync,
                      row.the_send,
                      row.the_sync,
                      shared.the_send,
                      crosses,
                      sendable,
                    ) depth 60 fits 20000,
                    tt,
                  ),
                  tt,
                ),
              ),
            ),
          ),
        ),
      ),
    ),
  ),
)

answer_send : IsSend (Result.the_row Said.the_row Fault.the_row)
answer_send = result_send Said.the_row Fault.the_row said_send fault_send

pub entry_send : IsSend Entry.the_row
entry_send = declared_send Entry.the_type (
  search sendable,
  (command_send, (answer_send, (values.option_send Note.the_row node_types.note_send, tt))),
)

pub line_send : IsSend Line.the_row
line_send = declared_send Line.the_type (command_send, (answer_send, tt))
