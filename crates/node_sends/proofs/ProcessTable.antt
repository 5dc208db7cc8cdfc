-- What of process_table may go to another thread.
use denote.Param.Send.{IsSend, IsSync, view_send, view_sync, sendable}
use denote.Param.SendFields.{declared_send, declared_sync, variants_send, variants_sync}
use Rattle.std.proofs.Crossing.{crosses}
use Rattle.node_sends.proofs.ErlTerm as erl_term
use Rattle.node_sends.proofs.ProcessEffects as process_effects
use Rattle.node_sends.proofs.ProcessStore as process_store
use Rattle.node_sends.proofs.Values as values
use Rattle.process_effects.proofs.batch.Batched.TheSendSync as batched
use Rattle.process_index.proofs.calls.Call.TheSendSync as call
use Rattle.process_table.specs.contracts.body.ClientMessage as ClientMessage
use Rattle.process_table.specs.contracts.processes.Processes as Processes
use Rattle.process_table.specs.contracts.processes.Processes.TheInside as ProcessesInside
use Rattle.process_table.specs.contracts.states.StateChange as StateChange
use Rattle.process_table.specs.contracts.undo.ProcessesUndo as ProcessesUndo
use Rattle.values.proofs.row.Row.TheSendSync as row

processes_fields_send : IsSend ProcessesInside.the_row
processes_fields_send = declared_send ProcessesInside.the_type (
  search sendable depth 20,
  (
    process_store.process_store_send,
    tt,
  ),
)

pub processes_send : IsSend Processes.the_row
processes_send = view_send _ _ _ _ _ processes_fields_send

processes_fields_sync : IsSync ProcessesInside.the_row
processes_fields_sync = declared_sync ProcessesInside.the_type (
  search sendable depth 20,
  (
    process_store.process_store_sync,
    tt,
  ),
)

pub processes_sync : IsSync Processes.the_row
processes_sync = view_sync _ _ _ _ _ processes_fields_sync

pub body_send : IsSend ClientMessage.the_row
body_send = variants_send ClientMessage.enum (
  (search sendable, (erl_term.term_send, tt)),
  (
    (erl_term.term_send, tt),
    ((erl_term.term_send, tt), tt),
  ),
)

pub body_sync : IsSync ClientMessage.the_row
body_sync = variants_sync ClientMessage.enum (
  (search sendable, (erl_term.term_sync, tt)),
  (
    (erl_term.term_sync, tt),
    ((erl_term.term_sync, tt), tt),
  ),
)

pub undo_send : IsSend ProcessesUndo.the_row
undo_send = variants_send ProcessesUndo.enum (
  tt,
  (
    (
      search sendable,
      (
        search (call.the_send, crosses, sendable) depth 60 fits 20000,
        tt,
      ),
    ),
    (
      (search sendable, (search sendable, tt)),
      (
        (
          search (
            process_effects.rested_send,
            values.boxed_send,
            crosses,
            sendable,
          ) depth 60 fits 20000,
          tt,
        ),
        (
          (
            search (
              process_effects.exited_send,
              values.boxed_send,
              crosses,
              sendable,
            ) depth 60 fits 20000,
            tt,
          ),
          (
            (
              search (
                batched.the_send,
                values.boxed_send,
                crosses,
                sendable,
              ) depth 60 fits 20000,
              tt,
            ),
            (
              (
                search (
                  process_effects.ended_process_send,
                  row.the_send,
                  crosses,
                  sendable,
                ) depth 60 fits 20000,
                tt,
              ),
              tt,
            ),
          ),
        ),
      ),
    ),
  ),
)

pub undo_sync : IsSync ProcessesUndo.the_row
undo_sync = variants_sync ProcessesUndo.enum (
  tt,
  (
    (
      search sendable,
      (
        search (call.the_sync, crosses, sendable) depth 60 fits 20000,
        tt,
      ),
    ),
    (
      (search sendable, (search sendable, tt)),
      (
        (
          search (
            process_effects.rested_sync,
            values.boxed_sync,
            crosses,
            sendable,
          ) depth 60 fits 20000,
          tt,
        ),
        (
          (
            search (
              process_effects.exited_sync,
              values.boxed_sync,
              crosses,
              sendable,
            ) depth 60 fits 20000,
            tt,
          ),
          (
            (
              search (
                batched.the_sync,
                values.boxed_sync,
                crosses,
                sendable,
              ) depth 60 fits 20000,
              tt,
            ),
            (
              (
                search (
                  process_effects.ended_process_sync,
                  row.the_sync,
                  crosses,
                  sendable,
                ) depth 60 fits 20000,
                tt,
              ),
              tt,
            ),
          ),
        ),
      ),
    ),
  ),
)

pub state_change_send : IsSend StateChange.the_row
state_change_send = declared_send StateChange.the_type (search sendable, (erl_term.term_send, (search sendable, tt)))

pub state_change_sync : IsSync StateChange.the_row
state_change_sync = declared_sync StateChange.the_type (search sendable, (erl_term.term_sync, (search sendable, tt)))
