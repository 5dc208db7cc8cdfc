-- What of node_types may go to another thread.
use denote.Param.Send.{IsSend, IsSync, view_send, view_sync, sendable}
use denote.Param.SendFields.{declared_send, declared_sync, variants_send, variants_sync}
use Rattle.std.proofs.Crossing.{crosses}
use Rattle.code_server.proofs.error.CodeError.TheSendSync as code_error
use Rattle.erl_term.proofs.atom.Atom.TheSendSync as atom
use Rattle.install_checks.proofs.installing.InstallError.TheSendSync as install_error
use Rattle.node_sends.proofs.ErlForms as erl_ir
use Rattle.node_sends.proofs.ErlSemantics as erl_semantics
use Rattle.node_sends.proofs.ErlTerm as erl_term
use Rattle.node_sends.proofs.LowInstructions as low_instructions
use Rattle.node_sends.proofs.ProcessEffects as process_effects
use Rattle.node_sends.proofs.ProcessTable as process_table
use Rattle.node_sends.proofs.ReleaseTable as release_table
use Rattle.node_sends.proofs.SysProtocol as sys_protocol
use Rattle.node_types.specs.contracts.event.Answer as Answer
use Rattle.node_types.specs.contracts.event.Event as Event
use Rattle.node_types.specs.contracts.event.Refusal as Refusal
use Rattle.node_types.specs.contracts.note.Note as Note
use Rattle.node_types.specs.contracts.note.Note.TheInside as NoteInside
use Rattle.node_types.specs.contracts.note.Reported as Reported
use Rattle.process_table.proofs.error.ProcError.TheSendSync as proc_error
use Rattle.release_statuses.proofs.error.RelError.TheSendSync as rel_error
use Rattle.release_statuses.proofs.vsn.Vsn.TheSendSync as vsn
use Rattle.release_words.proofs.version.Version.TheSendSync as version
use Rattle.values.proofs.row.Row.TheSendSync as row

pub event_send : IsSend Event.the_row
event_send = variants_send Event.enum (
  (search sendable, (atom.the_send, (process_table.body_send, tt))),
  (
    (
      search sendable,
      tt,
    ),
    (
      (erl_semantics.done_send, tt),
      (
        (atom.the_send, (erl_term.term_send, tt)),
        (
          (erl_ir.module_send, tt),
          (
            (atom.the_send, tt),
            (
              (atom.the_send, tt),
              (
                (atom.the_send, tt),
                (
                  (release_table.release_send, tt),
                  (
                    (
                      vsn.the_send,
                      tt,
                    ),
                    ((vsn.the_send, tt), ((search sendable, tt), ((vsn.the_send, tt), ((vsn.the_send, tt), (tt, tt))))),
                  ),
                ),
              ),
            ),
          ),
        ),
      ),
    ),
  ),
)

pub event_sync : IsSync Event.the_row
event_sync = variants_sync Event.enum (
  (search sendable, (atom.the_sync, (process_table.body_sync, tt))),
  (
    (
      search sendable,
      tt,
    ),
    (
      (erl_semantics.done_sync, tt),
      (
        (atom.the_sync, (erl_term.term_sync, tt)),
        (
          (erl_ir.module_sync, tt),
          (
            (atom.the_sync, tt),
            (
              (atom.the_sync, tt),
              (
                (atom.the_sync, tt),
                (
                  (release_table.release_sync, tt),
                  (
                    (
                      vsn.the_sync,
                      tt,
                    ),
                    ((vsn.the_sync, tt), ((search sendable, tt), ((vsn.the_sync, tt), ((vsn.the_sync, tt), (tt, tt))))),
                  ),
                ),
              ),
            ),
          ),
        ),
      ),
    ),
  ),
)

pub answer_send : IsSend Answer.the_row
answer_send = variants_send Answer.enum (
  (erl_semantics.job_send, tt),
  (
    (search sendable, tt),
    (
      (search sendable, tt),
      (
        (version.the_send, (search sendable, tt)),
        (
          (low_instructions.low_send, tt),
          (
            (
              version.the_send,
              (
                erl_term.term_send,
                tt,
              ),
            ),
            (
              (erl_term.term_send, tt),
              (
                (erl_term.term_send, tt),
                (
                  (
                    search (
                      atom.the_send,
                      row.the_send,
                      crosses,
                      sendable,
                    ) depth 60 fits 20000,
                    tt,
                  ),
                  (tt, tt),
                ),
              ),
            ),
          ),
        ),
      ),
    ),
  ),
)

pub answer_sync : IsSync Answer.the_row
answer_sync = variants_sync Answer.enum (
  (erl_semantics.job_sync, tt),
  (
    (search sendable, tt),
    (
      (search sendable, tt),
      (
        (version.the_sync, (search sendable, tt)),
        (
          (low_instructions.low_sync, tt),
          (
            (
              version.the_sync,
              (
                erl_term.term_sync,
                tt,
              ),
            ),
            (
              (erl_term.term_sync, tt),
              (
                (erl_term.term_sync, tt),
                (
                  (
                    search (
                      atom.the_sync,
                      row.the_sync,
                      crosses,
                      sendable,
                    ) depth 60 fits 20000,
                    tt,
                  ),
                  (tt, tt),
                ),
              ),
            ),
          ),
        ),
      ),
    ),
  ),
)

pub refusal_send : IsSend Refusal.the_row
refusal_send = variants_send Refusal.enum (
  (proc_error.the_send, tt),
  (
    (code_error.the_send, tt),
    (
      (sys_protocol.sys_error_send, tt),
      (
        (rel_error.the_send, tt),
        (
          (install_error.the_send, tt),
          (
            tt,
            (
              tt,
              ((search sendable, tt), (tt, tt)),
            ),
          ),
        ),
      ),
    ),
  ),
)

pub refusal_sync : IsSync Refusal.the_row
refusal_sync = variants_sync Refusal.enum (
  (proc_error.the_sync, tt),
  (
    (code_error.the_sync, tt),
    (
      (sys_protocol.sys_error_sync, tt),
      (
        (rel_error.the_sync, tt),
        (
          (install_error.the_sync, tt),
          (
            tt,
            (
              tt,
              ((search sendable, tt), (tt, tt)),
            ),
          ),
        ),
      ),
    ),
  ),
)

pub reported_send : IsSend Reported.the_row
reported_send = variants_send Reported.enum (
  (
    search (
      process_effects.reply_send,
      row.the_send,
      crosses,
      sendable,
    ) depth 60 fits 20000,
    tt,
  ),
  (
    (
      search (atom.the_send, erl_term.term_send, crosses, sendable) depth 60 fits 20000,
      tt,
    ),
    tt,
  ),
)

pub reported_sync : IsSync Reported.the_row
reported_sync = variants_sync Reported.enum (
  (
    search (
      process_effects.reply_sync,
      row.the_sync,
      crosses,
      sendable,
    ) depth 60 fits 20000,
    tt,
  ),
  (
    (
      search (atom.the_sync, erl_term.term_sync, crosses, sendable) depth 60 fits 20000,
      tt,
    ),
    tt,
  ),
)

note_fields_send : IsSend NoteInside.the_row
note_fields_send = declared_send NoteInside.the_type (reported_send, tt)

pub note_send : IsSend Note.the_row
note_send = view_send _ _ _ _ _ note_fields_send

note_fields_sync : IsSync NoteInside.the_row
note_fields_sync = declared_sync NoteInside.the_type (reported_sync, tt)

pub note_sync : IsSync Note.the_row
note_sync = view_sync _ _ _ _ _ note_fields_sync
