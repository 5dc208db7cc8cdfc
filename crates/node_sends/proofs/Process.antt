-- What of process may go to another thread.
use denote.Param.Send.{IsSend, IsSync, view_send, view_sync, sendable}
use denote.Param.SendFields.{declared_send, declared_sync, variants_send, variants_sync}
use Rattle.std.proofs.Crossing.{crosses}
use Rattle.erl_term.proofs.atom.Atom.TheSendSync as atom
use Rattle.node_sends.proofs.ErlSemantics as erl_semantics
use Rattle.node_sends.proofs.ErlTerm as erl_term
use Rattle.process.proofs.named.CodeRef.TheSendSync as named_instance
use Rattle.process.specs.contracts.activity.Activity as Activity
use Rattle.process.specs.contracts.activity.Running as Running
use Rattle.process.specs.contracts.process.Process as Process
use Rattle.process.specs.contracts.process.Process.TheInside as ProcessInside
use Rattle.process.specs.contracts.process.ending.Did as Did
use Rattle.process.specs.contracts.process.ending.DeadProcess as DeadProcess
use Rattle.process.specs.contracts.process.ending.DeadProcess.TheInside as EndedInside
use Rattle.process.specs.contracts.process.ending.NamedRunning as NamedRunning
use Rattle.process.specs.contracts.process.rerunning.NamedRan as NamedRan
use Rattle.values.proofs.row.Row.TheSendSync as row

pub running_send : IsSend Running.the_row
running_send = declared_send Running.the_type (
  search sendable,
  (
    erl_term.term_send,
    (
      search (
        erl_semantics.instance_send,
        row.the_send,
        crosses,
        sendable,
      ) depth 60 fits 20000,
      tt,
    ),
  ),
)

pub running_sync : IsSync Running.the_row
running_sync = declared_sync Running.the_type (
  search sendable,
  (
    erl_term.term_sync,
    (
      search (
        erl_semantics.instance_sync,
        row.the_sync,
        crosses,
        sendable,
      ) depth 60 fits 20000,
      tt,
    ),
  ),
)

pub activity_send : IsSend Activity.the_row
activity_send = variants_send Activity.enum (tt, (tt, ((running_send, tt), tt)))

pub activity_sync : IsSync Activity.the_row
activity_sync = variants_sync Activity.enum (tt, (tt, ((running_sync, tt), tt)))

process_fields_send : IsSend ProcessInside.the_row
process_fields_send = declared_send ProcessInside.the_type (
  search (
    erl_semantics.instance_send,
    crosses,
    sendable,
  ) depth 60 fits 20000,
  (
    activity_send,
    (
      search sendable,
      (
        search (
          atom.the_send,
          crosses,
          sendable,
        ) depth 60 fits 20000,
        (
          erl_semantics.place_send,
          (
            search sendable,
            (
              search (
                erl_term.term_send,
                crosses,
                sendable,
              ) depth 60 fits 20000,
              (search (crosses, sendable) depth 60 fits 20000, tt),
            ),
          ),
        ),
      ),
    ),
  ),
)

pub process_send : IsSend Process.the_row
process_send = view_send _ _ _ _ _ process_fields_send

process_fields_sync : IsSync ProcessInside.the_row
process_fields_sync = declared_sync ProcessInside.the_type (
  search (
    erl_semantics.instance_sync,
    crosses,
    sendable,
  ) depth 60 fits 20000,
  (
    activity_sync,
    (
      search sendable,
      (
        search (
          atom.the_sync,
          crosses,
          sendable,
        ) depth 60 fits 20000,
        (
          erl_semantics.place_sync,
          (
            search sendable,
            (
              search (
                erl_term.term_sync,
                crosses,
                sendable,
              ) depth 60 fits 20000,
              (search (crosses, sendable) depth 60 fits 20000, tt),
            ),
          ),
        ),
      ),
    ),
  ),
)

pub process_sync : IsSync Process.the_row
process_sync = view_sync _ _ _ _ _ process_fields_sync

pub named_running_send : IsSend NamedRunning.the_row
named_running_send = declared_send NamedRunning.the_type (
  search sendable,
  (
    erl_term.term_send,
    (search (named_instance.the_send, row.the_send, crosses, sendable) depth 60 fits 20000, tt),
  ),
)

pub named_running_sync : IsSync NamedRunning.the_row
named_running_sync = declared_sync NamedRunning.the_type (
  search sendable,
  (
    erl_term.term_sync,
    (search (named_instance.the_sync, row.the_sync, crosses, sendable) depth 60 fits 20000, tt),
  ),
)

pub named_ran_send : IsSend NamedRan.the_row
named_ran_send = declared_send NamedRan.the_type (
  erl_semantics.place_send,
  (
    search (
      named_instance.the_send,
      crosses,
      sendable,
    ) depth 60 fits 20000,
    (named_running_send, tt),
  ),
)

pub named_ran_sync : IsSync NamedRan.the_row
named_ran_sync = declared_sync NamedRan.the_type (
  erl_semantics.place_sync,
  (
    search (
      named_instance.the_sync,
      crosses,
      sendable,
    ) depth 60 fits 20000,
    (named_running_sync, tt),
  ),
)

pub did_send : IsSend Did.the_row
did_send = variants_send Did.enum (tt, (tt, ((named_running_send, tt), tt)))

pub did_sync : IsSync Did.the_row
did_sync = variants_sync Did.enum (tt, (tt, ((named_running_sync, tt), tt)))

ended_fields_send : IsSend EndedInside.the_row
ended_fields_send = declared_send EndedInside.the_type (
  search sendable,
  (
    search (
      atom.the_send,
      crosses,
      sendable,
    ) depth 60 fits 20000,
    (
      erl_semantics.place_send,
      (
        search (
          named_instance.the_send,
          crosses,
          sendable,
        ) depth 60 fits 20000,
        (
          did_send,
          (
            search sendable,
            (
              search (
                erl_term.term_send,
                crosses,
                sendable,
              ) depth 60 fits 20000,
              tt,
            ),
          ),
        ),
      ),
    ),
  ),
)

pub ended_send : IsSend DeadProcess.the_row
ended_send = view_send _ _ _ _ _ ended_fields_send

ended_fields_sync : IsSync EndedInside.the_row
ended_fields_sync = declared_sync EndedInside.the_type (
  search sendable,
  (
    search (
      atom.the_sync,
      crosses,
      sendable,
    ) depth 60 fits 20000,
    (
      erl_semantics.place_sync,
      (
        search (
          named_instance.the_sync,
          crosses,
          sendable,
        ) depth 60 fits 20000,
        (
          did_sync,
          (
            search sendable,
            (
              search (
                erl_term.term_sync,
                crosses,
                sendable,
              ) depth 60 fits 20000,
              tt,
            ),
          ),
        ),
      ),
    ),
  ),
)

pub ended_sync : IsSync DeadProcess.the_row
ended_sync = view_sync _ _ _ _ _ ended_fields_sync
