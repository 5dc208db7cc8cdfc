-- What of process_effects may go to another thread.
use denote.Param.Send.{IsSend, IsSync, sendable}
use denote.Param.SendFields.{declared_send, declared_sync, variants_send, variants_sync}
use Rattle.std.proofs.Crossing.{crosses}
use Rattle.few_lists.proofs.few.Few.TheSendSync as few
use Rattle.node_sends.proofs.ErlTerm as erl_term
use Rattle.node_sends.proofs.Process as process
use Rattle.process_effects.proofs.answers.Closed.TheSendSync as closed
use Rattle.process_effects.specs.contracts.ending.EndedProcess as EndedProcess
use Rattle.process_effects.specs.contracts.exiting.Exited as Exited
use Rattle.process_effects.specs.contracts.resting.Rested as Rested
use Rattle.process_effects.specs.contracts.told.Reply as Reply
use Rattle.process_effects.specs.contracts.told.ReplyBody as ReplyBody
use Rattle.process_index.proofs.calls.Calls.TheSendSync as calls

pub reply_body_send : IsSend ReplyBody.the_row
reply_body_send = variants_send ReplyBody.enum ((erl_term.term_send, tt), ((erl_term.term_send, tt), tt))

pub reply_body_sync : IsSync ReplyBody.the_row
reply_body_sync = variants_sync ReplyBody.enum ((erl_term.term_sync, tt), ((erl_term.term_sync, tt), tt))

pub reply_send : IsSend Reply.the_row
reply_send = declared_send Reply.the_type (search sendable, (search sendable, (reply_body_send, tt)))

pub reply_sync : IsSync Reply.the_row
reply_sync = declared_sync Reply.the_type (search sendable, (search sendable, (reply_body_sync, tt)))

pub rested_send : IsSend Rested.the_row
rested_send = declared_send Rested.the_type (
  search sendable,
  (
    process.named_ran_send,
    (
      search (
        few.the_send,
        crosses,
        sendable,
      ) depth 60 fits 20000,
      (search (closed.the_send, few.the_send, crosses, sendable) depth 60 fits 20000, tt),
    ),
  ),
)

pub rested_sync : IsSync Rested.the_row
rested_sync = declared_sync Rested.the_type (
  search sendable,
  (
    process.named_ran_sync,
    (
      search (
        few.the_sync,
        crosses,
        sendable,
      ) depth 60 fits 20000,
      (search (closed.the_sync, few.the_sync, crosses, sendable) depth 60 fits 20000, tt),
    ),
  ),
)

pub ended_process_send : IsSend EndedProcess.the_row
ended_process_send = declared_send EndedProcess.the_type (search sendable, (process.ended_send, (calls.the_send, tt)))

pub ended_process_sync : IsSync EndedProcess.the_row
ended_process_sync = declared_sync EndedProcess.the_type (search sendable, (process.ended_sync, (calls.the_sync, tt)))

pub exited_send : IsSend Exited.the_row
exited_send = declared_send Exited.the_type (
  ended_process_send,
  (
    search (
      few.the_send,
      crosses,
      sendable,
    ) depth 60 fits 20000,
    (search (closed.the_send, few.the_send, crosses, sendable) depth 60 fits 20000, tt),
  ),
)

pub exited_sync : IsSync Exited.the_row
exited_sync = declared_sync Exited.the_type (
  ended_process_sync,
  (
    search (
      few.the_sync,
      crosses,
      sendable,
    ) depth 60 fits 20000,
    (search (closed.the_sync, few.the_sync, crosses, sendable) depth 60 fits 20000, tt),
  ),
)
