-- What of erl_semantics may go to another thread.
use denote.Param.Send.{IsSend, IsSync, sendable}
use denote.Param.SendFields.{declared_send, declared_sync, variants_send, variants_sync}
use Rattle.std.proofs.Crossing.{crosses}
use Rattle.erl_semantics.proofs.acts.Receiver.TheSendSync as receiver
use Rattle.erl_semantics.specs.contracts.acts.Act as Act
use Rattle.erl_semantics.specs.contracts.acts.Place as Place
use Rattle.erl_semantics.specs.contracts.instance.Instance as Instance
use Rattle.erl_semantics.specs.contracts.jobs.Done as Done
use Rattle.erl_semantics.specs.contracts.jobs.Job as Job
use Rattle.erl_semantics.specs.contracts.outcome.End as End
use Rattle.erl_semantics.specs.contracts.outcome.Outcome as Outcome
use Rattle.erl_term.proofs.atom.Atom.TheSendSync as atom
use Rattle.node_sends.proofs.ErlForms as erl_ir
use Rattle.node_sends.proofs.ErlTerm as erl_term
use Rattle.values.proofs.row.Row.TheSendSync as row

pub instance_send : IsSend Instance.the_row
instance_send = declared_send Instance.the_type (atom.the_send, (search sendable, (erl_ir.module_send, tt)))

pub instance_sync : IsSync Instance.the_row
instance_sync = declared_sync Instance.the_type (atom.the_sync, (search sendable, (erl_ir.module_sync, tt)))

pub place_send : IsSend Place.the_row
place_send = variants_send Place.enum (
  (atom.the_send, (erl_term.term_send, tt)),
  (
    (
      atom.the_send,
      (
        search sendable,
        (atom.the_send, (erl_term.terms_send, tt)),
      ),
    ),
    tt,
  ),
)

pub place_sync : IsSync Place.the_row
place_sync = variants_sync Place.enum (
  (atom.the_sync, (erl_term.term_sync, tt)),
  (
    (
      atom.the_sync,
      (
        search sendable,
        (atom.the_sync, (erl_term.terms_sync, tt)),
      ),
    ),
    tt,
  ),
)

pub job_send : IsSend Job.the_row
job_send = declared_send Job.the_type (
  search sendable,
  (
    search sendable,
    (
      place_send,
      (
        search sendable,
        (erl_term.term_send, (search (instance_send, row.the_send, crosses, sendable) depth 60 fits 20000, tt)),
      ),
    ),
  ),
)

pub job_sync : IsSync Job.the_row
job_sync = declared_sync Job.the_type (
  search sendable,
  (
    search sendable,
    (
      place_sync,
      (
        search sendable,
        (erl_term.term_sync, (search (instance_sync, row.the_sync, crosses, sendable) depth 60 fits 20000, tt)),
      ),
    ),
  ),
)

pub act_send : IsSend Act.the_row
act_send = variants_send Act.enum (
  (receiver.the_send, (erl_term.term_send, tt)),
  (
    (
      search sendable,
      (
        erl_term.term_send,
        tt,
      ),
    ),
    ((place_send, tt), ((atom.the_send, (search sendable, tt)), tt)),
  ),
)

pub act_sync : IsSync Act.the_row
act_sync = variants_sync Act.enum (
  (receiver.the_sync, (erl_term.term_sync, tt)),
  (
    (
      search sendable,
      (
        erl_term.term_sync,
        tt,
      ),
    ),
    ((place_sync, tt), ((atom.the_sync, (search sendable, tt)), tt)),
  ),
)

pub end_send : IsSend End.the_row
end_send = variants_send End.enum ((place_send, tt), ((erl_term.term_send, tt), ((erl_term.term_send, tt), tt)))

pub end_sync : IsSync End.the_row
end_sync = variants_sync End.enum ((place_sync, tt), ((erl_term.term_sync, tt), ((erl_term.term_sync, tt), tt)))

pub outcome_send : IsSend Outcome.the_row
outcome_send = declared_send Outcome.the_type (
  search (act_send, row.the_send, crosses, sendable) depth 60 fits 20000,
  (end_send, tt),
)

pub outcome_sync : IsSync Outcome.the_row
outcome_sync = declared_sync Outcome.the_type (
  search (act_sync, row.the_sync, crosses, sendable) depth 60 fits 20000,
  (end_sync, tt),
)

pub done_send : IsSend Done.the_row
done_send = declared_send Done.the_type (job_send, (outcome_send, tt))

pub done_sync : IsSync Done.the_row
done_sync = declared_sync Done.the_type (job_sync, (outcome_sync, tt))
