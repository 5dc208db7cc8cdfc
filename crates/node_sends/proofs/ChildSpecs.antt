-- What of child_specs may go to another thread.
use denote.Param.Send.{IsSend, IsSync, sendable}
use denote.Param.SendFields.{declared_send, declared_sync}
use Rattle.std.proofs.Crossing.{crosses}
use Rattle.child_specs.proofs.child.Restart.TheSendSync as restart
use Rattle.child_specs.specs.contracts.child.ChildSpec as ChildSpec
use Rattle.erl_term.proofs.atom.Atom.TheSendSync as atom
use Rattle.node_sends.proofs.ErlTerm as erl_term
use Rattle.values.proofs.row.Row.TheSendSync as row

pub child_spec_send : IsSend ChildSpec.the_row
child_spec_send = declared_send ChildSpec.the_type (
  erl_term.term_send,
  (
    atom.the_send,
    (
      atom.the_send,
      (
        erl_term.terms_send,
        (
          restart.the_send,
          (
            erl_term.term_send,
            (
              search (
                atom.the_send,
                row.the_send,
                crosses,
                sendable,
              ) depth 60 fits 20000,
              tt,
            ),
          ),
        ),
      ),
    ),
  ),
)

pub child_spec_sync : IsSync ChildSpec.the_row
child_spec_sync = declared_sync ChildSpec.the_type (
  erl_term.term_sync,
  (
    atom.the_sync,
    (
      atom.the_sync,
      (
        erl_term.terms_sync,
        (
          restart.the_sync,
          (
            erl_term.term_sync,
            (
              search (
                atom.the_sync,
                row.the_sync,
                crosses,
                sendable,
              ) depth 60 fits 20000,
              tt,
            ),
          ),
        ),
      ),
    ),
  ),
)
