-- What of low_instructions may go to another thread.
use denote.Param.Send.{IsSend, IsSync, sendable}
use denote.Param.SendFields.{declared_send, declared_sync, variants_send, variants_sync}
use Rattle.std.proofs.Crossing.{crosses}
use Rattle.erl_term.proofs.atom.Atom.TheSendSync as atom
use Rattle.low_instructions.proofs.modules.Direction.TheSendSync as direction
use Rattle.low_instructions.proofs.modules.Suspension.TheSendSync as suspension
use Rattle.low_instructions.specs.contracts.low.Low as Low
use Rattle.low_instructions.specs.contracts.modules.ModuleChange as ModuleChange
use Rattle.node_sends.proofs.ErlTerm as erl_term
use Rattle.release_words.proofs.purge.Purge.TheSendSync as purge
use Rattle.release_words.proofs.version.Version.TheSendSync as version
use Rattle.values.proofs.row.Row.TheSendSync as row

pub module_change_send : IsSend ModuleChange.the_row
module_change_send = declared_send ModuleChange.the_type (atom.the_send, (erl_term.term_send, tt))

pub module_change_sync : IsSync ModuleChange.the_row
module_change_sync = declared_sync ModuleChange.the_type (atom.the_sync, (erl_term.term_sync, tt))

pub low_send : IsSend Low.the_row
low_send = variants_send Low.enum (
  (
    atom.the_send,
    (
      version.the_send,
      (
        search (
          atom.the_send,
          row.the_send,
          crosses,
          sendable,
        ) depth 60 fits 20000,
        tt,
      ),
    ),
  ),
  (
    tt,
    (
      (atom.the_send, (purge.the_send, (purge.the_send, tt))),
      (
        (
          atom.the_send,
          (purge.the_send, (purge.the_send, tt)),
        ),
        (
          (
            search (atom.the_send, row.the_send, crosses, sendable) depth 60 fits 20000,
            tt,
          ),
          (
            (search (suspension.the_send, row.the_send, crosses, sendable) depth 60 fits 20000, tt),
            (
              (
                search (
                  atom.the_send,
                  row.the_send,
                  crosses,
                  sendable,
                ) depth 60 fits 20000,
                tt,
              ),
              (
                (
                  direction.the_send,
                  (
                    search (
                      module_change_send,
                      row.the_send,
                      crosses,
                      sendable,
                    ) depth 60 fits 20000,
                    tt,
                  ),
                ),
                (
                  (
                    search (
                      atom.the_send,
                      row.the_send,
                      crosses,
                      sendable,
                    ) depth 60 fits 20000,
                    tt,
                  ),
                  (
                    (search (atom.the_send, row.the_send, crosses, sendable) depth 60 fits 20000, tt),
                    ((atom.the_send, (atom.the_send, (erl_term.terms_send, tt))), tt),
                  ),
                ),
              ),
            ),
          ),
        ),
      ),
    ),
  ),
)

pub low_sync : IsSync Low.the_row
low_sync = variants_sync Low.enum (
  (
    atom.the_sync,
    (
      version.the_sync,
      (
        search (
          atom.the_sync,
          row.the_sync,
          crosses,
          sendable,
        ) depth 60 fits 20000,
        tt,
      ),
    ),
  ),
  (
    tt,
    (
      (atom.the_sync, (purge.the_sync, (purge.the_sync, tt))),
      (
        (
          atom.the_sync,
          (purge.the_sync, (purge.the_sync, tt)),
        ),
        (
          (
            search (atom.the_sync, row.the_sync, crosses, sendable) depth 60 fits 20000,
            tt,
          ),
          (
            (search (suspension.the_sync, row.the_sync, crosses, sendable) depth 60 fits 20000, tt),
            (
              (
                search (
                  atom.the_sync,
                  row.the_sync,
                  crosses,
                  sendable,
                ) depth 60 fits 20000,
                tt,
              ),
              (
                (
                  direction.the_sync,
                  (
                    search (
                      module_change_sync,
                      row.the_sync,
                      crosses,
                      sendable,
                    ) depth 60 fits 20000,
                    tt,
                  ),
                ),
                (
                  (
                    search (
                      atom.the_sync,
                      row.the_sync,
                      crosses,
                      sendable,
                    ) depth 60 fits 20000,
                    tt,
                  ),
                  (
                    (search (atom.the_sync, row.the_sync, crosses, sendable) depth 60 fits 20000, tt),
                    ((atom.the_sync, (atom.the_sync, (erl_term.terms_sync, tt))), tt),
                  ),
                ),
              ),
            ),
          ),
        ),
      ),
    ),
  ),
)
