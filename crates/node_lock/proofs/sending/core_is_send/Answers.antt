-- All that a node which seats share has may go to another thread.
use denote.Exit.{yes}
use denote.Param.{param}
use denote.Param.Send.{view_send, sendable}
use denote.Param.SendFields.{declared_send}
use Rattle.std.proofs.Crossing.{crosses}
use Rattle.entry_lists.proofs.history.History.TheSendSync as history
use Rattle.node_sends.proofs.NodeJournal as node_journal
use Rattle.node_sends.proofs.ProcessEffects as process_effects
use Rattle.node_lock.specs.contracts.locked.Core.TheInside as CoreInside
use Rattle.node_lock.proofs.Crossing.{entry_send}
use Rattle.node_lock.proofs.sending.core_is_send.Goals as goal

pub returns : goal.returns
returns g c =
    let book = c.is_send.ensures in
    let rest = c.is_send-2.ensures in
    view_send _ _ _ _ _ (declared_send (CoreInside.the_type (param 0 g.row.N) g.N.Ledger g.N.Naming) (
      search sendable depth 20,
      (
        search (crosses, sendable) depth 20,
        (
          node_journal.node_journal_send,
          (
            search (entry_send, process_effects.reply_send, history.the_send, crosses, sendable) depth 60 fits 20000,
            (
              record { owned = book.owned; leaving = λ k. book.leaving yes },
              (record { owned = rest.owned; leaving = λ k. rest.leaving yes }, (search (crosses, sendable) depth 20, tt)),
            ),
          ),
        ),
      ),
    ))
