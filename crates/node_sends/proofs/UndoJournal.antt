-- A journal may go to another thread where its machine's state, records and notes may.
use denote.RattleType.{RattleType}
use denote.Struct.Field.{row_field}
use denote.Param.Send.{IsSend, IsSync, view_send, view_sync, sendable}
use denote.Param.SendFields.{as_row_send, as_row_sync, declared_send, declared_sync}
use Rattle.node_sends.proofs.Values as values
use Rattle.std.proofs.Crossing.{crosses, Vec-send, Vec-sync}
use Rattle.undo_journal.specs.contracts.journal.Journal as Journal
use Rattle.undo_journal.specs.contracts.journal.Journal.TheInside as JournalInside
use Rattle.undo_journal.specs.contracts.past.Entry as Entry
use Rattle.undo_journal.specs.declared.reversible.Reversible.{Ghosts}

entry_send : (S R N : RattleType) → IsSend R → IsSend N → IsSend (Entry.the_row S R N)
entry_send S R N r n = declared_send (Entry.the_type S R N) (
  search sendable,
  (
    as_row_send (row_field R) r,
    (as_row_send (row_field N) n, (search (crosses, sendable), tt)),
  ),
)

entry_sync : (S R N : RattleType) → IsSync R → IsSync N → IsSync (Entry.the_row S R N)
entry_sync S R N r n = declared_sync (Entry.the_type S R N) (
  search sendable,
  (
    as_row_sync (row_field R) r,
    (as_row_sync (row_field N) n, (search (crosses, sendable), tt)),
  ),
)

module _ (S E R A N F : RattleType) (g : Ghosts S.Denot E.Denot R.Denot A.Denot N.Denot F.Denot) where
  journal_fields_send : IsSend S → IsSend R → IsSend N → IsSend (JournalInside.the_row S E R A N F g)
  journal_fields_send s r n = declared_send (JournalInside.the_type S E R A N F g) (
    search sendable depth 20,
    (
      as_row_send (row_field S) s,
      (
        search sendable,
        (
          values.option_send N n,
          (
            search (crosses, sendable),
            (Vec-send (Entry.the_row S R N) (entry_send S R N r n), (search sendable, tt)),
          ),
        ),
      ),
    ),
  )

  journal_fields_sync : IsSync S → IsSync R → IsSync N → IsSync (JournalInside.the_row S E R A N F g)
  journal_fields_sync s r n = declared_sync (JournalInside.the_type S E R A N F g) (
    search sendable depth 20,
    (
      as_row_sync (row_field S) s,
      (
        search sendable,
        (
          values.option_sync N n,
          (
            search (crosses, sendable),
            (Vec-sync (Entry.the_row S R N) (entry_sync S R N r n), (search sendable, tt)),
          ),
        ),
      ),
    ),
  )

  pub journal_send : IsSend S → IsSend R → IsSend N → IsSend (Journal.the_row S E R A N F g)
  journal_send s r n = view_send _ _ _ _ _ (journal_fields_send s r n)

  pub journal_sync : IsSync S → IsSync R → IsSync N → IsSync (Journal.the_row S E R A N F g)
  journal_sync s r n = view_sync _ _ _ _ _ (journal_fields_sync s r n)
