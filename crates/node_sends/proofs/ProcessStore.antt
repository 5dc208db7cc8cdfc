-- What of process_store may go to another thread.
use denote.Param.Send.{IsSend, IsSync, view_send, view_sync, sendable}
use denote.Param.SendFields.{declared_send, declared_sync}
use Rattle.std.proofs.Crossing.{crosses}
use Rattle.node_sends.proofs.Process as process
use Rattle.process_index.proofs.calls.Calls.TheSendSync as calls
use Rattle.process_index.proofs.names.NameIndex.TheSendSync as name_index
use Rattle.process_index.proofs.numbers.CallIndex.TheSendSync as call_index
use Rattle.process_index.proofs.slots.Slots.TheSendSync as slots
use Rattle.process_store.specs.contracts.living.ProcessEntry as ProcessEntry
use Rattle.process_store.specs.contracts.marked.MarkedSlots as MarkedSlots
use Rattle.process_store.specs.contracts.marked.MarkedSlots.TheInside as MarkedSlotsInside
use Rattle.process_store.specs.contracts.store.ProcessStore as ProcessStore
use Rattle.process_store.specs.contracts.store.ProcessStore.TheInside as ProcessStoreInside
use Rattle.ready_set.proofs.set.ReadySet.TheSendSync as ready_set

pub living_send : IsSend ProcessEntry.the_row
living_send = declared_send ProcessEntry.the_type (process.process_send, (calls.the_send, tt))

pub living_sync : IsSync ProcessEntry.the_row
living_sync = declared_sync ProcessEntry.the_type (process.process_sync, (calls.the_sync, tt))

marked_slots_fields_send : IsSend MarkedSlotsInside.the_row
marked_slots_fields_send = declared_send MarkedSlotsInside.the_type (
  search (
    living_send,
    slots.the_send,
    crosses,
    sendable,
  ) depth 60 fits 20000,
  (ready_set.the_send, (search sendable, tt)),
)

marked_slots_send : IsSend MarkedSlots.the_row
marked_slots_send = view_send _ _ _ _ _ marked_slots_fields_send

process_store_fields_send : IsSend ProcessStoreInside.the_row
process_store_fields_send = declared_send ProcessStoreInside.the_type (
  search sendable depth 20,
  (marked_slots_send, (name_index.the_send, (call_index.the_send, tt))),
)

pub process_store_send : IsSend ProcessStore.the_row
process_store_send = view_send _ _ _ _ _ process_store_fields_send

marked_slots_fields_sync : IsSync MarkedSlotsInside.the_row
marked_slots_fields_sync = declared_sync MarkedSlotsInside.the_type (
  search (
    living_sync,
    slots.the_sync,
    crosses,
    sendable,
  ) depth 60 fits 20000,
  (ready_set.the_sync, (search sendable, tt)),
)

marked_slots_sync : IsSync MarkedSlots.the_row
marked_slots_sync = view_sync _ _ _ _ _ marked_slots_fields_sync

process_store_fields_sync : IsSync ProcessStoreInside.the_row
process_store_fields_sync = declared_sync ProcessStoreInside.the_type (
  search sendable depth 20,
  (marked_slots_sync, (name_index.the_sync, (call_index.the_sync, tt))),
)

pub process_store_sync : IsSync ProcessStore.the_row
process_store_sync = view_sync _ _ _ _ _ process_store_fields_sync
