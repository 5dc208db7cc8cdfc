-- What of values may go to another thread.
use denote.RattleType.{RattleType}
use denote.Struct.Field.{row_field}
use denote.Param.Send.{IsSend, IsSync, view_send, view_sync, sendable}
use denote.Param.SendFields.{as_row_send, as_row_sync, declared_send, declared_sync, variants_send, variants_sync}
use Rattle.std.proofs.Crossing.{crosses, Box-send, Box-sync}
use Rattle.std.specs.contracts.option.Option as Option
use Rattle.values.specs.contracts.reserved.Boxed as Boxed
use Rattle.values.specs.contracts.reserved.Boxed.TheInside as BoxedInside

pub option_send : (T : RattleType) → IsSend T → IsSend (Option.the_row T)
option_send T s = variants_send (Option.enum T) (tt, ((as_row_send (row_field T) s, tt), tt))

pub option_sync : (T : RattleType) → IsSync T → IsSync (Option.the_row T)
option_sync T s = variants_sync (Option.enum T) (tt, ((as_row_sync (row_field T) s, tt), tt))

boxed_fields_send : (T : RattleType) → IsSend T → IsSend (BoxedInside.the_row T)
boxed_fields_send T s = declared_send (BoxedInside.the_type T) (
  Box-send (Option.the_row T) (option_send T s),
  (search (crosses, sendable), tt),
)

boxed_fields_sync : (T : RattleType) → IsSync T → IsSync (BoxedInside.the_row T)
boxed_fields_sync T s = declared_sync (BoxedInside.the_type T) (
  Box-sync (Option.the_row T) (option_sync T s),
  (search (crosses, sendable), tt),
)

pub boxed_send : (T : RattleType) → IsSend T → IsSend (Boxed.the_row T)
boxed_send T s = view_send _ _ _ _ _ (boxed_fields_send T s)

pub boxed_sync : (T : RattleType) → IsSync T → IsSync (Boxed.the_row T)
boxed_sync T s = view_sync _ _ _ _ _ (boxed_fields_sync T s)
