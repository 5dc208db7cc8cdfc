-- Why a node that seats shared isn't closed, or not with its seats.
use Rattle.std.specs.Prelude.{◌≡◌, ℕ, List}
use Rattle.release_table.specs.declared.table.Release.{Release}
use Rattle.node_lock.specs.Closing.{AreAll, HasForeign, IsLegal}
use Rattle.node_lock.specs.Core.{CoreState, SeatState}
use Rattle.node_lock.specs.declared.naming.Naming.{Ghosts}
use Rattle.node_lock.specs.declared.shared.SharedNode.{SharedNode}
use Rattle.node_lock.specs.declared.closing.Closed.{Closed}
use Rattle.node_lock.specs.declared.closing.CloseError.{CloseError}
use Rattle.node_lock.specs.declared.closing.CloseError.TheVariants as refused

-- One of the seats has another list than the history, which is legal. The seats are handed back as they were.
abbrev pub IsForeign : {X : Type 0} {g : Ghosts X} → Release → List SeatState → CloseError X g → Type 0
IsForeign release seats (refused.SeatCount node back) = ⊥
IsForeign release seats (refused.Foreign closed back) = IsLegal release closed.history.items closed.journal ×
    HasForeign closed.history.items seats × (back.items ≡ seats)

-- what was under the lock is handed out as it was
abbrev pub HandsOut : CoreState → Closed → Type 0
HandsOut core closed = (closed.history.items ≡ core.history) × (closed.journal ≡ core.timeline)

abbrev pub HandsBack : {X : Type 0} {g : Ghosts X} → CoreState → CloseError X g → Type 0
HandsBack core (refused.SeatCount node back) = ⊥
HandsBack core (refused.Foreign closed back) = HandsOut core closed

-- The seats are not all, each once, and with the node they are handed back as they were; or they are, and a seat's list is
-- foreign.
abbrev pub FailsToClose : {X : Type 0} {g : Ghosts X} → SharedNode X g → Release → ℕ → List SeatState → CloseError X g → Type 0
FailsToClose {X} {g} shared release count seats (refused.SeatCount node back) =
    (AreAll count seats → ⊥) × (node ≡ shared) × (back.items ≡ seats)
FailsToClose {X} {g} shared release count seats (refused.Foreign closed back) =
    AreAll count seats × IsForeign {X = X} {g = g} release seats (refused.Foreign closed back)
