-- An install that does not come to its end.
use Rattle.std.proofs.Common.{◌≡◌, ℕ, List, nat_eq, Err, sym, subst}
use Rattle.node_types.specs.declared.event.Event.TheVariants.{Advance, Install}
use Rattle.node_history.specs.declared.command.Command.TheVariants.{Perform}
use Rattle.node_lock.specs.Core.{SeatState}
use Rattle.node_lock.specs.Seats.{Lists}
use Rattle.node_lock.specs.declared.error.LockError.{LockError}
use Rattle.node_lock.specs.declared.error.LockError.TheVariants as lock
use Rattle.workers.specs.Errors.{error_of}
use Rattle.workers.specs.Installing.{AdvanceFails, BeginFails, Begins, DriveFails, HasAdvanced, InstallFails, IsBusy, halted, halts, not_accepted, not_advanced, not_asked, not_begun, refused, rests, stands, stops}
use Rattle.workers.specs.Lines.{HasGrown}
use Rattle.workers.specs.declared.error.WorkError.{WorkError}
use Rattle.workers.proofs.Growth.{grown_by_advances, grown_by_begin, grown_by_error, grown_further, grown_not}

-- an advance is refused
refused-advance : (left : ℕ) (why : LockError) (old new : SeatState) → (IsBusy why → ⊥) → Lists (Perform (Advance (nat_eq left 0))) (Err why) old new → AdvanceFails left old new (error_of why)
refused-advance left (lock.Journal e) old new idle lists = halts e (idle, lists)
refused-advance left lock.Memory old new idle lists = not_advanced lists

pub advance_refused : (left : ℕ) (why : LockError) (e : WorkError) (old new : SeatState) → (IsBusy why → ⊥) → e ≡ error_of why → Lists (Perform (Advance (nat_eq left 0))) (Err why) old new → AdvanceFails left old new e
advance_refused left why e old new idle is lists = subst (λ w. AdvanceFails left old new w) (sym is) (refused-advance left why old new idle lists)

-- behind advances
pub drives_halted : (patience left : ℕ) (e : WorkError) (begun now new : SeatState) → HasAdvanced patience left begun now → AdvanceFails left now new e → DriveFails patience begun new e
drives_halted patience left e begun now new has (halts it is) = stops now left it has is
drives_halted patience left e begun now new has (not_advanced same) =
    rests left (subst (λ (s : SeatState). HasAdvanced patience left begun s) (sym same) has)

-- the install is refused
refused-install : (vsn : List ℕ) (why : LockError) (old new : SeatState) → Lists (Perform (Install vsn)) (Err why) old new → BeginFails vsn old new (error_of why)
refused-install vsn (lock.Journal e) old new lists = not_accepted e lists
refused-install vsn lock.Memory old new lists = not_begun lists

pub begin_refused : (vsn : List ℕ) (why : LockError) (e : WorkError) (old new : SeatState) → e ≡ error_of why → Lists (Perform (Install vsn)) (Err why) old new → BeginFails vsn old new e
begin_refused vsn why e old new is lists = subst (λ w. BeginFails vsn old new w) (sym is) (refused-install vsn why old new lists)

-- the whole install
pub install_refused : (vsn : List ℕ) (patience : ℕ) (e : WorkError) (old new : SeatState) → BeginFails vsn old new e → InstallFails vsn patience old new e
install_refused vsn patience e old new (not_accepted it lists) = refused it lists
install_refused vsn patience e old new (not_begun same) = not_asked same

pub install_halted : (vsn : List ℕ) (patience : ℕ) (e : WorkError) (old begun new : SeatState) → Begins vsn old begun → DriveFails patience begun new e → InstallFails vsn patience old new e
install_halted vsn patience e old begun new begins (stops now left it has is) = halted begun now left it begins has is
install_halted vsn patience e old begun new begins (rests left has) = stands begun left begins has

-- in each case the seat's list only grows
pub grown_halted : (vsn : List ℕ) (patience : ℕ) (e : WorkError) (old new : SeatState) → InstallFails vsn patience old new e → HasGrown old new
grown_halted vsn patience e old new (refused it lists) = grown_by_error (Perform (Install vsn)) (lock.Journal it) old new lists
grown_halted vsn patience e old new (halted begun now left it begins has is) =
    grown_further old begun new (grown_by_begin vsn old begun begins)
    (grown_further begun now new (grown_by_advances patience left begun now has)
    (grown_by_error (Perform (Advance (nat_eq left 0))) (lock.Journal it) now new is.1))
grown_halted vsn patience e old new (stands begun left begins has) =
    grown_further old begun new (grown_by_begin vsn old begun begins) (grown_by_advances patience left begun new has)
grown_halted vsn patience e old new (not_asked same) = grown_not old new same

pub ruleset advance_fails = (advance_refused)

pub ruleset drive_fails = (drives_halted)

pub ruleset begin_fails = (begin_refused)

pub ruleset install_fails = (install_refused, install_halted)
