-- Those that were suspended last, and that each of them rested.
use Rattle.std.proofs.Common.{◌≡◌, ◌≤◌, ◌-◌, ◌++◌, ◌&&◌, ◌∙◌, ℕ, All, Bool, true, false, cond, List, [], ◌∷◌, drop, length, length-append, take, Option, None, Some, refl, sym, ap, arith}
use Rattle.std.proofs.Math.Seq.{drop-append_seam, take-append_seam}
use Rattle.std.proofs.lemmas.Bool.{true≢false}
use Rattle.std.proofs.lemmas.List.Elements.{All-cons, All-nil}
use Rattle.std.specs.List.{filter}
use Rattle.process.specs.Process.{is_server_at}
use Rattle.process.specs.declared.activity.Activity.{Activity}
use Rattle.process.specs.declared.activity.Activity.TheVariants.{Idle, Suspended, Runs}
use Rattle.process_store.specs.Table.{Table, living}
use Rattle.process_store.specs.declared.living.ProcessEntry.{ProcessEntry}
use Rattle.process_table.specs.States.{IsIdle, IsIdleIn}
use Rattle.suspensions.specs.Suspending.{but_last, is_idle, is_idle_in, last_of}

-- behind some, these are the last

count_before : (xs ys : List ℕ) → length (xs ++ ys) - length ys ≡ length xs
count_before xs ys = omega (arith, length-append xs ys)

pub last_appended : (xs ys : List ℕ) → last_of (length ys) (xs ++ ys) ≡ ys
last_appended xs ys = ap (λ n. drop n (xs ++ ys)) (count_before xs ys) ∙ drop-append_seam xs ys

pub but_last_appended : (xs ys : List ℕ) → but_last (length ys) (xs ++ ys) ≡ xs
but_last_appended xs ys = ap (λ n. take n (xs ++ ys)) (count_before xs ys) ∙ take-append_seam xs ys

pub within_appended : (xs ys : List ℕ) → length ys ≤ length (xs ++ ys)
within_appended xs ys = omega (arith, length-append xs ys)

-- those that are suspended rest

rests : (a : Activity) → is_idle_in a ≡ true → IsIdleIn a
rests Idle is = tt
rests Suspended is = absurd (true≢false (sym is))
rests (Runs r) is = absurd (true≢false (sym is))

idle_by : (b : Bool) (a : Activity) → (b && is_idle_in a) ≡ true → IsIdleIn a
idle_by true a is = rests a is
idle_by false a is = absurd (true≢false (sym is))

idle_is : (o : Option ProcessEntry) → is_idle o ≡ true → IsIdle o
idle_is None is = absurd (true≢false (sym is))
idle_is (Some l) is = idle_by (is_server_at l.process.place) l.process.activity is

pub idle_all : (t : Table) (pids : List ℕ) → All (λ p. IsIdle (living p t)) (filter (λ p. is_idle (living p t)) pids)
idle_all t [] = All-nil (λ p. IsIdle (living p t))
idle_all t (p ∷ pids) =
    let rest = filter (λ q. is_idle (living q t)) pids in
    let each : ℕ → Type 0 = λ q. IsIdle (living q t) in
    elim (is_idle (living p t)) as (λ b. is_idle (living p t) ≡ b → All each (cond b (p ∷ rest) rest)) [
      | true ↦ λ is. All-cons each p rest (idle_is (living p t) is) (idle_all t pids)
      | false ↦ λ is. idle_all t pids
    ] refl
