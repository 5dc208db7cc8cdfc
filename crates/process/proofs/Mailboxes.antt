-- Messages that come to a process.
use Rattle.std.proofs.Common.{◌≡◌, ℕ, true, length, Option, None, Some, refl, sym, ◌∙◌}
use Rattle.erl_term.specs.declared.term.Term.{Term}
use Rattle.process.specs.declared.activity.Activity.{Activity}
use Rattle.process.specs.declared.activity.Activity.TheVariants.{Idle, Suspended, Runs}
use Rattle.process.specs.declared.activity.Running.{Running}
use Rattle.process.specs.Process.{ProcessState, awaited, awaited_by, delivered, first_taken, takes_at}
use Rattle.process.proofs.Indices.{position_last}

-- what a process that doesn't run takes next is what it takes where it rests
pub awaited_by-resting : (a : Activity) (first : Option ℕ) → ((r : Running) → a ≡ Runs r → ⊥) → awaited_by a first ≡ first
awaited_by-resting Idle first never = refl
awaited_by-resting Suspended first never = refl
awaited_by-resting (Runs r) first never = absurd (never r refl)

none_of : (o : Option ℕ) → ((n : ℕ) → o ≡ Some n → ⊥) → o ≡ None
none_of None never = refl
none_of (Some n) never = absurd (never n refl)

-- a message that it takes, where it took none of those that were there
pub awaited-delivered : (p : ProcessState) (message : Term) (next : Option ℕ) → next ≡ awaited p → ((r : Running) → p.activity ≡ Runs r → ⊥) → ((n : ℕ) → next ≡ Some n → ⊥) → takes_at p.pid p.place p.rests_in message ≡ true → awaited (delivered message p) ≡ Some (length p.mailbox)
awaited-delivered p message next is rests none takes =
    let before : first_taken p.pid p.place p.rests_in p.mailbox ≡ None = sym (awaited_by-resting p.activity _ rests) ∙ sym is ∙ none_of next none in
    awaited_by-resting p.activity _ rests ∙ position_last (takes_at p.pid p.place p.rests_in) p.mailbox message before takes
