-- A process of a callback module takes every message, whatever its state.
use Rattle.std.proofs.Common.{◌≡◌, ℕ, ◌+◌, ◌-◌, ◌≤◌, true, List, Option, refl, sym, ap, ◌∙◌, arith}
use Rattle.std.proofs.lemmas.Bool.{false≢true}
use Rattle.erl_term.specs.declared.term.Term.{Term}
use Rattle.erl_semantics.specs.declared.acts.Place.{Place}
use Rattle.erl_semantics.specs.declared.acts.Place.TheVariants.{Server, Loop}
use Rattle.erl_semantics.specs.declared.instance.Instance.{Instance}
use Rattle.process.specs.Process.{ProcessState, awaited, awaited_by, first_taken, is_server_at, with_state}

pub same_taken : (pid : ℕ) (at : Place) (state : Term) (rests_in : Option Instance) (mailbox : List Term) → is_server_at at ≡ true → first_taken pid (with_state state at) rests_in mailbox ≡ first_taken pid at rests_in mailbox
same_taken pid (Server m s) state rests_in mailbox is = refl
same_taken pid (Loop m serial f args) state rests_in mailbox is = absurd (false≢true is)

-- so it takes the same message next
pub awaited_restated : (p : ProcessState) (at : Place) (state : Term) (turn : ℕ) (next : Option ℕ) → is_server_at p.place ≡ true → at ≡ with_state state p.place → next ≡ awaited p → next ≡ awaited (record p { place = at; turn = turn })
awaited_restated p at state turn next is changed first =
    first ∙ ap (awaited_by p.activity) (sym (same_taken p.pid p.place state p.rests_in p.mailbox is) ∙ ap (λ x. first_taken p.pid x p.rests_in p.mailbox) (sym changed))

-- it is still a process of a callback module
pub still_server : (at : Place) (state : Term) → is_server_at at ≡ true → is_server_at (with_state state at) ≡ true
still_server (Server m s) state is = refl
still_server (Loop m serial f args) state is = is

-- turns that are counted on and back

pub turns_back : (turn turns : ℕ) → (turn + turns) - turns ≡ turn
turns_back turn turns = omega arith

pub turns_again : (turn turns : ℕ) → turns ≤ turn → (turn - turns) + turns ≡ turn
turns_again turn turns within = omega (arith, within)
