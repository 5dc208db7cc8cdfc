-- What changes of states hold is lost also once all acts are done: these leave each place and each turn.
use Rattle.std.proofs.Common.{◌≡◌, ◌∙◌, ℕ, zero, suc, ◌-◌, true, false, cond, List, [], ◌∷◌, ◌++◌, Option, None, Some, refl, sym, ap, subst}
use Rattle.std.proofs.lemmas.List.{append-nil}
use Rattle.std.proofs.lemmas.Option.{none-some, same_Some}
use Rattle.std.specs.Prelude.{nat_eq}
use Rattle.erl_semantics.specs.declared.acts.Place.{Place}
use Rattle.erl_term.specs.declared.term.Term.{Term}
use Rattle.process.specs.Process.{with_state}
use Rattle.process.specs.declared.activity.Activity.{Activity}
use Rattle.process.specs.declared.activity.Activity.TheVariants.{Idle, Suspended, Runs}
use Rattle.process_store.specs.Pieces.{AreLost, AreNotAmong, HoldsLost, IsNotAmong, Piece, at_place, in_job, in_mailbox, living_pieces, pieces_at, ran_pieces, waiting}
use Rattle.process_store.specs.Table.{Table, empty_table, living}
use Rattle.process_store.specs.declared.living.ProcessEntry.{ProcessEntry}
use Rattle.process_table.specs.States.{held_places, place_before}
use Rattle.process_table.specs.declared.states.StateChange.{StateChange}
use Rattle.upgrade_calls.proofs.Seen.{seen}

place_there : (c : StateChange) (l m : Option ProcessEntry) → seen l ≡ seen m → place_before c l ≡ place_before c m
place_there c None None same = refl
place_there c None (Some m) same = absurd (none-some (m.process.place, m.process.turn) same)
place_there c (Some l) None same = absurd (none-some (l.process.place, l.process.turn) (sym same))
place_there c (Some l) (Some m) same =
    ap (λ (x : Place × ℕ). at_place (x.1 - c.turns) (with_state c.state x.0) ∷ []) (same_Some (l.process.place, l.process.turn) (m.process.place, m.process.turn) same)

held_there : (cs : List StateChange) (t u : Table) (pid : ℕ) → seen (living pid t) ≡ seen (living pid u) → held_places cs t pid ≡ held_places cs u pid
held_there [] t u pid same = refl
held_there (c ∷ cs) t u pid same =
    let here = place_there c (living pid t) (living pid u) same in
    let others = held_there cs t u pid same in
    λ i. cond (nat_eq c.pid pid) (here i) (others i)

-- a place is no message and no job

no_message : (n : ℕ) (at : Place) (mailbox : List Term) → IsNotAmong (waiting mailbox) (at_place n at)
no_message n at [] = tt
no_message n at (m ∷ ms) = ((λ (e : in_mailbox m ≡ at_place n at). cc), no_message n at ms)

no_piece : (turn n : ℕ) (at : Place) (a : Activity) (mailbox : List Term) → IsNotAmong (ran_pieces turn a (waiting mailbox)) (at_place n at)
no_piece turn n at Idle mailbox = no_message n at mailbox
no_piece turn n at Suspended mailbox = no_message n at mailbox
no_piece turn n at (Runs r) mailbox = ((λ (e : in_job turn r.message ≡ at_place n at). cc), no_message n at mailbox)

not_among : (l m : Option ProcessEntry) (n : ℕ) (at : Place) → seen l ≡ seen m → IsNotAmong (living_pieces l) (at_place n at) → IsNotAmong (living_pieces m) (at_place n at)
not_among None None n at same lost = lost
not_among None (Some m) n at same lost = absurd (none-some (m.process.place, m.process.turn) same)
not_among (Some l) None n at same lost = tt
not_among (Some l) (Some m) n at same lost =
    let here = same_Some (l.process.place, l.process.turn) (m.process.place, m.process.turn) same in
    (subst (λ (x : Place × ℕ). at_place x.1 x.0 ≡ at_place n at → ⊥) here lost.0, no_piece m.process.turn n at m.process.activity m.process.mailbox)

place_lost : (c : StateChange) (k l m : Option ProcessEntry) → seen l ≡ seen m → AreNotAmong (living_pieces l) (place_before c k) → AreNotAmong (living_pieces m) (place_before c k)
place_lost c None l m same lost = tt
place_lost c (Some k) l m same lost = (not_among l m (k.process.turn - c.turns) (with_state c.state k.process.place) same lost.0, tt)

lost_there : (cs : List StateChange) (t : Table) (pid : ℕ) (l m : Option ProcessEntry) → seen l ≡ seen m → AreNotAmong (living_pieces l) (held_places cs t pid) → AreNotAmong (living_pieces m) (held_places cs t pid)
lost_there [] t pid l m same lost = tt
lost_there (c ∷ cs) t pid l m same lost =
    elim (nat_eq c.pid pid) as (λ b. AreNotAmong (living_pieces l) (cond b (place_before c (living pid t)) (held_places cs t pid)) → AreNotAmong (living_pieces m) (cond b (place_before c (living pid t)) (held_places cs t pid))) [
      | true ↦ λ here. place_lost c (living pid t) l m same here
      | false ↦ λ others. lost_there cs t pid l m same others
    ] lost

pub still_lost : (cs : List StateChange) (before t u : Table) → ((pid : ℕ) → seen (living pid t) ≡ seen (living pid u)) → HoldsLost (held_places cs t) before t → HoldsLost (held_places cs u) before u
still_lost cs before t u same lost pid =
    subst (λ held. AreLost held (pieces_at pid before) (pieces_at pid u)) (held_there cs t u pid (same pid))
    ((lost pid).0, lost_there cs t pid (living pid t) (living pid u) (same pid) (lost pid).1)

-- What holds only lost pieces, whatever was there before, holds none.

nobody : (pid : ℕ) → pieces_at pid empty_table ≡ []
nobody zero = refl
nobody (suc pid) = refl

none_in_front : (held others : List Piece) → [] ≡ held ++ others → held ≡ []
none_in_front [] others is = refl
none_in_front (x ∷ held) others is = absurd (let no : ⊥ = cc in no)

pub nothing_held : (held : ℕ → List Piece) (t : Table) → HoldsLost held empty_table t → (pid : ℕ) → held pid ≡ []
nothing_held held t lost pid = none_in_front (held pid) (lost pid).0.0 (sym (nobody pid) ∙ (lost pid).0.1)

pub more_lost : (held none : ℕ → List Piece) (before after : Table) → HoldsLost held before after → ((pid : ℕ) → none pid ≡ []) → HoldsLost (λ pid. held pid ++ none pid) before after
more_lost held none before after lost nothing pid =
    subst (λ (l : List Piece). AreLost l (pieces_at pid before) (pieces_at pid after)) (sym (ap (λ (l : List Piece). held pid ++ l) (nothing pid) ∙ append-nil (held pid))) (lost pid)
