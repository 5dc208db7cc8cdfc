-- What a process that has ended holds is lost: nobody has it any more.
use Rattle.std.proofs.Common.{◌≡◌, ℕ, ◌⊎◌, true, false, cond, inl, inr, nat_eq, List, [], ◌∷◌, ◌++◌, Option, None, Some, refl, sym, ap, subst, ◌∙◌}
use Rattle.std.proofs.lemmas.Bool.Decides.{eqb_tells}
use Rattle.std.proofs.lemmas.List.{append-nil, append_assoc}
use Rattle.std.proofs.lemmas.Option.{none-some, same_Some}
use Rattle.process.specs.declared.named.CodeRef.{CodeRef}
use Rattle.process.specs.Ended.{did_by, ended_with}
use Rattle.process.specs.Process.{ProcessState}
use Rattle.process.specs.declared.activity.Activity.{Activity}
use Rattle.process.specs.declared.activity.Activity.TheVariants.{Idle, Suspended, Runs}
use Rattle.process_store.specs.declared.living.ProcessEntry.{ProcessEntry}
use Rattle.process_store.specs.Pieces.{AreLost, AreNotAmong, HoldsLost, Piece, living_pieces, pieces_at, pieces_of, ran_pieces, waiting, at_place}
use Rattle.process_store.specs.Table.{Table, living}
use Rattle.process_store.specs.Vacating.{vacated}
use Rattle.process_store.proofs.Vacating.{living_vacated, other_slot}
use Rattle.process_effects.specs.Ends.{ended_as, ended_of}
use Rattle.process_effects.specs.EndedPieces.{did_pieces, ended_pieces, held_by, held_by_all}
use Rattle.process_effects.specs.declared.ending.EndedProcess.{EndedProcess}
use Rattle.process_effects.specs.declared.ending.ToldProcess.{ToldProcess}

-- a process has the same pieces when it has ended

ran_and_did : (code : List CodeRef) (turn : ℕ) (a : Activity) (others : List Piece) → did_pieces turn (did_by code a) others ≡ ran_pieces turn a others
ran_and_did code turn Idle others = refl
ran_and_did code turn Suspended others = refl
ran_and_did code turn (Runs r) others = refl

pub same_pieces : (rests_in : Option CodeRef) (code : List CodeRef) (p : ProcessState) → ended_pieces (ended_with rests_in code p) ≡ pieces_of p
same_pieces rests_in code p = ap (λ ps. at_place p.turn p.place ∷ ps) (ran_and_did code p.turn p.activity (waiting p.mailbox))

-- among none there is nothing
pub not_among_none : (ps : List Piece) → AreNotAmong [] ps
not_among_none [] = tt
not_among_none (p ∷ ps) = (tt, not_among_none ps)

-- The processes of some pids have left whole, and all others are as they were.
abbrev pub HaveLeft : (ℕ → List Piece) → Table → Table → Type 0
HaveLeft held before now = (pid : ℕ) →
    ((living pid now ≡ living pid before) × (held pid ≡ [])) ⊎ ((living pid now ≡ None) × (held pid ≡ pieces_at pid before))

pub left_lost : (held : ℕ → List Piece) (before now : Table) → HaveLeft held before now → HoldsLost held before now
left_lost held before now left pid = elim (left pid) [
  | inl same ↦ subst (λ h. AreLost h (pieces_at pid before) (pieces_at pid now)) (sym same.1) ((pieces_at pid before, refl), tt)
  | inr gone ↦ subst (λ h. AreLost h (pieces_at pid before) (pieces_at pid now)) (sym gone.1)
      (([], sym (append-nil (pieces_at pid before))), subst (λ o. AreNotAmong (living_pieces o) (pieces_at pid before)) (sym gone.0) (not_among_none (pieces_at pid before)))
]

pub none_left : (before : Table) → HaveLeft (held_by_all []) before before
none_left before pid = inl (refl, refl)

-- of a pid that is its own, and of another

held_here : (e : EndedProcess) (pid : ℕ) → nat_eq e.pid pid ≡ true → held_by e pid ≡ ended_pieces e.process
held_here e pid is = ap (λ b. cond b (ended_pieces e.process) []) is

held_elsewhere : (e : EndedProcess) (pid : ℕ) → nat_eq e.pid pid ≡ false → held_by e pid ≡ []
held_elsewhere e pid is = ap (λ b. cond b (ended_pieces e.process) []) is

pub held_by_more : (es : List EndedProcess) (e : EndedProcess) (pid : ℕ) → held_by_all (es ++ e ∷ []) pid ≡ held_by_all es pid ++ held_by e pid
held_by_more [] e pid = append-nil (held_by e pid)
held_by_more (x ∷ es) e pid = ap (λ ps. held_by x pid ++ ps) (held_by_more es e pid) ∙ sym (append_assoc (held_by x pid) (held_by_all es pid) (held_by e pid))

-- what is told of a process that has ended
ended_is : (p : ToldProcess) (o : Option ProcessEntry) (e : EndedProcess) → Some e ≡ ended_of p o → (e.pid ≡ p.pid) × (ended_pieces e.process ≡ living_pieces o)
ended_is p None e is = absurd (none-some e (sym is))
ended_is p (Some l) e is =
    let same : e ≡ ended_as p.pid p.told.rests_in p.told.code l = same_Some e (ended_as p.pid p.told.rests_in p.told.code l) is in
    (ap (λ x. x.pid) same, ap (λ x. ended_pieces x.process) same ∙ same_pieces p.told.rests_in p.told.code l.process)

-- one more has left

was_alive : (p : ToldProcess) (o : Option ProcessEntry) (e : EndedProcess) → Some e ≡ ended_of p o → o ≡ None → ⊥
was_alive p None e is none = none-some e (sym is)
was_alive p (Some l) e is none = none-some l (sym none)

pub more_left : (es now : List EndedProcess) (e : EndedProcess) (p : ToldProcess) (before t after : Table) → Some e ≡ ended_of p (living p.pid t) → after ≡ vacated p.pid t → now ≡ es ++ e ∷ [] → HaveLeft (held_by_all es) before t → HaveLeft (held_by_all now) before after
more_left es now e p before t after ends gone more left =
    subst (λ x. HaveLeft (held_by_all x) before after) (sym more) (λ pid.
    let told = ended_is p (living p.pid t) e ends in
    elim (eqb_tells p.pid pid) [
      | inl here ↦
          let left_now : living pid after ≡ None = ap (living pid) gone ∙ ap (λ k. living k (vacated p.pid t)) (sym here.1) ∙ living_vacated t.slots p.pid in
          let own : held_by e pid ≡ living_pieces (living pid t) = held_here e pid (ap (λ k. nat_eq k pid) told.0 ∙ here.0) ∙ told.1 ∙ ap (λ k. living_pieces (living k t)) here.1 in
          elim (left pid) [
            | inl same ↦ inr (left_now, held_by_more es e pid ∙ (λ i. same.1 i ++ own i) ∙ ap living_pieces same.0)
            | inr none ↦ absurd (was_alive p (living p.pid t) e ends (ap (λ k. living k t) here.1 ∙ none.0))
          ]
      | inr apart ↦
          let as_before : living pid after ≡ living pid t = ap (living pid) gone ∙ other_slot (λ o. None) t.slots p.pid pid apart.1 in
          let none : held_by_all (es ++ e ∷ []) pid ≡ held_by_all es pid = held_by_more es e pid ∙ ap (λ ps. held_by_all es pid ++ ps) (held_elsewhere e pid (ap (λ k. nat_eq k pid) told.0 ∙ apart.0)) ∙ append-nil (held_by_all es pid) in
          elim (left pid) [
            | inl same ↦ inl (as_before ∙ same.0, none ∙ same.1)
            | inr gone_before ↦ inr (as_before ∙ gone_before.0, none ∙ gone_before.1)
          ]
    ])

-- one has left, and its record holds its pieces
pub one_left : (e : EndedProcess) (p : ToldProcess) (before after : Table) → Some e ≡ ended_of p (living p.pid before) → after ≡ vacated p.pid before → HoldsLost (held_by e) before after
one_left e p before after ends gone =
    left_lost (held_by e) before after (λ pid. subst (λ h. ((living pid after ≡ living pid before) × (h ≡ [])) ⊎ ((living pid after ≡ None) × (h ≡ pieces_at pid before)))
    (append-nil (held_by e pid)) (more_left [] (e ∷ []) e p before before after ends gone refl (none_left before) pid))
