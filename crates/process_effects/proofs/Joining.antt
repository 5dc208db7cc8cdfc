-- A process that has just started has no open call, so an answer goes before a start, or behind it.
use Rattle.std.proofs.Common.{◌≡◌, inl, inr, ℕ, zero, suc, ◌+◌, ◌<◌, Bool, true, false, cond, not, nat_lt, List, [], ◌∷◌, ◌++◌, length, position, Option, None, Some, option_map, refl, sym, ap, subst, ◌∙◌, arith}
use Rattle.std.proofs.lemmas.List.Quantifiers.{position-Some}
use Rattle.std.proofs.lemmas.Bool.{cases_lt, le-ltb, lt-ltb}
use Rattle.std.proofs.lemmas.Option.{none-some, same_Some}
use Rattle.std.specs.List.{position_or_len}
use Rattle.values.proofs.Edits.{length-changed_at}
use Rattle.erl_semantics.specs.declared.acts.Place.{Place}
use Rattle.erl_semantics.specs.declared.instance.Instance.{Instance}
use Rattle.process.specs.Process.{started}
use Rattle.process_effects.specs.Acts.{answered, closed_at, reply_of}
use Rattle.process_effects.specs.Parted.{all_answered, answers_told}
use Rattle.process_effects.specs.declared.answers.Answer.{Answer}
use Rattle.process_index.specs.declared.calls.Call.{Call}
use Rattle.process_store.proofs.Slots.{living_before}
use Rattle.process_store.specs.Changes.{call_at, closed_living, owner_at, owner_of}
use Rattle.process_store.specs.Table.{Table, added, changed, changed_slots, is_asked, living}
use Rattle.process_store.specs.declared.living.ProcessEntry.{ProcessEntry}

-- who is found, where the last is not

map_found : (b : Bool) (n : ℕ) → option_map suc (cond b (Some n) None) ≡ cond b (Some (suc n)) None
map_found true n = refl
map_found false n = refl

same_lt : (a b : ℕ) → nat_lt (1 + a) (suc b) ≡ nat_lt a b
same_lt a b = elim (cases_lt a b) [
  | inl below ↦ lt-ltb (1 + a) (suc b) (omega (arith, below)) ∙ sym (lt-ltb a b below)
  | inr past ↦ le-ltb (1 + a) (suc b) (omega (arith, past)) ∙ sym (le-ltb a b past)
]

found_later : (a b : ℕ) → cond (nat_lt (1 + a) (suc b)) (Some (1 + a)) None ≡ option_map suc (cond (nat_lt a b) (Some a) None)
found_later a b =
    let next : 1 + a ≡ suc a = omega arith in
    (λ i. cond (same_lt a b i) (Some (next i)) None) ∙ sym (map_found (nat_lt a b) a)

pub found_before : (test : Option ProcessEntry → Bool) (s : Option ProcessEntry) → test s ≡ false → (slots : List (Option ProcessEntry)) → position test (slots ++ s ∷ []) ≡ position test slots
found_before test s fails [] = ap (λ b. cond (nat_lt (cond (not b) 1 0) 1) (Some (cond (not b) 1 0)) None) fails
found_before test s fails (x ∷ xs) =
    let more = xs ++ s ∷ [] in
    elim (test x) as (λ b. cond (nat_lt (cond (not b) (1 + position_or_len test more) 0) (suc (length more))) (Some (cond (not b) (1 + position_or_len test more) 0)) None ≡ cond (nat_lt (cond (not b) (1 + position_or_len test xs) 0) (suc (length xs))) (Some (cond (not b) (1 + position_or_len test xs) 0)) None) [
      | true ↦ ap (λ b. cond b (Some 0) None) (lt-ltb 0 (suc (length more)) (omega arith) ∙ sym (lt-ltb 0 (suc (length xs)) (omega arith)))
      | false ↦ found_later (position_or_len test more) (length more) ∙ ap (option_map suc) (found_before test s fails xs) ∙ sym (found_later (position_or_len test xs) (length xs))
    ]

-- a change of one of the others
changed_before : (f : ProcessEntry → ProcessEntry) (slots : List (Option ProcessEntry)) (s : Option ProcessEntry) (p : ℕ) → p < length slots → changed_slots f p (slots ++ s ∷ []) ≡ changed_slots f p slots ++ s ∷ []
changed_before f [] s p within = absurd (omega (arith, within))
changed_before f (x ∷ xs) s zero within = refl
changed_before f (x ∷ xs) s (suc p) within = ap (λ ys. x ∷ ys) (changed_before f xs s p (omega (arith, within)))

module _ (name : Option (List ℕ)) (at : Place) (rests : Option Instance) where
  abbrev newcomer : ℕ → Option ProcessEntry
  newcomer pid = Some (record { process = started pid name at rests; calls = [] })

  changed_added : (f : ProcessEntry → ProcessEntry) (t : Table) (p : ℕ) → p < length t.slots → changed f p (added name at rests t) ≡ added name at rests (changed f p t)
  changed_added f t p within =
      ap (λ xs. record { slots = xs }) (changed_before f t.slots (newcomer (length t.slots)) p within ∙ ap (λ n. changed_slots f p t.slots ++ newcomer n ∷ []) (sym (length-changed_at (option_map f) t.slots p)))

  owner_here : (number : ℕ) (t : Table) (o : Option ℕ) → ((p : ℕ) → o ≡ Some p → p < length t.slots) → owner_at number o (added name at rests t) ≡ owner_at number o t
  owner_here number t None within = refl
  owner_here number t (Some p) within =
      let early = within p refl in
      ap (λ l. option_map (λ (c : Call). (p, c)) (call_at number l)) (living_before t.slots (newcomer (length t.slots)) p (λ same. omega (arith, same, early)))

  asked_within : (number : ℕ) (t : Table) (p : ℕ) → position (is_asked number) t.slots ≡ Some p → p < length t.slots
  asked_within number t p is = (position-Some (is_asked number) t.slots p None is).0

  pub owner_added : (number : ℕ) (t : Table) → owner_of number (added name at rests t) ≡ owner_of number t
  owner_added number t =
      ap (λ o. owner_at number o (added name at rests t)) (found_before (is_asked number) (newcomer (length t.slots)) refl t.slots) ∙ owner_here number t (position (is_asked number) t.slots) (asked_within number t)

  owner_within : (number : ℕ) (t : Table) (o : Option ℕ) → ((p : ℕ) → o ≡ Some p → p < length t.slots) → (it : ℕ × Call) → owner_at number o t ≡ Some it → it.0 < length t.slots
  owner_within number t None within it is = absurd (none-some it is)
  owner_within number t (Some p) within it is =
      elim (call_at number (living p t)) as (λ x. option_map (λ (c : Call). (p, c)) x ≡ Some it → it.0 < length t.slots) [
        | None ↦ λ e. absurd (none-some it e)
        | Some c ↦ λ e. subst (λ (x : ℕ × Call). x.0 < length t.slots) (same_Some (p, c) it e) (within p refl)
      ] is

  closed_added : (number : ℕ) (t : Table) (o : Option (ℕ × Call)) → owner_of number t ≡ o → closed_at o (added name at rests t) ≡ added name at rests (closed_at o t)
  closed_added number t None is = refl
  closed_added number t (Some it) is =
      changed_added (closed_living it.1) t it.0 (owner_within number t (position (is_asked number) t.slots) (asked_within number t) it is)

  pub answered_added : (number : ℕ) (t : Table) → answered number (added name at rests t) ≡ added name at rests (answered number t)
  answered_added number t =
      ap (λ o. closed_at o (added name at rests t)) (owner_added number t) ∙ closed_added number t (owner_of number t) refl

  pub all_answered_added : (others : List Answer) (t : Table) → all_answered others (added name at rests t) ≡ added name at rests (all_answered others t)
  all_answered_added [] t = refl
  all_answered_added (a ∷ others) t =
      ap (all_answered others) (answered_added a.number t) ∙ all_answered_added others (answered a.number t)

  pub told_added : (others : List Answer) (t : Table) → answers_told others (added name at rests t) ≡ answers_told others t
  told_added [] t = refl
  told_added (a ∷ others) t =
      ap (λ o. reply_of a.reply o ++ answers_told others (answered a.number (added name at rests t))) (owner_added a.number t) ∙ ap (λ r. reply_of a.reply (owner_of a.number t) ++ r) (ap (answers_told others) (answered_added a.number t) ∙ told_added others (answered a.number t))
