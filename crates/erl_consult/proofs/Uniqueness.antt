-- Bytes are a text of one list of terms, or refused for one reason at one byte: from the tokens being one.
use Rattle.std.proofs.Common.{◌≡◌, ℕ, zero, suc, ◌<◌, Bool, true, false, List, [], ◌∷◌, ◌++◌, length, refl, ap, sym, subst, ◌∙◌, arith, true≢false, ◌⊎◌, inl, inr}
use Rattle.std.specs.Str.{chars}
use Rattle.std.proofs.lemmas.Str.{utf8_valid_len-IsValidUpTo}
use Rattle.erl_scan.specs.declared.error.Fault.{Fault}
use Rattle.erl_chars.specs.Cursor.{byte_count, offset}
use Rattle.erl_chars.specs.Gaps.{after_gap}
use Rattle.erl_scan.specs.declared.token.Spot.{Spot}
use Rattle.erl_scan.specs.Tokens.{Next, ends, token, fault, Comes, Reads, ComesOne, ReadsOne}
use Rattle.erl_term.specs.Tree.{Trees}
use Rattle.erl_consult.specs.Grammar.{IsText}
use Rattle.erl_consult.specs.Faults.{spot_part, parts, IsFaulty, IsCutShort, NextFaults, NoneFaults, FaultsFirst, IsRefused, not_utf8, faults, IsTextOf, OneReading}
use Rattle.erl_consult.specs.Steps.{nothing_seen, nothing, goes, end_of}
use Rattle.erl_consult.proofs.Judged.{judged}
use Rattle.erl_consult.proofs.Judging.{show}
use Rattle.erl_consult.proofs.Reached.{take_all, same_goes, same_kind, same_offset}
use Rattle.erl_consult.proofs.Taking.{take_text}
use Rattle.erl_consult.proofs.Ends.{end-from_cut, fails-from_faulty, same_cut_kind, same_cut_offset, done-cut, stands-from_sound, stands-from_taken, sound-from_taken}

-- Lengths

order-suc : (m n : ℕ) → (m < n) ⊎ ((n < m) ⊎ (m ≡ n)) → (suc m < suc n) ⊎ ((suc n < suc m) ⊎ (suc m ≡ suc n))
order-suc m n (inl h) = inl (omega (arith, h))
order-suc m n (inr (inl h)) = inr (inl (omega (arith, h)))
order-suc m n (inr (inr h)) = inr (inr (ap suc h))

order : (m n : ℕ) → (m < n) ⊎ ((n < m) ⊎ (m ≡ n))
order zero zero = inr (inr refl)
order zero (suc n) = inl (omega arith)
order (suc m) zero = inr (inl (omega arith))
order (suc m) (suc n) = order-suc m n (order m n)

-- What comes next

abbrev is_token : Next → Bool
is_token ends = false
is_token (token t rest) = true
is_token (fault k at) = false

not_ends : (next : Next) → is_token next ≡ true → next ≡ ends → ⊥
not_ends next is e = true≢false (sym is ∙ ap is_token e)

-- Two readings of one text

-- the tokens up to one of them
record Upto (total : ℕ) (cs : List ℕ) (xs : List Spot) (y : Spot) : Type 0 where
  left : List ℕ
  rest : List ℕ
  read : Reads total cs xs left
  comes : Comes (after_gap left) (token y.what rest)
  at : y.at ≡ offset total (after_gap left)

upto : (total : ℕ) (cs : List ℕ) (xs : List Spot) (y : Spot) (zs : List Spot) (end : List ℕ) → Reads total cs (xs ++ y ∷ zs) end → Upto total cs xs y
upto total cs [] y zs end (rest, comes, at, later) = record { left = cs; rest = rest; read = refl; comes = comes; at = at }
upto total cs (x ∷ xs) y zs end (rest, comes, at, later) =
    let u = upto total rest xs y zs end later in
    record { left = u.left; rest = u.rest; read = (rest, comes, at, u.read); comes = u.comes; at = u.at }

-- a list at one of its offsets
record At (n : ℕ) (ys : List Spot) : Type 0 where
  front : List Spot
  here : Spot
  back : List Spot
  split : ys ≡ front ++ here ∷ back
  size : length front ≡ n

at_index : (n : ℕ) (ys : List Spot) → n < length ys → At n ys
at_index n [] less = absurd (omega (arith, less))
at_index zero (y ∷ ys) less = record { front = []; here = y; back = ys; split = refl; size = refl }
at_index (suc n) (y ∷ ys) less =
    let a = at_index n ys (omega (arith, less)) in
    record { front = y ∷ a.front; here = a.here; back = a.back; split = ap (λ t. y ∷ t) a.split; size = omega (arith, a.size) }

-- what the longer of two readings has behind the shorter
record Further (total : ℕ) (ys xs : List Spot) (left : List ℕ) : Type 0 where
  here : Spot
  back : List Spot
  rest : List ℕ
  split : ys ≡ xs ++ here ∷ back
  comes : Comes (after_gap left) (token here.what rest)
  at : here.at ≡ offset total (after_gap left)

further : ReadsOne → (total : ℕ) (cs : List ℕ) (xs ys : List Spot) (left end : List ℕ) → Reads total cs xs left → Reads total cs ys end → length xs < length ys → Further total ys xs left
further reads total cs xs ys left end shorter longer less =
    let a = at_index (length xs) ys less in
    let u = upto total cs a.front a.here a.back end (subst (λ t. Reads total cs t end) a.split longer) in
    let same = reads total cs a.front xs u.left left u.read shorter a.size in
    record {
      here = a.here;
      back = a.back;
      rest = u.rest;
      split = a.split ∙ ap (λ t. t ++ a.here ∷ a.back) same.0;
      comes = subst (λ l. Comes (after_gap l) (token a.here.what u.rest)) same.1 u.comes;
      at = u.at ∙ ap (λ l. offset total (after_gap l)) same.1;
    }

-- Faults

-- what comes next is not faulty twice over
one_fault : (cs : List ℕ) (before : List Spot) (here : List ℕ) (next : Next) (k l : Fault) (told offset' : ℕ) → NoneFaults before → NextFaults cs before here next k told → NextFaults cs before here next l offset' → (k ≡ l) × (told ≡ offset')
one_fault cs before here ends k l told offset' sound first second =
    let at = stands-from_sound before sound in
    let cut1 = end-from_cut before at.whole at.brackets at.last (byte_count cs) k told at.stands first in
    let cut2 = end-from_cut before at.whole at.brackets at.last (byte_count cs) l offset' at.stands second in
    (same_cut_kind k l told offset' (sym cut1 ∙ cut2), same_cut_offset k l told offset' (sym cut1 ∙ cut2))
one_fault cs before here (token t rest) k l told offset' sound first second =
    let at = stands-from_sound before sound in
    let b : Spot = record { what = t; at = offset (byte_count cs) here } in
    let fail1 = fails-from_faulty before at.whole at.brackets at.last b k told at.stands first in
    let fail2 = fails-from_faulty before at.whole at.brackets at.last b l offset' at.stands second in
    (same_kind k l told offset' (sym fail1 ∙ fail2), same_offset k l told offset' (sym fail1 ∙ fail2))
one_fault cs before here (fault kind at) k l told offset' sound first second = (first.0 ∙ sym second.0, first.1 ∙ sym second.1)

-- no fault stands before the first
no_earlier : ComesOne → ReadsOne → (cs : List ℕ) (k : Fault) (told : ℕ) (ys : List Spot) (end : List ℕ) → (f : FaultsFirst cs k told) → Reads (byte_count cs) cs ys end → NoneFaults ys → length f.before < length ys → ⊥
no_earlier comes reads cs k told ys end f read sound less =
    let more = further reads (byte_count cs) cs f.before ys f.reached.left end f.reached.read read less in
    let next : f.next ≡ token more.here.what more.rest = comes f.here f.next (token more.here.what more.rest) f.reached.comes (subst (λ h. Comes h (token more.here.what more.rest)) (sym f.reached.gap) more.comes) in
    let faulty : IsFaulty f.before (spot_part more.here) (offset (byte_count cs) f.here) k told = subst (λ n. NextFaults cs f.before f.here n k told) next f.faults in
    sound f.before more.back more.here more.split k told (subst (λ at. IsFaulty f.before (spot_part more.here) at k told) (ap (offset (byte_count cs)) f.reached.gap ∙ sym more.at) faulty)

first_fault : ComesOne → ReadsOne → (cs : List ℕ) (k l : Fault) (told offset' : ℕ) → FaultsFirst cs k told → FaultsFirst cs l offset' → (k ≡ l) × (told ≡ offset')
first_fault comes reads cs k l told offset' f g =
    by (order (length f.before) (length g.before))
  where
    by : (length f.before < length g.before) ⊎ ((length g.before < length f.before) ⊎ (length f.before ≡ length g.before)) → (k ≡ l) × (told ≡ offset')
    by (inl less) =
        absurd (no_earlier comes reads cs k told g.before g.reached.left f g.reached.read g.first less)
    by (inr (inl less)) =
        absurd (no_earlier comes reads cs l offset' f.before f.reached.left g f.reached.read f.first less)
    by (inr (inr same)) =
        let read = reads (byte_count cs) cs f.before g.before f.reached.left g.reached.left f.reached.read g.reached.read same in
        let here : f.here ≡ g.here = f.reached.gap ∙ (ap after_gap read.1 ∙ sym g.reached.gap) in
        let next : f.next ≡ g.next = comes f.here f.next g.next f.reached.comes (subst (λ h. Comes h g.next) (sym here) g.reached.comes) in
        let second : NextFaults cs f.before f.here f.next l offset' = subst (λ b. NextFaults cs b f.here f.next l offset') (sym read.0) (subst (λ h. NextFaults cs g.before h f.next l offset') (sym here) (subst (λ n. NextFaults cs g.before g.here n l offset') (sym next) g.faults)) in
        one_fault cs f.before f.here f.next k l told offset' f.first f.faults second

-- Texts

pub taken : (spots : List Spot) (ts : Trees) → IsText (parts spots) ts → take_all nothing_seen spots ≡ goes (record { whole = ts; open_ones = []; last = nothing })
taken spots ts is =
    take_text is.forms spots is.written is.fit is.tails is.nested ∙ ap (λ us. goes (record { whole = us; open_ones = []; last = nothing })) (sym is.meaning)

-- a text is not read further than to its end
no_longer : ReadsOne → (total : ℕ) (cs : List ℕ) (xs ys : List Spot) (left end : List ℕ) → Reads total cs xs left → after_gap left ≡ [] → Reads total cs ys end → length xs < length ys → ⊥
no_longer reads total cs xs ys left end whole ended longer less =
    let more = further reads total cs xs ys left end whole longer less in
    not_ends (token more.here.what more.rest) refl (subst (λ h. Comes h (token more.here.what more.rest)) ended more.comes)

same_spots : ReadsOne → (total : ℕ) (cs : List ℕ) (xs ys : List Spot) (left end : List ℕ) → Reads total cs xs left → after_gap left ≡ [] → Reads total cs ys end → after_gap end ≡ [] → xs ≡ ys
same_spots reads total cs xs ys left end one one_ends other other_ends =
    (reads total cs xs ys left end one other (only (length xs) (length ys) (no_longer reads total cs xs ys left end one one_ends other) (no_longer reads total cs ys xs end left other other_ends one))).0
  where
    only : (m n : ℕ) → (m < n → ⊥) → (n < m → ⊥) → m ≡ n
    only zero zero f g = refl
    only zero (suc n) f g = absurd (f (omega arith))
    only (suc m) zero f g = absurd (g (omega arith))
    only (suc m) (suc n) f g = ap suc (only m n (λ h. f (omega (arith, h))) (λ h. g (omega (arith, h))))

one_text : ReadsOne → (bytes : List ℕ) (ts us : Trees) → IsTextOf bytes ts → IsTextOf bytes us → ts ≡ us
one_text reads bytes ts us one other =
    let same = same_spots reads (byte_count (chars bytes)) (chars bytes) one.spots other.spots one.left other.left one.read one.ended other.read other.ended in
    ap (λ s. s.whole) (same_goes (record { whole = ts; open_ones = []; last = nothing }) (record { whole = us; open_ones = []; last = nothing }) (sym (taken one.spots ts one.text) ∙ (ap (take_all nothing_seen) same ∙ taken other.spots us other.text)))

-- a text has no fault
no_fault : ComesOne → ReadsOne → (bytes : List ℕ) (ts : Trees) (k : Fault) (told : ℕ) → IsTextOf bytes ts → FaultsFirst (chars bytes) k told → ⊥
no_fault comes reads bytes ts k told text f =
    by (order (length f.before) (length text.spots))
  where
    whole : take_all nothing_seen text.spots ≡ goes (record { whole = ts; open_ones = []; last = nothing })
    whole = taken text.spots ts text.text

    by : (length f.before < length text.spots) ⊎ ((length text.spots < length f.before) ⊎ (length f.before ≡ length text.spots)) → ⊥
    by (inl less) =
        no_earlier comes reads (chars bytes) k told text.spots text.left f text.read (sound-from_taken text.spots (record { whole = ts; open_ones = []; last = nothing }) whole) less
    by (inr (inl less)) =
        no_longer reads (byte_count (chars bytes)) (chars bytes) text.spots f.before text.left f.reached.left text.read text.ended f.reached.read less
    by (inr (inr same)) =
        let read = reads (byte_count (chars bytes)) (chars bytes) f.before text.spots f.reached.left text.left f.reached.read text.read same in
        let here : f.here ≡ [] = f.reached.gap ∙ (ap after_gap read.1 ∙ text.ended) in
        let next : f.next ≡ ends = subst (λ h. Comes h f.next) here f.reached.comes in
        let cut : IsCutShort f.before (byte_count (chars bytes)) k told = subst (λ n. NextFaults (chars bytes) f.before f.here n k told) next f.faults in
        let at = stands-from_taken f.before (record { whole = ts; open_ones = []; last = nothing }) (ap (take_all nothing_seen) read.0 ∙ whole) in
        let shown : show at.whole at.brackets at.last ≡ record { whole = ts; open_ones = []; last = nothing } = same_goes (show at.whole at.brackets at.last) (record { whole = ts; open_ones = []; last = nothing }) (sym at.stands.took ∙ (ap (take_all nothing_seen) read.0 ∙ whole)) in
        done-cut ts k told (sym (ap (λ s. end_of s (byte_count (chars bytes))) shown) ∙ end-from_cut f.before at.whole at.brackets at.last (byte_count (chars bytes)) k told at.stands cut)

-- Bytes

one_refusal : ComesOne → ReadsOne → (bytes : List ℕ) (k l : Fault) (told offset' : ℕ) → IsRefused bytes k told → IsRefused bytes l offset' → (k ≡ l) × (told ≡ offset')
one_refusal comes reads bytes k l told offset' (not_utf8 bad k_is up) (not_utf8 bad' l_is up') =
    (k_is ∙ sym l_is, sym (utf8_valid_len-IsValidUpTo bytes told up) ∙ utf8_valid_len-IsValidUpTo bytes offset' up')
one_refusal comes reads bytes k l told offset' (not_utf8 bad k_is up) (faults good f) = absurd (bad good)
one_refusal comes reads bytes k l told offset' (faults good f) (not_utf8 bad l_is up) = absurd (bad good)
one_refusal comes reads bytes k l told offset' (faults good f) (faults good' g) = first_fault comes reads (chars bytes) k l told offset' f g

not_both : ComesOne → ReadsOne → (bytes : List ℕ) (ts : Trees) (k : Fault) (told : ℕ) → IsTextOf bytes ts → IsRefused bytes k told → ⊥
not_both comes reads bytes ts k told text (not_utf8 bad k_is up) = bad text.utf8
not_both comes reads bytes ts k told text (faults good f) = no_fault comes reads bytes ts k told text f

pub one_reading : ComesOne → ReadsOne → (bytes : List ℕ) → OneReading bytes
one_reading comes reads bytes = record {
  terms = one_text reads bytes;
  faults = one_refusal comes reads bytes;
  apart = not_both comes reads bytes;
  judged = judged bytes;
}
