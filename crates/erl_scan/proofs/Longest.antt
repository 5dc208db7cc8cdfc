-- The first mark of the table that characters begin with is the longest one.
use Rattle.std.proofs.Common.{◌≡◌, ℕ, ◌≤◌, Bool, true, false, ◌&&◌, ◌||◌, inl, inr, List, [], ◌∷◌, ◌++◌, length, Option, Some, None, refl, sym, ap, ◌∙◌, arith}
use Rattle.std.specs.Prelude.{nat_eq, nat_le}
use Rattle.std.specs.Str.{bytes_eq}
use Rattle.std.proofs.lemmas.Bool.{and_parts, or_cases, eq-eqb, eqb-true, leb-true}
use Rattle.std.proofs.lemmas.Slice.Eq.{bytes_eq-Decides}
use Rattle.erl_scan.specs.declared.mark.Mark.{Mark}
use Rattle.erl_scan.specs.declared.mark.Mark.TheVariants.{ExactlyEqual, ExactlyUnequal, Ellipsis, OpenBinary, LeftArrow, BinaryArrow, CloseBinary, GreaterOrEqual, Arrow, Subtract, Append, LessOrEqual, MapArrow, Equal, Unequal, BarBar, MapMatch, ColonColon, DotDot, MaybeMatch, OpenParen, CloseParen, OpenBrace, CloseBrace, OpenBracket, CloseBracket, Comma, Semicolon, Colon, Period, Bar, Send, Hash, Times, Plus, Minus, Divide, Less, Match, Greater, Question}
use Rattle.erl_scan.specs.Marks.{mark_text, all_marks, behind, Marked, or_else, mark_among, mark_in, MarksAreLongest}

behind-append : (ts rest : List ℕ) → behind ts (ts ++ rest) ≡ Some rest
behind-append [] rest = refl
behind-append (t ∷ ts) rest = rw (eq-eqb t t refl) (behind-append ts rest)

begins_if : (b : Bool) (t c : ℕ) (ts cs rest : List ℕ) → nat_eq t c ≡ b → (behind ts cs ≡ Some rest → cs ≡ ts ++ rest) → behind (t ∷ ts) (c ∷ cs) ≡ Some rest → c ∷ cs ≡ t ∷ ts ++ rest
begins_if true t c ts cs rest e tail found =
    let same : t ≡ c = eqb-true t c e in
    let more : behind ts cs ≡ Some rest = rw e at found in
    let split = tail more in cc
begins_if false t c ts cs rest e tail found =
    let none : None ≡ Some rest = rw e at found in cc

begins : (ts cs rest : List ℕ) → behind ts cs ≡ Some rest → cs ≡ ts ++ rest
begins [] cs rest found = cc
begins (t ∷ ts) [] rest found = cc
begins (t ∷ ts) (c ∷ cs) rest found =
    begins_if (nat_eq t c) t c ts cs rest refl (begins ts cs rest) found

-- some of these marks is written so
abbrev is_among : List ℕ → List Mark → Bool
is_among ts [] = false
is_among ts (m ∷ ms) = bytes_eq ts (mark_text m) || is_among ts ms

is_among-all : (m : Mark) → is_among (mark_text m) all_marks ≡ true
is_among-all ExactlyEqual = refl
is_among-all ExactlyUnequal = refl
is_among-all Ellipsis = refl
is_among-all OpenBinary = refl
is_among-all LeftArrow = refl
is_among-all BinaryArrow = refl
is_among-all CloseBinary = refl
is_among-all GreaterOrEqual = refl
is_among-all Arrow = refl
is_among-all Subtract = refl
is_among-all Append = refl
is_among-all LessOrEqual = refl
is_among-all MapArrow = refl
is_among-all Equal = refl
is_among-all Unequal = refl
is_among-all BarBar = refl
is_among-all MapMatch = refl
is_among-all ColonColon = refl
is_among-all DotDot = refl
is_among-all MaybeMatch = refl
is_among-all OpenParen = refl
is_among-all CloseParen = refl
is_among-all OpenBrace = refl
is_among-all CloseBrace = refl
is_among-all OpenBracket = refl
is_among-all CloseBracket = refl
is_among-all Comma = refl
is_among-all Semicolon = refl
is_among-all Colon = refl
is_among-all Period = refl
is_among-all Bar = refl
is_among-all Send = refl
is_among-all Hash = refl
is_among-all Times = refl
is_among-all Plus = refl
is_among-all Minus = refl
is_among-all Divide = refl
is_among-all Less = refl
is_among-all Match = refl
is_among-all Greater = refl
is_among-all Question = refl

-- none of these marks is longer
abbrev none_longer : ℕ → List Mark → Bool
none_longer n [] = true
none_longer n (m ∷ ms) = nat_le (length (mark_text m)) n && none_longer n ms

abbrev descends : List Mark → Bool
descends [] = true
descends (m ∷ ms) = none_longer (length (mark_text m)) ms && descends ms

same_text : (ts us : List ℕ) → bytes_eq ts us ≡ true → ts ≡ us
same_text ts us e = (bytes_eq-Decides ts us).0 e

le_none_longer : (n : ℕ) (ts : List ℕ) (ms : List Mark) → none_longer n ms ≡ true → is_among ts ms ≡ true → length ts ≤ n
le_none_longer n ts [] bound among = cc
le_none_longer n ts (m ∷ ms) bound among =
    let parts = and_parts (nat_le (length (mark_text m)) n) (none_longer n ms) bound in
    elim (or_cases _ _ among) [
      | inl here ↦
          let same = ap (λ (u : List ℕ). length u) (same_text ts (mark_text m) here) in
          let first = leb-true (length (mark_text m)) n parts.0 in omega arith
      | inr later ↦ le_none_longer n ts ms parts.1 later
    ]

-- one is found, and it is no shorter than these characters
abbrev Finds : List Mark → List ℕ → List ℕ → Type 0
Finds ms cs ts =
    (found : Marked) × (mark_among ms cs ≡ Some found) × (cs ≡ mark_text found.mark ++ found.rest) × (length ts ≤ length (mark_text found.mark))

finds_by : (o : Option (List ℕ)) (m : Mark) (ms : List Mark) (ts cs rest : List ℕ) → behind (mark_text m) cs ≡ o → descends (m ∷ ms) ≡ true → is_among ts (m ∷ ms) ≡ true → cs ≡ ts ++ rest → (descends ms ≡ true → is_among ts ms ≡ true → Finds ms cs ts) → Finds (m ∷ ms) cs ts
finds_by (Some r) m ms ts cs rest e sorted among split tail =
    let longest : length ts ≤ length (mark_text m) = elim (or_cases _ _ among) [
      | inl here ↦ let same = ap (λ (u : List ℕ). length u) (same_text ts (mark_text m) here) in omega arith
      | inr later ↦ le_none_longer (length (mark_text m)) ts ms (and_parts _ _ sorted).0 later
    ] in
    (record { mark = m; rest = r }, ap (λ o. or_else m o (mark_among ms cs)) e, begins (mark_text m) cs r e, longest)
finds_by None m ms ts cs rest e sorted among split tail =
    let others : mark_among (m ∷ ms) cs ≡ mark_among ms cs = ap (λ o. or_else m o (mark_among ms cs)) e in
    let later : is_among ts ms ≡ true = elim (or_cases _ _ among) [
      | inl here ↦
          let begun : behind (mark_text m) cs ≡ Some rest = rw (split, same_text ts (mark_text m) here) (behind-append (mark_text m) rest) in
          let never : None ≡ Some rest = sym e ∙ begun in cc
      | inr l ↦ l
    ] in
    let found = tail (and_parts _ _ sorted).1 later in
    (found.0, others ∙ found.1, found.2, found.3)

finds : (ms : List Mark) (ts cs rest : List ℕ) → descends ms ≡ true → is_among ts ms ≡ true → cs ≡ ts ++ rest → Finds ms cs ts
finds [] ts cs rest sorted among split = cc
finds (m ∷ ms) ts cs rest sorted among split =
    finds_by (behind (mark_text m) cs) m ms ts cs rest refl sorted among split (λ s a. finds ms ts cs rest s a split)

pub longest : MarksAreLongest
unfolding mark_in
longest m cs rest split =
    let found = finds all_marks (mark_text m) cs rest refl (is_among-all m) split in
    (found.0, found.1, record { begins = found.2; longest = found.3 })
