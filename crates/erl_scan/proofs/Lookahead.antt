-- The mark that characters begin with, by the first three of them.
use Rattle.std.proofs.Common.{◌≡◌, ℕ, zero, suc, inl, inr, Bool, true, false, not, ◌&&◌, List, [], ◌∷◌, length, drop, get_or, Option, Some, None, refl, sym, ap, ◌∙◌}
use Rattle.std.specs.Prelude.{nat_eq, if◌then◌else◌}
use Rattle.std.proofs.lemmas.Bool.{cases_Bool, cases_eq, ne_eqb, and_parts}
use Rattle.erl_scan.specs.declared.mark.Mark.{Mark}
use Rattle.erl_scan.specs.declared.mark.Mark.TheVariants.{ExactlyEqual, ExactlyUnequal, Ellipsis, OpenBinary, LeftArrow, BinaryArrow, CloseBinary, GreaterOrEqual, Arrow, Subtract, Append, LessOrEqual, MapArrow, Equal, Unequal, BarBar, MapMatch, ColonColon, DotDot, MaybeMatch, OpenParen, CloseParen, OpenBrace, CloseBrace, OpenBracket, CloseBracket, Comma, Semicolon, Colon, Period, Bar, Send, Hash, Times, Plus, Minus, Divide, Less, Match, Greater, Question}
use Rattle.erl_scan.specs.Marks.{mark_text, all_marks, behind, Marked, or_else, mark_among, mark_in}
use Rattle.erl_scan.specs.Lookahead.{with_rest, behind_equals, behind_less, behind_greater, behind_minus, behind_colon, behind_dot, longer_if, mark_by}

-- the first characters, with 0 for each that there is none for
abbrev pub padded : ℕ → List ℕ → List ℕ
padded zero cs = []
padded (suc n) [] = 0 ∷ padded n []
padded (suc n) (c ∷ cs) = c ∷ padded n cs

padded-three : (cs : List ℕ) → padded 3 cs ≡ get_or cs 0 0 ∷ get_or cs 1 0 ∷ get_or cs 2 0 ∷ []
padded-three [] = refl
padded-three (c ∷ []) = refl
padded-three (c ∷ d ∷ []) = refl
padded-three (c ∷ d ∷ e ∷ cs) = refl

-- at most so many characters, none of them 0
abbrev fits : ℕ → List ℕ → Bool
fits n [] = true
fits zero (t ∷ ts) = false
fits (suc n) (t ∷ ts) = not (nat_eq t 0) && fits n ts

abbrev if_found : Option (List ℕ) → List ℕ → Option (List ℕ)
if_found None rest = None
if_found (Some r) rest = Some rest

false_from_not : (b : Bool) → not b ≡ true → b ≡ false
false_from_not false e = refl
false_from_not true e = cc

behind-padded : (n : ℕ) (ts cs : List ℕ) → fits n ts ≡ true → behind ts cs ≡ if_found (behind ts (padded n cs)) (drop (length ts) cs)
behind-padded n [] cs fit = refl
behind-padded zero (t ∷ ts) cs fit = cc
behind-padded (suc n) (t ∷ ts) [] fit =
    let zero_first = false_from_not (nat_eq t 0) (and_parts (not (nat_eq t 0)) (fits n ts) fit).0 in rw zero_first
behind-padded (suc n) (t ∷ ts) (c ∷ cs) fit =
    elim (cases_Bool (nat_eq t c)) [
      | inl e ↦ rw e (behind-padded n ts cs (and_parts (not (nat_eq t 0)) (fits n ts) fit).1)
      | inr e ↦ rw e
    ]

-- which mark it is
abbrev pub kind_of : Option Marked → Option Mark
kind_of None = None
kind_of (Some m) = Some m.mark

fits-text : (m : Mark) → fits 3 (mark_text m) ≡ true
fits-text ExactlyEqual = refl
fits-text ExactlyUnequal = refl
fits-text Ellipsis = refl
fits-text OpenBinary = refl
fits-text LeftArrow = refl
fits-text BinaryArrow = refl
fits-text CloseBinary = refl
fits-text GreaterOrEqual = refl
fits-text Arrow = refl
fits-text Subtract = refl
fits-text Append = refl
fits-text LessOrEqual = refl
fits-text MapArrow = refl
fits-text Equal = refl
fits-text Unequal = refl
fits-text BarBar = refl
fits-text MapMatch = refl
fits-text ColonColon = refl
fits-text DotDot = refl
fits-text MaybeMatch = refl
fits-text OpenParen = refl
fits-text CloseParen = refl
fits-text OpenBrace = refl
fits-text CloseBrace = refl
fits-text OpenBracket = refl
fits-text CloseBracket = refl
fits-text Comma = refl
fits-text Semicolon = refl
fits-text Colon = refl
fits-text Period = refl
fits-text Bar = refl
fits-text Send = refl
fits-text Hash = refl
fits-text Times = refl
fits-text Plus = refl
fits-text Minus = refl
fits-text Divide = refl
fits-text Less = refl
fits-text Match = refl
fits-text Greater = refl
fits-text Question = refl

or_else-padded : (m : Mark) (found : Option (List ℕ)) (all : Option (List ℕ)) (cs : List ℕ) (others padded_others : Option Marked) → all ≡ if_found found (drop (length (mark_text m)) cs) → others ≡ with_rest (kind_of padded_others) cs → or_else m all others ≡ with_rest (kind_of (or_else m found padded_others)) cs
or_else-padded m None all cs others padded_others e h = rw e h
or_else-padded m (Some r) all cs others padded_others e h = rw e

mark_among-padded : (ms : List Mark) (cs : List ℕ) → mark_among ms cs ≡ with_rest (kind_of (mark_among ms (padded 3 cs))) cs
mark_among-padded [] cs = refl
mark_among-padded (m ∷ ms) cs =
    or_else-padded m _ _ cs _ _ (behind-padded 3 (mark_text m) cs (fits-text m)) (mark_among-padded ms cs)

-- By tests in the table's order

abbrev found_if : Bool → List ℕ → Option (List ℕ)
found_if b rest = if b then Some rest else None

two_tests : (a b : Bool) (m : Mark) (r : List ℕ) (others : Option Marked) → kind_of (or_else m (if a then found_if b r else None) others) ≡ (if a && b then Some m else kind_of others)
two_tests true true m r others = refl
two_tests true false m r others = refl
two_tests false b m r others = refl

one_test : (a : Bool) (m : Mark) (r : List ℕ) (others : Option Marked) → kind_of (or_else m (found_if a r) others) ≡ (if a then Some m else kind_of others)
one_test true m r others = refl
one_test false m r others = refl

some_if : (a : Bool) (m n : Mark) → (if a then Some m else Some n) ≡ Some (if a then m else n)
some_if true m n = refl
some_if false m n = refl

-- By the first character

abbrev of_three : ℕ → ℕ → ℕ → Option Mark
of_three c d e = kind_of (mark_among all_marks (c ∷ d ∷ e ∷ []))

begins-61 : (d e : ℕ) → of_three 61 d e ≡ Some (behind_equals d e)
begins-61 d e = simp (two_tests, one_test, some_if)

begins-60 : (d e : ℕ) → of_three 60 d e ≡ Some (behind_less d)
begins-60 d e = simp (two_tests, one_test, some_if)

begins-62 : (d e : ℕ) → of_three 62 d e ≡ Some (behind_greater d)
begins-62 d e = simp (two_tests, one_test, some_if)

begins-45 : (d e : ℕ) → of_three 45 d e ≡ Some (behind_minus d)
begins-45 d e = simp (two_tests, one_test, some_if)

begins-58 : (d e : ℕ) → of_three 58 d e ≡ Some (behind_colon d)
begins-58 d e = simp (two_tests, one_test, some_if)

begins-46 : (d e : ℕ) → of_three 46 d e ≡ Some (behind_dot d e)
begins-46 d e = simp (two_tests, one_test, some_if)

begins-43 : (d e : ℕ) → of_three 43 d e ≡ Some (longer_if 43 d Append Plus)
begins-43 d e = simp (two_tests, one_test, some_if)

begins-47 : (d e : ℕ) → of_three 47 d e ≡ Some (longer_if 61 d Unequal Divide)
begins-47 d e = simp (two_tests, one_test, some_if)

begins-124 : (d e : ℕ) → of_three 124 d e ≡ Some (longer_if 124 d BarBar Bar)
begins-124 d e = simp (two_tests, one_test, some_if)

begins-63 : (d e : ℕ) → of_three 63 d e ≡ Some (longer_if 61 d MaybeMatch Question)
begins-63 d e = simp (two_tests, one_test, some_if)

differs : (a c : ℕ) → (c ≡ a → ⊥) → nat_eq a c ≡ false
differs a c other = ne_eqb a c (λ e. other (sym e))

of_three-mark_by : (c d e : ℕ) → of_three c d e ≡ mark_by c d e
of_three-mark_by c d e =
    elim (cases_eq c 61) [
      | inl p ↦ rw p (begins-61 d e)
      | inr n ↦ let n61 : nat_eq 61 c ≡ false = differs 61 c n in elim (cases_eq c 60) [
        | inl p ↦ rw p (begins-60 d e)
        | inr n ↦ let n60 : nat_eq 60 c ≡ false = differs 60 c n in elim (cases_eq c 62) [
          | inl p ↦ rw p (begins-62 d e)
          | inr n ↦ let n62 : nat_eq 62 c ≡ false = differs 62 c n in elim (cases_eq c 45) [
            | inl p ↦ rw p (begins-45 d e)
            | inr n ↦ let n45 : nat_eq 45 c ≡ false = differs 45 c n in elim (cases_eq c 58) [
              | inl p ↦ rw p (begins-58 d e)
              | inr n ↦ let n58 : nat_eq 58 c ≡ false = differs 58 c n in elim (cases_eq c 46) [
                | inl p ↦ rw p (begins-46 d e)
                | inr n ↦ let n46 : nat_eq 46 c ≡ false = differs 46 c n in elim (cases_eq c 43) [
                  | inl p ↦ rw p (begins-43 d e)
                  | inr n ↦ let n43 : nat_eq 43 c ≡ false = differs 43 c n in elim (cases_eq c 47) [
                    | inl p ↦ rw p (begins-47 d e)
                    | inr n ↦ let n47 : nat_eq 47 c ≡ false = differs 47 c n in elim (cases_eq c 124) [
                      | inl p ↦ rw p (begins-124 d e)
                      | inr n ↦ let n124 : nat_eq 124 c ≡ false = differs 124 c n in elim (cases_eq c 63) [
                        | inl p ↦ rw p (begins-63 d e)
                        | inr n ↦ let n63 : nat_eq 63 c ≡ false = differs 63 c n in elim (cases_eq c 40) [
                          | inl p ↦ rw p
                          | inr n ↦ let n40 : nat_eq 40 c ≡ false = differs 40 c n in elim (cases_eq c 41) [
                            | inl p ↦ rw p
                            | inr n ↦ let n41 : nat_eq 41 c ≡ false = differs 41 c n in elim (cases_eq c 123) [
                              | inl p ↦ rw p
                              | inr n ↦ let n123 : nat_eq 123 c ≡ false = differs 123 c n in elim (cases_eq c 125) [
                                | inl p ↦ rw p
                                | inr n ↦ let n125 : nat_eq 125 c ≡ false = differs 125 c n in elim (cases_eq c 91) [
                                  | inl p ↦ rw p
                                  | inr n ↦ let n91 : nat_eq 91 c ≡ false = differs 91 c n in elim (cases_eq c 93) [
                                    | inl p ↦ rw p
                                    | inr n ↦ let n93 : nat_eq 93 c ≡ false = differs 93 c n in elim (cases_eq c 44) [
                                      | inl p ↦ rw p
                                      | inr n ↦ let n44 : nat_eq 44 c ≡ false = differs 44 c n in elim (cases_eq c 59) [
                                        | inl p ↦ rw p
                                        | inr n ↦ let n59 : nat_eq 59 c ≡ false = differs 59 c n in elim (cases_eq c 33) [
                                          | inl p ↦ rw p
                                          | inr n ↦ let n33 : nat_eq 33 c ≡ false = differs 33 c n in elim (cases_eq c 35) [
                                            | inl p ↦ rw p
                                            | inr n ↦ let n35 : nat_eq 35 c ≡ false = differs 35 c n in elim (cases_eq c 42) [
                                              | inl p ↦ rw p
                                              | inr n ↦ let n42 : nat_eq 42 c ≡ false = differs 42 c n in simp (n61, n60, n62, n45, n58, n46, n43, n47, n124, n63, n40, n41, n123, n125, n91, n93, n44, n59, n33, n35, n42)
                                            ]
                                          ]
                                        ]
                                      ]
                                    ]
                                  ]
                                ]
                              ]
                            ]
                          ]
                        ]
                      ]
                    ]
                  ]
                ]
              ]
            ]
          ]
        ]
      ]
    ]

-- the mark that a text begins with, and what is left behind it
pub mark_in-ahead : (cs : List ℕ) → mark_in cs ≡ with_rest (mark_by (get_or cs 0 0) (get_or cs 1 0) (get_or cs 2 0)) cs
unfolding mark_in
mark_in-ahead cs =
    mark_among-padded all_marks cs ∙ ap (λ ds. with_rest (kind_of (mark_among all_marks ds)) cs) (padded-three cs) ∙ ap (λ m. with_rest m cs) (of_three-mark_by (get_or cs 0 0) (get_or cs 1 0) (get_or cs 2 0))
