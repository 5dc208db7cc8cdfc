-- The marks that are written with one character and begin no longer one.
use Rattle.std.proofs.Common.{◌≡◌, ℕ, inl, inr, false, length, Option, Some, refl, sym}
use Rattle.std.specs.Prelude.{nat_eq}
use Rattle.std.proofs.lemmas.Bool.{cases_eq, ne_eqb}
use Rattle.erl_scan.specs.declared.mark.Mark.{Mark}
use Rattle.erl_scan.specs.declared.mark.Mark.TheVariants.{OpenParen, CloseParen, OpenBrace, CloseBrace, OpenBracket, CloseBracket, Comma, Semicolon, Send, Hash, Times}
use Rattle.erl_scan.specs.Marks.{mark_text}
use Rattle.erl_scan.specs.Lookahead.{alone, mark_by}

differs : (a c : ℕ) → (c ≡ a → ⊥) → nat_eq a c ≡ false
differs a c other = ne_eqb a c (λ e. other (sym e))

is_one : (m n : Mark) (by : Option Mark) → Some m ≡ Some n → by ≡ Some n → length (mark_text n) ≡ 1 → (Some m ≡ by) × (length (mark_text m) ≡ 1)
is_one m n by e reads one =
    let same : m ≡ n = cc in
    (rw reads (rw same refl), rw same one)

-- whatever characters follow, the mark is read, and it has one character
pub alone-first : (c d e : ℕ) (m : Mark) → Some m ≡ alone c → (Some m ≡ mark_by c d e) × (length (mark_text m) ≡ 1)
alone-first c d e m is =
    elim (cases_eq c 40) [
      | inl p ↦ rw p (is_one m OpenParen _ (rw p at is) refl refl)
      | inr n ↦ let n40 : nat_eq 40 c ≡ false = differs 40 c n in
          elim (cases_eq c 41) [
            | inl p ↦ rw p (is_one m CloseParen _ (rw p at is) refl refl)
            | inr n ↦ let n41 : nat_eq 41 c ≡ false = differs 41 c n in
                elim (cases_eq c 123) [
                  | inl p ↦ rw p (is_one m OpenBrace _ (rw p at is) refl refl)
                  | inr n ↦ let n123 : nat_eq 123 c ≡ false = differs 123 c n in
                      elim (cases_eq c 125) [
                        | inl p ↦ rw p (is_one m CloseBrace _ (rw p at is) refl refl)
                        | inr n ↦ let n125 : nat_eq 125 c ≡ false = differs 125 c n in
                            elim (cases_eq c 91) [
                              | inl p ↦ rw p (is_one m OpenBracket _ (rw p at is) refl refl)
                              | inr n ↦ let n91 : nat_eq 91 c ≡ false = differs 91 c n in
                                  elim (cases_eq c 93) [
                                    | inl p ↦ rw p (is_one m CloseBracket _ (rw p at is) refl refl)
                                    | inr n ↦ let n93 : nat_eq 93 c ≡ false = differs 93 c n in
                                        elim (cases_eq c 44) [
                                          | inl p ↦ rw p (is_one m Comma _ (rw p at is) refl refl)
                                          | inr n ↦ let n44 : nat_eq 44 c ≡ false = differs 44 c n in
                                              elim (cases_eq c 59) [
                                                | inl p ↦ rw p (is_one m Semicolon _ (rw p at is) refl refl)
                                                | inr n ↦ let n59 : nat_eq 59 c ≡ false = differs 59 c n in
                                                    elim (cases_eq c 33) [
                                                      | inl p ↦ rw p (is_one m Send _ (rw p at is) refl refl)
                                                      | inr n ↦ let n33 : nat_eq 33 c ≡ false = differs 33 c n in
                                                          elim (cases_eq c 35) [
                                                            | inl p ↦ rw p (is_one m Hash _ (rw p at is) refl refl)
                                                            | inr n ↦ let n35 : nat_eq 35 c ≡ false = differs 35 c n in
                                                                elim (cases_eq c 42) [
                                                                  | inl p ↦ rw p (is_one m Times _ (rw p at is) refl refl)
                                                                  | inr n ↦ let n42 : nat_eq 42 c ≡ false = differs 42 c n in
                                                                      let none = rw (n40, n41, n123, n125, n91, n93, n44, n59, n33, n35, n42) at is in cc
                                                                ]
                                                          ]
                                                    ]
                                              ]
                                        ]
                                  ]
                            ]
                      ]
                ]
          ]
    ]
