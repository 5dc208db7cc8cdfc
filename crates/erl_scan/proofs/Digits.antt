-- Numbers in 64 bits.
use Rattle.std.proofs.Common.{◌≡◌, ℕ, ◌+◌, ◌-◌, ◌*◌, ◌^◌, ◌<◌, ◌≤◌, min, true, false, ◌&&◌, inl, inr, List, [], ◌∷◌, Some, refl, sym, ap, ◌∙◌, arith}
use Rattle.std.specs.Prelude.{nat_le, nat_eq}
use Rattle.std.specs.Char.{digit_value}
use Rattle.std.specs.Str.Parse.{digits_value_after}
use Rattle.std.proofs.lemmas.Bool.{cases_Bool, cases_lt, lt-leb, le-leb, and_from, and_right}
use Rattle.erl_chars.specs.Cursor.{first_of, after_first}
use Rattle.erl_scan.specs.declared.error.Fault.TheVariants.{Syntax}
use Rattle.erl_scan.specs.declared.token.Token.TheVariants.{Integer}
use Rattle.erl_scan.specs.Numbers.{Number, whole, real, no_base, begins_with_digit, number_by, saturated}
use Rattle.erl_scan.specs.Saturated.{saturated_number}
use Rattle.erl_scan.specs.Tokens.{token, fault, number_next}

pub saturated_below : (n : ℕ) → n < 2 ^ 64 → saturated n ≡ n
unfolding saturated
saturated_below n below = omega arith

pub saturated-zero : saturated 0 ≡ 0
unfolding saturated
saturated-zero = refl

pub saturated-saturated : (n : ℕ) → saturated (saturated n) ≡ saturated n
unfolding saturated
saturated-saturated n = omega arith

saturated_above : (n : ℕ) → 36 < n → 36 < saturated n
unfolding saturated
saturated_above n above = omega arith

-- a product by a base is no less
product : (n base : ℕ) → 1 ≤ base → n ≤ n * base
product n base some = grind arith

saturated-more : (n base d : ℕ) → 1 ≤ base → saturated (saturated n * base + d) ≡ saturated (n * base + d)
unfolding saturated
saturated-more n base d some =
    elim (cases_lt n (2 ^ 64)) [
      | inl small ↦ let same : min n (2 ^ 64 - 1) ≡ n = omega arith in rw same refl
      | inr great ↦
          let most : min n (2 ^ 64 - 1) ≡ 2 ^ 64 - 1 = omega arith in
          let grown = product n base some in
          rw most (omega arith)
    ]

-- the digits to come may be counted from a saturated number
pub saturated-after : (base n : ℕ) (ds : List ℕ) → 1 ≤ base → saturated (digits_value_after base (saturated n) ds) ≡ saturated (digits_value_after base n ds)
saturated-after base n [] some = saturated-saturated n
saturated-after base n (d ∷ ds) some =
    sym (saturated-after base (saturated n * base + digit_value d) ds some) ∙ ap (λ m. saturated (digits_value_after base m ds)) (saturated-more n base (digit_value d) some) ∙ saturated-after base (n * base + digit_value d) ds some

pub digits_step : (base value d c m : ℕ) (now rest : List ℕ) → 2 ≤ base → d ≡ digit_value c → now ≡ c ∷ rest → m ≡ saturated (value * base + d) → saturated (digits_value_after base m rest) ≡ saturated (digits_value_after base value now)
digits_step base value d c m now rest least e split is =
    rw (split, is, e) (saturated-after base (value * base + digit_value c) rest (omega arith))

-- Behind `#`

within : (n : ℕ) → 2 ≤ n → n ≤ 36 → (nat_le 2 n && nat_le n 36) ≡ true
within n low high = and_from _ _ (le-leb 2 n low) (le-leb n 36 high)

pub based_alone : (n : ℕ) (here : List ℕ) → first_of here ≡ Some 35 → 2 ≤ n → n ≤ 36 → begins_with_digit n (after_first here) ≡ false → whole n here ≡ saturated_number (number_by n here)
based_alone n [] first low high lacks = cc
based_alone n (c ∷ cs) first low high lacks =
    let hash : c ≡ 35 = cc in
    let in_range = within n low high in
    let small : saturated n ≡ n = saturated_below n (omega arith) in
    rw hash (rw (in_range, lacks, small) refl)

-- a base may be saturated before it is judged
pub number_by-saturated : (n : ℕ) (cs : List ℕ) → saturated_number (number_by (saturated n) cs) ≡ saturated_number (number_by n cs)
number_by-saturated n [] = ap (λ m. whole m []) (saturated-saturated n)
number_by-saturated n (c ∷ cs) =
    elim (cases_lt 36 n) [
      | inr small ↦ rw (saturated_below n (omega arith)) refl
      | inl above ↦
          let high = and_right (nat_le 2 n) _ (lt-leb n 36 above) in
          let higher = and_right (nat_le 2 (saturated n)) _ (lt-leb (saturated n) 36 (saturated_above n above)) in
          elim (cases_Bool (nat_eq c 46 && begins_with_digit 10 cs)) [
            | inl dot ↦ rw dot refl
            | inr whole_number ↦ elim (cases_Bool (nat_eq c 35)) [
              | inl hash ↦ rw (whole_number, hash, high, higher) refl
              | inr other ↦ rw (whole_number, other, saturated-saturated n) refl
            ]
          ]
    ]

-- what a number that was read is as a token

pub integer_next : (v : ℕ) (number : Number) (here rest : List ℕ) → whole v rest ≡ saturated_number number → number_next here number ≡ token (Integer v) rest
integer_next v (whole n more) here rest e =
    let value : v ≡ saturated n = cc in
    let same : rest ≡ more = cc in
    rw (same, value) refl
integer_next v (real more) here rest e = cc
integer_next v no_base here rest e = cc

pub no_base_next : (number : Number) (here : List ℕ) → no_base ≡ saturated_number number → number_next here number ≡ fault Syntax here
no_base_next (whole n more) here e = cc
no_base_next (real more) here e = cc
no_base_next no_base here e = refl
