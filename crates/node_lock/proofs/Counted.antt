-- Lines of seats, and entries of a history, are counted: where each seat has what it keeps of its own entries, and they have as many
-- lines as there are entries, nobody else has an entry.
use Rattle.std.proofs.Common.{◌≡◌, ◌≢◌, ◌+◌, ◌<◌, ◌≤◌, ℕ, inl, inr, Bool, true, false, if◌then◌else◌, List, [], ◌∷◌, All, filter, length, map, nat_eq, refl, sym, ap, ◌∙◌, subst, arith}
use Rattle.std.proofs.lemmas.Bool.Decides.{eqb_tells}
use Rattle.std.proofs.lemmas.Bool.{false≢true, or_parts}
use Rattle.std.proofs.lemmas.List.Elements.{All-cons, All-head, All-tail}
use Rattle.std.proofs.lemmas.List.Sums.{sum_by-cons, sum_by-le}
use Rattle.std.specs.List.{sum_by}
use Rattle.node_history.specs.Lists.{line_of, lines_of}
use Rattle.node_history.specs.declared.entry.Entry.{Entry}
use Rattle.node_lock.specs.Closing.{AreAll, AreDistinct, IsListOf, IsNumber, has_number, lines_in}
use Rattle.node_lock.specs.Core.{SeatState}

-- what holds below a number and at it holds below the next
pub below-next : (P : ℕ → Type 0) (n : ℕ) → ((k : ℕ) → k < n → P k) → P n → (k : ℕ) → k < n + 1 → P k
below-next P n below here k within = elim (eqb_tells k n) [
  | inl same ↦ subst P (sym same.1) here
  | inr other ↦ below k (let apart = other.1 in omega arith)
]

-- 1 where two numbers are equal, and else 0
abbrev one-if : Bool → ℕ
one-if b = if b then 1 else 0

abbrev one : ℕ → ℕ → ℕ
one k number = one-if (nat_eq k number)

-- how many of the seats have a number
abbrev having : List SeatState → ℕ → ℕ
having seats number = sum_by (λ s. one number s.number) seats

length-kept : (b : Bool) (e : Entry) (rest : List Entry) → length (map line_of (if b then e ∷ rest else rest)) ≡ one-if b + length (map line_of rest)
length-kept true e rest = omega arith
length-kept false e rest = omega arith

length-lines_of : (number : ℕ) (history : List Entry) → length (lines_of number history) ≡ sum_by (λ e. one e.seat number) history
length-lines_of number [] = refl
length-lines_of number (e ∷ history) =
    length-kept (nat_eq e.seat number) e (filter (λ x. nat_eq x.seat number) history) ∙ ap (λ n. one e.seat number + n) (length-lines_of number history) ∙ sym (sum_by-cons (λ x. one x.seat number) e history)

module _ {A : Type 0} where
  sum-none : (xs : List A) → sum_by (λ x. 0) xs ≡ 0
  sum-none [] = refl
  sum-none (x ∷ xs) = (let a = sum_by-cons (λ (y : A). 0) x xs in let b = sum-none xs in omega arith)

  sum-both : (f g h : A → ℕ) → ((x : A) → h x ≡ f x + g x) → (xs : List A) → sum_by f xs + sum_by g xs ≡ sum_by h xs
  sum-both f g h is [] = refl
  sum-both f g h is (x ∷ xs) =
      let a = sum_by-cons f x xs in
      let b = sum_by-cons g x xs in
      let c = sum_by-cons h x xs in
      let d = is x in
      let e = sum-both f g h is xs in
      omega arith

  -- where as much is counted as there are elements, and of each at most one, it's one of each
  ones : (f : A → ℕ) (xs : List A) → ((x : A) → f x ≤ 1) → sum_by f xs ≡ length xs → All (λ x. f x ≡ 1) xs
  ones f [] few all = λ k d none. absurd (let no : ⊥ = omega (arith, none) in no)
  ones f (x ∷ xs) few all =
      let a = sum_by-cons f x xs in
      let b = few x in
      let c = sum_by-le f 1 xs (λ k d within. few _) in
      let first : f x ≡ 1 = omega arith in
      let rest = ones f xs few (omega arith) in
      All-cons (λ (y : A). f y ≡ 1) x xs first rest

-- the lines of all seats, counted entry by entry
counted : (seats : List SeatState) (history : List Entry) → All (IsListOf history) seats → lines_in seats ≡ sum_by (λ e. having seats e.seat) history
counted [] history lists = sym (sum-none history)
counted (s ∷ seats) history lists =
    let here = ap (λ ls. length ls) (All-head (IsListOf history) s seats lists) ∙ length-lines_of s.number history in
    let there = counted seats history (All-tail (IsListOf history) s seats lists) in
    let both = sum-both (λ (e : Entry). one e.seat s.number) (λ e. having seats e.seat) (λ e. having (s ∷ seats) e.seat) (λ e. sum_by-cons (λ (t : SeatState). one e.seat t.number) s seats) history in
    let all = sum_by-cons (λ (t : SeatState). length t.lines) s seats in
    omega arith

one-of-other : (k n : ℕ) → k ≢ n → one k n ≡ 0
one-of-other k n apart = elim (eqb_tells k n) [ inl same ↦ absurd (apart same.1) | inr other ↦ ap one-if other.0 ]

one-of-same : (k n : ℕ) → k ≡ n → one k n ≡ 1
one-of-same k n same = elim (eqb_tells k n) [ inl found ↦ ap one-if found.0 | inr other ↦ absurd (other.1 same) ]

having-none : (k n : ℕ) (seats : List SeatState) → k ≡ n → has_number n seats ≡ false → having seats k ≡ 0
having-none k n [] same none = refl
having-none k n (s ∷ seats) same none =
    let parts = or_parts (nat_eq s.number n) (has_number n seats) none in
    let other : s.number ≢ n = elim (eqb_tells s.number n) [ inl found ↦ absurd (false≢true (sym parts.0 ∙ found.0)) | inr apart ↦ apart.1 ] in
    let here = one-of-other k s.number (λ is. other (sym is ∙ same)) in
    let there = having-none k n seats same parts.1 in
    let all = sum_by-cons (λ (t : SeatState). one k t.number) s seats in
    omega arith

having-few : (seats : List SeatState) → AreDistinct seats → (k : ℕ) → having seats k ≤ 1
having-few [] distinct k = omega arith
having-few (s ∷ seats) distinct k =
    let all = sum_by-cons (λ (t : SeatState). one k t.number) s seats in
    elim (eqb_tells k s.number) [
      | inl same ↦ (let here = one-of-same k s.number same.1 in let there = having-none k s.number seats same.1 distinct.0 in omega arith)
      | inr other ↦ (let here = one-of-other k s.number other.1 in let there = having-few seats distinct.1 k in omega arith)
    ]

number-of : (count : ℕ) (seats : List SeatState) → All (λ s. IsNumber count s.number) seats → (k : ℕ) → having seats k ≡ 1 → IsNumber count k
number-of count [] within k one-there = absurd (let no : ⊥ = omega (arith, one-there) in no)
number-of count (s ∷ seats) within k one-there =
    let all = sum_by-cons (λ (t : SeatState). one k t.number) s seats in
    elim (eqb_tells k s.number) [
      | inl same ↦ subst (IsNumber count) (sym same.1) (All-head (λ (t : SeatState). IsNumber count t.number) s seats within)
      | inr other ↦ (
          let here = one-of-other k s.number other.1 in
          number-of count seats (All-tail (λ (t : SeatState). IsNumber count t.number) s seats within) k (omega arith))
    ]

pub only-theirs : (count : ℕ) (seats : List SeatState) (history : List Entry) → AreAll count seats → All (IsListOf history) seats → lines_in seats ≡ length history → All (λ e. IsNumber count e.seat) history
only-theirs count seats history are lists as-many =
    let each = ones (λ (e : Entry). having seats e.seat) history (λ e. having-few seats are.distinct e.seat) (sym (counted seats history lists) ∙ as-many) in
    λ k d below. number-of count seats are.within _ (each k d below)
