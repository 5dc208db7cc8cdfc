-- Lemmas on what a session makes of lines: one line more, and lines that are cut off.
use Rattle.std.proofs.Common.{◌≡◌, ℕ, zero, suc, ◌+◌, ◌-◌, ◌<◌, ◌≤◌, min, Bool, true, false, cond, ltb, List, [], ◌∷◌, ◌++◌, length, take, None, Some, inl, inr, refl, sym, ap, ◌∙◌, append-nil, arith, length-take}
use Rattle.std.proofs.lemmas.Bool.{cond-true, cond-false, cases_lt, lt-ltb, le-ltb}
use Rattle.std.proofs.lemmas.List.{take_all, take_min, map-append}
use Rattle.std.proofs.lemmas.Grind.{flat_map-append}
use Rattle.std.proofs.Math.Seq.{take-append-add}
use Rattle.line_server.specs.Lines.{heard, longest_line}
use Rattle.line_server.specs.Session.{Exchanges, Answered, AreInTurn, lines_in, text_of, session_after}

-- One more line that was answered behind others.
module _ {S F : Type 0} (may : Exchanges S F) where
  pub AreInTurn-push : (start : S) (answered : List (Answered S F)) (a : Answered S F) → AreInTurn may start answered → may a.fate (session_after start answered) (heard a.line) a.exchange → AreInTurn may start (answered ++ a ∷ [])
  AreInTurn-push start [] a before last = (last, tt)
  AreInTurn-push start (b ∷ bs) a before last = (before.0, AreInTurn-push b.exchange.after bs a before.1 last)

pub session_after-push : {S F : Type 0} (start : S) (answered : List (Answered S F)) (a : Answered S F) → session_after start (answered ++ a ∷ []) ≡ a.exchange.after
session_after-push start [] a = refl
session_after-push start (b ∷ bs) a = session_after-push b.exchange.after bs a

pub lines_in-push : {S F : Type 0} (answered : List (Answered S F)) (a : Answered S F) → lines_in (answered ++ a ∷ []) ≡ lines_in answered ++ a.line ∷ []
lines_in-push answered a = map-append (λ b. b.line) answered (a ∷ [])

pub text_of-push : {S F : Type 0} (answered : List (Answered S F)) (a : Answered S F) → text_of (answered ++ a ∷ []) ≡ text_of answered ++ a.exchange.text
text_of-push answered a =
    flat_map-append (λ b. b.exchange.text) answered (a ∷ []) ∙ ap (λ l. text_of answered ++ l) (append-nil a.exchange.text)

-- what is heard of a line is heard of as much of it as tells whether it is too long
heard-take_at : (n : ℕ) (line : List ℕ) → cond (ltb n (length (take (n + 1) line))) None (Some (take (n + 1) line)) ≡ cond (ltb n (length line)) None (Some line)
heard-take_at n line =
    elim (cases_lt n (length line)) [
      | inl long ↦
          let whole = length-take (n + 1) line in
          cond-true (ltb n (length (take (n + 1) line))) None (Some (take (n + 1) line)) (lt-ltb n (length (take (n + 1) line)) (omega (arith, whole))) ∙ sym (cond-true (ltb n (length line)) None (Some line) (lt-ltb n (length line) long))
      | inr short ↦ ap (λ bs. cond (ltb n (length bs)) None (Some bs)) (take_all (n + 1) line (omega arith))
    ]

pub heard-take : (line : List ℕ) → heard (take (longest_line + 1) line) ≡ heard line
heard-take line = heard-take_at longest_line line

-- what is kept of a line that goes on
pub take-append : (n : ℕ) (line more : List ℕ) → take n (take n line ++ more) ≡ take n (line ++ more)
take-append zero line more = refl
take-append (suc n) [] more = refl
take-append (suc n) (b ∷ bs) more = ap (λ cs. b ∷ cs) (take-append n bs more)

-- what is heard of a line, by its length
pub heard-short : (line : List ℕ) → length line ≤ longest_line → heard line ≡ Some line
heard-short line short = cond-false (ltb longest_line (length line)) None (Some line) (le-ltb longest_line (length line) short)

pub heard-long : (line : List ℕ) → longest_line < length line → heard line ≡ None
heard-long line long = cond-true (ltb longest_line (length line)) None (Some line) (lt-ltb longest_line (length line) long)

-- as much of a piece as there is room for
pub append-kept : (n : ℕ) (line piece : List ℕ) → length line ≤ n → line ++ take (min (length piece) (n - length line)) piece ≡ take n (line ++ piece)
append-kept n line piece fits =
    let room = n - length line in
    let whole : length line + room ≡ n = omega arith in
    let least : min (length piece) room ≡ min room (length piece) = omega arith in
    ap (λ (k : ℕ). line ++ take k piece) least ∙ ap (λ cs. line ++ cs) (take_min room piece) ∙ sym (take-append-add line piece room) ∙ ap (λ (k : ℕ). take k (line ++ piece)) whole

-- a list grew by so many elements, or did not
pub grown_within : (b : Bool) (old more n new : ℕ) → new ≡ cond b (old + more) old → old + more ≤ n → new ≤ n
grown_within true old more n new is fits = omega (arith, is)
grown_within false old more n new is fits = omega (arith, is)
