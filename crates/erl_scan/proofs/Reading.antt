-- What each kind of token answers, over plain values.
use Rattle.std.proofs.Common.{◌≡◌, ℕ, ◌+◌, true, false, inl, inr, List, [], ◌∷◌, length, drop, get_or, Some, None, Result, Ok, Err, refl, sym, ap, ◌∙◌}
use Rattle.std.specs.Prelude.{nat_lt}
use Rattle.std.proofs.lemmas.Bool.{cases_Bool, ne_eqb, and_parts, eqb-true}
use Rattle.std.proofs.lemmas.List.{drop-drop}
use Rattle.erl_scan.specs.declared.error.Fault.TheVariants.{BadChar, BadEscape, Unsupported, AtomTooLong}
use Rattle.erl_scan.specs.declared.error.ReadError.{ReadError}
use Rattle.erl_chars.specs.declared.escapes.EscapeError.{EscapeError}
use Rattle.erl_chars.specs.declared.escapes.EscapeError.TheVariants.{Cut, Wrong}
use Rattle.erl_chars.specs.declared.quotes.QuoteError.TheVariants.{BadEscape as EscapeAt}
use Rattle.erl_chars.specs.Chars.{is_name_char, front, after_front}
use Rattle.erl_chars.specs.Cursor.{offset, first_of, after_first}
use Rattle.erl_chars.specs.Quotes.{escape, escape_step, closed, unclosed, bad_escape, IsQuoted}
use Rattle.erl_chars.specs.QuoteErrors.{IsNotQuoted}
use Rattle.erl_scan.specs.declared.token.Token.{Token}
use Rattle.erl_scan.specs.declared.token.Token.TheVariants.{Atom, String, Mark as MarkOf}
use Rattle.erl_scan.specs.declared.mark.Mark.{Mark}
use Rattle.erl_scan.specs.Marks.{mark_text, mark_in}
use Rattle.erl_scan.specs.Words.{word_of}
use Rattle.erl_scan.specs.Lookahead.{mark_by, with_rest, alone}
use Rattle.erl_scan.specs.Scanner.{IsFault, faulty as is_faulty, memory as is_memory}
use Rattle.erl_scan.specs.Tokens.{token, fault, Comes, mark_next, begins_two_quotes}
use Rattle.erl_scan.specs.Answers.{memory, faulty, Answers, AnswersFirst, plain_in, name_in, character_in, atom_at, IsNotBetween, no_memory, open_end, escape as bad_escape_at}
use Rattle.erl_scan.proofs.Alone.{alone-first}
use Rattle.erl_scan.proofs.Lookahead.{mark_in-ahead}

-- Steps

drop_one : (cs : List ℕ) → after_first cs ≡ drop 1 cs
drop_one [] = refl
drop_one (c ∷ cs) = refl

pub after_first-drop : (n : ℕ) (cs : List ℕ) → after_first (drop n cs) ≡ drop (n + 1) cs
after_first-drop n cs = drop_one (drop n cs) ∙ drop-drop 1 n cs

nothing_first : (cs : List ℕ) → None ≡ first_of cs → cs ≡ []
nothing_first [] e = refl
nothing_first (c ∷ cs) e = cc

-- Names

pub name_atom : (whole at : ℕ) (here rest text : List ℕ) (result : Result Token ReadError) → text ≡ front is_name_char here → rest ≡ after_front is_name_char here → None ≡ word_of text → at ≡ offset whole here → result ≡ atom_at text at → Answers whole (name_in here) result rest
name_atom whole at here rest text result name behind plain placed is =
    let word : word_of (front is_name_char here) ≡ None = ap word_of (sym name) ∙ sym plain in
    elim (cases_Bool (nat_lt 255 (length text))) [
      | inl long ↦
          let long_name : nat_lt 255 (length (front is_name_char here)) ≡ true = ap (λ (t : List ℕ). nat_lt 255 (length t)) (sym name) ∙ long in
          let answer : result ≡ Err (record { kind = AtomTooLong; at = at }) = rw long at is in
          rw answer (faulty here (rw (word, long_name) refl) placed)
      | inr short ↦
          let short_name : nat_lt 255 (length (front is_name_char here)) ≡ false = ap (λ (t : List ℕ). nat_lt 255 (length t)) (sym name) ∙ short in
          let answer : result ≡ Ok (Atom text) = rw short at is in
          rw answer (rw (word, short_name, name, behind) refl)
    ]

-- Marks

first-get_or : (here : List ℕ) (first : ℕ) → first_of here ≡ Some first → get_or here 0 0 ≡ first
first-get_or [] first e = cc
first-get_or (c ∷ cs) first e = cc

mark_in-by : (here : List ℕ) (first second third : ℕ) → first_of here ≡ Some first → second ≡ get_or here 1 0 → third ≡ get_or here 2 0 → mark_in here ≡ with_rest (mark_by first second third) here
mark_in-by here first second third f s t =
    mark_in-ahead here ∙ (rw (first-get_or here first f, ← s, ← t) refl)

pub mark_some : (m : Mark) (here rest : List ℕ) (first second third : ℕ) → first_of here ≡ Some first → second ≡ get_or here 1 0 → third ≡ get_or here 2 0 → Some m ≡ mark_by first second third → rest ≡ drop (length (mark_text m)) here → mark_next here (mark_in here) ≡ token (MarkOf m) rest
mark_some m here rest first second third f s t is behind =
    rw (mark_in-by here first second third f s t, ← is, behind) refl

pub mark_none : (here : List ℕ) (first second third : ℕ) → first_of here ≡ Some first → second ≡ get_or here 1 0 → third ≡ get_or here 2 0 → None ≡ mark_by first second third → mark_next here (mark_in here) ≡ fault BadChar here
mark_none here first second third f s t is =
    rw (mark_in-by here first second third f s t, ← is) refl

pub mark_alone : (m : Mark) (here rest : List ℕ) (first : ℕ) → first_of here ≡ Some first → Some m ≡ alone first → rest ≡ after_first here → mark_next here (mark_in here) ≡ token (MarkOf m) rest
mark_alone m here rest first f is behind =
    let known = alone-first first (get_or here 1 0) (get_or here 2 0) m is in
    mark_some m here rest first (get_or here 1 0) (get_or here 2 0) f refl refl known.0 (rw known.1 (behind ∙ drop_one here))

-- Characters behind `$`

pub no_character : (here : List ℕ) → None ≡ first_of (after_first here) → character_in here ≡ fault BadChar here
no_character here none = rw (nothing_first (after_first here) none) refl

pub bad_character : (here now rest : List ℕ) (c : ℕ) (e : EscapeError) → now ≡ after_first here → Some c ≡ first_of now → c ≡ 92 → escape (after_first now) ≡ escape_step (Err e) rest → character_in here ≡ fault BadEscape now
bad_character here [] rest c e is first backslash step = cc
bad_character here (d ∷ cs) rest c Cut is first backslash step =
    let first_is : d ≡ 92 = cc in
    rw (← is, first_is, step) refl
bad_character here (d ∷ cs) rest c Wrong is first backslash step =
    let first_is : d ≡ 92 = cc in
    rw (← is, first_is, step) refl

-- Quotes

pub escape_told : (whole total quote at : ℕ) (here now : List ℕ) → now ≡ after_first here → total ≡ whole → IsNotQuoted total quote now (EscapeAt at) → IsNotBetween whole quote here (record { kind = BadEscape; at = at })
escape_told whole total quote at here now is same h =
    bad_escape_at h.0 (rw is at h.1) refl (rw same at h.2)

pub quoted_atom : (whole at : ℕ) (here rest text : List ℕ) (result : Result Token ReadError) → first_of here ≡ Some 39 → IsQuoted 39 (after_first here) (closed text rest) → at ≡ offset whole here → result ≡ atom_at text at → AnswersFirst whole here result rest
quoted_atom whole at [] rest text result first quoted placed is = cc
quoted_atom whole at (c ∷ cs) rest text result first quoted placed is =
    let quote : c ≡ 39 = cc in
    elim (cases_Bool (nat_lt 255 (length text))) [
      | inl long ↦
          let answer : result ≡ Err (record { kind = AtomTooLong; at = at }) = rw long at is in
          rw answer (is_faulty (c ∷ cs) (rw quote (closed text rest, quoted, rw long refl)) placed)
      | inr short ↦
          let answer : result ≡ Ok (Atom text) = rw short at is in
          rw (answer, quote) (closed text rest, quoted, rw short refl)
    ]

pub atom_fault : (whole : ℕ) (here : List ℕ) (e : ReadError) → first_of here ≡ Some 39 → IsNotBetween whole 39 here e → IsFault whole here e
atom_fault whole [] e first (no_memory m) = is_memory m
atom_fault whole [] e first (open_end quoted kind at) = cc
atom_fault whole [] e first (bad_escape_at h quoted kind at) = cc
atom_fault whole (c ∷ cs) e first (no_memory m) = is_memory m
atom_fault whole (c ∷ cs) e first (open_end quoted kind at) =
    let quote : c ≡ 39 = cc in
    is_faulty (c ∷ cs) (rw (quote, kind) (unclosed, quoted, refl)) at
atom_fault whole (c ∷ cs) e first (bad_escape_at h quoted kind at) =
    let quote : c ≡ 39 = cc in
    is_faulty h (rw (quote, kind) (bad_escape h, quoted, refl)) at

pub string_taken : (here rest text : List ℕ) → first_of here ≡ Some 34 → begins_two_quotes (after_first here) ≡ false → IsQuoted 34 (after_first here) (closed text rest) → Comes here (token (String text) rest)
string_taken [] rest text first single quoted = cc
string_taken (c ∷ cs) rest text first single quoted =
    let quote : c ≡ 34 = cc in rw quote (closed text rest, quoted, rw single refl)

pub string_fault : (whole : ℕ) (here : List ℕ) (e : ReadError) → first_of here ≡ Some 34 → begins_two_quotes (after_first here) ≡ false → IsNotBetween whole 34 here e → IsFault whole here e
string_fault whole [] e first single (no_memory m) = is_memory m
string_fault whole [] e first single (open_end quoted kind at) = cc
string_fault whole [] e first single (bad_escape_at h quoted kind at) = cc
string_fault whole (c ∷ cs) e first single (no_memory m) = is_memory m
string_fault whole (c ∷ cs) e first single (open_end quoted kind at) =
    let quote : c ≡ 34 = cc in
    is_faulty (c ∷ cs) (rw (quote, kind) (unclosed, quoted, rw single refl)) at
string_fault whole (c ∷ cs) e first single (bad_escape_at h quoted kind at) =
    let quote : c ≡ 34 = cc in
    is_faulty h (rw (quote, kind) (bad_escape h, quoted, rw single refl)) at

-- between the first two of three double quotes stands nothing
pub three_quotes : (whole at : ℕ) (here : List ℕ) → first_of here ≡ Some 34 → begins_two_quotes (after_first here) ≡ true → at ≡ offset whole here → IsFault whole here (record { kind = Unsupported; at = at })
three_quotes whole at [] first two placed = cc
three_quotes whole at (c ∷ []) first two placed = cc
three_quotes whole at (c ∷ d ∷ []) first two placed = cc
three_quotes whole at (c ∷ d ∷ e ∷ cs) first two placed =
    let quote : c ≡ 34 = cc in
    let second : d ≡ 34 = eqb-true d 34 (and_parts _ _ two).0 in
    is_faulty (c ∷ d ∷ e ∷ cs) (rw quote (closed [] (e ∷ cs), (d ∷ e ∷ cs, refl, rw second refl), rw two refl)) placed

-- By the first character

pub plain_takes : (whole first : ℕ) (here rest : List ℕ) (result : Result Token ReadError) → first_of here ≡ Some first → (first ≡ 39 → ⊥) → (first ≡ 34 → ⊥) → Answers whole (plain_in here) result rest → AnswersFirst whole here result rest
plain_takes whole first [] rest result e single double answers = cc
plain_takes whole first (c ∷ cs) rest (Ok t) e single double answers =
    let is : c ≡ first = cc in
    rw (ne_eqb c 39 (λ p. single (sym is ∙ p)), ne_eqb c 34 (λ p. double (sym is ∙ p))) (sym answers)
plain_takes whole first (c ∷ cs) rest (Err error) e single double answers =
    let is : c ≡ first = cc in
    let plain_fault : (at : List ℕ) → plain_in (c ∷ cs) ≡ fault error.kind at → Comes (c ∷ cs) (fault error.kind at) = λ at p. rw (ne_eqb c 39 (λ q. single (sym is ∙ q)), ne_eqb c 34 (λ q. double (sym is ∙ q))) (sym p) in
    elim answers [
      | memory m ↦ is_memory m
      | faulty at p placed ↦ is_faulty at (plain_fault at p) placed
    ]
