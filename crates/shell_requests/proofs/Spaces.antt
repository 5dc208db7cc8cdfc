-- Lemmas on words and the spaces between them.
use Rattle.std.proofs.Common.{◌≡◌, ◌≢◌, ℕ, ◌<◌, ◌+◌, ◌^◌, nat_lt, Bool, true, false, cond, eqb, ◌&&◌, List, [], ◌∷◌, ◌++◌, length, filter, get_or, All, None, Some, refl, sym, ap, ◌∙◌, arith}
use Rattle.std.specs.List.{after_first, list_all, position_or_len}
use Rattle.std.specs.Str.{all_ascii_digits}
use Rattle.std.specs.Str.Parse.{digits_value}
use Rattle.std.proofs.lemmas.Bool.{ne_eqb}
use Rattle.std.proofs.lemmas.List.{drop_all}
use borrow.Author.Tests.{ltb-true}
use Rattle.std.proofs.lemmas.List.Elements.{All-from_get_or}
use Rattle.std.proofs.lemmas.List.Splits.{slice_split-cons_yes, slice_split_none, slice_split_at}
use Rattle.shell_requests.specs.Words.{after_spaces, words_of, has_bytes, is_digit, number_of}

-- a space in front
pub words-space : (text : List ℕ) → words_of (32 ∷ text) ≡ words_of text
words-space text = ap (filter has_bytes) (slice_split-cons_yes (λ b. eqb b 32) 32 text refl)

-- each byte of a word is no space
pub no_space : (word : List ℕ) → ((i : ℕ) → i < length word → get_or word i 0 ≢ 32) → All (λ b. eqb b 32 ≡ false) word
no_space word apart = All-from_get_or (λ b. eqb b 32 ≡ false) word 0 (λ i within. ne_eqb (get_or word i 0) 32 (apart i within))

-- a word, a space, and what follows
pub words-first : (word rest : List ℕ) → 0 < length word → ((i : ℕ) → i < length word → get_or word i 0 ≢ 32) → words_of (word ++ 32 ∷ rest) ≡ word ∷ words_of rest
words-first [] rest some apart = absurd (omega arith)
words-first (b ∷ bs) rest some apart =
    ap (filter has_bytes) (slice_split_at (λ c. eqb c 32) (b ∷ bs) 32 rest (no_space (b ∷ bs) apart) refl)

-- a word alone
pub words-only : (word : List ℕ) → 0 < length word → ((i : ℕ) → i < length word → get_or word i 0 ≢ 32) → words_of word ≡ word ∷ []
words-only [] some apart = absurd (omega arith)
words-only (b ∷ bs) some apart = ap (filter has_bytes) (slice_split_none (λ c. eqb c 32) (b ∷ bs) (no_space (b ∷ bs) apart))

-- the first word of a text that begins with one
pub words-split : (text word rest : List ℕ) → text ≡ word ++ 32 ∷ rest → ((i : ℕ) → i < length word → get_or word i 0 ≢ 32) → get_or text 0 0 ≢ 32 → words_of text ≡ word ∷ words_of rest
words-split text [] rest is apart begins = absurd (begins (ap (λ t. get_or t 0 0) is))
words-split text (b ∷ bs) rest is apart begins = ap words_of is ∙ words-first (b ∷ bs) rest (omega arith) apart

pub begins_without : (text : List ℕ) → ((rest : List ℕ) → text ≢ 32 ∷ rest) → get_or text 0 0 ≢ 32
begins_without [] apart e = omega (arith, e)
begins_without (b ∷ bs) apart e = apart bs (ap (λ c. c ∷ bs) e)

-- What stands behind spaces

pub unspaced : (text : List ℕ) → get_or text 0 0 ≢ 32 → after_spaces text ≡ text
unspaced [] begins = refl
unspaced (b ∷ bs) begins = ap (λ t. cond t (after_spaces bs) (b ∷ bs)) (ne_eqb b 32 begins)

pub none_behind : (text : List ℕ) → position_or_len (λ b. eqb b 32) text ≡ length text → after_first (λ b. eqb b 32) text ≡ []
none_behind text is =
    let n = position_or_len (λ b. eqb b 32) text in
    drop_all (n + 1) text (omega (arith, is))

-- Numbers

pub digits-all : (bs : List ℕ) → list_all is_digit bs ≡ all_ascii_digits bs
digits-all [] = refl
digits-all (b ∷ bs) = ap (λ rest. is_digit b && rest) (digits-all bs)

-- digits that write no number below 2^64
pub number-none : (bs : List ℕ) → all_ascii_digits bs ≡ true → ¬ ((0 < length bs) × (digits_value 10 bs < 2 ^ 64)) → None ≡ number_of bs
number-none [] digits fails = refl
number-none (b ∷ bs) digits fails = by (nat_lt (digits_value 10 (b ∷ bs)) (2 ^ 64)) refl
  where
    value : ℕ
    value = digits_value 10 (b ∷ bs)

    by : (small : Bool) → nat_lt value (2 ^ 64) ≡ small → None ≡ cond (all_ascii_digits (b ∷ bs)) (cond (nat_lt value (2 ^ 64)) (Some value) None) None
    by true e = absurd (fails (omega arith, ltb-true value (2 ^ 64) e))
    by false e = sym (ap (λ t. cond t (cond (nat_lt value (2 ^ 64)) (Some value) None) None) digits ∙ ap (λ t. cond t (Some value) None) e)
