-- Words of the files of a release, written and read.
use Rattle.std.proofs.Common.{◌≡◌, ℕ, pos, negsuc, true, List, [], ◌∷◌, Some, None, refl, sym, ap, ◌∙◌, inl, inr, true≢false, arith}
use Rattle.std.specs.Prelude.{if◌then◌else◌, nat_le, nat_lt, ◌||◌, ◌&&◌}
use Rattle.std.specs.List.{list_all}
use Rattle.std.proofs.lemmas.Bool.{and_parts}
use Rattle.std.proofs.lemmas.Bool.Decides.{nat_tests}
use Rattle.erl_term.specs.Accessors.{all_of, char_of, string_of}
use Rattle.erl_term.specs.Conversions.{given}
use Rattle.erl_term.specs.Rows.{integers}
use Rattle.erl_term.specs.Tree.{Tree, int, atom, pid, tuple, list}
use Rattle.release_words.specs.declared.purge.Purge.{Purge}
use Rattle.release_words.specs.declared.purge.Purge.TheVariants.{Soft, Brutal}
use Rattle.release_words.specs.declared.start_type.StartType.{StartType}
use Rattle.release_words.specs.declared.start_type.StartType.TheVariants as types
use Rattle.release_words.specs.declared.timeout.Timeout.{Timeout}
use Rattle.release_words.specs.declared.timeout.Timeout.TheVariants.{Default, Infinity, Finite}
use Rattle.release_words.specs.Reading.{finite_of, names_of, purge_of, purge_words, start_type_of, start_type_words, timeout_of, timeout_words, version_of, word_of}
use Rattle.release_words.specs.Words.{is_timeout, is_version, is_version_char, names_tree, purge_tree, start_type_tree, string_tree, timeout_tree}
use Rattle.release_words.proofs.Parts.{given_is, either_is, choice, next_back, none_some, string_is}
use Rattle.release_words.proofs.Tables.{Reads, atoms, named_is, row_reads, words}

-- Names of kinds

purge_back : (p : Purge) → word_of purge_words (purge_tree p) ≡ Some p
purge_back Soft = refl
purge_back Brutal = refl

pub purges : Reads purge_of purge_tree (λ p. Unit {0})
unfolding purge_of
purges = words purge_words purge_tree (refl, (refl, tt)) purge_back

start_type_back : (type : StartType) → word_of start_type_words (start_type_tree type) ≡ Some type
start_type_back types.Permanent = refl
start_type_back types.Transient = refl
start_type_back types.Temporary = refl
start_type_back types.Load = refl
start_type_back types.None = refl

pub start_types : Reads start_type_of start_type_tree (λ type. Unit {0})
unfolding start_type_of
start_types = words start_type_words start_type_tree (refl, (refl, (refl, (refl, (refl, tt))))) start_type_back

-- Rows of names

pub names : Reads names_of names_tree (λ ns. Unit {0})
names = row_reads atoms (λ name. tt)

-- Timeouts

abbrev IsTimeout : Tree → Timeout → Type 0
IsTimeout t o = (t ≡ timeout_tree o) × (is_timeout o ≡ true)

finite_is : (t : Tree) (o : Timeout) → finite_of t ≡ Some o → IsTimeout t o
finite_is (int (pos n)) o e = choice (IsTimeout (int (pos n))) (nat_lt 0 n) (Finite n) None o (λ holds. (refl, holds)) (none_some o) e
finite_is (int (negsuc n)) o e = none_some o e
finite_is (atom cs) o e = none_some o e
finite_is (pid n) o e = none_some o e
finite_is (tuple ts) o e = none_some o e
finite_is (list ts) o e = none_some o e

word_is : (t : Tree) (o : Timeout) → word_of timeout_words t ≡ Some o → IsTimeout t o
word_is (int n) o e = none_some o e
word_is (atom cs) o e = named_is (λ cs o. IsTimeout (atom cs) o) timeout_words ((refl, refl), ((refl, refl), tt)) cs o e
word_is (pid n) o e = none_some o e
word_is (tuple ts) o e = none_some o e
word_is (list ts) o e = none_some o e

timeout_is : (t : Tree) (o : Timeout) → timeout_of t ≡ Some o → IsTimeout t o
unfolding timeout_of
timeout_is t o e =
    elim (either_is (word_of timeout_words t) (finite_of t) o e) [
      | inl word ↦ word_is t o word
      | inr finite ↦ finite_is t o finite
    ]

timeout_back : (o : Timeout) → is_timeout o ≡ true → timeout_of (timeout_tree o) ≡ Some o
unfolding timeout_of
timeout_back Default fine = refl
timeout_back Infinity fine = refl
timeout_back (Finite n) fine = ap (λ b. if b then Some (Finite n) else None) fine

pub timeouts : Reads timeout_of timeout_tree (λ o. is_timeout o ≡ true)
timeouts = record { is = timeout_is; back = timeout_back }

-- Versions

pub version_is : (t : Tree) (v : List ℕ) → version_of t ≡ Some v → (t ≡ string_tree v) × (is_version v ≡ true)
unfolding version_of
version_is t v e =
    let text = given_is (string_of t) _ v e in
    choice (λ w. (t ≡ string_tree w) × (is_version w ≡ true)) (is_version text.0) text.0 None v (λ holds. (string_is t text.0 text.1, holds)) (none_some v) text.2

char_fits : (c : ℕ) → is_version_char c ≡ true → (nat_le c 55295 || (nat_le 57344 c && nat_le c 1114111)) ≡ true
char_fits c fine = grind (arith, nat_tests)

char_back : (c : ℕ) → is_version_char c ≡ true → char_of (int (pos c)) ≡ Some c
char_back c fine = ap (λ b. if b then Some c else None) (char_fits c fine)

chars_back : (cs : List ℕ) → list_all is_version_char cs ≡ true → all_of char_of (integers cs) ≡ Some cs
chars_back [] fine = refl
chars_back (c ∷ cs) fine =
    let both = and_parts (is_version_char c) (list_all is_version_char cs) fine in
    next_back (char_of (int (pos c))) (all_of char_of (integers cs)) c cs (char_back c both.0) (chars_back cs both.1)

pub version_back : (v : List ℕ) → is_version v ≡ true → version_of (string_tree v) ≡ Some v
unfolding version_of
version_back [] fine = absurd (true≢false (sym fine))
version_back (c ∷ cs) fine =
    ap (λ o. given o (λ v. if is_version v then Some v else None)) (chars_back (c ∷ cs) fine) ∙ ap (λ b. if b then Some (c ∷ cs) else None) fine

pub versions : Reads version_of string_tree (λ v. is_version v ≡ true)
versions = record { is = version_is; back = version_back }
