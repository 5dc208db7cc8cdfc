-- Terms as values of one kind, and rows as so many terms: accessors for the crates above.
use Rattle.std.specs.Prelude.{ℕ, ℤ, pos, negsuc, ◌||◌, ◌&&◌, nat_le, if◌then◌else◌, List, [], ◌∷◌, Option, Some, None}
use Rattle.std.specs.Prelude.{option_map, option_and_then}
use Rattle.erl_term.specs.Tree.{Tree, Trees, int, atom, pid, tuple, list, none, more}

abbrev pub int_of : Tree → Option ℤ
int_of (int n) = Some n
int_of (atom cs) = None
int_of (pid n) = None
int_of (tuple ts) = None
int_of (list ts) = None

abbrev pub atom_of : Tree → Option (List ℕ)
atom_of (int n) = None
atom_of (atom cs) = Some cs
atom_of (pid n) = None
atom_of (tuple ts) = None
atom_of (list ts) = None

abbrev pub pid_of : Tree → Option ℕ
pid_of (int n) = None
pid_of (atom cs) = None
pid_of (pid n) = Some n
pid_of (tuple ts) = None
pid_of (list ts) = None

abbrev pub tuple_of : Tree → Option Trees
tuple_of (int n) = None
tuple_of (atom cs) = None
tuple_of (pid n) = None
tuple_of (tuple ts) = Some ts
tuple_of (list ts) = None

abbrev pub list_of : Tree → Option Trees
list_of (int n) = None
list_of (atom cs) = None
list_of (pid n) = None
list_of (tuple ts) = None
list_of (list ts) = Some ts

-- a row's first term, and the others
abbrev pub first_of : Trees → Option (Tree × Trees)
first_of none = None
first_of (more t ts) = Some (t, ts)

-- a row of just so many terms
abbrev pub one_of : Trees → Option Tree
one_of none = None
one_of (more a none) = Some a
one_of (more a (more b ts)) = None

abbrev pub two_of : Trees → Option (Tree × Tree)
two_of none = None
two_of (more a ts) = option_map (λ b. (a, b)) (one_of ts)

abbrev pub three_of : Trees → Option (Tree × Tree × Tree)
three_of none = None
three_of (more a ts) = option_map (λ r. (a, r.0, r.1)) (two_of ts)

abbrev pub four_of : Trees → Option (Tree × Tree × Tree × Tree)
four_of none = None
four_of (more a ts) = option_map (λ r. (a, r.0, r.1, r.2)) (three_of ts)

-- all terms of a row, each read by f
abbrev pub all_of : {A : Type 0} → (Tree → Option A) → Trees → Option (List A)
all_of f none = Some []
all_of f (more t ts) = option_and_then (λ a. option_map (λ as'. a ∷ as') (all_of f ts)) (f t)

-- a character: an integer that is a Unicode scalar value
abbrev pub char_of : Tree → Option ℕ
char_of (int (pos n)) = if nat_le n 55295 || (nat_le 57344 n && nat_le n 1114111) then Some n else None
char_of (int (negsuc n)) = None
char_of (atom cs) = None
char_of (pid n) = None
char_of (tuple ts) = None
char_of (list ts) = None

-- a string: a list of characters
abbrev pub string_of : Tree → Option (List ℕ)
string_of t = option_and_then (all_of char_of) (list_of t)
