-- Strings behind one another.
use Rattle.std.proofs.Common.{◌≡◌, ℕ, suc, ◌<◌, List, [], ◌∷◌, ◌++◌, length, Some, None, ap, sym, ◌∙◌, refl, arith, rules, append_assoc}
use Rattle.erl_scan.specs.declared.token.Spot.{Spot}
use Rattle.erl_ast.specs.Terminal.{Terminal, integer, float, atom, word, variable, string, mark, dot, terminals}
use Rattle.erl_expressions.specs.Leaves.{string_ahead, strings_ahead, after_strings}

pub one_string : (ts rest : List Terminal) (s : List ℕ) → string_ahead ts ≡ Some (s, rest) → ts ≡ string s ∷ rest
one_string [] rest s is = search rules
one_string (string u ∷ ts) rest s is = search rules
one_string (integer n ∷ ts) rest s is = search rules
one_string (float ∷ ts) rest s is = search rules
one_string (atom n at ∷ ts) rest s is = search rules
one_string (word w ∷ ts) rest s is = search rules
one_string (variable n at ∷ ts) rest s is = search rules
one_string (mark m ∷ ts) rest s is = search rules
one_string (dot ∷ ts) rest s is = search rules

pub no_string : (ts : List Terminal) → string_ahead ts ≡ None → (strings_ahead ts ≡ []) × (after_strings ts ≡ ts)
no_string [] is = (refl, refl)
no_string (string u ∷ ts) is = search rules
no_string (integer n ∷ ts) is = (refl, refl)
no_string (float ∷ ts) is = (refl, refl)
no_string (atom n at ∷ ts) is = (refl, refl)
no_string (word w ∷ ts) is = (refl, refl)
no_string (variable n at ∷ ts) is = (refl, refl)
no_string (mark m ∷ ts) is = (refl, refl)
no_string (dot ∷ ts) is = (refl, refl)

pub more_strings : (ts rest : List Terminal) (s : List ℕ) → string_ahead ts ≡ Some (s, rest) →
    (strings_ahead ts ≡ s ∷ strings_ahead rest) × (after_strings ts ≡ after_strings rest)
more_strings ts rest s is = (ap strings_ahead (one_string ts rest s is), ap after_strings (one_string ts rest s is))

pub terminals_length : (ss : List Spot) → length (terminals ss) ≡ length ss
terminals_length [] = refl
terminals_length (s ∷ ss) = ap suc (terminals_length ss)

pub string_shorter : (ss rest : List Spot) (s : List ℕ) → string_ahead (terminals ss) ≡ Some (s, terminals rest) → length rest < length ss
string_shorter ss rest s is = omega (arith, terminals_length ss, terminals_length rest, ap length (one_string (terminals ss) (terminals rest) s is))

-- what is kept while strings are read, and its end
pub strings_kept : (read all : List (List ℕ)) (ts rest : List Terminal) (s : List ℕ) → read ++ strings_ahead ts ≡ all →
    string_ahead ts ≡ Some (s, rest) → (read ++ s ∷ []) ++ strings_ahead rest ≡ all
strings_kept read all ts rest s kept is = append_assoc read (s ∷ []) (strings_ahead rest) ∙ ap (λ xs. read ++ xs) (sym (more_strings ts rest s is).0) ∙ kept
