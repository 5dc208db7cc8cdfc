-- The leaf that tokens begin with, and the operator.
use Rattle.std.specs.Prelude.{ℕ, Bool, true, false, ◌&&◌, not, nat_le, if◌then◌else◌, List, [], ◌∷◌, codes, Option, None, Some}
use Rattle.std.specs.Str.{bytes_eq}
use Rattle.erl_scan.specs.declared.mark.Mark.{Mark}
use Rattle.erl_scan.specs.declared.mark.Mark.TheVariants as marks
use Rattle.erl_scan.specs.declared.word.Word.{Word}
use Rattle.erl_scan.specs.declared.word.Word.TheVariants as words
use Rattle.erl_ast.specs.declared.leaf.Sign.{Sign}
use Rattle.erl_ast.specs.declared.leaf.Sign.TheVariants as signs
use Rattle.erl_ast.specs.declared.leaf.Leaf.{Leaf}
use Rattle.erl_ast.specs.declared.leaf.Leaf.TheVariants as leaves
use Rattle.erl_ast.specs.declared.role.Role.{Role}
use Rattle.erl_ast.specs.declared.shape.Infix.{Infix}
use Rattle.erl_ast.specs.declared.shape.Infix.TheVariants as infixes
use Rattle.erl_ast.specs.Terminal.{Terminal, integer, atom, variable, string, mark, word}
use Rattle.erl_ast.specs.Grammar.{level_of, left_level, has_operator}

-- behind the name of a function in a call stands `(`, behind a module's name `:`

abbrev pub call_ahead : List Terminal → Bool
call_ahead (mark marks.OpenParen ∷ ts) = true
call_ahead (mark marks.Colon ∷ ts) = true
call_ahead ts = false

abbrev pub paren_ahead : List Terminal → Bool
paren_ahead (mark marks.OpenParen ∷ ts) = true
paren_ahead ts = false

abbrev pub colon_ahead : List Terminal → Bool
colon_ahead (mark marks.Colon ∷ ts) = true
colon_ahead ts = false

abbrev pub string_ahead : List Terminal → Option (List ℕ × List Terminal)
string_ahead (string s ∷ ts) = Some (s, ts)
string_ahead ts = None

abbrev pub strings_ahead : List Terminal → List (List ℕ)
strings_ahead (string s ∷ ts) = s ∷ strings_ahead ts
strings_ahead ts = []

abbrev pub after_strings : List Terminal → List Terminal
after_strings (string s ∷ ts) = after_strings ts
after_strings ts = ts

abbrev pub joined_strings : List ℕ → List Terminal → Option (Leaf × List Terminal)
joined_strings first ts = Some (leaves.Strings (first ∷ strings_ahead ts), after_strings ts)

-- an atom, where it is no name in a call
abbrev pub atom_ahead : List ℕ → ℕ → List Terminal → Option (Leaf × List Terminal)
atom_ahead name at ts = if call_ahead ts then None else Some (leaves.Atom (record { name = name; at = at }), ts)

abbrev pub number_ahead : Sign → List Terminal → Option (Leaf × List Terminal)
number_ahead sign (integer n ∷ ts) = Some (leaves.Integer sign n, ts)
number_ahead sign ts = None

-- behind `?` the word MODULE
abbrev pub module_ahead : List Terminal → Option (Leaf × List Terminal)
module_ahead (variable name at ∷ ts) =
    if bytes_eq name (codes "MODULE") && not (colon_ahead ts) then Some (leaves.ModuleName at, ts) else None
module_ahead ts = None

abbrev pub leaf_behind : Mark → List Terminal → Option (Leaf × List Terminal)
leaf_behind marks.Plus ts = number_ahead signs.Plus ts
leaf_behind marks.Minus ts = number_ahead signs.Minus ts
leaf_behind marks.Question ts = module_ahead ts
leaf_behind m ts = None

unfoldable pub leaf_ahead : List Terminal → Option (Leaf × List Terminal)
leaf_ahead (integer n ∷ ts) = Some (leaves.Integer signs.Unsigned n, ts)
leaf_ahead (atom name at ∷ ts) = atom_ahead name at ts
leaf_ahead (variable name at ∷ ts) = Some (leaves.Variable name at, ts)
leaf_ahead (string s ∷ ts) = joined_strings s ts
leaf_ahead (mark m ∷ ts) = leaf_behind m ts
leaf_ahead ts = None

-- Operators

abbrev pub infix_mark : Mark → Option Infix
infix_mark marks.Times = Some infixes.Multiply
infix_mark marks.Plus = Some infixes.Add
infix_mark marks.Minus = Some infixes.Subtract
infix_mark marks.Append = Some infixes.Append
infix_mark marks.Equal = Some infixes.Equal
infix_mark marks.Unequal = Some infixes.NotEqual
infix_mark marks.ExactlyEqual = Some infixes.ExactlyEqual
infix_mark marks.ExactlyUnequal = Some infixes.ExactlyNotEqual
infix_mark marks.Less = Some infixes.Less
infix_mark marks.Greater = Some infixes.Greater
infix_mark marks.LessOrEqual = Some infixes.AtMost
infix_mark marks.GreaterOrEqual = Some infixes.AtLeast
infix_mark marks.Send = Some infixes.Send
infix_mark marks.Match = Some infixes.Match
infix_mark m = None

abbrev pub infix_word : Word → Option Infix
infix_word words.Div = Some infixes.Divide
infix_word words.Rem = Some infixes.Remainder
infix_word words.And = Some infixes.And
infix_word words.Or = Some infixes.Or
infix_word words.AndAlso = Some infixes.AndAlso
infix_word words.OrElse = Some infixes.OrElse
infix_word w = None

-- the operator that tokens begin with
abbrev pub infix_ahead : List Terminal → Option Infix
infix_ahead (mark m ∷ ts) = infix_mark m
infix_ahead (word w ∷ ts) = infix_word w
infix_ahead ts = None

abbrev pub fitting : Role → ℕ → ℕ → Option Infix → Option Infix
fitting role most left None = None
fitting role most left (Some op) =
    if has_operator role op && (nat_le (level_of op) most && nat_le left (left_level op)) then Some op else None

-- the operator that goes on with a tree of some level, where the whole has at most another
abbrev pub operator_ahead : Role → ℕ → ℕ → List Terminal → Option Infix
operator_ahead role most left ts = fitting role most left (infix_ahead ts)
