-- Tokens that open something in a form, or end it.
use Rattle.std.specs.Prelude.{◌≡◌, ◌≤◌, length, Bool, true, false, if◌then◌else◌, List, [], ◌∷◌, Option, None, Some}
use Rattle.erl_scan.specs.declared.mark.Mark.TheVariants as marks
use Rattle.erl_scan.specs.declared.word.Word.TheVariants as words
use Rattle.erl_scan.specs.declared.token.Spot.{Spot}
use Rattle.erl_ast.specs.Terminal.{Terminal, mark, word, dot}
use Rattle.erl_expressions.specs.Refusing.{from_dot}
use Rattle.module_forms.specs.declared.opening.Opening.{Opening}
use Rattle.module_forms.specs.declared.opening.Opening.TheVariants as openings

-- each as it is written
abbrev pub opening : Opening → Terminal
opening openings.Minus = mark marks.Minus
opening openings.OpenParen = mark marks.OpenParen
opening openings.OpenBracket = mark marks.OpenBracket
opening openings.Slash = mark marks.Divide
opening openings.Receive = word words.Receive
opening openings.Dot = dot

abbrev pub is_opening : Opening → Terminal → Bool
is_opening openings.Minus (mark marks.Minus) = true
is_opening openings.OpenParen (mark marks.OpenParen) = true
is_opening openings.OpenBracket (mark marks.OpenBracket) = true
is_opening openings.Slash (mark marks.Divide) = true
is_opening openings.Receive (word words.Receive) = true
is_opening openings.Dot dot = true
is_opening o t = false

-- what is left behind such a token, where it comes first
abbrev pub behind : Opening → List Terminal → Option (List Terminal)
behind o [] = None
behind o (t ∷ ts) = if is_opening o t then Some ts else None

-- whether it is the dot that ends a form
abbrev pub is_last : Opening → Bool
is_last openings.Dot = true
is_last o = false

-- These tokens are left behind such a token.
pub record Passes (o : Opening) (ts rest : List Spot) : Type 0 where
  pub fewer : length rest ≤ length ts
  pub no_dot : is_last o ≡ false → from_dot ts ≡ from_dot rest
