-- Tokens as the grammar sees them: with the offset of an atom and of a variable, which may be told as a fault later, and
-- without the offsets of all others.
use Rattle.std.specs.Prelude.{ℕ, List, [], ◌∷◌}
use Rattle.erl_scan.specs.declared.mark.Mark.{Mark}
use Rattle.erl_scan.specs.declared.word.Word.{Word}
use Rattle.erl_scan.specs.declared.token.Token.{Token}
use Rattle.erl_scan.specs.declared.token.Token.TheVariants as tokens
use Rattle.erl_scan.specs.declared.token.Spot.{Spot}

pub data Terminal : Type 0 where
  integer : ℕ → Terminal
  float : Terminal
  atom : List ℕ → ℕ → Terminal
  word : Word → Terminal
  variable : List ℕ → ℕ → Terminal
  string : List ℕ → Terminal
  mark : Mark → Terminal
  dot : Terminal

abbrev pub terminal_at : Token → ℕ → Terminal
terminal_at (tokens.Integer n) at = integer n
terminal_at tokens.Float at = float
terminal_at (tokens.Atom name) at = atom name at
terminal_at (tokens.Word w) at = word w
terminal_at (tokens.Variable name) at = variable name at
terminal_at (tokens.String text) at = string text
terminal_at (tokens.Mark m) at = mark m
terminal_at tokens.Dot at = dot

abbrev pub terminal : Spot → Terminal
terminal s = terminal_at s.what s.at

abbrev pub terminals : List Spot → List Terminal
terminals [] = []
terminals (s ∷ ss) = terminal s ∷ terminals ss
