-- Bindings as the code has them: those that were there, and behind them those that a match adds.
use Rattle.std.specs.Prelude.{ℕ, zero, suc, Bool, true, false, List, ◌++◌, map, Option, None, Some}
use Rattle.erl_term.specs.declared.term.Term.{Term}
use Rattle.erl_term.specs.Term.{tree}
use Rattle.erl_term.specs.Parts.{behind}
use Rattle.erl_term.specs.Tree.{Tree, Trees}

abbrev pub bindings : List Term → List Term → List Tree
bindings base fresh = map tree base ++ map tree fresh

-- what is bound behind a match that took place
abbrev pub bound_if : Bool → List Tree → Option (List Tree)
bound_if false env = None
bound_if true env = Some env

-- the row behind so many terms
abbrev pub rest_behind : ℕ → Trees → Trees
rest_behind zero ts = ts
rest_behind (suc n) ts = behind (rest_behind n ts)
