-- What patterns are to contracts: one level, since contracts see a row of them as patterns already.
use Rattle.std.specs.Prelude.{List, [], ◌∷◌}
use Rattle.erl_term.specs.Term.{tree}
use Rattle.erl_ir.specs.declared.pattern.Pattern.{Pattern}
use Rattle.erl_ir.specs.declared.pattern.Pattern.TheVariants as patterns
use Rattle.erl_ir.specs.Pattern.{Pat, Pats, literal, variable, anything, tuple, list, cons, alias, none, more}

abbrev pub pat : Pattern → Pat
pat (patterns.Literal t) = literal (tree t)
pat (patterns.Variable index) = variable index
pat patterns.Anything = anything
pat (patterns.Tuple ps) = tuple ps
pat (patterns.List ps) = list ps
pat (patterns.Cons ps) = cons ps
pat (patterns.Alias ps) = alias ps

abbrev pub pats : List Pattern → Pats
pats [] = none
pats (p ∷ ps) = more (pat p) (pats ps)
