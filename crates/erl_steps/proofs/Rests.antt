-- What a call of a loop function gives, by whether its head takes the arguments.
use Rattle.std.specs.Prelude.{◌≡◌, ℕ, true, false, List, codes, Option, None, Some, is_some, refl}
use Rattle.erl_term.specs.Tree.{Tree, Trees}
use Rattle.erl_ir.specs.Expression.{Exprs}
use Rattle.erl_semantics.specs.State.{Activation, exit_by, rest, loop}
use Rattle.erl_semantics.specs.Evaluation.{rested}

pub rested_taken : (a : Activation) (name : List ℕ) (ts : Trees) (o : Option (List Tree × Exprs)) → true ≡ is_some o →
    rested a name ts o ≡ rest (loop a.instance.name a.instance.serial name ts)
rested_taken a name ts None taken = absurd (cc)
rested_taken a name ts (Some found) taken = refl

pub rested_else : (a : Activation) (name : List ℕ) (ts : Trees) (o : Option (List Tree × Exprs)) → false ≡ is_some o →
    rested a name ts o ≡ exit_by (codes "function_clause")
rested_else a name ts None other = refl
rested_else a name ts (Some found) other = absurd (cc)
