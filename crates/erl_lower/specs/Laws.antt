-- What is proved of modules that come of sources: a module without a static fault reads no variable that is not bound, and
-- its clauses have as many patterns as their function has arguments.
use Rattle.std.specs.Prelude.{◌≡◌, List, []}
use Rattle.erl_ast.specs.Terminal.{Terminal}
use Rattle.erl_ast.specs.declared.form.ModuleTree.{ModuleTree}
use Rattle.erl_ast.specs.Forms.{IsModule}
use Rattle.erl_lint.specs.Faults.{faults_of}
use Rattle.erl_lower.specs.Meaning.{meaning}
use Rattle.erl_lower.specs.WellScoped.{IsWellScoped, HasArities}

-- What a tree means that has no static fault is well scoped.
abbrev pub MeaningsAreWellScoped : Type 0
MeaningsAreWellScoped = (tree : ModuleTree) → faults_of tree ≡ [] → IsWellScoped (meaning tree)

-- In what a module means that is written as tokens, each clause has as many patterns as its function has arguments.
abbrev pub MeaningsHaveArities : Type 0
MeaningsHaveArities = (ts : List Terminal) (tree : ModuleTree) → IsModule ts tree → HasArities (meaning tree)
