-- What is told of a refusal is told of the tokens.
use Rattle.erl_ast.specs.declared.form.ModuleTree.{ModuleTree}
use Rattle.erl_ast.specs.Forms.{IsModule}
use Rattle.erl_ast.specs.Terminal.{terminals}
use Rattle.module_forms.specs.FirstFault.{IsToldFirst}
use Rattle.erl_parse.proofs.source.tree_of.Goals as goal

pub returns-in-Err-clause-refused : goal.returns-in-Err-clause-refused
returns-in-Err-clause-refused c =
    let none : (tree : ModuleTree) → IsModule (terminals c.args.tokens.now) tree → ⊥ = rw c.in-Err.is at c.in_ok-tree.ensures.refused in
    let first : IsToldFirst c.args.tokens.now c.in-Err.refusal = rw c.in-Err.is at c.in_ok-tree.ensures.told in
    record { refusal = c.in-Err.refusal; none = none; first = first; told = c.of_refusal.ensures }
