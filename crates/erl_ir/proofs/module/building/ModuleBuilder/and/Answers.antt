-- The names of one function's calls more are noted, and its depth is counted in.
use Rattle.std.proofs.Common.{◌≡◌, [], ◌∷◌, ◌++◌, sym, ap, ◌∙◌, max, rules}
use Rattle.erl_ir.specs.declared.function.Function.{Function}
use Rattle.erl_ir.specs.Module.{Key, called_in_functions, called_in_definition, definition_depth, functions_depth}
use Rattle.erl_ir.specs.FormsCode.{begun, entry_code}
use Rattle.erl_ir.specs.ModuleBytes.{written}
use Rattle.erl_ir.proofs.Keys.{depths_push}
use Rattle.erl_ir.proofs.ModuleBytes.{begun_push}
use Rattle.erl_ir.proofs.Noting.{noted, noted_then, functions_push}
use Rattle.erl_ir.proofs.module.building.ModuleBuilder.and.Goals as goal

pub invariant_of-result : goal.invariant_of-result
invariant_of-result c =
    let before = c.self.inside.functions.items in
    let entry : Key × Function = (c.args.key, c.args.function) in
    let deeper : functions_depth c.push-2.new.self.items ≡ max (functions_depth before) (definition_depth c.args.function.definition) =
    ap functions_depth c.in_ok-push-2.ensures.items ∙ depths_push before entry in
    let depth = c.self.invariant.1 in (
      noted_then [] c.self.inside.called.keys c.note_calls.new.names.keys (called_in_functions before) (called_in_definition c.args.function.definition)
          c.self.invariant.0 c.in_ok-note_calls.ensures ∙
          ap (noted []) (sym (ap called_in_functions c.in_ok-push-2.ensures.items ∙ functions_push before entry)),
      search rules,
      c.in_ok-write_entry.ensures ∙
          ap (λ bs. written (entry_code entry) bs) (c.in_ok-push.ensures.items ∙ ap (λ bs. bs ++ 1 ∷ []) c.self.invariant.2) ∙
          sym (ap (λ fs. begun fs (1 ∷ [])) c.in_ok-push-2.ensures.items ∙ begun_push before entry (1 ∷ [])),
    )
