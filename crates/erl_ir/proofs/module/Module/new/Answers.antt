-- The builder has just these functions.
use Rattle.std.proofs.Common.{◌≡◌, List, IfOk, MatchOption, subst}
use Rattle.std.specs.List.{IsDistinct}
use Rattle.std.specs.Map.{keys_of}
use Rattle.erl_ir.specs.declared.function.Function.{Function}
use Rattle.erl_ir.specs.Module.{Key, key_eq}
use Rattle.erl_ir.proofs.module.Module.new.Goals as goal

pub returns : goal.returns
returns c =
    subst (λ (fs : List (Key × Function)). IfOk c.build.result (λ made. MatchOption made (IsDistinct key_eq (keys_of fs) → ⊥)
    (λ m. IsDistinct key_eq (keys_of fs) × (m ≡ record { name = c.args.name; vsn = c.args.vsn; functions = fs }))))
    c.in_ok-builder.ensures c.build.ensures
