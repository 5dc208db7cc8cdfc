-- The names that are noted are each there once, and the table has just these functions.
use Rattle.std.proofs.Common.{◌≡◌, [], ◌∷◌, ◌++◌, ap, sym, subst, ◌∙◌, ◌-◌, ◌^◌, min}
use Rattle.std.specs.Prelude.{MatchOption}
use Rattle.std.specs.List.{IsDistinct}
use Rattle.std.specs.Map.{keys_of}
use Rattle.erl_ir.specs.declared.module.Parts.{Parts}
use Rattle.erl_ir.specs.Module.{Forms, AreNamesOf, called_in_functions, functions_depth, key_eq}
use Rattle.erl_term.specs.TreeCode.{chars_code}
use Rattle.erl_ir.specs.FormsCode.{forms_bytes, vsn_code}
use Rattle.erl_ir.specs.ModuleBytes.{written}
use Rattle.erl_ir.proofs.ModuleBytes.{whole_bytes}
use Rattle.erl_ir.proofs.Noting.{names_of}
use Rattle.erl_ir.proofs.module.building.ModuleBuilder.build.Goals as goal

pub invariant_of-result : goal.invariant_of-result
invariant_of-result c =
    let fs = c.self.inside.functions.items in
    let made =
    subst (λ it. MatchOption it (IsDistinct key_eq (keys_of fs) → ⊥) (λ t. IsDistinct key_eq (keys_of fs) × (t.entries ≡ fs))) c.in-Some.is c.in_ok-functions.ensures in
    let whole : c.in_ok-bytes.bytes.items ≡ forms_bytes (record { name = c.args.name; vsn = c.args.vsn; functions = fs }) =
    c.in_ok-bytes.ensures ∙
    ap (λ bs. written (vsn_code c.args.vsn) (written (chars_code c.args.name) (bs ++ 0 ∷ [] ++ 1 ∷ []))) c.self.invariant.2 ∙
    whole_bytes fs c.args.name c.args.vsn in
    subst (λ (p : Parts). AreNamesOf p.called.keys (called_in_functions p.functions.entries) × (p.depth ≡ min (functions_depth p.functions.entries) (2 ^ 64 - 1))
    × (p.bytes.items ≡ forms_bytes (record { name = p.name; vsn = p.vsn; functions = p.functions.entries })))
    (sym c.in_ok-parts.ensures.ok)
    (subst (λ es. AreNamesOf c.self.inside.called.keys (called_in_functions es) × (c.self.inside.depth ≡ min (functions_depth es) (2 ^ 64 - 1))
    × (c.in_ok-bytes.bytes.items ≡ forms_bytes (record { name = c.args.name; vsn = c.args.vsn; functions = es }))) (sym made.1)
    (names_of (called_in_functions fs) c.self.inside.called.keys c.self.invariant.0, c.self.invariant.1, whole))

pub returns : goal.returns
returns c =
    let fs = c.self.inside.functions.items in
    let made =
    subst (λ it. MatchOption it (IsDistinct key_eq (keys_of fs) → ⊥) (λ t. IsDistinct key_eq (keys_of fs) × (t.entries ≡ fs))) c.in-Some.is c.in_ok-functions.ensures in
    let seen = c.self.view_is in
    let of_parts : Parts → Forms = λ p. record { name = p.name; vsn = p.vsn; functions = p.functions.entries } in (
      subst (λ es. IsDistinct key_eq (keys_of es)) seen made.0,
      ap of_parts c.in_ok-parts.ensures.ok ∙ ap (λ es. record { name = c.args.name; vsn = c.args.vsn; functions = es }) (made.1 ∙ seen),
    )
