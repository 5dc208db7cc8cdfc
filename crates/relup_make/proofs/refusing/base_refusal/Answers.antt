-- What one look tells of each base application is what stands against them.
use Rattle.std.proofs.Common.{[], ◌∷◌, Some, sym, ap, ◌∙◌}
use Rattle.std.specs.Prelude.{codes}
use Rattle.relup_make.specs.declared.error.MakeError.TheVariants.{BaseChanged}
use Rattle.relup_make.specs.Refusals.{base_refusals, first_of, is_base_kept}
use Rattle.relup_make.proofs.Bases.{if_found, is_changed, is_kept, last, passed, told}
use Rattle.relup_make.proofs.refusing.base_refusal.Goals as goal

pub returns-in-Some-2 : goal.returns-in-Some-2
returns-in-Some-2 c =
    let keeps = is_base_kept c.args.old.now c.args.new.now in
    let kernel = codes "kernel" in
    let stdlib = codes "stdlib" in
    let first = is_kept (keeps kernel) (BaseChanged kernel) c.in_ok-error.field-0 c.in_ok-error.ensures c.in_default.is in
    let second = is_changed (keeps stdlib) (BaseChanged stdlib) c.in-Some-2.error c.in_ok-error-2.field-0 c.in_ok-error-2.ensures c.in-Some-2.is in
    ap Some second.1 ∙ sym (passed keeps kernel (stdlib ∷ codes "sasl" ∷ []) first ∙ told keeps stdlib (codes "sasl" ∷ []) second.0)

pub returns : goal.returns
returns c =
    let keeps = is_base_kept c.args.old.now c.args.new.now in
    let kernel = codes "kernel" in
    let stdlib = codes "stdlib" in
    let sasl = codes "sasl" in
    let first = is_kept (keeps kernel) (BaseChanged kernel) c.in_ok-error.field-0 c.in_ok-error.ensures c.in_default.is in
    let second = is_kept (keeps stdlib) (BaseChanged stdlib) c.in_ok-error-2.field-0 c.in_ok-error-2.ensures c.in_default-2.is in
    let whole = last keeps sasl ∙ sym (passed keeps kernel (stdlib ∷ sasl ∷ []) first ∙ passed keeps stdlib (sasl ∷ []) second) in
    if_found _ (first_of (base_refusals c.args.old.now c.args.new.now)) c.change_of_base-3.result whole c.change_of_base-3.ensures
