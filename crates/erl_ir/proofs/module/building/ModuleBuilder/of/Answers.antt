-- One function more.
use Rattle.std.proofs.Common.{◌≡◌, ◌∷◌, ◌++◌, sym, ap, ◌∙◌}
use Rattle.std.specs.Vec.Iter.{into_iter_items}
use Rattle.erl_ir.proofs.Keys.{moved}
use Rattle.erl_ir.proofs.module.building.ModuleBuilder.of.Goals as goal

pub loop-entry-preserved : goal.loop-entry-preserved
loop-entry-preserved c =
    let e = c.in-Some.entry in
    let rest = into_iter_items c.next.new.self in
    let left : into_iter_items c.loop-entry.entry-iterator ≡ e ∷ rest = c.in-Some.ensures.steps.0 in
    let whole = sym (ap (λ es. c.loop-entry.builder ++ es) left) ∙ c.loop-entry.invariant.2 in
    (tt, tt, ap (λ es. es ++ rest) c.in_ok-longer.ensures ∙ moved c.loop-entry.builder e rest ∙ whole)
