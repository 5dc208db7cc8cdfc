-- A key that is there already stands twice; a new one goes last.
use Rattle.std.proofs.Common.{◌≡◌, true, false, ◌∷◌, ◌++◌, is_some, sym, ap, subst, ◌∙◌, rules}
use Rattle.std.specs.List.{IsDistinct}
use Rattle.std.specs.Map.{keys_of, lookup}
use Rattle.std.specs.Vec.Iter.{into_iter_items}
use Rattle.erl_ir.specs.Module.{key_eq}
use Rattle.erl_ir.proofs.Keys.{twice, added, moved}
use Rattle.erl_ir.proofs.module.by_name.Goals as goal

pub returns-then-is_some : goal.returns-then-is_some
returns-then-is_some c =
    let e = c.in-Some.entry in
    let rest = into_iter_items c.next.new.self in
    let left : into_iter_items c.loop-entry.entry-iterator ≡ e ∷ rest = c.in-Some.ensures.steps.0 in
    let whole = sym (ap (λ es. c.loop-entry.table.entries ++ es) left) ∙ c.loop-entry.invariant.2 in
    let there : is_some (lookup (key_eq e.0) c.loop-entry.table.entries) ≡ true = search rules in
    λ distinct. twice c.loop-entry.table.entries e.0 e.1 rest there (subst (λ es. IsDistinct key_eq (keys_of es)) (sym whole) distinct)

pub loop-entry-preserved : goal.loop-entry-preserved
loop-entry-preserved c =
    let e = c.in-Some.entry in
    let rest = into_iter_items c.next.new.self in
    let left : into_iter_items c.loop-entry.entry-iterator ≡ e ∷ rest = c.in-Some.ensures.steps.0 in
    let whole = sym (ap (λ es. c.loop-entry.table.entries ++ es) left) ∙ c.loop-entry.invariant.2 in
    let absent : is_some (lookup (key_eq e.0) c.loop-entry.table.entries) ≡ false = search rules in
    let last = c.in_ok-insert.ensures.entries ∙ added c.loop-entry.table e.0 e.1 absent in
    (tt, tt, ap (λ es. es ++ rest) last ∙ moved c.loop-entry.table.entries e rest ∙ whole, c.in_ok-insert.ensures.unique)
