-- By the current code of the module at the index.
use Rattle.std.proofs.Common.{◌≡◌, Some, Result, Ok, Err, ap, sym, ◌∙◌}
use Rattle.std.specs.Result.{OnOk}
use Rattle.std.specs.Map.Iter.{deref_pair}
use Rattle.std.specs.Option.{option_map}
use Rattle.code_server.specs.Indices.{current_at}
use Rattle.process.proofs.Finding.{AreFoundFrom-code, Grows-code, current_of-pair}
use Rattle.process.proofs.reached.Found.follow.Goals as goal

on_ok : {T E : Type 0} (r : Result T E) (P Q : Type 0) → (P → Q) → OnOk r P → OnOk r Q
on_ok (Ok x) P Q f is = f is
on_ok (Err e) P Q f is = is

pub returns-in-Some-clause-found : goal.returns-in-Some-clause-found
returns-in-Some-clause-found c =
    let at : current_at c.args.modules.now.entries c.args.index ≡ Some c.in-Some.current.now = current_of-pair c.args.modules.now.entries c.args.index c.in-Some.field-0-0.now c.in-Some.current.now (sym c.current_at.ensures ∙ ap (option_map deref_pair) c.in-Some.is) in
    on_ok c.add_named.result _ _ (AreFoundFrom-code c.args.modules.now c.args.index c.in-Some.current.now c.add_named.new.self.indices at) c.add_named.ensures.found

pub returns-in-Some-clause-grows : goal.returns-in-Some-clause-grows
returns-in-Some-clause-grows c =
    let at : current_at c.args.modules.now.entries c.args.index ≡ Some c.in-Some.current.now = current_of-pair c.args.modules.now.entries c.args.index c.in-Some.field-0-0.now c.in-Some.current.now (sym c.current_at.ensures ∙ ap (option_map deref_pair) c.in-Some.is) in
    on_ok c.add_named.result _ _ (Grows-code c.args.modules.now c.args.index c.in-Some.current.now c.args.self.now c.add_named.new.self at) c.add_named.ensures.grows
