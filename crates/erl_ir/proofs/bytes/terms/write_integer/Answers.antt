-- The sign is told by the kind.
use Rattle.std.proofs.Common.{◌-◌, ap, ◌∙◌, arith, rules, lit<}
use base.Stored.{gnum, gcons}
use Rattle.std.proofs.Common.{w64, unsigned_abs}
use Rattle.std.proofs.lemmas.Int.{ints, to_z-of_z}
use Rattle.erl_term.specs.Tree.{int}
use Rattle.erl_term.specs.TreeCode.{tree_code}
use Rattle.erl_ir.proofs.Written.{front_is, last, like, below_zero, from_zero}
use Rattle.erl_ir.proofs.bytes.terms.write_integer.Goals as goal

pub returns-in_ok-push : goal.returns-in_ok-push
returns-in_ok-push c =
    last c.write_number.result (gnum (c.unsigned_abs-size.result - 1)) (tree_code (int c.args.n)) c.write_number.new.out.items c.push.new.self.items c.args.out.now.items (
    front_is 1 (gnum (c.unsigned_abs-size.result - 1)) c.args.out.now.items c.push.new.self.items (lit< tt) c.in_ok-push.ensures.items ∙
    like (gcons (gnum 1) (gnum (c.unsigned_abs-size.result - 1))) (tree_code (int c.args.n)) c.args.out.now.items (below_zero c.args.n c.unsigned_abs-size.result (search rules) (c.unsigned_abs-size.ensures.value ∙ ap (λ z. unsigned_abs z) (to_z-of_z w64 c.args.n c.ranges.n)))
    ) c.write_number.ensures

pub returns-in_ok-push-2 : goal.returns-in_ok-push-2
returns-in_ok-push-2 c =
    last c.write_number-else-n-lt0.result (gnum c.unsigned_abs-size.result) (tree_code (int c.args.n)) c.write_number-else-n-lt0.new.out.items c.push-else-n-lt0.new.self.items c.args.out.now.items (
    front_is 0 (gnum c.unsigned_abs-size.result) c.args.out.now.items c.push-else-n-lt0.new.self.items (lit< tt) c.in_ok-push-2.ensures.items ∙
    like (gcons (gnum 0) (gnum c.unsigned_abs-size.result)) (tree_code (int c.args.n)) c.args.out.now.items (from_zero c.args.n c.unsigned_abs-size.result (omega (arith, ints)) (c.unsigned_abs-size.ensures.value ∙ ap (λ z. unsigned_abs z) (to_z-of_z w64 c.args.n c.ranges.n)))
    ) c.write_number-else-n-lt0.ensures
