-- One byte, or 1 and those of the number.
use Rattle.std.proofs.Common.{[], ◌∷◌, ◌++◌, sym, ap, ◌∙◌}
use base.Stored.{gnum}
use Rattle.erl_ir.specs.ModuleBytes.{written}
use Rattle.erl_ir.proofs.Written.{last_front, written-small, written-large}
use Rattle.erl_ir.proofs.bytes.write_front.Goals as goal

pub returns-then-n-lt128 : goal.returns-then-n-lt128
returns-then-n-lt128 c =
    λ g. written-small c.args.n g c.args.out.now.items c.if-n-lt128.true ∙ sym (ap (written g) c.in_ok-push.ensures.items)

pub returns : goal.returns
returns c =
    last_front c.write_number.result (gnum c.args.n) (gnum c.from.result) c.write_number.new.out.items c.push-2.new.self.items c.args.out.now.items
    (λ g. ap (λ l. written g (written (gnum c.from.result) l)) c.in_ok-push-2.ensures.items ∙
    ap (λ n. written g (written (gnum n) (c.args.out.now.items ++ 1 ∷ []))) c.from.ensures ∙ sym (written-large c.args.n g c.args.out.now.items c.if-n-lt128.false))
    c.write_number.ensures
