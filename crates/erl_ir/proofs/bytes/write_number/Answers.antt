-- One byte, or 127 and the digits.
use Rattle.std.proofs.Common.{◌≡◌, ◌++◌, refl, arith, rules, OnOk}
use base.Stored.{gnum}
use Rattle.erl_ir.specs.ModuleBytes.{written}
use Rattle.erl_ir.proofs.Written.{little, large, on_ok}
use Rattle.erl_ir.proofs.bytes.write_number.Goals as goal

pub returns-then-n-lt125 : goal.returns-then-n-lt125
returns-then-n-lt125 c =
    little c.args.n c.args.out.now.items c.push.new.self.items c.if-n-lt125.true c.in_ok-push.ensures.items

pub returns : goal.returns
returns c =
    let added : OnOk c.extend_from_slice.result (c.extend_from_slice.new.self.items ≡ c.push-2.new.self.items ++ c.to_le_bytes-digits.result) = search rules in
    on_ok c.extend_from_slice.result c.extend_from_slice.new.self.items (c.push-2.new.self.items ++ c.to_le_bytes-digits.result) (written (gnum c.args.n) c.args.out.now.items)
    (large c.args.n c.args.out.now.items c.push-2.new.self.items (c.push-2.new.self.items ++ c.to_le_bytes-digits.result) c.to_le_bytes-digits.result
    (omega arith) (omega arith) c.in_ok-push-2.ensures.items c.to_le_bytes-digits.ensures refl) added
