-- Whatever is left of the name is still to be written.
use Rattle.std.proofs.Common.{◌≡◌, ℕ, List, ◌++◌}
use Rattle.erl_term.specs.TreeCode.{chars_code}
use Rattle.erl_ir.specs.ModuleBytes.{written}
use Rattle.erl_ir.proofs.bytes.write_name.Given as goal

abbrev pub invariant-loop-c : goal.invariant-loop-c
invariant-loop-c l = (rest : List ℕ) →
    written (chars_code rest) l.out.items ≡ written (chars_code (l.yielded ++ rest)) l.fn.out.items
