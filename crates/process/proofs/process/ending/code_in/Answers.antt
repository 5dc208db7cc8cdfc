-- Instances are what contracts see of them.
use Rattle.std.proofs.Common.{Some, map, sym, ap, ◌∙◌}
use Rattle.std.specs.Option.{option_map}
use Rattle.process.specs.Ended.{held}
use Rattle.process.proofs.Living.{held-all}
use Rattle.process.proofs.process.ending.code_in.Goals as goal

pub returns-in-Some : goal.returns-in-Some
returns-in-Some c =
    ap Some (c.new.ensures ∙ sym (held-all c.in-Some.code.items)) ∙ ap (option_map (map held)) (rw (c.in-Some.is) at c.in_ok-code.ensures)
