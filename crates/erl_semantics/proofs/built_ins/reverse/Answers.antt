use Rattle.erl_semantics.proofs.built_ins.reverse.Goals as goal
use Rattle.std.proofs.Common.{ap, ◌∙◌}
use Rattle.std.specs.Prelude.{reverse}
use Rattle.erl_semantics.proofs.Elements.{reversed_gives}

pub returns : goal.returns
returns c = rw (reversed_gives _ _ c.in_ok-new.field-0 c.as_slice.result.now c.reverse.new.self.items c.in-List.is c.as_slice.ensures
    c.in_ok-new.ensures (c.reverse.ensures.items ∙ ap reverse c.in_ok-items.ensures)) c.made.ensures
