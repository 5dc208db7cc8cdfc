-- Bytes are compared, which are the characters' own.
use Rattle.erl_lint.proofs.Texts.{same_names}
use Rattle.erl_lint.proofs.scope.VariableNamePartialEq.eq.Goals as goal

pub returns : goal.returns
returns c =
    same_names _ _ _ _ c.eq.result c.self.invariant c.other.invariant c.eq.ensures c.self.view_is c.other.view_is
