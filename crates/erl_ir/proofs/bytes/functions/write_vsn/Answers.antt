-- None is one byte.
use Rattle.std.proofs.Common.{sym, ap, ◌∙◌}
use base.Stored.{gnil}
use Rattle.erl_ir.specs.FormsCode.{vsn_code}
use Rattle.erl_ir.proofs.Written.{written-nil, like}
use Rattle.erl_ir.proofs.bytes.functions.write_vsn.Goals as goal

pub returns-in_ok-push-in-None : goal.returns-in_ok-push-in-None
returns-in_ok-push-in-None c =
    c.in_ok-push-in-None.ensures.items ∙ sym (written-nil c.args.out.now.items) ∙ like gnil (vsn_code c.args.vsn.now) c.args.out.now.items (sym (ap (λ x. vsn_code x) c.in-None.is))
