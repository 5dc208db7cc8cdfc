-- Digits are ASCII.
use Rattle.std.proofs.Common.{sym, ◌∙◌}
use Rattle.shell_answers.proofs.Pieces.{number-bytes, on_ok, same}
use Rattle.shell_answers.proofs.bytes.put_number.Goals as goal

pub returns : goal.returns
returns c =
    on_ok c.put.result _ _ c.put.ensures (λ wrote. same c.args.out.now.items c.put.new.out.items c.as_bytes.result.now _ wrote (c.as_bytes.ensures.value ∙ c.format.ensures.text ∙ sym (number-bytes c.args.n c.ranges.n.fits)))
