-- Digits are no brackets.
use Rattle.std.proofs.Common.{◌∙◌, ap}
use Rattle.std.proofs.lemmas.Result.{on_ok_weaker}
use Rattle.rehearsal_page.specs.Escaping.{brackets}
use Rattle.rehearsal_page.proofs.Written.{appended, number-is-plain, plain-behind}
use Rattle.rehearsal_page.proofs.parts.put_number.Goals as goal

pub returns-clause-brackets : goal.returns-clause-brackets
returns-clause-brackets c =
    on_ok_weaker c.extend_from_slice.result (λ wrote. plain-behind c.args.out.now.items c.extend_from_slice.new.self.items c.as_bytes.result.now wrote (ap brackets (c.as_bytes.ensures.value ∙ c.in_ok-text.ensures.ok) ∙ number-is-plain c.args.number c.ranges.number.fits)) (appended c.extend_from_slice.result c.args.out.now.items c.extend_from_slice.new.self.items c.as_bytes.result.now c.extend_from_slice.ensures.items)
