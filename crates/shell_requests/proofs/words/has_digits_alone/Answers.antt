-- Each byte is a digit.
use Rattle.std.proofs.Common.{ap, ◌∙◌}
use Rattle.std.specs.List.{list_all}
use Rattle.shell_requests.specs.Words.{is_digit}
use Rattle.shell_requests.proofs.Spaces.{digits-all}
use Rattle.shell_requests.proofs.words.has_digits_alone.Goals as goal

pub returns : goal.returns
returns c =
    c.are_digits.ensures ∙ ap (list_all is_digit) c.as_bytes.ensures.value ∙ digits-all c.args.word.now
