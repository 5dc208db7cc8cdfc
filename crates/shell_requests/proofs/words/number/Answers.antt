-- Digits that are no number below 2^64.
use Rattle.std.proofs.Common.{◌≡◌, true, Err, rules}
use Rattle.std.specs.Str.{all_ascii_digits}
use Rattle.std.proofs.lemmas.Str.Parse.{parse_digits, numerals_by_value, tells_all_ascii_digits}
use Rattle.shell_requests.proofs.Spaces.{number-none}
use Rattle.shell_requests.proofs.words.number.Goals as goal

pub returns-in-Err : goal.returns-in-Err
returns-in-Err c =
    let word = c.args.word.now in
    let digits : all_ascii_digits word ≡ true = search rules in
    number-none word digits (parse_digits (numerals_by_value (λ ds. all_ascii_digits ds ≡ true) tells_all_ascii_digits) 64 word (Err c.in-Err.field-0) c.in-Err.ensures.value.0 digits)
