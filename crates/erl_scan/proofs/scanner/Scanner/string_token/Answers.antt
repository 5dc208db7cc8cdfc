-- What stands between double quotes, where there are no three.
use Rattle.std.proofs.Common.{◌∙◌, sym}
use Rattle.erl_scan.proofs.Reading.{string_taken, string_fault, three_quotes}
use Rattle.erl_scan.proofs.scanner.Scanner.string_token.Goals as goal

pub returns-then-begins_three_quotes-clause-takes : goal.returns-then-begins_three_quotes-clause-takes
returns-then-begins_three_quotes-clause-takes c =
    three_quotes _ _ _ c.requires.first (sym c.begins_three_quotes.ensures ∙ c.if-begins_three_quotes.true) c.offset.ensures

pub returns-in-Ok-clause-takes : goal.returns-in-Ok-clause-takes
returns-in-Ok-clause-takes c =
    string_taken _ _ c.in-Ok.text c.requires.first (sym c.begins_three_quotes.ensures ∙ c.if-begins_three_quotes.false) c.in-Ok.ensures.between

pub returns-in-Err-clause-takes : goal.returns-in-Err-clause-takes
returns-in-Err-clause-takes c =
    string_fault _ _ _ c.requires.first (sym c.begins_three_quotes.ensures ∙ c.if-begins_three_quotes.false) c.in-Err.ensures.between
