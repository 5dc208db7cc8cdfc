-- A line that is not UTF-8 has no characters to show.
use Rattle.std.proofs.Common.{◌≡◌, false, true, ap, ◌∙◌}
use Rattle.std.specs.Str.{chars, is_utf8}
use Rattle.std.proofs.lemmas.Str.{is_utf8-from_IsUtf8}
use Rattle.console_answers.specs.Rows.{string}
use Rattle.console_answers.proofs.Names.{not_utf8}
use Rattle.console_answers.proofs.journal.line_term.Goals as goal

pub returns-in_ok-term-in-Ok : goal.returns-in_ok-term-in-Ok
returns-in_ok-term-in-Ok c =
    let text : is_utf8 c.args.line.now ≡ true = is_utf8-from_IsUtf8 c.args.line.now c.in-Ok.ensures.cases.1 in
    rw text (c.in_ok-term-in-Ok.ensures ∙ ap (λ bs. string (chars bs)) c.in-Ok.ensures.cases.0)

pub returns-in_ok-term-in-Err : goal.returns-in_ok-term-in-Err
unfolding chars
returns-in_ok-term-in-Err c =
    let other : is_utf8 c.args.line.now ≡ false = not_utf8 c.args.line.now c.in-Err.ensures.cases.0 in
    rw other c.in_ok-term-in-Err.ensures
