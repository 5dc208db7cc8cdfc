-- A line that is not UTF-8 asks for nothing; any other is the text of its words.
use Rattle.std.proofs.Common.{◌≡◌, false, true, refl, sym, ap, ◌∙◌}
use Rattle.std.specs.Str.{is_utf8}
use Rattle.std.proofs.lemmas.Str.{is_utf8-from_IsUtf8}
use Rattle.shell_requests.specs.Console.{console_request_of}
use Rattle.shell_requests.specs.Words.{is_silent}
use Rattle.shell_requests.proofs.Lines.{not_utf8}
use Rattle.shell_requests.proofs.console.read_console.Goals as goal

pub returns-in-Ok : goal.returns-in-Ok
returns-in-Ok c =
    let heard : is_silent c.args.line.now ≡ false = sym c.is_silent.ensures ∙ c.if-is_silent.false in
    let text : is_utf8 c.args.line.now ≡ true = is_utf8-from_IsUtf8 c.args.line.now c.in-Ok.ensures.cases.1 in
    rw (heard, text) (c.read_text.ensures ∙ ap console_request_of c.in-Ok.ensures.cases.0)

pub returns-in-Err : goal.returns-in-Err
returns-in-Err c =
    let heard : is_silent c.args.line.now ≡ false = sym c.is_silent.ensures ∙ c.if-is_silent.false in
    let other : is_utf8 c.args.line.now ≡ false = not_utf8 c.args.line.now c.in-Err.ensures.cases.0 in
    rw (heard, other) refl
