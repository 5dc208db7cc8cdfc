-- A line that is not UTF-8 is no command; any other is the text of its words.
use Rattle.std.proofs.Common.{◌≡◌, false, true, Some, refl, sym, ap, ◌∙◌}
use Rattle.std.specs.Str.{is_utf8}
use Rattle.std.proofs.lemmas.Str.{is_utf8-from_IsUtf8}
use Rattle.shell_requests.specs.Reading.{meant}
use Rattle.shell_requests.specs.Request.{request_of}
use Rattle.shell_requests.specs.Words.{is_silent}
use Rattle.shell_requests.proofs.Lines.{not_utf8}
use Rattle.shell_requests.proofs.reading.read_line.Goals as goal

pub returns-in_default : goal.returns-in_default
returns-in_default c =
    let heard : is_silent c.args.line.now ≡ false = sym c.is_silent.ensures ∙ c.if-is_silent.false in
    let other : is_utf8 c.args.line.now ≡ false = not_utf8 c.args.line.now c.in_default.ensures.cases.0 in
    rw (heard, other) refl

pub returns-in-Some : goal.returns-in-Some
returns-in-Some c =
    let heard : is_silent c.args.line.now ≡ false = sym c.is_silent.ensures ∙ c.if-is_silent.false in
    let text : is_utf8 c.args.line.now ≡ true = is_utf8-from_IsUtf8 c.args.line.now c.in-Ok.ensures.cases.1 in
    let asked_for : request_of c.args.line.now ≡ Some (meant c.in-Some.request) = ap request_of (sym c.in-Ok.ensures.cases.0) ∙ sym c.in-Some.ensures in
    rw (heard, text, asked_for) refl
