-- Each part is one line.
use Rattle.diagnostics.proofs.shown.push_escape.Goals as goal

pub returns-in_err-push_plain-3 : goal.returns-in_err-push_plain-3
returns-in_err-push_plain-3 c = λ so.
    c.push_plain-3.ensures.one_line (c.push_plain-2.ensures.one_line (c.push_plain.ensures.one_line so))

pub returns-in_err-push_hexadecimal : goal.returns-in_err-push_hexadecimal
returns-in_err-push_hexadecimal c = λ so.
    c.push_hexadecimal.ensures (c.push_plain-3.ensures.one_line (c.push_plain-2.ensures.one_line (c.push_plain.ensures.one_line so)))

pub returns : goal.returns
returns c = λ so.
    c.push_plain-4.ensures.one_line (c.push_hexadecimal.ensures (c.push_plain-3.ensures.one_line (c.push_plain-2.ensures.one_line (c.push_plain.ensures.one_line so))))
