-- A text that is refused is told as such; more terms than one are a first, a second and others.
use Rattle.std.proofs.Common.{◌<◌, length, inr, arith, refl}
use Rattle.otp_files.specs.Texts.{many_terms}
use Rattle.otp_files.proofs.Many.{many}
use Rattle.otp_files.proofs.Told.{told_one}
use Rattle.otp_files.proofs.one_term.read_one.Goals as goal

pub returns-in-Err : goal.returns-in-Err
returns-in-Err c = told_one c.args.text.now c.in-Err.error c.text_error.result c.in-Err.ensures c.text_error.ensures

pub returns-then-len-gt1 : goal.returns-then-len-gt1
returns-then-len-gt1 c =
    let more_than_one : 1 < length c.in-Ok.terms.items = omega arith in
    inr (many_terms (many c.args.text.now c.in-Ok.terms.items more_than_one c.in-Ok.ensures) refl)
