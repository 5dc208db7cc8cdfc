-- The digits are ASCII.
use Rattle.std.proofs.Common.{w64, sym, ◌∙◌}
use Rattle.std.specs.Fmt.{signed_decimal}
use Rattle.std.proofs.lemmas.Int.{to_z-of_z}
use Rattle.erl_term.specs.Text.{utf8}
use Rattle.erl_term.proofs.Appending.{renamed}
use Rattle.erl_term.proofs.Texts.{integer-bytes}
use Rattle.erl_term.proofs.printing.append_integer.Goals as goal

pub returns : goal.returns
returns c =
    let fits = c.ranges.n in
    let written = rw (to_z-of_z w64 c.args.n fits) at c.format.ensures.text in
    renamed c.put.result c.args.out.now.items c.put.new.out.items c.as_bytes.result.now (utf8 (signed_decimal c.args.n)) c.put.ensures (c.as_bytes.ensures.value ∙ written ∙ sym (integer-bytes c.args.n fits.sfits))
