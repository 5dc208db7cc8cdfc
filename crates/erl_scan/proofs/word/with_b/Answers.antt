-- The text is the reserved word of the arm, or none with this letter.
use Rattle.erl_scan.specs.declared.word.Word.TheVariants.{BitAnd, Begin, BitNot, BitOr, ShiftLeft, ShiftRight, BitXor}
use Rattle.erl_scan.proofs.Reserved.{is_reserved, is_none_with}
use Rattle.erl_scan.proofs.word.with_b.Goals as goal

pub returns-in-band : goal.returns-in-band
returns-in-band c = is_reserved BitAnd _ c.in-band.is

pub returns-in-begin : goal.returns-in-begin
returns-in-begin c = is_reserved Begin _ c.in-begin.is

pub returns-in-bnot : goal.returns-in-bnot
returns-in-bnot c = is_reserved BitNot _ c.in-bnot.is

pub returns-in-bor : goal.returns-in-bor
returns-in-bor c = is_reserved BitOr _ c.in-bor.is

pub returns-in-bsl : goal.returns-in-bsl
returns-in-bsl c = is_reserved ShiftLeft _ c.in-bsl.is

pub returns-in-bsr : goal.returns-in-bsr
returns-in-bsr c = is_reserved ShiftRight _ c.in-bsr.is

pub returns-in-bxor : goal.returns-in-bxor
returns-in-bxor c = is_reserved BitXor _ c.in-bxor.is

pub returns-in_default : goal.returns-in_default
returns-in_default c = is_none_with 98 _ c.utf8.text c.requires (c.in_default.not-band, (c.in_default.not-begin, (c.in_default.not-bnot, (c.in_default.not-bor, (c.in_default.not-bsl, (c.in_default.not-bsr, (c.in_default.not-bxor, tt)))))))
