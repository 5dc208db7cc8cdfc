-- The text is the reserved word of the arm, or none with this letter.
use Rattle.erl_scan.specs.declared.word.Word.TheVariants.{Of, Or, OrElse}
use Rattle.erl_scan.proofs.Reserved.{is_reserved, is_none_with}
use Rattle.erl_scan.proofs.word.with_o.Goals as goal

pub returns-in-of : goal.returns-in-of
returns-in-of c = is_reserved Of _ c.in-of.is

pub returns-in-or : goal.returns-in-or
returns-in-or c = is_reserved Or _ c.in-or.is

pub returns-in-orelse : goal.returns-in-orelse
returns-in-orelse c = is_reserved OrElse _ c.in-orelse.is

pub returns-in_default : goal.returns-in_default
returns-in_default c = is_none_with 111 _ c.utf8.text c.requires (c.in_default.not-of, (c.in_default.not-or, (c.in_default.not-orelse, tt)))
