-- The text is the reserved word of the arm, or none with this letter.
use Rattle.erl_scan.specs.declared.word.Word.TheVariants.{Case, Catch, Cond}
use Rattle.erl_scan.proofs.Reserved.{is_reserved, is_none_with}
use Rattle.erl_scan.proofs.word.with_c.Goals as goal

pub returns-in-case : goal.returns-in-case
returns-in-case c = is_reserved Case _ c.in-case.is

pub returns-in-catch : goal.returns-in-catch
returns-in-catch c = is_reserved Catch _ c.in-catch.is

pub returns-in-cond : goal.returns-in-cond
returns-in-cond c = is_reserved Cond _ c.in-cond.is

pub returns-in_default : goal.returns-in_default
returns-in_default c = is_none_with 99 _ c.utf8.text c.requires (c.in_default.not-case, (c.in_default.not-catch, (c.in_default.not-cond, tt)))
