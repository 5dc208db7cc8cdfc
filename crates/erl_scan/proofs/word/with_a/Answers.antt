-- The text is the reserved word of the arm, or none with this letter.
use Rattle.erl_scan.specs.declared.word.Word.TheVariants.{After, And, AndAlso}
use Rattle.erl_scan.proofs.Reserved.{is_reserved, is_none_with}
use Rattle.erl_scan.proofs.word.with_a.Goals as goal

pub returns-in-after : goal.returns-in-after
returns-in-after c = is_reserved After _ c.in-after.is

pub returns-in-and : goal.returns-in-and
returns-in-and c = is_reserved And _ c.in-and.is

pub returns-in-andalso : goal.returns-in-andalso
returns-in-andalso c = is_reserved AndAlso _ c.in-andalso.is

pub returns-in_default : goal.returns-in_default
returns-in_default c = is_none_with 97 _ c.utf8.text c.requires (c.in_default.not-after, (c.in_default.not-and, (c.in_default.not-andalso, tt)))
