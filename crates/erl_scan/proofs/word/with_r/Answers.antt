-- The text is the reserved word of the arm, or none with this letter.
use Rattle.erl_scan.specs.declared.word.Word.TheVariants.{Receive, Rem}
use Rattle.erl_scan.proofs.Reserved.{is_reserved, is_none_with}
use Rattle.erl_scan.proofs.word.with_r.Goals as goal

pub returns-in-receive : goal.returns-in-receive
returns-in-receive c = is_reserved Receive _ c.in-receive.is

pub returns-in-rem : goal.returns-in-rem
returns-in-rem c = is_reserved Rem _ c.in-rem.is

pub returns-in_default : goal.returns-in_default
returns-in_default c = is_none_with 114 _ c.utf8.text c.requires (c.in_default.not-receive, (c.in_default.not-rem, tt))
