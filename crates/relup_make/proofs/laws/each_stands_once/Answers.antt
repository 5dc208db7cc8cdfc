-- Each instruction's parts stand in a script once.
use Rattle.relup_make.proofs.Standing.{stands-once}
use Rattle.relup_make.proofs.laws.each_stands_once.Goals as goal

pub returns : goal.returns
returns c = stands-once
