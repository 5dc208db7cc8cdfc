-- At most one script fits.
use Rattle.relup_make.proofs.OneScript.{script_one}
use Rattle.relup_make.proofs.laws.at_most_one_script.Goals as goal

pub returns : goal.returns
returns c = script_one
