-- It is proved.
use Rattle.script_laws.proofs.AtHand as at_hand
use Rattle.script_laws.proofs.laws.loads_take_what_was_read.Goals as goal

pub returns : goal.returns
returns c = at_hand.loads_take_what_was_read
