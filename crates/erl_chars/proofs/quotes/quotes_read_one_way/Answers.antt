-- What stands between quotes is read in one way only.
use Rattle.erl_chars.proofs.Characters.{one-reading}
use Rattle.erl_chars.proofs.quotes.quotes_read_one_way.Goals as goal

pub returns : goal.returns
returns c = one-reading
