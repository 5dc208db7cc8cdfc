-- The order of the keys tells them apart.
use Rattle.process_index.proofs.Index.{names_apart, get-put, put-put, put_back, same_index}
use Rattle.process_index.proofs.laws.names_are_indexed.Goals as goal

pub returns : goal.returns
returns c = record { read = get-put names_apart; one = same_index names_apart; later = put-put names_apart; back = put_back names_apart }
