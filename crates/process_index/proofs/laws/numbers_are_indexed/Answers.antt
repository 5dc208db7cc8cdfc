-- The order of the keys tells them apart.
use Rattle.process_index.proofs.Index.{numbers_apart, get-put, put-put, put_back, same_index}
use Rattle.process_index.proofs.laws.numbers_are_indexed.Goals as goal

pub returns : goal.returns
returns c = record { read = get-put numbers_apart; one = same_index numbers_apart; later = put-put numbers_apart; back = put_back numbers_apart }
