use Rattle.erl_scan.proofs.OneWay.{comes_one, reads_one}
use Rattle.erl_scan.proofs.laws.tokens_read_one_way.Goals as goal

pub returns-clause-comes : goal.returns-clause-comes
returns-clause-comes c = comes_one c.quotes_read_one_way.ensures

pub returns-clause-reads : goal.returns-clause-reads
returns-clause-reads c = reads_one c.quotes_read_one_way.ensures
