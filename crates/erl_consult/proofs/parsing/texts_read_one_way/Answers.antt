-- From the law of tokens.
use Rattle.erl_consult.proofs.Uniqueness.{one_reading}
use Rattle.erl_consult.proofs.parsing.texts_read_one_way.Goals as goal

pub returns : goal.returns
returns c = one_reading c.tokens_read_one_way.ensures.comes c.tokens_read_one_way.ensures.reads
