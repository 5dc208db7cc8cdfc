-- The tokens of bytes are one list, and they are written as one module, which means one.
use Rattle.erl_parse.proofs.Meanings.{one_meaning, faultless_mean}
use Rattle.erl_parse.proofs.source.sources_mean_one_module.Goals as goal

pub returns : goal.returns
returns c = record { one = one_meaning; faultless = faultless_mean }
