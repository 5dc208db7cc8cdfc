-- Token by token.
use Rattle.erl_consult.proofs.Reprinting.{printed_reads}
use Rattle.erl_consult.proofs.parsing.printed_terms_are_read.Goals as goal

pub returns : goal.returns
returns c = printed_reads
