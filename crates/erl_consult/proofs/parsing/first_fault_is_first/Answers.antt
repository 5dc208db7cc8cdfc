-- From the parser, which takes the tokens of which none is faulty.
use Rattle.erl_consult.proofs.FirstFault.{first_fault}
use Rattle.erl_consult.proofs.parsing.first_fault_is_first.Goals as goal

pub returns : goal.returns
returns c = first_fault
