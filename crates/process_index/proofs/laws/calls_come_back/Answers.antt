-- A call is put in where it was taken out.
use Rattle.process_index.proofs.OpenCalls.{with_call-without, without-with_call}
use Rattle.process_index.proofs.laws.calls_come_back.Goals as goal

pub returns : goal.returns
returns c = λ call calls ordered. (without-with_call call calls, with_call-without call calls ordered)
