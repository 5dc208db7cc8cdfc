use Rattle.std.proofs.Common.{ap, sym, ◌∙◌, nat_lt}
use Rattle.erl_consult.proofs.Stepping.{length-frames}
use Rattle.erl_consult.proofs.parsing.parser.Parser.has_room.Goals as goal

pub returns : goal.returns
returns c = ap (λ n. nat_lt n 256) (c.len.ensures ∙ c.args.self.now.«open».ok.0 ∙ sym (length-frames c.args.self.now.«open».items))
