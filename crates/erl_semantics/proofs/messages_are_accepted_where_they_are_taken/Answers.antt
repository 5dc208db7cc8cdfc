use Rattle.std.specs.Prelude.{refl}
use Rattle.erl_term.specs.Tree.{count}
use Rattle.erl_ir.specs.Module.{function_of}
use Rattle.erl_semantics.specs.Jobs.{heard}
use Rattle.erl_semantics.proofs.Hearing.{selects_one, taken_at, refused_at}
use Rattle.erl_semantics.proofs.messages_are_accepted_where_they_are_taken.Goals as goal

pub returns : goal.returns
returns c = record {
  servers = λ self m s code message. refl;
  loops = λ self m serial name args i is message. selects_one (heard self message args (function_of name (count args) i.forms));
  taken = λ j some. taken_at j j.place j.entry_serial j.code some;
  refused = λ j some e. refused_at j j.place j.entry_serial j.code some e;
}
