-- What clients are told of their calls (gen_server(3): a call is replied to, or its client learns why its server ended).
use Rattle.std.specs.Prelude.{List, [], map, codes, Option, None, Some}
use Rattle.erl_term.specs.declared.term.Term.{Term}
use Rattle.erl_term.specs.declared.term.Term.TheVariants.{Atom}
use Rattle.process_index.specs.declared.calls.Call.{Call}
use Rattle.process_store.specs.declared.living.ProcessEntry.{ProcessEntry}
use Rattle.process_effects.specs.declared.told.Reply.{Reply}
use Rattle.process_effects.specs.declared.told.ReplyBody.TheVariants.{Down}

-- that the process of a call has ended for a reason
abbrev pub down : Term → Call → Reply
down reason c = record { client = c.client; number = c.number; body = Down reason }

-- a process that ends for a reason: its open calls are told so, in order of client and number
abbrev pub downs : Term → Option ProcessEntry → List Reply
downs reason None = []
downs reason (Some l) = map (down reason) l.calls

-- the reason of a process that is killed
abbrev pub killed : Term
killed = Atom (codes "killed")
