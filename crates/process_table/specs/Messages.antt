-- The messages that arrivals from outside come as (gen_server(3); Erlang Reference Manual, Data Types).
use Rattle.std.specs.Prelude.{ℕ, ◌^◌, nat_lt, if◌then◌else◌, pos, codes, List, Option, None, Some, ℤ}
use Rattle.erl_term.specs.Tree.{atom, int, pid, tuple, more, none}
use Rattle.erl_term.specs.Term.{tree}
use Rattle.erl_term.specs.declared.term.Term.{Term}
use Rattle.erl_term.specs.declared.term.Term.TheVariants.{Tuple}
use Rattle.process_table.specs.declared.body.ClientMessage.{ClientMessage}
use Rattle.process_table.specs.declared.body.ClientMessage.TheVariants.{Call, Cast, Info}

-- `{'$gen_call',{<0.0.0>,Number},Term}`
abbrev pub call_message : ℤ → Term → Term
call_message number t = Tuple (more (atom (codes "$gen_call"))
    (more (tuple (more (pid 0) (more (int number) none))) (more (tree t) none)))

-- `{'$gen_cast',Term}`
abbrev pub cast_message : Term → Term
cast_message t = Tuple (more (atom (codes "$gen_cast")) (more (tree t) none))

-- the message of what arrives: a call whose number is no integer of the node has none
abbrev pub message_of : ClientMessage → Option Term
message_of (Call number t) = if nat_lt number (2 ^ 63) then Some (call_message (pos number) t) else None
message_of (Cast t) = Some (cast_message t)
message_of (Info t) = Some t

-- what is told of an arrival: the name of the process that it is for, and the message, if there is one
abbrev pub arrival_of : List ℕ → Option Term → Option (List ℕ × Term)
arrival_of name None = None
arrival_of name (Some message) = Some (name, message)
