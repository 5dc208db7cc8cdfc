-- What a start function has given, and whether a process was started by it (supervisor(3), start functions of children).
use Rattle.std.specs.Prelude.{ℕ, ◌==◌, Bool, true, false, ◌&&◌, ◌||◌, if◌then◌else◌, List, [], ◌∷◌, codes, Option, None, Some}
use Rattle.std.specs.Str.{bytes_eq}
use Rattle.erl_semantics.specs.declared.acts.Act.{Act}
use Rattle.erl_semantics.specs.declared.acts.Act.TheVariants as act
use Rattle.erl_term.specs.Accessors.{atom_of, pid_of, three_of, tuple_of, two_of}
use Rattle.erl_term.specs.Conversions.{given}
use Rattle.erl_term.specs.Tree.{Tree, atom, pid, none, more}
use Rattle.erl_term.specs.Term.{tree, term_of}
use Rattle.erl_term.specs.declared.term.Term.{Term}
use Rattle.erl_term.specs.declared.term.Term.TheVariants as term
use Rattle.erl_semantics.specs.declared.outcome.End.{End}
use Rattle.erl_semantics.specs.declared.outcome.End.TheVariants.{Rest, Value, Exit}
use Rattle.erl_semantics.specs.declared.outcome.Outcome.{Outcome}
use Rattle.process_store.specs.Table as table
use Rattle.process_store.specs.Table.{Table}

-- whether an act starts a process, and whether one of these does

abbrev pub is_start : Act → Bool
is_start (act.Send to message) = false
is_start (act.Reply number reply) = false
is_start (act.Start place) = true
is_start (act.Name name by_register) = false

abbrev pub starts : List Act → Bool
starts [] = false
starts (a ∷ others) = if is_start a then true else starts others

-- the name that acts ask for, and whether by `register/2`
abbrev pub name_in : List Act → Option (List ℕ × Bool)
name_in [] = None
name_in (act.Send to message ∷ others) = name_in others
name_in (act.Reply number reply ∷ others) = name_in others
name_in (act.Start place ∷ others) = name_in others
name_in (act.Name name by_register ∷ others) = Some (name, by_register)

-- words and pids

abbrev pub is_text : List ℕ → Option (List ℕ) → Bool
is_text word None = false
is_text word (Some cs) = bytes_eq cs word

abbrev pub is_word : List ℕ → Tree → Bool
is_word word t = is_text word (atom_of t)

abbrev pub is_number : ℕ → Option ℕ → Bool
is_number p None = false
is_number p (Some n) = n == p

abbrev pub is_pid : ℕ → Tree → Bool
is_pid p t = is_number p (pid_of t)

-- `{ok,Pid}` or `{ok,Pid,Info}` of the process

abbrev pub is_pair : ℕ → Option (Tree × Tree) → Bool
is_pair p None = false
is_pair p (Some it) = is_word (codes "ok") it.0 && is_pid p it.1

abbrev pub is_triple : ℕ → Option (Tree × Tree × Tree) → Bool
is_triple p None = false
is_triple p (Some it) = is_word (codes "ok") it.0 && is_pid p it.1

abbrev pub is_ok : ℕ → Tree → Bool
is_ok p t = is_pair p (given (tuple_of t) two_of) || is_triple p (given (tuple_of t) three_of)

-- `{error,R}` fails with R, and any other value with itself

abbrev pub error_in : Option (Tree × Tree) → Tree → Tree
error_in None t = t
error_in (Some it) t = if is_word (codes "error") it.0 then it.1 else t

abbrev pub reason_of : Tree → Tree
reason_of t = error_in (given (tuple_of t) two_of) t

-- Why evaluating has failed, if it has. What is called from outside rests nowhere: that would be no part of the profile.
abbrev pub end_fault : ℕ → Bool → End → Option Term
end_fault p started (Rest place) = Some (term.Atom (codes "not_in_profile"))
end_fault p started (Value v) = if started && is_ok p (tree v) then None else Some (term_of (reason_of (tree v)))
end_fault p started (Exit reason) = Some reason

-- Why the name that it asks for can't be given, if it can't.

abbrev pub already_started : ℕ → Term
already_started holder = term.Tuple (more (atom (codes "already_started")) (more (pid holder) none))

abbrev pub taken_by : Bool → Option ℕ → Option Term
taken_by by_register None = None
taken_by true (Some holder) = Some (term.Atom (codes "badarg"))
taken_by false (Some holder) = Some (already_started holder)

abbrev pub name_fault : Option (List ℕ × Bool) → Table → Option Term
name_fault None t = None
name_fault (Some asked) t = taken_by asked.1 (table.pid_of asked.0 t)

-- A taken name is looked for once evaluating has succeeded.

abbrev pub first_of : Option Term → Option Term → Option Term
first_of None second = second
first_of (Some fault) second = Some fault

abbrev pub start_fault : ℕ → Outcome → Table → Option Term
start_fault p o t = first_of (end_fault p (starts o.acts) o.end) (name_fault (name_in o.acts) t)
