-- What becomes of a child when its process ends (supervisor(3), Restart; Shutdown).
use Rattle.std.specs.Prelude.{ℕ, List, ◌==◌, Bool, true, false, not, if◌then◌else◌, ◌&&◌, ◌||◌, codes, Option, None, Some}
use Rattle.erl_term.specs.Accessors.{atom_of, tuple_of, two_of}
use Rattle.erl_term.specs.Conversions.{given}
use Rattle.erl_term.specs.Tree.{Tree}
use Rattle.erl_term.specs.Term.{tree}
use Rattle.erl_term.specs.declared.term.Term.{Term}
use Rattle.std.specs.Str.{bytes_eq}
use Rattle.app_table.specs.declared.child.Child.{Child}
use Rattle.app_table.specs.declared.child.ChildState.{ChildState}
use Rattle.app_table.specs.declared.child.ChildState.TheVariants.{Running, Due, Stopped}
use Rattle.child_specs.specs.declared.child.ChildSpec.{ChildSpec}
use Rattle.child_specs.specs.declared.child.Restart.{Restart}
use Rattle.child_specs.specs.declared.child.Restart.TheVariants.{Permanent, Transient, Temporary}

-- `normal`, `shutdown` and `{shutdown,_}` are no failures

abbrev pub is_named : List ℕ → Option (List ℕ) → Bool
is_named word None = false
is_named word (Some name) = bytes_eq name word

abbrev pub is_word : List ℕ → Tree → Bool
is_word word t = is_named word (atom_of t)

abbrev pub is_shutdown_pair : Option (Tree × Tree) → Bool
is_shutdown_pair None = false
is_shutdown_pair (Some it) = is_word (codes "shutdown") it.0

abbrev pub is_clean : Tree → Bool
is_clean reason = is_word (codes "normal") reason || is_word (codes "shutdown") reason ||
    is_shutdown_pair (given (tuple_of reason) two_of)

-- whether a child that has ended for a reason is to be started again
abbrev pub is_due_after : Term → Restart → Bool
is_due_after reason Permanent = true
is_due_after reason Transient = not (is_clean (tree reason))
is_due_after reason Temporary = false

-- a child in this state
abbrev pub in_state : ChildState → Child → Child
in_state s c = record c { state = s }

-- a child that runs as the process of a pid
abbrev pub running : ChildSpec → ℕ → Child
running spec pid = record { spec = spec; state = Running pid }

-- it is to be started again

abbrev pub is_due_in : ChildState → Bool
is_due_in (Running its) = false
is_due_in Due = true
is_due_in Stopped = false

abbrev pub is_due : Child → Bool
is_due c = is_due_in c.state

-- it runs as the process of a pid

abbrev pub runs_in : ℕ → ChildState → Bool
runs_in pid (Running its) = its == pid
runs_in pid Due = false
runs_in pid Stopped = false

abbrev pub runs_as : ℕ → Child → Bool
runs_as pid c = runs_in pid c.state

-- its process has ended for a reason; no child is due of an application that isn't started
abbrev pub after_end : Bool → Term → Child → Child
after_end is_started reason c = in_state (if is_started && is_due_after reason c.spec.restart then Due else Stopped) c
