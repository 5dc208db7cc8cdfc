-- Which function an upgrade applies (appup(4), apply): one that starts, stops or unloads an application (application(3),
-- start/1, start/2, stop/1, unload/1), or any other.
use Rattle.std.specs.Prelude.{ℕ, if◌then◌else◌, List, codes, Option, None, Some, option_and_then, option_map}
use Rattle.std.specs.Option.{option_or}
use Rattle.std.specs.Str.{bytes_eq}
use Rattle.erl_term.specs.Accessors.{one_of, two_of}
use Rattle.erl_term.specs.Tree.{Tree, Trees, atom, more, none}
use Rattle.erl_term.specs.Term.{tree}
use Rattle.erl_term.specs.declared.term.Term.{Term}
use Rattle.erl_term.specs.declared.term.Term.TheVariants as term
use Rattle.script_children.specs.declared.calls.AppCall.{AppCall}
use Rattle.script_children.specs.declared.calls.AppCall.TheVariants.{Start, Stop, Unload}
use Rattle.sys_protocol.specs.declared.app_error.AppError.{AppError}
use Rattle.sys_protocol.specs.declared.app_error.AppError.TheVariants.{NotLoaded, AlreadyStarted, BadInit, StartFailed}
use Rattle.sys_protocol.specs.declared.app_error.AppError.TheVariants.{NotStarted, Running}

-- with one argument, and with two

abbrev pub one_argument : List ℕ → Option AppCall
one_argument f = if bytes_eq f (codes "start") then Some Start else (if bytes_eq f (codes "stop") then Some Stop
    else (if bytes_eq f (codes "unload") then Some Unload else None))

abbrev pub two_arguments : List ℕ → Option AppCall
two_arguments f = if bytes_eq f (codes "start") then Some Start else None

-- The function of `application` with its first argument, which names the application. The second argument of start/2, the type
-- of the start, isn't looked at.

abbrev pub with_argument : Tree → Option AppCall → Option (AppCall × Tree)
with_argument t call = option_map (λ c. (c, t)) call

abbrev pub of_application : List ℕ → Trees → Option (AppCall × Tree)
of_application f args = option_or
    (option_and_then (λ t. with_argument t (one_argument f)) (one_of args))
    (option_and_then (λ ts. with_argument ts.0 (two_arguments f)) (two_of args))

abbrev pub call_of : List ℕ → List ℕ → Trees → Option (AppCall × Tree)
call_of m f args = if bytes_eq m (codes "application") then of_application f args else None

-- Why it fails, as a term: `{not_loaded,T}` and its like, with the term that names the application.

abbrev pub pair : Tree → Tree → Term
pair one other = term.Tuple (more one (more other none))

abbrev pub start_failed : Term → Term → Term
start_failed child reason = term.Tuple (more (atom (codes "start_failed")) (more (tree child) (more (tree reason) none)))

abbrev pub reason_of : Tree → AppError → Term
reason_of t NotLoaded = pair (atom (codes "not_loaded")) t
reason_of t AlreadyStarted = pair (atom (codes "already_started")) t
reason_of t (BadInit reason) = reason
reason_of t (StartFailed failed) = start_failed failed.child failed.reason
reason_of t NotStarted = pair (atom (codes "not_started")) t
reason_of t Running = pair (atom (codes "running")) t
