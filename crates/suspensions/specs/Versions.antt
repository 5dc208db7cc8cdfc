-- The old version that `code_change/3` is told of (gen_server(3), code_change/3): upwards the `-vsn` of the code that was
-- current when the object code was read, and downwards `{down,Vsn}`, with that of the object code.
use Rattle.std.specs.Prelude.{ℕ, List, codes, Option, None, Some, option_and_then}
use Rattle.std.specs.List.{find}
use Rattle.std.specs.Str.{bytes_eq}
use Rattle.erl_term.specs.Tree.{atom, none, more}
use Rattle.erl_term.specs.Term.{tree}
use Rattle.erl_term.specs.declared.term.Term.{Term}
use Rattle.erl_term.specs.declared.term.Term.TheVariants.{Atom, Tuple}
use Rattle.low_instructions.specs.declared.modules.Direction.{Direction}
use Rattle.low_instructions.specs.declared.modules.Direction.TheVariants.{Up, Down}
use Rattle.script_state.specs.declared.noted.NotedVersion.{NotedVersion}

-- what is noted of a module; the first, if there are several
abbrev pub version_of : List ℕ → List NotedVersion → Option NotedVersion
version_of name versions = find (λ v. bytes_eq v.name name) versions

-- where there is no `-vsn`, or nothing is noted: `undefined`
abbrev pub or_undefined : Option Term → Term
or_undefined None = Atom (codes "undefined")
or_undefined (Some vsn) = vsn

abbrev pub down : Term → Term
down vsn = Tuple (more (atom (codes "down")) (more (tree vsn) none))

abbrev pub noted_in : Direction → NotedVersion → Option Term
noted_in Up v = v.current
noted_in Down v = v.object

abbrev pub told_vsn : Direction → Option Term → Term
told_vsn Up vsn = or_undefined vsn
told_vsn Down vsn = down (or_undefined vsn)

abbrev pub old_vsn : Direction → List ℕ → List NotedVersion → Term
old_vsn direction name versions = told_vsn direction (option_and_then (noted_in direction) (version_of name versions))
