-- The code that a job is given: first the instance that it is entered in, and then the current code of each module that
-- can be reached from there by remote calls that are written (Erlang Reference Manual, Compilation and Code Loading: a
-- remote call always goes to the current code).
use Rattle.std.specs.Prelude.{◌≡◌, ℕ, List, [], ◌∷◌, Any, Some, None}
use Rattle.erl_ir.specs.Module.{Forms, called_in_functions}
use Rattle.code_server.specs.Modules.{Entry, Table, current_of}
use Rattle.code_server.specs.declared.modules.Instance as loaded
use Rattle.erl_semantics.specs.State.{Instance}

-- a module is named in a remote call of code, as `m:f(..)` or, its own, as `?MODULE:f(..)`
abbrev pub IsNamed : List ℕ → Forms → Type 0
IsNamed name forms = Any (λ n. n ≡ name) (called_in_functions forms.functions)

-- A module can be reached from code: it is named there, or in the current code of a module that can be reached.
pub data IsReached (t : Table Forms) (from : Forms) : List ℕ → Type 0 where
  named : {name : List ℕ} → IsNamed name from → IsReached t from name
  named_by : {by name : List ℕ} {i : loaded.Instance Forms} → IsReached t from by → current_of by t ≡ Some i →
      IsNamed name i.code → IsReached t from name

-- an instance with the name under which it is loaded
abbrev pub instance_of : List ℕ → loaded.Instance Forms → Instance
instance_of name i = record { name = name; serial = i.serial; forms = i.code }

-- `AreReached t from entries code`: this is the current code of those of the entries that can be reached, in their order.
pub data AreReached (t : Table Forms) (from : Forms) : List (Entry Forms) → List Instance → Type 0 where
  none : AreReached t from [] []
  reached : {entry : Entry Forms} {entries : List (Entry Forms)} {i : loaded.Instance Forms} {code : List Instance} →
      IsReached t from entry.0 → entry.1.current ≡ Some i → AreReached t from entries code →
      AreReached t from (entry ∷ entries) (instance_of entry.0 i ∷ code)
  without_code : {entry : Entry Forms} {entries : List (Entry Forms)} {code : List Instance} →
      entry.1.current ≡ None → AreReached t from entries code → AreReached t from (entry ∷ entries) code
  not_reached : {entry : Entry Forms} {entries : List (Entry Forms)} {code : List Instance} →
      (IsReached t from entry.0 → ⊥) → AreReached t from entries code → AreReached t from (entry ∷ entries) code

-- `IsJobCode t entered code`: this is the code of a job that is entered in the instance. The instance may be old code, and
-- its module is reached like others: its current code stands once more where a remote call names it.
pub data IsJobCode (t : Table Forms) (entered : Instance) : List Instance → Type 0 where
  job_code : {reached : List Instance} → AreReached t entered.forms t.entries reached → IsJobCode t entered (entered ∷ reached)
