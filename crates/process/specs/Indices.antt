-- What the functions say that look for the indices of the modules that can be reached. An index is counted from 0, in the
-- order of the table.
use Rattle.std.specs.Prelude.{◌≡◌, ℕ, ◌+◌, ◌⊎◌, true, List, [], ◌∷◌, length, Contains, Option, Some, None, option_and_then, slice_get}
use Rattle.std.specs.Option.{option_map}
use Rattle.std.specs.Ordering.{nat_cmp}
use Rattle.std.specs.BTreeSet.{BTreeSet, IsOrdered, contains}
use Rattle.erl_ir.specs.Module.{Forms}
use Rattle.erl_semantics.specs.State.{Instance}
use Rattle.code_server.specs.Modules.{Entry, Table, index_of}
use Rattle.code_server.specs.Indices.{current_at}
use Rattle.code_server.specs.declared.modules.Instance as loaded
use Rattle.process.specs.declared.reached.Found.{Found}
use Rattle.process.specs.JobCode.{IsNamed, IsReached, instance_of}

-- a module that is named in code stands at an index
pub data IsNamedAt (t : Table Forms) (code : Forms) (index : ℕ) : Type 0 where
  named_at : {name : List ℕ} → IsNamed name code → index_of name t.entries ≡ Some index → IsNamedAt t code index

-- a module stands at an index that is named in the current code of the module at another
pub data IsNamedFrom (t : Table Forms) (by index : ℕ) : Type 0 where
  named_from : {i : loaded.Instance Forms} → current_at t.entries by ≡ Some i → IsNamedAt t i.code index → IsNamedFrom t by index

-- a module that can be reached stands at an index
pub data IsReachedAt (t : Table Forms) (from : Forms) (index : ℕ) : Type 0 where
  reached_at : {name : List ℕ} → IsReached t from name → index_of name t.entries ≡ Some index → IsReachedAt t from index

-- an index was found
abbrev pub Has : BTreeSet ℕ → ℕ → Type 0
Has indices index = contains nat_cmp indices index ≡ true

-- it waits
abbrev pub Waits : Found → ℕ → Type 0
Waits s index = Contains s.waiting.items index

-- more indices were found, each with a property; these wait, and no others do besides
pub record Grows (Is : ℕ → Type 0) (before after : Found) : Type 0 where
  pub kept : (p : ℕ) → Has before.indices p → Has after.indices p
  pub still : (p : ℕ) → Waits before p → Waits after p
  pub new : (p : ℕ) → Has after.indices p → Has before.indices p ⊎ (Is p × Waits after p)
  pub found : (p : ℕ) → Waits after p → Waits before p ⊎ Has after.indices p
  pub counted : length after.indices.keys + length before.waiting.items ≡ length before.indices.keys + length after.waiting.items
  pub ordered : IsOrdered nat_cmp before.indices → IsOrdered nat_cmp after.indices

-- each module that is named in code was found, where it stands in the table
abbrev pub AreFound : Table Forms → Forms → BTreeSet ℕ → Type 0
AreFound t code indices = (p : ℕ) → IsNamedAt t code p → Has indices p

-- the same of each module that is named in the current code of the module at an index
abbrev pub AreFoundFrom : Table Forms → ℕ → BTreeSet ℕ → Type 0
AreFoundFrom t by indices = (p : ℕ) → IsNamedFrom t by p → Has indices p

-- These are the indices of the modules that can be reached, ascending.
pub record AreReachedIndices (t : Table Forms) (from : Forms) (indices : BTreeSet ℕ) : Type 0 where
  pub ordered : IsOrdered nat_cmp indices
  pub reached : (p : ℕ) → Has indices p → IsReachedAt t from p
  pub all : (p : ℕ) → IsReachedAt t from p → Has indices p

-- the name of the module at an index, with its current code
abbrev pub named_current : Entry Forms → Option (List ℕ × loaded.Instance Forms)
named_current entry = option_map (λ i. (entry.0, i)) entry.1.current

abbrev pub named_current_at : List (Entry Forms) → ℕ → Option (List ℕ × loaded.Instance Forms)
named_current_at entries index = option_and_then named_current (slice_get entries index)

abbrev pub before_others : Option (List ℕ × loaded.Instance Forms) → List Instance → List Instance
before_others None others = others
before_others (Some current) others = instance_of current.0 current.1 ∷ others

-- the current code of the modules at these indices
abbrev pub current_code : List (Entry Forms) → List ℕ → List Instance
current_code entries [] = []
current_code entries (index ∷ indices) = before_others (named_current_at entries index) (current_code entries indices)
