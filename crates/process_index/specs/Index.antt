-- What is found under a key. An index is a finite map of std (`Rattle.std.specs.FinMap`): of two that have the same
-- under each key, either is the other.
use Rattle.std.specs.Prelude.{ℕ, Option, None, Some}
use Rattle.std.specs.declared.cmp.Ordering.{Ordering}
use Rattle.std.specs.Ordering.{nat_cmp}
use Rattle.std.specs.Cmp.Lexicographic.{slice_cmp}
use Rattle.std.specs.FinMap.{FinMap, insert, remove}

-- the pids of processes, under the names that they are registered as
abbrev pub Names : Type 0
Names = FinMap (slice_cmp nat_cmp) ℕ

-- with this under a key: a value, or nothing
unfoldable pub put : {K X : Type 0} {R : K → K → Ordering} → K → Option X → FinMap R X → FinMap R X
put k None m = remove m k
put k (Some v) m = insert m k v
