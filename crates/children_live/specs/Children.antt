-- The children that run, and the processes that they are.
use Rattle.std.specs.Prelude.{◌≡◌, ◌⊎◌, ℕ, List, [], ◌∷◌, Option, Some, IsSome, option_and_then}
use Rattle.app_table.specs.Applications.{Application, child_at}
use Rattle.app_table.specs.Ordered.{pid_in}
use Rattle.app_table.specs.Renewing.{with_renewed}
use Rattle.app_table.specs.declared.spot.Spot.{Spot}
use Rattle.child_specs.specs.declared.child.ChildSpec.{ChildSpec}
use Rattle.process_store.specs.Table.{Table, living}

-- the pid of the process that the child at a spot runs as, where it runs
abbrev pub runs_at : Spot → List Application → Option ℕ
runs_at spot apps = option_and_then (λ c. pid_in c.state) (child_at spot apps)

-- Each child that runs is a process that lives, and no two are one process.
pub record ChildrenLive (apps : List Application) (t : Table) : Type 0 where
  pub live : (spot : Spot) (pid : ℕ) → runs_at spot apps ≡ Some pid → IsSome (living pid t)
  pub apart : (one other : Spot) (pid : ℕ) → runs_at one apps ≡ Some pid → runs_at other apps ≡ Some pid → one ≡ other

-- Each application is as it was, or its children are specified anew.
abbrev pub AreRenewed : List Application → List Application → Type 0
AreRenewed [] [] = Unit {0}
AreRenewed [] (b ∷ after) = ⊥
AreRenewed (a ∷ apps) [] = ⊥
AreRenewed (a ∷ apps) (b ∷ after) = ((b ≡ a) ⊎ ((specs : List ChildSpec) × (b ≡ with_renewed specs a))) × AreRenewed apps after
