-- What opens a node that seats share, and why none is opened.
use Rattle.std.specs.Prelude.{◌≡◌, ◌⊎◌, ℕ, ◌<◌, zero, suc, List, [], ◌∷◌, ◌++◌}
use Rattle.release_boot.specs.Boot.{BootFails}
use Rattle.release_boot.specs.declared.error.BootError.{BootError}
use Rattle.release_boot.specs.declared.error.BootError.TheVariants as boot
use Rattle.release_table.specs.declared.table.Release.{Release}
use Rattle.node_lock.specs.Core.{SeatState}
use Rattle.node_lock.specs.declared.opening.OpenError.{OpenError}
use Rattle.node_lock.specs.declared.opening.OpenError.TheVariants as refused

-- a seat that has asked nothing
abbrev pub fresh : ℕ → SeatState
fresh number = record { number = number; lines = [] }

-- so many seats that have asked nothing, numbered from 1
abbrev pub fresh_seats : ℕ → List SeatState
fresh_seats zero = []
fresh_seats (suc count) = fresh_seats count ++ fresh (suc count) ∷ []

abbrev pub AreFresh : ℕ → List SeatState → Type 0
AreFresh count seats = seats ≡ fresh_seats count

-- why a release doesn't boot, as why no node is opened
abbrev pub IsRefused : BootError → OpenError → Type 0
IsRefused (boot.NotStarted app reason) e = e ≡ refused.Boot app reason
IsRefused boot.Memory e = e ≡ refused.Memory

-- There are to be too few seats or too many, or else the release doesn't boot, or memory is wanting.
abbrev pub OpenFails : OpenError → ℕ → Release → Type 0
OpenFails refused.SeatCount count release = (count ≡ 0) ⊎ (16 < count)
OpenFails (refused.Boot app reason) count release = (0 < count) × (count < 17) × BootFails (boot.NotStarted app reason) release
OpenFails refused.Memory count release = (0 < count) × (count < 17)
