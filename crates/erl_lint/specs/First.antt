-- Which fault of a module is told: the one that stands first in the source.
use Rattle.std.specs.Prelude.{◌≡◌, ℕ, ◌≤◌, nat_le, if◌then◌else◌, List, [], Option, None, Some, fold, Contains, All}
use Rattle.erl_lint.specs.declared.fault.StaticFault.{StaticFault}
use Rattle.erl_lint.specs.declared.fault.StaticFault.TheVariants.{DuplicateFunction, UnboundVariable, UndefinedLocal}

-- where a fault stands: the first byte of its token in the source, from 0
abbrev pub offset : StaticFault → ℕ
offset (DuplicateFunction at) = at
offset (UnboundVariable at) = at
offset (UndefinedLocal at) = at

-- the one of two faults that stands at the lesser offset, the first one where they stand at one offset
abbrev pub sooner : Option StaticFault → StaticFault → Option StaticFault
sooner None f = Some f
sooner (Some g) f = if nat_le (offset g) (offset f) then Some g else Some f

-- the same of a fault that was found before, and of all these
abbrev pub soonest : Option StaticFault → List StaticFault → Option StaticFault
soonest found faults = fold sooner found faults

-- None where there is no fault, else one of the faults, and no fault stands at a lesser offset.
abbrev pub IsFirstFault : Option StaticFault → List StaticFault → Type 0
IsFirstFault None faults = faults ≡ []
IsFirstFault (Some f) faults = Contains faults f × All (λ g. offset f ≤ offset g) faults
