-- The owners of open calls.
use Rattle.std.specs.Ordering.{nat_cmp}
use Rattle.std.specs.FinMap.{FinMap}
use Rattle.process_index.specs.declared.numbers.Owner.{Owner}

-- the owners of open calls, under the calls' numbers
abbrev pub Owners : Type 0
Owners = FinMap nat_cmp Owner
