-- How a node is run, as the command line asks for it.
use Rattle.std.specs.Prelude.{ℕ, ◌==◌, Bool, false, List, [], ◌∷◌, Option, None, Some}
use Rattle.relnode_options.specs.declared.Way.{Way}
use Rattle.relnode_options.specs.declared.Way.TheVariants.{Console, Stepped, Workers}

-- how many workers there are, if there are any
abbrev pub workers_in : Way → Option ℕ
workers_in Stepped = None
workers_in Console = None
workers_in (Workers n) = Some n

-- a plus sign (43) in front
abbrev pub begins_with_plus : List ℕ → Bool
begins_with_plus [] = false
begins_with_plus (b ∷ bs) = b == 43
