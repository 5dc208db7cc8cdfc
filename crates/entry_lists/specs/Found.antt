-- What was found of replies that stand in several lists, one behind the other.
use Rattle.std.specs.Prelude.{◌≡◌, ◌≤◌, ℕ, nat_eq, List, [], ◌++◌, filter, length, take, slice_index_or, Vec}
use Rattle.std.specs.BTreeMap.{BTreeMap, get}
use Rattle.std.specs.List.{flat_map}
use Rattle.std.specs.Option.{option_map_or}
use Rattle.std.specs.Ordering.{nat_cmp}
use Rattle.entry_lists.specs.declared.found.Found.{Found}

-- the list at a client's number; an empty one where there is none
abbrev pub list_of : {R Z : Type 0} → BTreeMap ℕ (Vec R Z) → ℕ → List R
list_of lists client = option_map_or (λ list. list.items) (get nat_cmp lists client) []

-- a front of lists, one behind the other: so many of them whole, and so many items of the next
abbrev pub front_of : {R : Type 0} → List (List R) → ℕ → ℕ → List R
front_of lists whole some = flat_map (λ list. list) (take whole lists) ++ take some (slice_index_or lists whole [])

-- A front of the lists was looked at, and of each client the replies in it were found.
pub record HasLooked {R : Type 0} (client_of : R → ℕ) (replies : List (List R)) (found : Found R) : Type 0 where
  pub run : found.run ≤ length replies
  pub reply : found.reply ≤ length (slice_index_or replies found.run [])
  pub lists : (client : ℕ) → list_of found.lists client ≡
      filter (λ r. nat_eq (client_of r) client) (front_of replies found.run found.reply)
