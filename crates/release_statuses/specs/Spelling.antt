-- The texts under which releases stand.
use Rattle.std.specs.Prelude.{◌≡◌, List, All, String, string_bytes}
use Rattle.std.specs.Str.{chars}
use Rattle.release_statuses.specs.declared.listed.Listed.{Listed}
use Rattle.release_statuses.specs.Statuses.{vsn_of}

module _ {Z : Type 0} where
  -- a text is of the characters of a release's version
  abbrev pub Spells : String Z → Listed → Type 0
  Spells text it = chars (string_bytes text) ≡ vsn_of it

  -- a release stands under a text of its version
  abbrev pub IsSpelled : String Z × Listed → Type 0
  IsSpelled entry = Spells entry.0 entry.1

  -- each of the releases does
  abbrev pub AreSpelled : List (String Z × Listed) → Type 0
  AreSpelled entries = All IsSpelled entries
