-- What is loaded, application by application: the modules of one are dealt to the index where it stands first.
use Rattle.std.specs.Prelude.{◌≡◌, ◌<◌, ◌==◌, ℕ, Bool, true, false, if◌then◌else◌, List, [], ◌∷◌, ◌++◌, length, map}
use Rattle.std.specs.Prelude.{filter, slice_index_or}
use Rattle.std.specs.Option.{option_map_or}
use Rattle.std.specs.declared.vec.Vec.{Vec}
use Rattle.high_instructions.specs.Forms.{Name, Names}
use Rattle.relup_make.specs.Indexes.{index_of}
use Rattle.relup_make.specs.Releases.{has_app}
use Rattle.relup_make.specs.Work.{Way, target}

-- the application is one of the target's
abbrev pub IsInTarget : Way → Name × Name → Type 0
IsInTarget way p = has_app p.0 (target way) ≡ true

abbrev pub names_of_pairs : List (Name × Name) → Names
names_of_pairs pairs = map (λ p. p.0) pairs

-- a name stands first at an index
abbrev pub is_first : Names → ℕ → Name → Bool
is_first names index name = option_map_or (λ first. first == index) (index_of 0 name names) false

-- the modules of the application that stands first at an index
abbrev pub dealt : Names → ℕ → List (Name × Name) → Names
dealt names index pairs = map (λ p. p.1) (filter (λ p. is_first names index p.0) pairs)

-- so many piles, each with the modules that are dealt to its index
pub record IsDealt {Z : Type 0} (names : Names) (pairs : List (Name × Name)) (count : ℕ) (piles : List (Vec Name Z)) :
    Type 0 where
  pub many : length piles ≡ count
  pub each : (k : ℕ) (d : Vec Name Z) → k < count → (slice_index_or piles k d).items ≡ dealt names k pairs

-- one pair more is dealt
pub record IsPut {Z : Type 0} (names : Names) (pair : Name × Name) (old new : List (Vec Name Z)) : Type 0 where
  pub many : length new ≡ length old
  pub each : (k : ℕ) (d : Vec Name Z) → k < length old →
      (slice_index_or new k d).items ≡ (slice_index_or old k d).items ++ (if is_first names k pair.0 then pair.1 ∷ [] else [])
