-- Entries in order, and how they are kept.
use Rattle.std.specs.Prelude.{◌≡◌, ℕ, ◌<◌, Bool, List, [], ◌∷◌, ◌++◌, All, map, replicate}
use Rattle.std.specs.List.{flat_map}
use Rattle.entry_lists.specs.declared.entries.Run.{Run}

-- Entries in order: as the runs that they are kept in, each repeat written out, and whether one more can be kept without memory.
pub record EntryList (E : Type 0) : Type 0 where
  pub runs : List (Run E)
  pub items : List E
  pub room : Bool

-- A run counts its entry once or more, and more than once only where the entry is idle.
pub record IsRun {E : Type 0} (IsIdle : E → Type 0) (run : Run E) : Type 0 where
  pub some : 0 < run.count
  pub idle : 1 < run.count → IsIdle run.entry

-- the entries of runs, in order, each as often as its run counts it
abbrev pub written_out : {E : Type 0} → List (Run E) → List E
written_out runs = flat_map (λ run. replicate run.count run.entry) runs

-- the entries of runs, in order, each once
abbrev pub entries_of : {E : Type 0} → List (Run E) → List E
entries_of runs = map (λ run. run.entry) runs

-- a list stays, and more may come behind it
abbrev pub GrowsAtEnd : {A : Type 0} → List A → List A → Type 0
GrowsAtEnd {A} old new = (more : List A) × (new ≡ old ++ more)

-- an entry is idle, and says the same as the last one
abbrev pub RepeatsLast : {E : Type 0} → (E → Type 0) → List (Run E) → E → Type 0
RepeatsLast {E} IsIdle runs entry =
    (front : List (Run E)) × (last : Run E) × (runs ≡ front ++ last ∷ []) × (last.entry ≡ entry) × IsIdle entry

-- Each run counts its entry once or more, and of the first one's entry more is left than was given so often.
abbrev pub HasLeft : {E : Type 0} → ℕ → List (Run E) → Type 0
HasLeft given [] = given ≡ 0
HasLeft given (run ∷ runs) = (given < run.count) × All (λ r. 0 < r.count) (run ∷ runs)
