-- Low-level instructions as they are written (appup(4), Low-Level Instructions), and what that means.
use Rattle.std.specs.Prelude.{◌≡◌, ℕ, Bool, false, List, [], ◌∷◌, codes, ◌||◌, map}
use Rattle.std.specs.Str.{bytes_eq}
use Rattle.erl_term.specs.Conversions.{row, rows}
use Rattle.erl_term.specs.Tree.{Tree, int, atom, pid, tuple, list, none, more}
use Rattle.erl_term.specs.Term.{tree}
use Rattle.release_words.specs.declared.timeout.Timeout.{Timeout}
use Rattle.release_words.specs.declared.timeout.Timeout.TheVariants.{Default, Infinity, Finite}
use Rattle.release_words.specs.Words.{word, form, string_tree, names_tree, purge_tree, timeout_tree}
use Rattle.low_instructions.specs.declared.low.Low.{Low}
use Rattle.low_instructions.specs.declared.low.Low.TheVariants.{LoadObjectCode, PointOfNoReturn, Load, Remove, Purge, Suspend}
use Rattle.low_instructions.specs.declared.low.Low.TheVariants.{Resume, CodeChange, Stop, Start, Apply}
use Rattle.low_instructions.specs.declared.modules.Direction.{Direction}
use Rattle.low_instructions.specs.declared.modules.Direction.TheVariants.{Up, Down}
use Rattle.low_instructions.specs.declared.modules.ModuleChange.{ModuleChange}
use Rattle.low_instructions.specs.declared.modules.Suspension.{Suspension}

-- How each is printed

abbrev pub direction_tree : Direction → Tree
direction_tree Up = word (codes "up")
direction_tree Down = word (codes "down")

-- a module to suspend: `Mod` where the timeout is the default, else `{Mod,Timeout}`
abbrev pub timed_tree : List ℕ → Timeout → Tree
timed_tree name Default = atom name
timed_tree name Infinity = tuple (row (atom name ∷ timeout_tree Infinity ∷ []))
timed_tree name (Finite n) = tuple (row (atom name ∷ timeout_tree (Finite n) ∷ []))

abbrev pub suspension_tree : Suspension → Tree
suspension_tree s = timed_tree s.name s.timeout

-- `{Mod,Extra}`
abbrev pub change_tree : ModuleChange → Tree
change_tree c = tuple (row (atom c.name ∷ tree c.extra ∷ []))

abbrev pub low_tree : Low → Tree
low_tree (LoadObjectCode application version modules) =
    form (codes "load_object_code") (tuple (row (atom application ∷ string_tree version ∷ names_tree modules ∷ [])) ∷ [])
low_tree PointOfNoReturn = word (codes "point_of_no_return")
low_tree (Load name pre post) = form (codes "load") (tuple (row (atom name ∷ purge_tree pre ∷ purge_tree post ∷ [])) ∷ [])
low_tree (Remove name pre post) = form (codes "remove") (tuple (row (atom name ∷ purge_tree pre ∷ purge_tree post ∷ [])) ∷ [])
low_tree (Purge modules) = form (codes "purge") (names_tree modules ∷ [])
low_tree (Suspend modules) = form (codes "suspend") (list (rows suspension_tree modules) ∷ [])
low_tree (Resume modules) = form (codes "resume") (names_tree modules ∷ [])
low_tree (CodeChange direction changes) =
    form (codes "code_change") (direction_tree direction ∷ list (rows change_tree changes) ∷ [])
low_tree (Stop modules) = form (codes "stop") (names_tree modules ∷ [])
low_tree (Start modules) = form (codes "start") (names_tree modules ∷ [])
low_tree (Apply name function arguments) =
    form (codes "apply") (tuple (row (atom name ∷ atom function ∷ list arguments ∷ [])) ∷ [])

-- How each may be written: as it is printed, and two of them otherwise

-- a module to suspend: `Mod`, or `{Mod,Timeout}` with any timeout
pub data SuspensionForm : Type 0 where
  plain : List ℕ → SuspensionForm
  timed : List ℕ → Timeout → SuspensionForm

abbrev pub suspension_form_tree : SuspensionForm → Tree
suspension_form_tree (plain name) = atom name
suspension_form_tree (timed name timeout) = tuple (row (atom name ∷ timeout_tree timeout ∷ []))

abbrev pub suspension_meant : SuspensionForm → Suspension
suspension_meant (plain name) = record { name = name; timeout = Default }
suspension_meant (timed name timeout) = record { name = name; timeout = timeout }

-- a term that is written in one of the forms of an instruction
pub data IsLow (t : Tree) (l : Low) : Type 0 where
  printed : t ≡ low_tree l → IsLow t l
  -- `{code_change,[{Mod,Extra}]}`
  undirected : (changes : List ModuleChange) → t ≡ form (codes "code_change") (list (rows change_tree changes) ∷ []) →
      l ≡ CodeChange Up changes → IsLow t l
  -- `{suspend,[Mod or {Mod,Timeout}]}`
  suspending : (modules : List SuspensionForm) → t ≡ form (codes "suspend") (list (rows suspension_form_tree modules) ∷ []) →
      l ≡ Suspend (map suspension_meant modules) → IsLow t l

-- Instructions that OTP has and a node of this kind has not: `restart_new_emulator`, `restart_emulator` and
-- `{sync_nodes,..}`
abbrev pub is_restart : List ℕ → Bool
is_restart cs = bytes_eq cs (codes "restart_new_emulator") || bytes_eq cs (codes "restart_emulator")

abbrev pub begins_sync_nodes : Tree → Bool
begins_sync_nodes (int n) = false
begins_sync_nodes (atom cs) = bytes_eq cs (codes "sync_nodes")
begins_sync_nodes (pid n) = false
begins_sync_nodes (tuple ts) = false
begins_sync_nodes (list ts) = false

abbrev pub is_out_of_profile : Tree → Bool
is_out_of_profile (int n) = false
is_out_of_profile (atom cs) = is_restart cs
is_out_of_profile (pid n) = false
is_out_of_profile (tuple none) = false
is_out_of_profile (tuple (more t ts)) = begins_sync_nodes t
is_out_of_profile (list ts) = false
