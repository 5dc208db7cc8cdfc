-- The words of the files of a release, as they are written: versions, kinds of purge, timeouts, ways of starting, rows of
-- names.
use Rattle.std.specs.Prelude.{ℕ, pos, nat_le, nat_lt, ◌==◌, Bool, true, false, not, ◌&&◌, List, [], ◌∷◌, codes}
use Rattle.std.specs.List.{list_all}
use Rattle.erl_term.specs.Conversions.{row, rows}
use Rattle.erl_term.specs.Tree.{Tree, int, atom, tuple, list, more}
use Rattle.erl_term.specs.Rows.{integers}
use Rattle.release_words.specs.declared.purge.Purge.{Purge}
use Rattle.release_words.specs.declared.purge.Purge.TheVariants.{Soft, Brutal}
use Rattle.release_words.specs.declared.start_type.StartType.{StartType}
use Rattle.release_words.specs.declared.start_type.StartType.TheVariants as types
use Rattle.release_words.specs.declared.timeout.Timeout.{Timeout}
use Rattle.release_words.specs.declared.timeout.Timeout.TheVariants.{Default, Infinity, Finite}

-- an atom of the notation's own
abbrev pub word : List ℕ → Tree
word cs = atom cs

-- `{head,..}`
abbrev pub form : List ℕ → List Tree → Tree
form head ts = tuple (more (atom head) (row ts))

-- a string: the list of its characters
abbrev pub string_tree : List ℕ → Tree
string_tree cs = list (integers cs)

-- `[name,..]`
abbrev pub names_tree : List (List ℕ) → Tree
names_tree names = list (rows atom names)

-- Versions: one character or more, each from 33 to 126 and no `/`

abbrev pub is_version_char : ℕ → Bool
is_version_char c = nat_le 33 c && (nat_le c 126 && not (c == 47))

abbrev pub is_version : List ℕ → Bool
is_version [] = false
is_version (c ∷ cs) = list_all is_version_char (c ∷ cs)

-- Kinds of purge (appup(4), PrePurge and PostPurge)
abbrev pub purge_tree : Purge → Tree
purge_tree Soft = word (codes "soft_purge")
purge_tree Brutal = word (codes "brutal_purge")

-- Ways of starting an application (rel(4), Type)
abbrev pub start_type_tree : StartType → Tree
start_type_tree types.Permanent = word (codes "permanent")
start_type_tree types.Transient = word (codes "transient")
start_type_tree types.Temporary = word (codes "temporary")
start_type_tree types.Load = word (codes "load")
start_type_tree types.None = word (codes "none")

-- Timeouts (appup(4), Timeout), in milliseconds
abbrev pub timeout_tree : Timeout → Tree
timeout_tree Default = word (codes "default")
timeout_tree Infinity = word (codes "infinity")
timeout_tree (Finite n) = int (pos n)

-- what holds of every timeout: its milliseconds are above 0
abbrev pub is_timeout : Timeout → Bool
is_timeout Default = true
is_timeout Infinity = true
is_timeout (Finite n) = nat_lt 0 n
