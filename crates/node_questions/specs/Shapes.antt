-- The outer shape of states.
use Rattle.std.specs.Prelude.{ℕ, Bool, true, false, ◌&&◌, ◌==◌, List, Option, None, Some}
use Rattle.std.specs.Str.{bytes_eq}
use Rattle.erl_semantics.specs.declared.acts.Place.{Place}
use Rattle.erl_semantics.specs.declared.acts.Place.TheVariants.{Server, Loop}
use Rattle.erl_term.specs.Accessors.{atom_of}
use Rattle.erl_term.specs.Tree.{Tree, Trees, count}
use Rattle.erl_term.specs.Tree as term
use Rattle.erl_term.specs.Term.{tree}

-- Whether two terms have the same outer shape: they are of one kind, and tuples have as many elements and the same tag, which is
-- the first element if that is an atom.

abbrev pub tag_of : Trees → Option (List ℕ)
tag_of term.none = None
tag_of (term.more t ts) = atom_of t

abbrev pub is_same_tag : Option (List ℕ) → Option (List ℕ) → Bool
is_same_tag None None = true
is_same_tag None (Some b) = false
is_same_tag (Some a) None = false
is_same_tag (Some a) (Some b) = bytes_eq a b

abbrev pub is_same_shape : Tree → Tree → Bool
is_same_shape (term.int n) (term.int m) = true
is_same_shape (term.atom a) (term.atom b) = true
is_same_shape (term.pid p) (term.pid q) = true
is_same_shape (term.tuple ts) (term.tuple us) = (count ts == count us) && is_same_tag (tag_of ts) (tag_of us)
is_same_shape (term.list ts) (term.list us) = true
is_same_shape _ _ = false

-- Whether two processes rest alike: in one callback module with states of the same shape, or in one function with as many
-- arguments.
abbrev pub is_alike : Place → Place → Bool
is_alike (Server m s) (Server n t) = bytes_eq m n && is_same_shape (tree s) (tree t)
is_alike (Server m s) (Loop n j g us) = false
is_alike (Loop m i f ts) (Server n t) = false
is_alike (Loop m i f ts) (Loop n j g us) = bytes_eq m n && (bytes_eq f g && (count ts == count us))
