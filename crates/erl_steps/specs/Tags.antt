-- Tuples by their first element, where it is an atom.
use Rattle.std.specs.Prelude.{ℕ, List, Option, None, Some}
use Rattle.erl_term.specs.Tree.{Tree, Trees, int, atom, pid, tuple, list, none, more}

abbrev pub tag_in : Tree → Trees → Option (List ℕ × Trees)
tag_in (int n) ts = None
tag_in (atom cs) ts = Some (cs, ts)
tag_in (pid n) ts = None
tag_in (tuple us) ts = None
tag_in (list us) ts = None

abbrev pub tag_of_row : Trees → Option (List ℕ × Trees)
tag_of_row none = None
tag_of_row (more t ts) = tag_in t ts

abbrev pub tag_of : Tree → Option (List ℕ × Trees)
tag_of (int n) = None
tag_of (atom cs) = None
tag_of (pid n) = None
tag_of (tuple ts) = tag_of_row ts
tag_of (list ts) = None
