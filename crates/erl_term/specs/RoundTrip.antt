-- Terms whose text can be read back.
use Rattle.std.specs.Prelude.{ℕ, pos, negsuc, ◌^◌, nat_le, nat_lt, Bool, true, false, not, ◌&&◌, ◌||◌, length}
use lib.Utf8.{scalars}
use Rattle.erl_term.specs.Tree.{Tree, Trees, int, atom, pid, tuple, list, none, more, depth}

-- whether a process identifier stands in a term: no text has one
abbrev mutual
  pub has_pids : Tree → Bool
  has_pids (int n) = false
  has_pids (atom cs) = false
  has_pids (pid n) = true
  has_pids (tuple ts) = have_pids ts
  has_pids (list ts) = have_pids ts

  pub have_pids : Trees → Bool
  have_pids none = false
  have_pids (more t ts) = has_pids t || have_pids ts

-- what holds of every `Term`: its integers are of 64 bits, and its atoms of at most 255 characters
abbrev mutual
  pub is_bounded : Tree → Bool
  is_bounded (int (pos n)) = nat_lt n (2 ^ 63)
  is_bounded (int (negsuc n)) = nat_lt n (2 ^ 63)
  is_bounded (atom cs) = nat_le (length cs) 255 && scalars cs
  is_bounded (pid n) = true
  is_bounded (tuple ts) = are_bounded ts
  is_bounded (list ts) = are_bounded ts

  pub are_bounded : Trees → Bool
  are_bounded none = true
  are_bounded (more t ts) = is_bounded t && are_bounded ts

-- the greatest number of brackets that may be open at once in a text
abbrev pub deepest : ℕ
deepest = 256

-- whether a term's text can be read back: it has no process identifiers, and is nested at most 256 deep
abbrev pub is_readable : Tree → Bool
is_readable t = not (has_pids t) && nat_le (depth t) deepest
