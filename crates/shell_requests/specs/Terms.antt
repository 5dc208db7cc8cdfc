-- Terms, as lines have them: without the dot.
use Rattle.std.specs.Prelude.{ℕ, ⊤, List, ◌++◌, codes}
use Rattle.erl_scan.specs.declared.error.Fault.{Fault}
use Rattle.erl_term.specs.Tree.{Tree, Trees, none, more}
use Rattle.erl_consult.specs.Faults.{IsRefused, IsTextOf}
use Rattle.shell_requests.specs.declared.terms.Misread.{Misread}
use Rattle.shell_requests.specs.declared.terms.Misread.TheVariants.{NotOne, Faulty, NoMemory}

-- What a text is read as.
pub data Reading : Type 0 where
  -- one term
  one : Tree → Reading
  -- none, or several
  not_one : Reading
  -- no text of terms
  faulty : Fault → ℕ → Reading

-- the text with its dot
abbrev pub ended : List ℕ → List ℕ
ended text = text ++ codes ".\n"

abbrev pub IsNotOne : Trees → Type 0
IsNotOne none = ⊤
IsNotOne (more t none) = ⊥
IsNotOne (more t (more u ts)) = ⊤

-- There is one reading of a text.
abbrev pub IsRead : List ℕ → Reading → Type 0
IsRead text (one t) = IsTextOf (ended text) (more t none)
IsRead text not_one = (ts : Trees) × IsTextOf (ended text) ts × IsNotOne ts
IsRead text (faulty fault at) = IsRefused (ended text) fault at

-- Why no term was read. If an allocation failed, nothing is known of the text.
abbrev pub Misreads : List ℕ → Misread → Type 0
Misreads text NotOne = IsRead text not_one
Misreads text (Faulty e) = IsRead text (faulty e.kind e.at)
Misreads text NoMemory = Unit {0}
