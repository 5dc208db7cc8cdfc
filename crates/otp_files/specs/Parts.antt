-- What the parts of a file may be, and which part is wrong.
use Rattle.std.specs.Prelude.{◌≡◌, ◌⊎◌, ℕ, ◌+◌, true, List, [], ◌∷◌, length, ⊤}
use Rattle.erl_term.specs.declared.term.Term.{Term}
use Rattle.erl_term.specs.Conversions.{row}
use Rattle.erl_term.specs.Tree.{Tree, Trees, atom, tuple, list, none, more}
use Rattle.erl_term.specs.Term.{tree}
use Rattle.release_words.specs.Words.{word, string_tree, is_version}

-- Relations between a term and what it says

-- an atom of the notation's own, which says nothing else
abbrev pub IsWord : List ℕ → Tree → ⊤ → Type 0
IsWord cs t nothing = t ≡ word cs

abbrev pub IsName : Tree → List ℕ → Type 0
IsName t name = t ≡ atom name

abbrev pub IsVersion : Tree → List ℕ → Type 0
IsVersion t vsn = (t ≡ string_tree vsn) × (is_version vsn ≡ true)

-- any term
abbrev pub IsAny : Tree → Term → Type 0
IsAny t any = t ≡ tree any

-- a list of any terms
abbrev pub IsList : Tree → Trees → Type 0
IsList t terms = t ≡ list terms

-- the terms of a row, each of which says an item of a list
abbrev pub Each : {A : Type 0} → (Tree → A → Type 0) → Trees → List A → Type 0
Each Is none [] = ⊤
Each Is none (x ∷ xs) = ⊥
Each Is (more t ts) [] = ⊥
Each Is (more t ts) (x ∷ xs) = Is t x × Each Is ts xs

-- `[T,..]`
pub record IsListOf {A : Type 0} (Is : Tree → A → Type 0) (t : Tree) (items : List A) : Type 0 where
  pub terms : Trees
  pub is : t ≡ list terms
  pub each : Each Is terms items

-- `{T,U}`
pub record IsPair {A B : Type 0} (IsA : Tree → A → Type 0) (IsB : Tree → B → Type 0) (t : Tree) (p : A × B) : Type 0 where
  pub first : Tree
  pub second : Tree
  pub is : t ≡ tuple (row (first ∷ second ∷ []))
  pub a : IsA first p.0
  pub b : IsB second p.1

-- `{T,U,V}`
pub record IsTriple {A B C : Type 0} (IsA : Tree → A → Type 0) (IsB : Tree → B → Type 0) (IsC : Tree → C → Type 0)
    (t : Tree) (p : A × B × C) : Type 0 where
  pub first : Tree
  pub second : Tree
  pub third : Tree
  pub is : t ≡ tuple (row (first ∷ second ∷ third ∷ []))
  pub a : IsA first p.0
  pub b : IsB second p.1
  pub c : IsC third p.2

-- a term that says something
pub record Says {A : Type 0} (Is : Tree → A → Type 0) (t : Tree) : Type 0 where
  pub value : A
  pub is : Is t value

-- The parts of a file: a test for each element of its outer tuple

pub data Parts : Type 1 where
  end : Parts
  part : (Tree → Type 0) → Parts → Parts

abbrev pub count_parts : Parts → ℕ
count_parts end = 0
count_parts (part Test parts) = 1 + count_parts parts

-- elements that pass
abbrev pub Pass : Parts → List Tree → Type 0
Pass end [] = ⊤
Pass end (t ∷ ts) = ⊥
Pass (part Test parts) [] = ⊥
Pass (part Test parts) (t ∷ ts) = Test t × Pass parts ts

-- elements of which the first that fails is that of the number n, where the first has the number k
abbrev pub FailsFirst : Parts → List Tree → ℕ → ℕ → Type 0
FailsFirst end ts k n = ⊥
FailsFirst (part Test parts) [] k n = ⊥
FailsFirst (part Test parts) (t ∷ ts) k n = ((Test t → ⊥) × (n ≡ k)) ⊎ (Test t × FailsFirst parts ts (k + 1) n)

-- a tuple of as many elements as there are parts
pub record HasElements (parts : Parts) (t : Tree) (elements : List Tree) : Type 0 where
  pub is : t ≡ tuple (row elements)
  pub many : length elements ≡ count_parts parts

-- a term that has not these parts: the first element that is wrong, from 1, or 0 where it is no such tuple
pub data IsMisshapen (parts : Parts) (t : Tree) (n : ℕ) : Type 0 where
  no_tuple : ((elements : List Tree) → HasElements parts t elements → ⊥) → n ≡ 0 → IsMisshapen parts t n
  element : (elements : List Tree) → HasElements parts t elements → FailsFirst parts elements 1 n → IsMisshapen parts t n
