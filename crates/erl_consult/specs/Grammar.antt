-- The grammar of texts of terms (Erlang Reference Manual, Data Types): terms as they are written, the tokens that they
-- are written with, and their meaning.
use Rattle.std.specs.Prelude.{◌≡◌, ℕ, pos, neg_ℤ, ◌+◌, ◌^◌, ◌≤◌, nat_le, nat_lt, max, Bool, true, false, ◌&&◌, List, [], ◌∷◌}
use Rattle.std.specs.Prelude.{◌++◌}
use Rattle.std.specs.List.{flat_map}
use Rattle.erl_scan.specs.declared.token.Token.{Token}
use Rattle.erl_scan.specs.declared.token.Token.TheVariants.{Integer, Float, Atom, Word as WordOf, Variable, String}
use Rattle.erl_scan.specs.declared.token.Token.TheVariants.{Mark as MarkOf, Dot}
use Rattle.erl_scan.specs.declared.word.Word.{Word}
use Rattle.erl_scan.specs.declared.word.Word.TheVariants.{Fun}
use Rattle.erl_scan.specs.declared.mark.Mark.{Mark}
use Rattle.erl_scan.specs.declared.mark.Mark.TheVariants.{OpenBinary, OpenBrace, CloseBrace, OpenBracket, CloseBracket, Comma}
use Rattle.erl_scan.specs.declared.mark.Mark.TheVariants.{Bar, Hash, Plus, Minus}
use Rattle.erl_term.specs.RoundTrip.{deepest}
use Rattle.erl_term.specs.Rows.{append_trees, integers}
use Rattle.erl_term.specs.Tree.{Tree, Trees, int, atom, pid, tuple, list, none, more}

-- Tokens as the grammar of terms sees them

pub data Part : Type 0 where
  number : ℕ → Part
  minus : Part
  plus : Part
  name : List ℕ → Part
  string : List ℕ → Part
  open_tuple : Part
  close_tuple : Part
  open_list : Part
  close_list : Part
  comma : Part
  bar : Part
  dot : Part
  -- what begins a term of Erlang that is not read: a float, a binary, a map or record, a fun
  unread : Part
  -- what no term has: variables, the other reserved words, the other marks
  foreign : Part

abbrev pub part_of_mark : Mark → Part
part_of_mark OpenBrace = open_tuple
part_of_mark CloseBrace = close_tuple
part_of_mark OpenBracket = open_list
part_of_mark CloseBracket = close_list
part_of_mark Comma = comma
part_of_mark Bar = bar
part_of_mark Plus = plus
part_of_mark Minus = minus
part_of_mark OpenBinary = unread
part_of_mark Hash = unread
part_of_mark m = foreign

abbrev pub part_of_word : Word → Part
part_of_word Fun = unread
part_of_word w = foreign

abbrev pub part_of : Token → Part
part_of (Integer n) = number n
part_of Float = unread
part_of (Atom cs) = name cs
part_of (WordOf w) = part_of_word w
part_of (Variable cs) = foreign
part_of (String cs) = string cs
part_of (MarkOf m) = part_of_mark m
part_of Dot = dot

-- Terms as they are written

mutual
  pub data Form : Type 0 where
    -- an integer, without a sign, behind `-`, and behind `+`
    unsigned : ℕ → Form
    negative : ℕ → Form
    positive : ℕ → Form
    atom_form : List ℕ → Form
    -- one or more strings behind one another, which are one list
    strings : List ℕ → List (List ℕ) → Form
    -- tuples and lists, by the elements before the last, and the last
    empty_tuple : Form
    some_tuple : Forms → Form → Form
    empty_list : Form
    some_list : Forms → Form → Form
    -- a list with a tail behind a bar
    tailed_list : Forms → Form → Form → Form

  -- in a row, the last one last
  pub data Forms : Type 0 where
    start : Forms
    then : Forms → Form → Forms

-- The tokens that they are written with

abbrev mutual
  pub form_parts : Form → List Part
  form_parts (unsigned n) = number n ∷ []
  form_parts (negative n) = minus ∷ number n ∷ []
  form_parts (positive n) = plus ∷ number n ∷ []
  form_parts (atom_form cs) = name cs ∷ []
  form_parts (strings cs others) = string cs ∷ flat_map (λ ds. string ds ∷ []) others
  form_parts empty_tuple = open_tuple ∷ close_tuple ∷ []
  form_parts (some_tuple fs f) = open_tuple ∷ (with_commas fs ++ (form_parts f ++ close_tuple ∷ []))
  form_parts empty_list = open_list ∷ close_list ∷ []
  form_parts (some_list fs f) = open_list ∷ (with_commas fs ++ (form_parts f ++ close_list ∷ []))
  form_parts (tailed_list fs f tail) =
      open_list ∷ (with_commas fs ++ (form_parts f ++ (bar ∷ (form_parts tail ++ close_list ∷ []))))

  -- each with a comma behind it
  pub with_commas : Forms → List Part
  with_commas start = []
  with_commas (then fs f) = with_commas fs ++ (form_parts f ++ comma ∷ [])

-- a text: each with a dot behind it
abbrev pub text_parts : Forms → List Part
text_parts start = []
text_parts (then fs f) = text_parts fs ++ (form_parts f ++ dot ∷ [])

-- What they mean

-- the elements of a list; a term that is no list has none
abbrev pub elements_of : Tree → Trees
elements_of (int n) = none
elements_of (atom cs) = none
elements_of (pid n) = none
elements_of (tuple ts) = none
elements_of (list ts) = ts

abbrev mutual
  pub form_tree : Form → Tree
  form_tree (unsigned n) = int (pos n)
  form_tree (negative n) = int (neg_ℤ (pos n))
  form_tree (positive n) = int (pos n)
  form_tree (atom_form cs) = atom cs
  form_tree (strings cs others) = list (integers (cs ++ flat_map (λ ds. ds) others))
  form_tree empty_tuple = tuple none
  form_tree (some_tuple fs f) = tuple (append_trees (form_trees fs) (more (form_tree f) none))
  form_tree empty_list = list none
  form_tree (some_list fs f) = list (append_trees (form_trees fs) (more (form_tree f) none))
  form_tree (tailed_list fs f tail) =
      list (append_trees (form_trees fs) (more (form_tree f) (elements_of (form_tree tail))))

  pub form_trees : Forms → Trees
  form_trees start = none
  form_trees (then fs f) = append_trees (form_trees fs) (more (form_tree f) none)

-- What is asked of them beside the tokens

-- how many brackets are open at once, a string counting as one
abbrev mutual
  pub nesting : Form → ℕ
  nesting (unsigned n) = 0
  nesting (negative n) = 0
  nesting (positive n) = 0
  nesting (atom_form cs) = 0
  nesting (strings cs others) = 1
  nesting empty_tuple = 1
  nesting (some_tuple fs f) = 1 + max (nestings fs) (nesting f)
  nesting empty_list = 1
  nesting (some_list fs f) = 1 + max (nestings fs) (nesting f)
  nesting (tailed_list fs f tail) = 1 + max (max (nestings fs) (nesting f)) (nesting tail)

  pub nestings : Forms → ℕ
  nestings start = 0
  nestings (then fs f) = max (nestings fs) (nesting f)

-- whether each integer is at least -2^63 and below 2^63
abbrev mutual
  pub fits : Form → Bool
  fits (unsigned n) = nat_lt n (2 ^ 63)
  fits (negative n) = nat_le n (2 ^ 63)
  fits (positive n) = nat_lt n (2 ^ 63)
  fits (atom_form cs) = true
  fits (strings cs others) = true
  fits empty_tuple = true
  fits (some_tuple fs f) = all_fit fs && fits f
  fits empty_list = true
  fits (some_list fs f) = all_fit fs && fits f
  fits (tailed_list fs f tail) = all_fit fs && (fits f && fits tail)

  pub all_fit : Forms → Bool
  all_fit start = true
  all_fit (then fs f) = all_fit fs && fits f

-- whether a form is a list
abbrev pub is_list : Form → Bool
is_list (unsigned n) = false
is_list (negative n) = false
is_list (positive n) = false
is_list (atom_form cs) = false
is_list (strings cs others) = true
is_list empty_tuple = false
is_list (some_tuple fs f) = false
is_list empty_list = true
is_list (some_list fs f) = true
is_list (tailed_list fs f tail) = true

-- whether each tail is a list
abbrev mutual
  pub has_list_tails : Form → Bool
  has_list_tails (unsigned n) = true
  has_list_tails (negative n) = true
  has_list_tails (positive n) = true
  has_list_tails (atom_form cs) = true
  has_list_tails (strings cs others) = true
  has_list_tails empty_tuple = true
  has_list_tails (some_tuple fs f) = have_list_tails fs && has_list_tails f
  has_list_tails empty_list = true
  has_list_tails (some_list fs f) = have_list_tails fs && has_list_tails f
  has_list_tails (tailed_list fs f tail) = have_list_tails fs && (has_list_tails f && (is_list tail && has_list_tails tail))

  pub have_list_tails : Forms → Bool
  have_list_tails start = true
  have_list_tails (then fs f) = have_list_tails fs && has_list_tails f

-- tokens that are a text of these terms
pub record IsText (parts : List Part) (ts : Trees) : Type 0 where
  pub forms : Forms
  pub written : parts ≡ text_parts forms
  pub meaning : ts ≡ form_trees forms
  pub nested : nestings forms ≤ deepest
  pub fit : all_fit forms ≡ true
  pub tails : have_list_tails forms ≡ true

-- Tokens that a text begins with, whatever its nesting, its integers and its tails.
pub record IsStart (parts : List Part) : Type 0 where
  pub others : List Part
  pub forms : Forms
  pub written : parts ++ others ≡ text_parts forms
