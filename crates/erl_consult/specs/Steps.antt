-- The steps of reading a text of terms from token to token: words for the parser's own functions, which no public
-- clause cites.
use Rattle.std.specs.Prelude.{ℕ, pos, neg_ℤ, ◌^◌, nat_le, nat_lt, Bool, true, false, if◌then◌else◌, List, [], ◌∷◌, length}
use Rattle.std.specs.Prelude.{Option, Some, None}
use Rattle.erl_scan.specs.declared.error.Fault.{Fault}
use Rattle.erl_scan.specs.declared.error.Fault.TheVariants.{Unclosed, IntegerRange, Unsupported, MissingDot, TooDeep, Syntax}
use Rattle.erl_term.specs.Tree.{Tree, Trees, int, atom, pid, tuple, list, none, more}
use Rattle.erl_term.specs.RoundTrip.{deepest}
use Rattle.erl_term.specs.Rows.{append_trees, integers}
use Rattle.erl_consult.specs.Grammar.{Part, number, minus, plus, name, string, open_tuple, close_tuple, open_list, close_list}
use Rattle.erl_consult.specs.Grammar.{comma, bar, dot, unread, foreign}

-- an open bracket; of a list's bracket behind its bar, where the bar stands
pub data Bracket : Type 0 where
  of_tuple : Bracket
  of_list : Bracket
  of_tail : ℕ → Bracket

-- an open bracket, where it stands, and the elements in it that a comma or the bar ended
pub record Frame : Type 0 where
  pub bracket : Bracket
  pub at : ℕ
  pub items : Trees

-- what was read of the term that is being read, inside the innermost bracket
pub data Last : Type 0 where
  nothing : Last
  -- a sign, whether it is a minus, and where it stands
  sign : Bool → ℕ → Last
  -- a term other than a string
  term : Tree → Last
  -- one or more strings: the characters as integers
  text : Trees → Last

-- what was read: the terms that a dot ended, the open brackets, the innermost first, and what is being read
pub record Seen : Type 0 where
  pub whole : Trees
  pub open_ones : List Frame
  pub last : Last

abbrev pub nothing_seen : Seen
nothing_seen = record { whole = none; open_ones = []; last = nothing }

-- a token was taken, or is faulty
pub data Outcome : Type 0 where
  goes : Seen → Outcome
  fails : Fault → ℕ → Outcome

-- the same brackets, and this last
abbrev pub with_last : Seen → Last → Outcome
with_last s last = goes (record { whole = s.whole; open_ones = s.open_ones; last = last })

-- a term begins that is no list: behind a bar it is refused there
abbrev pub begins_in : Bracket → Outcome → Outcome
begins_in of_tuple outcome = outcome
begins_in of_list outcome = outcome
begins_in (of_tail at) outcome = fails Unsupported at

abbrev pub begins : List Frame → Outcome → Outcome
begins [] outcome = outcome
begins (f ∷ fs) outcome = begins_in f.bracket outcome

-- one more bracket, or a string, where fewer than the most are open
abbrev pub if_room : List Frame → ℕ → Outcome → Outcome
if_room open_ones at outcome = if nat_lt (length open_ones) deepest then outcome else fails TooDeep at

-- Integers

abbrev pub take_number_by : Seen → Last → ℕ → ℕ → Outcome
take_number_by s nothing n at =
    if nat_lt n (2 ^ 63) then begins s.open_ones (with_last s (term (int (pos n)))) else fails IntegerRange at
take_number_by s (sign true offset) n at =
    if nat_le n (2 ^ 63) then with_last s (term (int (neg_ℤ (pos n)))) else fails IntegerRange offset
take_number_by s (sign false offset) n at =
    if nat_lt n (2 ^ 63) then with_last s (term (int (pos n))) else fails IntegerRange offset
take_number_by s (term t) n at = if nat_lt n (2 ^ 63) then fails Syntax at else fails IntegerRange at
take_number_by s (text ts) n at = if nat_lt n (2 ^ 63) then fails Syntax at else fails IntegerRange at

-- Terms that begin where nothing was read

abbrev pub take_sign_by : Seen → Last → Bool → ℕ → Outcome
take_sign_by s nothing is_minus at = begins s.open_ones (with_last s (sign is_minus at))
take_sign_by s (sign m offset) is_minus at = fails Syntax at
take_sign_by s (term t) is_minus at = fails Syntax at
take_sign_by s (text ts) is_minus at = fails Syntax at

abbrev pub take_name_by : Seen → Last → List ℕ → ℕ → Outcome
take_name_by s nothing cs at = begins s.open_ones (with_last s (term (atom cs)))
take_name_by s (sign m offset) cs at = fails Syntax at
take_name_by s (term t) cs at = fails Syntax at
take_name_by s (text ts) cs at = fails Syntax at

-- a string, which goes on where one was read
abbrev pub take_string_by : Seen → Last → List ℕ → ℕ → Outcome
take_string_by s nothing cs at = if_room s.open_ones at (with_last s (text (integers cs)))
take_string_by s (sign m offset) cs at = fails Syntax at
take_string_by s (term t) cs at = fails Syntax at
take_string_by s (text ts) cs at = with_last s (text (append_trees ts (integers cs)))

-- Brackets

abbrev pub opened_by : Seen → Bracket → ℕ → Outcome
opened_by s bracket at =
    if_room s.open_ones at (goes (record {
      whole = s.whole;
      open_ones =
          record { bracket = bracket; at = at; items = none } ∷ s.open_ones;
      last = nothing;
    }))

abbrev pub take_open_tuple_by : Seen → Last → ℕ → Outcome
take_open_tuple_by s nothing at = begins s.open_ones (opened_by s of_tuple at)
take_open_tuple_by s (sign m offset) at = fails Syntax at
take_open_tuple_by s (term t) at = fails Syntax at
take_open_tuple_by s (text ts) at = fails Syntax at

abbrev pub take_open_list_by : Seen → Last → ℕ → Outcome
take_open_list_by s nothing at = opened_by s of_list at
take_open_list_by s (sign m offset) at = fails Syntax at
take_open_list_by s (term t) at = fails Syntax at
take_open_list_by s (text ts) at = fails Syntax at

-- the term that was read whole, if one was
abbrev pub term_of_last : Last → Option Tree
term_of_last nothing = None
term_of_last (sign m offset) = None
term_of_last (term t) = Some t
term_of_last (text ts) = Some (list ts)

-- elements with a last one behind them
abbrev pub with_element : Trees → Tree → Trees
with_element ts t = append_trees ts (more t none)

-- behind the innermost bracket, these are left open, and this was read
abbrev pub closed_to : Seen → List Frame → Tree → Outcome
closed_to s fs t = goes (record { whole = s.whole; open_ones = fs; last = term t })

-- the elements at a closing bracket: those before, and the last; or none at all
abbrev pub elements_at : Trees → Last → Option Trees
elements_at none nothing = Some none
elements_at (more u us) nothing = None
elements_at ts (sign m offset) = None
elements_at ts (term t) = Some (with_element ts t)
elements_at ts (text us) = Some (with_element ts (list us))

-- the elements of a tail that was read, where it is a list
abbrev pub tail_elements : Option Tree → Option Trees
tail_elements None = None
tail_elements (Some (int n)) = None
tail_elements (Some (atom cs)) = None
tail_elements (Some (pid n)) = None
tail_elements (Some (tuple ts)) = None
tail_elements (Some (list ts)) = Some ts

abbrev pub closed_with : Seen → List Frame → (Trees → Tree) → Option Trees → ℕ → Outcome
closed_with s fs make None at = fails Syntax at
closed_with s fs make (Some ts) at = closed_to s fs (make ts)

abbrev pub close_tuple_in : Seen → List Frame → Bracket → Trees → ℕ → Outcome
close_tuple_in s fs of_tuple items at = closed_with s fs tuple (elements_at items s.last) at
close_tuple_in s fs of_list items at = fails Syntax at
close_tuple_in s fs (of_tail bar_at) items at = fails Syntax at

abbrev pub close_list_in : Seen → List Frame → Bracket → Trees → ℕ → Outcome
close_list_in s fs of_tuple items at = fails Syntax at
close_list_in s fs of_list items at = closed_with s fs list (elements_at items s.last) at
close_list_in s fs (of_tail bar_at) items at =
    closed_with s fs (λ ts. list (append_trees items ts)) (tail_elements (term_of_last s.last)) at

abbrev pub take_close_tuple_by : Seen → List Frame → ℕ → Outcome
take_close_tuple_by s [] at = fails Syntax at
take_close_tuple_by s (f ∷ fs) at = close_tuple_in s fs f.bracket f.items at

abbrev pub take_close_list_by : Seen → List Frame → ℕ → Outcome
take_close_list_by s [] at = fails Syntax at
take_close_list_by s (f ∷ fs) at = close_list_in s fs f.bracket f.items at

-- Commas, bars and dots

-- an element ends: in which bracket it goes on
abbrev pub element_ended : Seen → Frame → List Frame → Bracket → Option Tree → ℕ → Outcome
element_ended s f fs bracket None at = fails Syntax at
element_ended s f fs bracket (Some t) at =
    goes (record {
      whole = s.whole;
      open_ones =
          record { bracket = bracket; at = f.at; items = with_element f.items t } ∷ fs;
      last = nothing;
    })

abbrev pub comma_in : Seen → Frame → List Frame → Bracket → ℕ → Outcome
comma_in s f fs of_tuple at = element_ended s f fs of_tuple (term_of_last s.last) at
comma_in s f fs of_list at = element_ended s f fs of_list (term_of_last s.last) at
comma_in s f fs (of_tail bar_at) at = fails Syntax at

abbrev pub bar_in : Seen → Frame → List Frame → Bracket → ℕ → Outcome
bar_in s f fs of_tuple at = fails Syntax at
bar_in s f fs of_list at = element_ended s f fs (of_tail at) (term_of_last s.last) at
bar_in s f fs (of_tail bar_at) at = fails Syntax at

abbrev pub take_comma_by : Seen → List Frame → ℕ → Outcome
take_comma_by s [] at = fails Syntax at
take_comma_by s (f ∷ fs) at = comma_in s f fs f.bracket at

abbrev pub take_bar_by : Seen → List Frame → ℕ → Outcome
take_bar_by s [] at = fails Syntax at
take_bar_by s (f ∷ fs) at = bar_in s f fs f.bracket at

abbrev pub dot_behind : Seen → Option Tree → ℕ → Outcome
dot_behind s None at = fails Syntax at
dot_behind s (Some t) at = goes (record { whole = with_element s.whole t; open_ones = []; last = nothing })

abbrev pub take_dot_by : Seen → List Frame → ℕ → Outcome
take_dot_by s [] at = dot_behind s (term_of_last s.last) at
take_dot_by s (f ∷ fs) at = fails Syntax at

-- a token at an offset
abbrev pub take_part : Seen → Part → ℕ → Outcome
take_part s (number n) at = take_number_by s s.last n at
take_part s minus at = take_sign_by s s.last true at
take_part s plus at = take_sign_by s s.last false at
take_part s (name cs) at = take_name_by s s.last cs at
take_part s (string cs) at = take_string_by s s.last cs at
take_part s open_tuple at = take_open_tuple_by s s.last at
take_part s close_tuple at = take_close_tuple_by s s.open_ones at
take_part s open_list at = take_open_list_by s s.last at
take_part s close_list at = take_close_list_by s s.open_ones at
take_part s comma at = take_comma_by s s.open_ones at
take_part s bar at = take_bar_by s s.open_ones at
take_part s dot at = take_dot_by s s.open_ones at
take_part s unread at = fails Unsupported at
take_part s foreign at = fails Syntax at

-- the end of a text of so many bytes
pub data Ending : Type 0 where
  done : Trees → Ending
  cut_short : Fault → ℕ → Ending

abbrev pub end_by : Trees → List Frame → Last → ℕ → Ending
end_by whole (f ∷ fs) last total = cut_short Unclosed f.at
end_by whole [] nothing total = done whole
end_by whole [] (sign m offset) total = cut_short Syntax offset
end_by whole [] (term t) total = cut_short MissingDot total
end_by whole [] (text ts) total = cut_short MissingDot total

abbrev pub end_of : Seen → ℕ → Ending
end_of s total = end_by s.whole s.open_ones s.last total
