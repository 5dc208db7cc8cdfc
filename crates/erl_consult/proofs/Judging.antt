-- Each step of the parser against the grammar: which tokens go on, and which are faulty and why.
use Rattle.std.proofs.Common.{◌≡◌, ℕ, suc, ◌+◌, ◌^◌, ◌<◌, ◌≤◌, Bool, true, false, cond, not, ◌&&◌, ◌||◌, List, [], ◌∷◌, ◌++◌, length, Some, None, refl, arith, nat_lt}
use Rattle.std.specs.Prelude.{nat_le}
use Rattle.std.specs.List.{flat_map}
use Rattle.erl_scan.specs.declared.error.Fault.TheVariants.{IntegerRange, Unsupported, TooDeep, Syntax}
use Rattle.erl_term.specs.RoundTrip.{deepest}
use Rattle.erl_term.specs.Rows.{integers}
use Rattle.erl_consult.specs.Grammar.{Part, number, string, open_tuple, open_list, bar, dot, unread, Form, Forms, then, form_tree, form_trees, nesting, nestings, fits, all_fit, is_list, has_list_tails, have_list_tails}
use Rattle.erl_consult.specs.Faults.{is_sign, is_bar, is_dot, is_string, opens, closes, is_unread, begins_list}
use Rattle.erl_consult.specs.Steps.{of_tuple, of_list, of_tail, Frame, Last, nothing, sign, term, text, Seen, goes, fails, take_part}
use Rattle.erl_consult.proofs.Spelling.{Standing, in_tuple, in_list, in_tail, Read, no_form, sign_read, form_read, strings_read, State, state, step, sign_part}

-- States with offsets

pub data Bracketed : Type 0 where
  at_tuple : ℕ → Forms → Bracketed
  at_list : ℕ → Forms → Bracketed
  -- with the offset of the bar
  at_tail : ℕ → ℕ → Forms → Form → Bracketed

pub data Lasting : Type 0 where
  none_last : Lasting
  sign_last : Bool → ℕ → Lasting
  form_last : Form → Lasting
  strings_last : List ℕ → List (List ℕ) → Lasting

abbrev pub offset_of : Bracketed → ℕ
offset_of (at_tuple at fs) = at
offset_of (at_list at fs) = at
offset_of (at_tail at bar_at fs f) = at

abbrev pub offsets : List Bracketed → List ℕ
offsets [] = []
offsets (o ∷ os) = offset_of o ∷ offsets os

-- what the parser holds then

abbrev pub show_one : Bracketed → Frame
show_one (at_tuple at fs) = record { bracket = of_tuple; at = at; items = form_trees fs }
show_one (at_list at fs) = record { bracket = of_list; at = at; items = form_trees fs }
show_one (at_tail at bar_at fs f) = record { bracket = of_tail bar_at; at = at; items = form_trees (then fs f) }

abbrev pub show_all : List Bracketed → List Frame
show_all [] = []
show_all (o ∷ os) = show_one o ∷ show_all os

abbrev pub show_last : Lasting → Last
show_last none_last = nothing
show_last (sign_last m at) = sign m at
show_last (form_last f) = term (form_tree f)
show_last (strings_last cs others) = text (integers (cs ++ flat_map (λ ds. ds) others))

abbrev pub show : Forms → List Bracketed → Lasting → Seen
show w os r = record { whole = form_trees w; open_ones = show_all os; last = show_last r }

-- and the state without offsets

abbrev pub bare_one : Bracketed → Standing
bare_one (at_tuple at fs) = in_tuple fs
bare_one (at_list at fs) = in_list fs
bare_one (at_tail at bar_at fs f) = in_tail fs f

abbrev pub bare_all : List Bracketed → List Standing
bare_all [] = []
bare_all (o ∷ os) = bare_one o ∷ bare_all os

abbrev pub bare_last : Lasting → Read
bare_last none_last = no_form
bare_last (sign_last m at) = sign_read m
bare_last (form_last f) = form_read f
bare_last (strings_last cs others) = strings_read cs others

abbrev pub bare : Forms → List Bracketed → Lasting → State
bare w os r = state w (bare_all os) (bare_last r)

pub length-show : (os : List Bracketed) → length (show_all os) ≡ length os
length-show [] = refl
length-show (o ∷ os) = omega (arith, length-show os)

pub length-offsets : (os : List Bracketed) → length (offsets os) ≡ length os
length-offsets [] = refl
length-offsets (o ∷ os) = omega (arith, length-offsets os)

-- What a state says of the token before it

pub data End : Type 0 where
  -- none, or a dot
  start_end : End
  sign_end : Bool → ℕ → End
  string_end : End
  bar_end : ℕ → End
  other_end : End

abbrev pub end_none : List Bracketed → End
end_none [] = start_end
end_none (at_tuple at fs ∷ os) = other_end
end_none (at_list at fs ∷ os) = other_end
end_none (at_tail at bar_at fs f ∷ os) = bar_end bar_at

abbrev pub end_at : Lasting → List Bracketed → End
end_at none_last os = end_none os
end_at (sign_last m at) os = sign_end m at
end_at (form_last f) os = other_end
end_at (strings_last cs others) os = string_end

abbrev pub TellsPart : End → Part → ℕ → Type 0
TellsPart start_end p at = p ≡ dot
TellsPart (sign_end m offset) p at = (p ≡ sign_part m) × (at ≡ offset)
TellsPart string_end p at = (cs : List ℕ) × (p ≡ string cs)
TellsPart (bar_end offset) p at = (p ≡ bar) × (at ≡ offset)
TellsPart other_end p at = (is_sign p ≡ false) × ((is_bar p ≡ false) × ((is_string p ≡ false) × (is_dot p ≡ false)))

abbrev pub end_minus : End → Bool
end_minus start_end = false
end_minus (sign_end m offset) = m
end_minus string_end = false
end_minus (bar_end offset) = false
end_minus other_end = false

abbrev pub end_string : End → Bool
end_string start_end = false
end_string (sign_end m offset) = false
end_string string_end = true
end_string (bar_end offset) = false
end_string other_end = false

abbrev pub end_bar : End → Bool
end_bar start_end = false
end_bar (sign_end m offset) = false
end_bar string_end = false
end_bar (bar_end offset) = true
end_bar other_end = false

abbrev pub end_offset : End → ℕ → ℕ
end_offset start_end at = at
end_offset (sign_end m offset) at = offset
end_offset string_end at = at
end_offset (bar_end offset) at = at
end_offset other_end at = at

-- The tests of a token, by what they ask of the token before it

abbrev pub out_by : Bool → Part → Bool
out_by b (number n) = cond b (not (nat_le n (2 ^ 63))) (not (nat_lt n (2 ^ 63)))
out_by b p = false

abbrev pub faulty_by : Bool → Part → Bool
faulty_by b p = is_unread p || out_by b p

abbrev pub tail_by : Bool → Part → Bool
tail_by b p = cond b (not (begins_list p)) false

abbrev pub nesting_by : Bool → Part → Bool
nesting_by b open_tuple = true
nesting_by b open_list = true
nesting_by b (string cs) = not b
nesting_by b p = false

-- What is kept within the limits

abbrev pub FineForm : ℕ → Form → Type 0
FineForm depth f = (fits f ≡ true) × ((has_list_tails f ≡ true) × (nesting f + depth ≤ deepest))

abbrev pub FineForms : ℕ → Forms → Type 0
FineForms depth fs = (all_fit fs ≡ true) × ((have_list_tails fs ≡ true) × (nestings fs + depth ≤ deepest))

abbrev pub FineOne : ℕ → Bracketed → Type 0
FineOne depth (at_tuple at fs) = FineForms depth fs
FineOne depth (at_list at fs) = FineForms depth fs
FineOne depth (at_tail at bar_at fs f) = FineForms depth fs × FineForm depth f

abbrev pub is_tail : List Bracketed → Bool
is_tail [] = false
is_tail (at_tuple at fs ∷ os) = false
is_tail (at_list at fs ∷ os) = false
is_tail (at_tail at bar_at fs f ∷ os) = true

abbrev pub is_tuple : Bracketed → Bool
is_tuple (at_tuple at fs) = true
is_tuple (at_list at fs) = false
is_tuple (at_tail at bar_at fs f) = false

-- a bracket in a tail's offset is a list's
abbrev pub FineAll : List Bracketed → Type 0
FineAll [] = Unit {0}
FineAll (o ∷ os) = FineOne (suc (length os)) o × ((is_tail os && is_tuple o ≡ false) × FineAll os)

-- and so is a term
abbrev pub FineLast : List Bracketed → Lasting → Type 0
FineLast os none_last = Unit {0}
FineLast os (sign_last m at) = is_tail os ≡ false
FineLast os (form_last f) = FineForm (length os) f × (is_tail os ≡ true → is_list f ≡ true)
FineLast os (strings_last cs others) = suc (length os) ≤ deepest

pub record Fine (w : Forms) (os : List Bracketed) (r : Lasting) : Type 0 where
  pub whole : FineForms 0 w
  pub brackets : FineAll os
  pub last : FineLast os r

-- What a token does

pub data Moves (p : Part) (at : ℕ) (os qs : List Bracketed) : Type 0 where
  same : opens p ≡ false → closes p ≡ false → offsets qs ≡ offsets os → Moves p at os qs
  one_more : opens p ≡ true → offsets qs ≡ at ∷ offsets os → Moves p at os qs
  one_less : opens p ≡ false → closes p ≡ true → (offset : ℕ) → offsets os ≡ offset ∷ offsets qs → Moves p at os qs

pub record Follows (w : Forms) (os : List Bracketed) (r : Lasting) (p : Part) (at : ℕ) (v : Forms) (qs : List Bracketed) (q : Lasting) : Type 0 where
  pub stepped : step (bare w os r) p ≡ Some (bare v qs q)
  pub took : take_part (show w os r) p at ≡ goes (show v qs q)
  pub tells : TellsPart (end_at q qs) p at
  pub moves : Moves p at os qs
  pub fine : Fine v qs q

pub data Judged (w : Forms) (os : List Bracketed) (r : Lasting) (p : Part) (at : ℕ) : Type 0 where
  is_unread_part : p ≡ unread → take_part (show w os r) p at ≡ fails Unsupported at → Judged w os r p at
  is_out : out_by (end_minus (end_at r os)) p ≡ true → take_part (show w os r) p at ≡ fails IntegerRange (end_offset (end_at r os) at) → Judged w os r p at
  is_misplaced : faulty_by (end_minus (end_at r os)) p ≡ false → step (bare w os r) p ≡ None → take_part (show w os r) p at ≡ fails Syntax at → Judged w os r p at
  is_wrong : faulty_by (end_minus (end_at r os)) p ≡ false → (t : State) → step (bare w os r) p ≡ Some t → (offset : ℕ) → end_at r os ≡ bar_end offset → begins_list p ≡ false → take_part (show w os r) p at ≡ fails Unsupported offset → Judged w os r p at
  is_deep : faulty_by (end_minus (end_at r os)) p ≡ false → (t : State) → step (bare w os r) p ≡ Some t → tail_by (end_bar (end_at r os)) p ≡ false → nesting_by (end_string (end_at r os)) p ≡ true → deepest ≤ length os → take_part (show w os r) p at ≡ fails TooDeep at → Judged w os r p at
  is_next : faulty_by (end_minus (end_at r os)) p ≡ false → tail_by (end_bar (end_at r os)) p ≡ false → (nesting_by (end_string (end_at r os)) p ≡ true → length os < deepest) → (v : Forms) → (qs : List Bracketed) → (q : Lasting) → Follows w os r p at v qs q → Judged w os r p at
