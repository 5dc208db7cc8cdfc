-- Where a text of terms faults first, and why.
use Rattle.std.specs.Prelude.{◌≡◌, ℕ, ◌-◌, ◌^◌, ◌≤◌, nat_le, nat_lt, Bool, true, false, not, ◌||◌, if◌then◌else◌, List, [], ◌∷◌}
use Rattle.std.specs.Prelude.{◌++◌, Option, Some, None}
use Rattle.std.specs.List.{count_by}
use Rattle.std.specs.Str.{chars, IsUtf8, IsValidUpTo}
use Rattle.erl_scan.specs.declared.error.Fault.{Fault}
use Rattle.erl_scan.specs.declared.error.Fault.TheVariants.{NotUtf8, Unclosed, IntegerRange, Unsupported, MissingDot, TooDeep}
use Rattle.erl_scan.specs.declared.error.Fault.TheVariants.{Syntax}
use Rattle.erl_chars.specs.Cursor.{byte_count, offset}
use Rattle.erl_chars.specs.Gaps.{after_gap}
use Rattle.erl_scan.specs.declared.token.Spot.{Spot}
use Rattle.erl_scan.specs.Tokens.{Next, ends, token, fault, Reads, Reaches}
use Rattle.erl_term.specs.Tree.{Trees}
use Rattle.erl_term.specs.RoundTrip.{deepest}
use Rattle.erl_consult.specs.Grammar.{Part, number, minus, plus, string, open_tuple, close_tuple, open_list, close_list, bar}
use Rattle.erl_consult.specs.Grammar.{dot, unread, part_of, IsText, IsStart}

-- The tokens before an offset

abbrev pub spot_part : Spot → Part
spot_part s = part_of s.what

abbrev pub parts : List Spot → List Part
parts [] = []
parts (s ∷ ss) = spot_part s ∷ parts ss

-- the last of them
abbrev pub last_of : List Spot → Option Spot
last_of [] = None
last_of (s ∷ []) = Some s
last_of (s ∷ t ∷ ss) = last_of (t ∷ ss)

abbrev pub is_minus : Part → Bool
is_minus minus = true
is_minus p = false

abbrev pub is_sign : Part → Bool
is_sign minus = true
is_sign plus = true
is_sign p = false

abbrev pub is_bar : Part → Bool
is_bar bar = true
is_bar p = false

abbrev pub is_dot : Part → Bool
is_dot dot = true
is_dot p = false

abbrev pub is_string : Part → Bool
is_string (string cs) = true
is_string p = false

-- whether the last of some tokens is as asked
abbrev pub last_is : (Part → Bool) → Option Spot → Bool
last_is test None = false
last_is test (Some s) = test (spot_part s)

-- brackets
abbrev pub opens : Part → Bool
opens open_tuple = true
opens open_list = true
opens p = false

abbrev pub closes : Part → Bool
closes close_tuple = true
closes close_list = true
closes p = false

abbrev pub opened : List Spot → ℕ
opened ss = count_by (λ s. opens (spot_part s)) ss

abbrev pub closed : List Spot → ℕ
closed ss = count_by (λ s. closes (spot_part s)) ss

-- The innermost open bracket: behind it as many brackets are closed as opened, and nowhere more.
pub record IsInnermost (before : List Spot) (bracket : Spot) : Type 0 where
  pub outside : List Spot
  pub inside : List Spot
  pub split : before ≡ outside ++ bracket ∷ inside
  pub is_open : opens (spot_part bracket) ≡ true
  pub balanced : opened inside ≡ closed inside
  pub kept : (front back : List Spot) → inside ≡ front ++ back → closed front ≤ opened front

-- Faults of a token, by the tokens before it

-- whether an integer is out of range: the greatest is 2^63 behind a minus, and else 2^63 - 1
abbrev pub is_out_of_range : List Spot → Part → Bool
is_out_of_range before (number n) = if last_is is_minus (last_of before) then not (nat_le n (2 ^ 63)) else not (nat_lt n (2 ^ 63))
is_out_of_range before p = false

abbrev pub is_unread : Part → Bool
is_unread unread = true
is_unread p = false

-- whether a token is faulty by itself, whether a term may begin with it there or not
abbrev pub is_faulty : List Spot → Part → Bool
is_faulty before p = is_unread p || is_out_of_range before p

-- where an integer is told that is out of range: at the sign before it, else at itself
abbrev pub range_offset_by : Option Spot → ℕ → ℕ
range_offset_by None at = at
range_offset_by (Some s) at = if is_sign (spot_part s) then s.at else at

abbrev pub range_offset : List Spot → ℕ → ℕ
range_offset before at = range_offset_by (last_of before) at

-- what a tail may begin with, since it has to be a list
abbrev pub begins_list : Part → Bool
begins_list open_list = true
begins_list (string cs) = true
begins_list p = false

-- whether a token begins a tail that is no list
abbrev pub is_wrong_tail : List Spot → Part → Bool
is_wrong_tail before p = if last_is is_bar (last_of before) then not (begins_list p) else false

-- whether a token opens a tuple, a list or a string, which goes on where another string comes before it
abbrev pub begins_nesting : List Spot → Part → Bool
begins_nesting before open_tuple = true
begins_nesting before open_list = true
begins_nesting before (string cs) = not (last_is is_string (last_of before))
begins_nesting before p = false

-- A token that is faulty where it stands, behind these tokens: why, and where it is told.
pub data IsFaulty (before : List Spot) (p : Part) (at : ℕ) (kind : Fault) (told : ℕ) : Type 0 where
  -- Erlang has it, but it is not read
  not_read : p ≡ unread → kind ≡ Unsupported → told ≡ at → IsFaulty before p at kind told
  -- an integer out of range
  out_of_range : is_out_of_range before p ≡ true → kind ≡ IntegerRange → told ≡ range_offset before at →
      IsFaulty before p at kind told
  -- no text goes on so
  misplaced : is_faulty before p ≡ false → (IsStart (parts before ++ p ∷ []) → ⊥) → kind ≡ Syntax → told ≡ at →
      IsFaulty before p at kind told
  -- a tail that is no list, which is told at the bar before it
  wrong_tail : is_faulty before p ≡ false → IsStart (parts before ++ p ∷ []) → is_wrong_tail before p ≡ true → (b : Spot) →
      last_of before ≡ Some b → kind ≡ Unsupported → told ≡ b.at → IsFaulty before p at kind told
  -- one more bracket than may be open at once
  too_deep : is_faulty before p ≡ false → IsStart (parts before ++ p ∷ []) → is_wrong_tail before p ≡ false →
      begins_nesting before p ≡ true → deepest ≤ opened before - closed before → kind ≡ TooDeep → told ≡ at →
      IsFaulty before p at kind told

-- The end of the input behind these tokens, in a text of so many bytes, where it is a fault: why, and where it is told.
pub data IsCutShort (before : List Spot) (total : ℕ) (kind : Fault) (told : ℕ) : Type 0 where
  -- inside a bracket
  in_bracket : (b : Spot) → IsInnermost before b → kind ≡ Unclosed → told ≡ b.at → IsCutShort before total kind told
  -- behind a sign, outside every bracket
  behind_sign : opened before ≡ closed before → (s : Spot) → last_of before ≡ Some s → is_sign (spot_part s) ≡ true →
      kind ≡ Syntax → told ≡ s.at → IsCutShort before total kind told
  -- behind a whole term
  behind_term : opened before ≡ closed before → (s : Spot) → last_of before ≡ Some s → is_sign (spot_part s) ≡ false →
      is_dot (spot_part s) ≡ false → kind ≡ MissingDot → told ≡ total → IsCutShort before total kind told

-- what comes next is a fault: a token that is faulty by itself, one that is faulty where it stands, or the end
abbrev pub NextFaults : List ℕ → List Spot → List ℕ → Next → Fault → ℕ → Type 0
NextFaults cs before here ends kind told = IsCutShort before (byte_count cs) kind told
NextFaults cs before here (token t rest) kind told = IsFaulty before (part_of t) (offset (byte_count cs) here) kind told
NextFaults cs before here (fault k at) kind told = (kind ≡ k) × (told ≡ offset (byte_count cs) at)

-- none of these tokens is faulty where it stands
abbrev pub NoneFaults : List Spot → Type 0
NoneFaults before =
    (outside inside : List Spot) → (s : Spot) → before ≡ outside ++ s ∷ inside → (kind : Fault) → (told : ℕ) →
    IsFaulty outside (spot_part s) s.at kind told → ⊥

-- The first fault of a text's characters: what comes next behind some tokens is a fault, and none of these is.
pub record FaultsFirst (cs : List ℕ) (kind : Fault) (told : ℕ) : Type 0 where
  pub before : List Spot
  pub here : List ℕ
  pub next : Next
  pub reached : Reaches cs before here next
  pub faults : NextFaults cs before here next kind told
  pub first : NoneFaults before

-- Bytes are refused with this fault at this byte.
pub data IsRefused (bytes : List ℕ) (kind : Fault) (told : ℕ) : Type 0 where
  not_utf8 : (IsUtf8 bytes → ⊥) → kind ≡ NotUtf8 → IsValidUpTo bytes told → IsRefused bytes kind told
  faults : IsUtf8 bytes → FaultsFirst (chars bytes) kind told → IsRefused bytes kind told

-- Bytes are a text of these terms.
pub record IsTextOf (bytes : List ℕ) (ts : Trees) : Type 0 where
  pub utf8 : IsUtf8 bytes
  pub spots : List Spot
  pub left : List ℕ
  pub read : Reads (byte_count (chars bytes)) (chars bytes) spots left
  pub ended : after_gap left ≡ []
  pub text : IsText (parts spots) ts

-- Bytes are a text of some terms, or refused with some fault at some byte.
pub data IsJudged (bytes : List ℕ) : Type 0 where
  is_text : (ts : Trees) → IsTextOf bytes ts → IsJudged bytes
  is_refused : (kind : Fault) → (told : ℕ) → IsRefused bytes kind told → IsJudged bytes

-- The law: all bytes are a text of one list of terms, or refused for one reason at one byte, and never both.
pub record OneReading (bytes : List ℕ) : Type 0 where
  pub terms : (ts us : Trees) → IsTextOf bytes ts → IsTextOf bytes us → ts ≡ us
  pub faults : (kind other : Fault) → (told offset : ℕ) → IsRefused bytes kind told → IsRefused bytes other offset →
      (kind ≡ other) × (told ≡ offset)
  pub apart : (ts : Trees) → (kind : Fault) → (told : ℕ) → IsTextOf bytes ts → IsRefused bytes kind told → ⊥
  pub judged : IsJudged bytes
