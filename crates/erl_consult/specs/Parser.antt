-- What a parser has seen of a text of terms: its fields as the steps of reading have them.
use Rattle.std.specs.Prelude.{◌≡◌, ℕ, List, [], ◌∷◌, ◌++◌, ℤ, pos, neg_ℤ, ◌^◌, nat_le, nat_lt, Bool, true, false, if◌then◌else◌}
use Rattle.std.specs.Prelude.{Option, Some, None, Result, MatchResult, ◌⊎◌, reverse}
use Rattle.erl_scan.specs.declared.error.Fault.{Fault}
use Rattle.erl_scan.specs.declared.error.Fault.TheVariants.{Syntax, IntegerRange, Memory as refused}
use Rattle.erl_scan.specs.declared.error.ReadError.{ReadError}
use Rattle.erl_term.specs.Term.{tree, trees}
use Rattle.erl_term.specs.Tree.{list}
use Rattle.erl_consult.specs.declared.parsing.parser.Bracket.{Bracket as Kind}
use Rattle.erl_consult.specs.declared.parsing.parser.Bracket.TheVariants.{Tuple, List as ListOf, Tail}
use Rattle.erl_consult.specs.declared.parsing.parser.Last.{Last as Held}
use Rattle.erl_consult.specs.declared.parsing.parser.Last.TheVariants.{Nothing, Sign, Term as TermOf, List as ListHeld}
use Rattle.erl_consult.specs.declared.parsing.parser.Last.TheVariants.{Backwards, Text}
use Rattle.erl_consult.specs.declared.parsing.parser.Open.{Open}
use Rattle.erl_consult.specs.declared.parsing.parser.Parser.{Parser}
use Rattle.erl_consult.specs.Steps.{Bracket, of_tuple, of_list, of_tail, Frame, Last, nothing, sign, term, text, Seen, Outcome}
use Rattle.erl_consult.specs.Steps.{goes, fails}

abbrev pub bracket_seen : Kind → Bracket
bracket_seen Tuple = of_tuple
bracket_seen ListOf = of_list
bracket_seen (Tail bar) = of_tail bar

abbrev pub frame_seen : Open → Frame
frame_seen o = record { bracket = bracket_seen o.bracket; at = o.at; items = trees o.items.items }

-- the innermost first, which a parser has last
abbrev pub frames : List Open → List Frame
frames [] = []
frames (o ∷ os) = frames os ++ frame_seen o ∷ []

abbrev pub last_seen : Held → Last
last_seen Nothing = nothing
last_seen (Sign is_minus at) = sign is_minus at
last_seen (TermOf t) = term (tree t)
last_seen (ListHeld ts) = term (list (trees ts.items))
last_seen (Backwards ts) = term (list (trees (reverse ts.items)))
last_seen (Text ts) = text (trees ts.items)

abbrev pub seen : Parser → Seen
seen r = record { whole = trees r.whole.items; open_ones = frames r.open.items; last = last_seen r.last }

-- the innermost of some brackets
abbrev pub innermost_frame : List Frame → Option Frame
innermost_frame [] = None
innermost_frame (f ∷ fs) = Some f

-- where the bar of a bracket stands, behind it
abbrev pub bar_of : Bracket → Option ℕ
bar_of of_tuple = None
bar_of of_list = None
bar_of (of_tail at) = Some at

abbrev pub bar_within : List Frame → Option ℕ
bar_within [] = None
bar_within (f ∷ fs) = bar_of f.bracket

-- one bracket more
abbrev pub with_frame : Seen → Frame → Seen
with_frame s f = record { whole = s.whole; open_ones = f ∷ s.open_ones; last = s.last }

-- a step had this outcome, or memory was refused
abbrev pub Gives : {A : Type 0} → Outcome → Seen → Result A ReadError → Type 0
Gives outcome new result = MatchResult result (λ _. outcome ≡ goes new) (λ e. (e.kind ≡ refused) ⊎ (outcome ≡ fails e.kind e.at))

-- a call finds this, as its value is seen; where there is none that is a fault of syntax at this offset; or memory was
-- refused
abbrev pub Finds : {A B : Type 0} → Option B → (A → B) → ℕ → Result A ReadError → Type 0
Finds found as_seen at result =
    MatchResult result (λ x. found ≡ Some (as_seen x))
    (λ e. (e.kind ≡ refused) ⊎ ((found ≡ None) × (e.kind ≡ Syntax) × (e.at ≡ at)))

-- the integer behind a sign, if it is in range
abbrev pub signed_of : Bool → ℕ → Option ℤ
signed_of true n = if nat_le n (2 ^ 63) then Some (neg_ℤ (pos n)) else None
signed_of false n = if nat_lt n (2 ^ 63) then Some (pos n) else None

-- why an integer is refused where none may stand
abbrev pub misplaced_number : ℕ → Fault
misplaced_number n = if nat_lt n (2 ^ 63) then Syntax else IntegerRange
