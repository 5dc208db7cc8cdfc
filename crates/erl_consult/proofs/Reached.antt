-- What the parser holds behind tokens of which none is faulty, and which token or end is faulty there.
use Rattle.std.proofs.Common.{◌≡◌, ℕ, ◌-◌, Bool, true, false, cond, not, ◌||◌, List, [], ◌∷◌, ◌++◌, length, Some, None, refl, ap, ap₂, sym, subst, ◌∙◌, arith, true≢false}
use Rattle.std.specs.Prelude.{Option}
use Rattle.std.specs.Option.{option_and_then}
use Rattle.std.proofs.lemmas.Option.{none-some, same_Some}
use Rattle.erl_scan.specs.declared.error.Fault.{Fault}
use Rattle.erl_scan.specs.declared.error.Fault.TheVariants.{IntegerRange, Unsupported, TooDeep, Syntax}
use Rattle.erl_scan.specs.declared.token.Spot.{Spot}
use Rattle.erl_consult.specs.Grammar.{Part, number, minus, plus, name, string, open_tuple, close_tuple, open_list, close_list, comma, bar, dot, unread, foreign, Forms, start, IsStart}
use Rattle.erl_consult.specs.Faults.{spot_part, parts, last_of, is_minus, is_sign, is_bar, is_string, last_is, opened, closed, is_unread, is_faulty, range_offset_by, is_wrong_tail, begins_nesting, begins_list, IsFaulty, not_read, out_of_range, misplaced, wrong_tail, too_deep, is_out_of_range}
use Rattle.erl_consult.specs.Steps.{Seen, nothing_seen, Outcome, goes, fails, take_part}
use Rattle.erl_consult.proofs.Spelling.{State, step, run, beginning, sign_part, start-from_run, run-from_start, run-append}
use Rattle.erl_consult.proofs.Nesting.{Nested, nested-plain, nested-open, nested-close, nested-counts}
use Rattle.erl_consult.proofs.Judging.{Bracketed, Lasting, none_last, offsets, show, bare, length-offsets, End, start_end, sign_end, string_end, bar_end, other_end, end_at, TellsPart, end_minus, end_string, end_bar, end_offset, out_by, faulty_by, tail_by, nesting_by, Fine, Moves, same, one_more, one_less, Follows, Judged, is_unread_part, is_out, is_misplaced, is_wrong, is_deep, is_next}
use Rattle.erl_consult.proofs.Truth.{clash, or-right}

-- Outcomes

abbrev pub outcome_then : (Seen → Outcome) → Outcome → Outcome
outcome_then f (goes s) = f s
outcome_then f (fails k at) = fails k at

abbrev pub take_all : Seen → List Spot → Outcome
take_all s [] = goes s
take_all s (b ∷ bs) = outcome_then (λ t. take_all t bs) (take_part s (spot_part b) b.at)

goes_on : Outcome → Bool
goes_on (goes s) = true
goes_on (fails k at) = false

seen_or : Seen → Outcome → Seen
seen_or d (goes s) = s
seen_or d (fails k at) = d

kind_or : Fault → Outcome → Fault
kind_or d (goes s) = d
kind_or d (fails k at) = k

offset_or : ℕ → Outcome → ℕ
offset_or d (goes s) = d
offset_or d (fails k at) = at

pub goes-fails : (s : Seen) (k : Fault) (at : ℕ) → goes s ≡ fails k at → ⊥
unfolding goes_on
goes-fails s k at e = true≢false (ap goes_on e)

pub same_goes : (s t : Seen) → goes s ≡ goes t → s ≡ t
unfolding seen_or
same_goes s t e = ap (seen_or s) e

pub same_kind : (k l : Fault) (at to : ℕ) → fails k at ≡ fails l to → k ≡ l
unfolding kind_or
same_kind k l at to e = ap (kind_or k) e

pub same_offset : (k l : Fault) (at to : ℕ) → fails k at ≡ fails l to → at ≡ to
unfolding offset_or
same_offset k l at to e = ap (offset_or at) e

append-then_on : (xs ys : List Spot) (o : Outcome) → ((t : Seen) → take_all t (xs ++ ys) ≡ outcome_then (λ u. take_all u ys) (take_all t xs)) → outcome_then (λ t. take_all t (xs ++ ys)) o ≡ outcome_then (λ u. take_all u ys) (outcome_then (λ t. take_all t xs) o)
append-then_on xs ys (goes s) later = later s
append-then_on xs ys (fails k at) later = refl

pub take_all-append : (xs ys : List Spot) (s : Seen) → take_all s (xs ++ ys) ≡ outcome_then (λ u. take_all u ys) (take_all s xs)
take_all-append [] ys s = refl
take_all-append (x ∷ xs) ys s = append-then_on xs ys (take_part s (spot_part x) x.at) (λ t. take_all-append xs ys t)

one-then : (o : Outcome) → outcome_then (λ t. take_all t []) o ≡ o
one-then (goes s) = refl
one-then (fails k at) = refl

-- one more token
pub take_all-more : (before : List Spot) (b : Spot) (s t : Seen) (o : Outcome) → take_all s before ≡ goes t → take_part t (spot_part b) b.at ≡ o → take_all s (before ++ b ∷ []) ≡ o
take_all-more before b s t o taken next =
    take_all-append before (b ∷ []) s ∙ (ap (outcome_then (λ u. take_all u (b ∷ []))) taken ∙ (one-then (take_part t (spot_part b) b.at) ∙ next))

-- The token before

abbrev pub FitsEnd : Option Spot → End → Type 0
FitsEnd None start_end = Unit {0}
FitsEnd None (sign_end m offset) = ⊥
FitsEnd None string_end = ⊥
FitsEnd None (bar_end offset) = ⊥
FitsEnd None other_end = ⊥
FitsEnd (Some b) e = TellsPart e (spot_part b) b.at

minus-from_sign : (p : Part) → is_sign p ≡ false → is_minus p ≡ false
minus-from_sign (number n) e = refl
minus-from_sign minus e = e
minus-from_sign plus e = refl
minus-from_sign (name cs) e = refl
minus-from_sign (string cs) e = refl
minus-from_sign open_tuple e = refl
minus-from_sign close_tuple e = refl
minus-from_sign open_list e = refl
minus-from_sign close_list e = refl
minus-from_sign comma e = refl
minus-from_sign bar e = refl
minus-from_sign dot e = refl
minus-from_sign unread e = refl
minus-from_sign foreign e = refl

minus-sign : (m : Bool) → is_minus (sign_part m) ≡ m
minus-sign true = refl
minus-sign false = refl

pub is-sign : (m : Bool) → is_sign (sign_part m) ≡ true
is-sign true = refl
is-sign false = refl

bar-sign : (m : Bool) → is_bar (sign_part m) ≡ false
bar-sign true = refl
bar-sign false = refl

string-sign : (m : Bool) → is_string (sign_part m) ≡ false
string-sign true = refl
string-sign false = refl

tells-minus : (o : Option Spot) (e : End) → FitsEnd o e → last_is is_minus o ≡ end_minus e
tells-minus None start_end t = refl
tells-minus None (sign_end m offset) t = absurd t
tells-minus None string_end t = absurd t
tells-minus None (bar_end offset) t = absurd t
tells-minus None other_end t = absurd t
tells-minus (Some b) start_end t = ap is_minus t
tells-minus (Some b) (sign_end m offset) t = ap is_minus t.0 ∙ minus-sign m
tells-minus (Some b) string_end t = ap is_minus t.1
tells-minus (Some b) (bar_end offset) t = ap is_minus t.0
tells-minus (Some b) other_end t = minus-from_sign (spot_part b) t.0

pub tells-bar : (o : Option Spot) (e : End) → FitsEnd o e → last_is is_bar o ≡ end_bar e
tells-bar None start_end t = refl
tells-bar None (sign_end m offset) t = absurd t
tells-bar None string_end t = absurd t
tells-bar None (bar_end offset) t = absurd t
tells-bar None other_end t = absurd t
tells-bar (Some b) start_end t = ap is_bar t
tells-bar (Some b) (sign_end m offset) t = ap is_bar t.0 ∙ bar-sign m
tells-bar (Some b) string_end t = ap is_bar t.1
tells-bar (Some b) (bar_end offset) t = ap is_bar t.0
tells-bar (Some b) other_end t = t.1.0

tells-string : (o : Option Spot) (e : End) → FitsEnd o e → last_is is_string o ≡ end_string e
tells-string None start_end t = refl
tells-string None (sign_end m offset) t = absurd t
tells-string None string_end t = absurd t
tells-string None (bar_end offset) t = absurd t
tells-string None other_end t = absurd t
tells-string (Some b) start_end t = ap is_string t
tells-string (Some b) (sign_end m offset) t = ap is_string t.0 ∙ string-sign m
tells-string (Some b) string_end t = ap is_string t.1
tells-string (Some b) (bar_end offset) t = ap is_string t.0
tells-string (Some b) other_end t = t.1.1.0

tells-offset : (o : Option Spot) (e : End) (at : ℕ) → FitsEnd o e → range_offset_by o at ≡ end_offset e at
tells-offset None start_end at t = refl
tells-offset None (sign_end m offset) at t = absurd t
tells-offset None string_end at t = absurd t
tells-offset None (bar_end offset) at t = absurd t
tells-offset None other_end at t = absurd t
tells-offset (Some b) start_end at t = ap (λ p. cond (is_sign p) b.at at) t
tells-offset (Some b) (sign_end m offset) at t =
    ap (λ p. cond (is_sign p) b.at at) t.0 ∙ (ap (λ c. cond c b.at at) (is-sign m) ∙ t.1)
tells-offset (Some b) string_end at t = ap (λ p. cond (is_sign p) b.at at) t.1
tells-offset (Some b) (bar_end offset) at t = ap (λ p. cond (is_sign p) b.at at) t.0
tells-offset (Some b) other_end at t = ap (λ c. cond c b.at at) t.0

tells-bar_at : (o : Option Spot) (offset : ℕ) → FitsEnd o (bar_end offset) → (b : Spot) × ((o ≡ Some b) × (b.at ≡ offset))
tells-bar_at None offset t = absurd t
tells-bar_at (Some b) offset t = (b, (refl, t.1))

-- What stands behind tokens

pub record Stands (before : List Spot) (w : Forms) (os : List Bracketed) (r : Lasting) : Type 0 where
  pub took : take_all nothing_seen before ≡ goes (show w os r)
  pub ran : run beginning (parts before) ≡ Some (bare w os r)
  pub tells : FitsEnd (last_of before) (end_at r os)
  pub nested : Nested before (offsets os)
  pub fine : Fine w os r

pub stands-none : Stands [] start [] none_last
stands-none = record {
  took = refl;
  ran = refl;
  tells = tt;
  nested = refl;
  fine = record { whole = (refl, (refl, omega arith)); brackets = tt; last = tt };
}

pub parts-append : (xs ys : List Spot) → parts (xs ++ ys) ≡ parts xs ++ parts ys
parts-append [] ys = refl
parts-append (x ∷ xs) ys = ap (λ ps. spot_part x ∷ ps) (parts-append xs ys)

last-append : (xs : List Spot) (b : Spot) → last_of (xs ++ b ∷ []) ≡ Some b
last-append [] b = refl
last-append (x ∷ []) b = refl
last-append (x ∷ y ∷ ys) b = last-append (y ∷ ys) b

run-one_on : (next : Option State) → option_and_then (λ t. run t []) next ≡ next
run-one_on None = refl
run-one_on (Some t) = refl

-- the machine behind one more token
run-more : (before : List Spot) (p : Part) (s : State) → run beginning (parts before) ≡ Some s → run beginning (parts before ++ p ∷ []) ≡ step s p
run-more before p s ran =
    run-append (parts before) (p ∷ []) beginning ∙ (ap (option_and_then (λ t. run t (p ∷ []))) ran ∙ run-one_on (step s p))

moved : (before : List Spot) (b : Spot) (os qs : List Bracketed) → Nested before (offsets os) → Moves (spot_part b) b.at os qs → Nested (before ++ b ∷ []) (offsets qs)
moved before b os qs nested (same o c e) = subst (Nested (before ++ b ∷ [])) (sym e) (nested-plain before (offsets os) b nested o c)
moved before b os qs nested (one_more o e) = subst (Nested (before ++ b ∷ [])) (sym e) (nested-open before (offsets os) b nested o)
moved before b os qs nested (one_less o c offset e) =
    nested-close before offset (offsets qs) b (subst (Nested before) e nested) o c

pub stands-next : (before : List Spot) (w v : Forms) (os qs : List Bracketed) (r q : Lasting) (b : Spot) → Stands before w os r → Follows w os r (spot_part b) b.at v qs q → Stands (before ++ b ∷ []) v qs q
stands-next before w v os qs r q b stands follows = record {
  took = take_all-more before b nothing_seen (show w os r) (goes (show v qs q)) stands.took follows.took;
  ran = ap (run beginning) (parts-append before (b ∷ [])) ∙ (run-more before (spot_part b) (bare w os r) stands.ran ∙ follows.stepped);
  tells = subst (λ o. FitsEnd o (end_at q qs)) (sym (last-append before b)) follows.tells;
  nested = moved before b os qs stands.nested follows.moves;
  fine = follows.fine;
}

-- whether a text goes on with a token
start-from_step : (before : List Spot) (p : Part) (s t : State) → run beginning (parts before) ≡ Some s → step s p ≡ Some t → IsStart (parts before ++ p ∷ [])
start-from_step before p s t ran stepped = start-from_run (parts before ++ p ∷ []) t (run-more before p s ran ∙ stepped)

step-from_start : (before : List Spot) (p : Part) (s : State) → run beginning (parts before) ≡ Some s → IsStart (parts before ++ p ∷ []) → (t : State) × (step s p ≡ Some t)
step-from_start before p s ran is =
    let r = run-from_start (parts before ++ p ∷ []) is in
    (r.0, sym (run-more before p s ran) ∙ r.1)

no-step : (before : List Spot) (p : Part) (s : State) → run beginning (parts before) ≡ Some s → step s p ≡ None → IsStart (parts before ++ p ∷ []) → ⊥
no-step before p s ran stuck is =
    let t = step-from_start before p s ran is in
    none-some t.0 (sym stuck ∙ t.1)

-- The tests of a token

out-by : (before : List Spot) (p : Part) → is_out_of_range before p ≡ out_by (last_is is_minus (last_of before)) p
out-by before (number n) = refl
out-by before minus = refl
out-by before plus = refl
out-by before (name cs) = refl
out-by before (string cs) = refl
out-by before open_tuple = refl
out-by before close_tuple = refl
out-by before open_list = refl
out-by before close_list = refl
out-by before comma = refl
out-by before bar = refl
out-by before dot = refl
out-by before unread = refl
out-by before foreign = refl

nests-by : (before : List Spot) (p : Part) → begins_nesting before p ≡ nesting_by (last_is is_string (last_of before)) p
nests-by before (number n) = refl
nests-by before minus = refl
nests-by before plus = refl
nests-by before (name cs) = refl
nests-by before (string cs) = refl
nests-by before open_tuple = refl
nests-by before close_tuple = refl
nests-by before open_list = refl
nests-by before close_list = refl
nests-by before comma = refl
nests-by before bar = refl
nests-by before dot = refl
nests-by before unread = refl
nests-by before foreign = refl

-- the tests of a token, as what stands before it says
pub record Tests (before : List Spot) (os : List Bracketed) (r : Lasting) (p : Part) : Type 0 where
  pub out : is_out_of_range before p ≡ out_by (end_minus (end_at r os)) p
  pub faulty : is_faulty before p ≡ faulty_by (end_minus (end_at r os)) p
  pub tail : is_wrong_tail before p ≡ tail_by (end_bar (end_at r os)) p
  pub nests : begins_nesting before p ≡ nesting_by (end_string (end_at r os)) p
  pub deep : opened before - closed before ≡ length os

tests : (before : List Spot) (w : Forms) (os : List Bracketed) (r : Lasting) (p : Part) → Stands before w os r → Tests before os r p
tests before w os r p stands =
    let out = out-by before p ∙ ap (λ b. out_by b p) (tells-minus (last_of before) (end_at r os) stands.tells) in
    record {
      out = out;
      faulty = ap (λ b. is_unread p || b) out;
      tail = ap (λ b. tail_by b p) (tells-bar (last_of before) (end_at r os) stands.tells);
      nests = nests-by before p ∙ ap (λ b. nesting_by b p) (tells-string (last_of before) (end_at r os) stands.tells);
      deep = omega (arith, nested-counts before (offsets os) stands.nested, length-offsets os);
    }

-- A token that fails is faulty

wrong-tail : (b : Bool) (p : Part) → b ≡ true → begins_list p ≡ false → tail_by b p ≡ true
wrong-tail b p b_is p_is = ap (λ c. cond c (not (begins_list p)) false) b_is ∙ ap not p_is

pub faulty-from_judged : (before : List Spot) (w : Forms) (os : List Bracketed) (r : Lasting) (p : Part) (at : ℕ) (k : Fault) (told : ℕ) → Stands before w os r → Judged w os r p at → take_part (show w os r) p at ≡ fails k told → IsFaulty before p at k told
faulty-from_judged before w os r p at k told stands (is_unread_part is took) e =
    not_read is (same_kind k Unsupported told at (sym e ∙ took)) (same_offset k Unsupported told at (sym e ∙ took))
faulty-from_judged before w os r p at k told stands (is_out out took) e =
    out_of_range ((tests before w os r p stands).out ∙ out) (same_kind k IntegerRange told (end_offset (end_at r os) at) (sym e ∙ took)) (same_offset k IntegerRange told (end_offset (end_at r os) at) (sym e ∙ took) ∙ sym (tells-offset (last_of before) (end_at r os) at stands.tells))
faulty-from_judged before w os r p at k told stands (is_misplaced sound stuck took) e =
    misplaced ((tests before w os r p stands).faulty ∙ sound) (no-step before p (bare w os r) stands.ran stuck) (same_kind k Syntax told at (sym e ∙ took)) (same_offset k Syntax told at (sym e ∙ took))
faulty-from_judged before w os r p at k told stands (is_wrong sound t stepped offset end no_list took) e =
    let b = tells-bar_at (last_of before) offset (subst (FitsEnd (last_of before)) end stands.tells) in
    wrong_tail ((tests before w os r p stands).faulty ∙ sound) (start-from_step before p (bare w os r) t stands.ran stepped) ((tests before w os r p stands).tail ∙ wrong-tail (end_bar (end_at r os)) p (ap end_bar end) no_list) b.0 b.1.0 (same_kind k Unsupported told offset (sym e ∙ took)) (same_offset k Unsupported told offset (sym e ∙ took) ∙ sym b.1.1)
faulty-from_judged before w os r p at k told stands (is_deep sound t stepped no_tail nests deep took) e =
    too_deep ((tests before w os r p stands).faulty ∙ sound) (start-from_step before p (bare w os r) t stands.ran stepped) ((tests before w os r p stands).tail ∙ no_tail) ((tests before w os r p stands).nests ∙ nests) (omega (arith, deep, (tests before w os r p stands).deep)) (same_kind k TooDeep told at (sym e ∙ took)) (same_offset k TooDeep told at (sym e ∙ took))
faulty-from_judged before w os r p at k told stands (is_next sound no_tail room v qs q follows) e =
    absurd (goes-fails (show v qs q) k told (sym follows.took ∙ e))

-- A faulty token fails

fails-both : (k l : Fault) (at to : ℕ) → k ≡ l → at ≡ to → fails k at ≡ fails l to
fails-both k l at to k_is at_is = ap₂ fails k_is at_is

unread-faulty : (b : Bool) (p : Part) → p ≡ unread → faulty_by b p ≡ true
unread-faulty b p is = ap (faulty_by b) is

pub judged-from_faulty : (before : List Spot) (w : Forms) (os : List Bracketed) (r : Lasting) (p : Part) (at : ℕ) (k : Fault) (told : ℕ) → Stands before w os r → Judged w os r p at → IsFaulty before p at k told → take_part (show w os r) p at ≡ fails k told
judged-from_faulty before w os r p at k told stands judged (not_read is kind offset) =
    ap (λ q. take_part (show w os r) q at) is ∙ fails-both Unsupported k at told (sym kind) (sym offset)
judged-from_faulty before w os r p at k told stands (is_unread_part is took) (out_of_range out kind offset) =
    clash (is_out_of_range before p) out (ap (is_out_of_range before) is)
judged-from_faulty before w os r p at k told stands (is_out out' took) (out_of_range out kind offset) =
    took ∙ fails-both IntegerRange k (end_offset (end_at r os) at) told (sym kind) (sym (tells-offset (last_of before) (end_at r os) at stands.tells) ∙ sym offset)
judged-from_faulty before w os r p at k told stands (is_misplaced sound stuck took) (out_of_range out kind offset) =
    clash (is_faulty before p) (or-right (is_unread p) (is_out_of_range before p) out) ((tests before w os r p stands).faulty ∙ sound)
judged-from_faulty before w os r p at k told stands (is_wrong sound t stepped offset' end no_list took) (out_of_range out kind offset) =
    clash (is_faulty before p) (or-right (is_unread p) (is_out_of_range before p) out) ((tests before w os r p stands).faulty ∙ sound)
judged-from_faulty before w os r p at k told stands (is_deep sound t stepped no_tail nests deep took) (out_of_range out kind offset) =
    clash (is_faulty before p) (or-right (is_unread p) (is_out_of_range before p) out) ((tests before w os r p stands).faulty ∙ sound)
judged-from_faulty before w os r p at k told stands (is_next sound no_tail room v qs q follows) (out_of_range out kind offset) =
    clash (is_faulty before p) (or-right (is_unread p) (is_out_of_range before p) out) ((tests before w os r p stands).faulty ∙ sound)
judged-from_faulty before w os r p at k told stands (is_unread_part is took) (misplaced sound no_start kind offset) =
    clash (is_faulty before p) (ap (is_faulty before) is) sound
judged-from_faulty before w os r p at k told stands (is_out out took) (misplaced sound no_start kind offset) =
    clash (is_faulty before p) (or-right (is_unread p) (is_out_of_range before p) ((tests before w os r p stands).out ∙ out)) sound
judged-from_faulty before w os r p at k told stands (is_misplaced sound' stuck took) (misplaced sound no_start kind offset) =
    took ∙ fails-both Syntax k at told (sym kind) (sym offset)
judged-from_faulty before w os r p at k told stands (is_wrong sound' t stepped offset' end no_list took) (misplaced sound no_start kind offset) =
    absurd (no_start (start-from_step before p (bare w os r) t stands.ran stepped))
judged-from_faulty before w os r p at k told stands (is_deep sound' t stepped no_tail nests deep took) (misplaced sound no_start kind offset) =
    absurd (no_start (start-from_step before p (bare w os r) t stands.ran stepped))
judged-from_faulty before w os r p at k told stands (is_next sound' no_tail room v qs q follows) (misplaced sound no_start kind offset) =
    absurd (no_start (start-from_step before p (bare w os r) (bare v qs q) stands.ran follows.stepped))
judged-from_faulty before w os r p at k told stands (is_unread_part is took) (wrong_tail sound start_is tail b last kind offset) =
    clash (is_faulty before p) (ap (is_faulty before) is) sound
judged-from_faulty before w os r p at k told stands (is_out out took) (wrong_tail sound start_is tail b last kind offset) =
    clash (is_faulty before p) (or-right (is_unread p) (is_out_of_range before p) ((tests before w os r p stands).out ∙ out)) sound
judged-from_faulty before w os r p at k told stands (is_misplaced sound' stuck took) (wrong_tail sound start_is tail b last kind offset) =
    absurd (no-step before p (bare w os r) stands.ran stuck start_is)
judged-from_faulty before w os r p at k told stands (is_wrong sound' t stepped offset' end no_list took) (wrong_tail sound start_is tail b last kind offset) =
    let c = tells-bar_at (last_of before) offset' (subst (FitsEnd (last_of before)) end stands.tells) in
    took ∙ fails-both Unsupported k offset' told (sym kind) (sym c.1.1 ∙ (ap (λ s. s.at) (same_Some c.0 b (sym c.1.0 ∙ last)) ∙ sym offset))
judged-from_faulty before w os r p at k told stands (is_deep sound' t stepped no_tail nests deep took) (wrong_tail sound start_is tail b last kind offset) =
    clash (is_wrong_tail before p) tail ((tests before w os r p stands).tail ∙ no_tail)
judged-from_faulty before w os r p at k told stands (is_next sound' no_tail room v qs q follows) (wrong_tail sound start_is tail b last kind offset) =
    clash (is_wrong_tail before p) tail ((tests before w os r p stands).tail ∙ no_tail)
judged-from_faulty before w os r p at k told stands (is_unread_part is took) (too_deep sound start_is tail nests deep kind offset) =
    clash (is_faulty before p) (ap (is_faulty before) is) sound
judged-from_faulty before w os r p at k told stands (is_out out took) (too_deep sound start_is tail nests deep kind offset) =
    clash (is_faulty before p) (or-right (is_unread p) (is_out_of_range before p) ((tests before w os r p stands).out ∙ out)) sound
judged-from_faulty before w os r p at k told stands (is_misplaced sound' stuck took) (too_deep sound start_is tail nests deep kind offset) =
    absurd (no-step before p (bare w os r) stands.ran stuck start_is)
judged-from_faulty before w os r p at k told stands (is_wrong sound' t stepped offset' end no_list took) (too_deep sound start_is tail nests deep kind offset) =
    clash (is_wrong_tail before p) ((tests before w os r p stands).tail ∙ wrong-tail (end_bar (end_at r os)) p (ap end_bar end) no_list) tail
judged-from_faulty before w os r p at k told stands (is_deep sound' t stepped no_tail nests' deep' took) (too_deep sound start_is tail nests deep kind offset) =
    took ∙ fails-both TooDeep k at told (sym kind) (sym offset)
judged-from_faulty before w os r p at k told stands (is_next sound' no_tail room v qs q follows) (too_deep sound start_is tail nests deep kind offset) =
    absurd (omega (arith, room (sym (tests before w os r p stands).nests ∙ nests), deep, (tests before w os r p stands).deep))
