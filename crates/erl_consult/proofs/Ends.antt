-- Where a text ends, and texts of which no token is faulty.
use Rattle.std.proofs.Common.{◌≡◌, ℕ, Bool, true, false, List, [], ◌∷◌, ◌++◌, Some, None, refl, ap, ap₂, sym, subst, ◌∙◌, append_assoc, append-nil, arith, true≢false}
use Rattle.std.specs.Prelude.{Option}
use Rattle.std.proofs.lemmas.Option.{none-some, same_Some}
use Rattle.erl_scan.specs.declared.error.Fault.{Fault}
use Rattle.erl_scan.specs.declared.error.Fault.TheVariants.{Unclosed, IntegerRange, Unsupported, MissingDot, TooDeep, Syntax}
use Rattle.erl_scan.specs.declared.token.Spot.{Spot}
use Rattle.erl_term.specs.Tree.{Trees}
use Rattle.erl_consult.specs.Grammar.{Forms, start, text_parts, form_trees, IsText}
use Rattle.erl_consult.specs.Faults.{spot_part, parts, last_of, is_sign, is_dot, opened, closed, IsFaulty, IsCutShort, in_bracket, behind_sign, behind_term, NoneFaults}
use Rattle.erl_consult.specs.Steps.{Seen, nothing_seen, Outcome, goes, fails, take_part, Ending, done, cut_short, end_of}
use Rattle.erl_consult.proofs.Spelling.{sign_part, spell-run, beginning}
use Rattle.erl_consult.proofs.Nesting.{nested-counts, innermost-from_nested, innermost-at, no_innermost}
use Rattle.erl_consult.proofs.Judging.{Bracketed, at_tuple, at_list, at_tail, Lasting, none_last, sign_last, form_last, strings_last, offset_of, offsets, show, bare, sign_end, string_end, other_end, end_at, Follows, Judged, is_unread_part, is_out, is_misplaced, is_wrong, is_deep, is_next}
use Rattle.erl_consult.proofs.Judges.{judge}
use Rattle.erl_consult.proofs.Reached.{take_all, take_all-append, outcome_then, goes-fails, Stands, stands-none, stands-next, FitsEnd, faulty-from_judged, judged-from_faulty, is-sign}
use Rattle.erl_consult.proofs.Truth.{clash}

-- The end

kind_of : Fault → Ending → Fault
kind_of d (done ts) = d
kind_of d (cut_short k at) = k

offset_at : ℕ → Ending → ℕ
offset_at d (done ts) = d
offset_at d (cut_short k at) = at

terms_or : Trees → Ending → Trees
terms_or d (done ts) = ts
terms_or d (cut_short k at) = d

is_done : Ending → Bool
is_done (done ts) = true
is_done (cut_short k at) = false

pub same_cut_kind : (k l : Fault) (at to : ℕ) → cut_short k at ≡ cut_short l to → k ≡ l
unfolding kind_of
same_cut_kind k l at to e = ap (kind_of k) e

pub same_cut_offset : (k l : Fault) (at to : ℕ) → cut_short k at ≡ cut_short l to → at ≡ to
unfolding offset_at
same_cut_offset k l at to e = ap (offset_at at) e

pub same_done : (ts us : Trees) → done ts ≡ done us → ts ≡ us
unfolding terms_or
same_done ts us e = ap (terms_or ts) e

pub done-cut : (ts : Trees) (k : Fault) (at : ℕ) → done ts ≡ cut_short k at → ⊥
unfolding is_done
done-cut ts k at e = true≢false (ap is_done e)

cut_both : (k l : Fault) (at to : ℕ) → k ≡ l → at ≡ to → cut_short k at ≡ cut_short l to
cut_both k l at to k_is at_is = ap₂ cut_short k_is at_is

level : (before : List Spot) (w : Forms) (r : Lasting) → Stands before w [] r → opened before ≡ closed before
level before w r stands = omega (arith, nested-counts before [] stands.nested)

dot-sign : (m : Bool) → is_dot (sign_part m) ≡ false
dot-sign true = refl
dot-sign false = refl

-- by what stands behind the tokens
sign_cut : (before : List Spot) (m : Bool) (offset total : ℕ) (k : Fault) (told : ℕ) (o : Option Spot) → opened before ≡ closed before → last_of before ≡ o → FitsEnd o (sign_end m offset) → cut_short Syntax offset ≡ cut_short k told → IsCutShort before total k told
sign_cut before m offset total k told None even is t e = absurd t
sign_cut before m offset total k told (Some b) even is t e =
    behind_sign even b is (ap is_sign t.0 ∙ is-sign m) (sym (same_cut_kind Syntax k offset told e)) (sym (same_cut_offset Syntax k offset told e) ∙ sym t.1)

form_cut : (before : List Spot) (total : ℕ) (k : Fault) (told : ℕ) (o : Option Spot) → opened before ≡ closed before → last_of before ≡ o → FitsEnd o other_end → cut_short MissingDot total ≡ cut_short k told → IsCutShort before total k told
form_cut before total k told None even is t e = absurd t
form_cut before total k told (Some b) even is t e =
    behind_term even b is t.0 t.1.1.1 (sym (same_cut_kind MissingDot k total told e)) (sym (same_cut_offset MissingDot k total told e))

string_cut : (before : List Spot) (total : ℕ) (k : Fault) (told : ℕ) (o : Option Spot) → opened before ≡ closed before → last_of before ≡ o → FitsEnd o string_end → cut_short MissingDot total ≡ cut_short k told → IsCutShort before total k told
string_cut before total k told None even is t e = absurd t
string_cut before total k told (Some b) even is t e =
    behind_term even b is (ap is_sign t.1) (ap is_dot t.1) (sym (same_cut_kind MissingDot k total told e)) (sym (same_cut_offset MissingDot k total told e))

pub cut-from_end : (before : List Spot) (w : Forms) (os : List Bracketed) (r : Lasting) (total : ℕ) (k : Fault) (told : ℕ) → Stands before w os r → end_of (show w os r) total ≡ cut_short k told → IsCutShort before total k told
cut-from_end before w (o ∷ os) r total k told stands e =
    let inner = innermost-from_nested before (offset_of o) (offsets os) stands.nested in
    in_bracket inner.0 inner.1.0 (sym (same_cut_kind Unclosed k (offset_of o) told (on o e))) (sym (same_cut_offset Unclosed k (offset_of o) told (on o e)) ∙ sym inner.1.1)
  where
    on : (b : Bracketed) → end_of (show w (b ∷ os) r) total ≡ cut_short k told → cut_short Unclosed (offset_of b) ≡ cut_short k told
    on (at_tuple at fs) h = h
    on (at_list at fs) h = h
    on (at_tail at bar_at fs f) h = h
cut-from_end before w [] none_last total k told stands e = absurd (done-cut (form_trees w) k told e)
cut-from_end before w [] (sign_last m offset) total k told stands e =
    sign_cut before m offset total k told (last_of before) (level before w (sign_last m offset) stands) refl stands.tells e
cut-from_end before w [] (form_last f) total k told stands e =
    form_cut before total k told (last_of before) (level before w (form_last f) stands) refl stands.tells e
cut-from_end before w [] (strings_last cs others) total k told stands e =
    string_cut before total k told (last_of before) (level before w (strings_last cs others) stands) refl stands.tells e

bracket_end : (b : Bracketed) (os : List Bracketed) (w : Forms) (r : Lasting) (total : ℕ) → end_of (show w (b ∷ os) r) total ≡ cut_short Unclosed (offset_of b)
bracket_end (at_tuple at fs) os w r total = refl
bracket_end (at_list at fs) os w r total = refl
bracket_end (at_tail at bar_at fs f) os w r total = refl

-- the end behind a sign
end_sign : (w : Forms) (r : Lasting) (total : ℕ) (s : Spot) (o : Option Spot) → o ≡ Some s → is_sign (spot_part s) ≡ true → FitsEnd o (end_at r []) → end_of (show w [] r) total ≡ cut_short Syntax s.at
end_sign w none_last total s None is sign t = absurd (none-some s is)
end_sign w none_last total s (Some b) is sign t =
    clash (is_sign (spot_part s)) sign (ap (λ c. is_sign (spot_part c)) (sym (same_Some b s is)) ∙ ap is_sign t)
end_sign w (sign_last m offset) total s None is sign t = absurd t
end_sign w (sign_last m offset) total s (Some b) is sign t = ap (cut_short Syntax) (sym t.1 ∙ ap (λ c. c.at) (same_Some b s is))
end_sign w (form_last f) total s None is sign t = absurd t
end_sign w (form_last f) total s (Some b) is sign t =
    clash (is_sign (spot_part s)) sign (ap (λ c. is_sign (spot_part c)) (sym (same_Some b s is)) ∙ t.0)
end_sign w (strings_last cs others) total s None is sign t = absurd t
end_sign w (strings_last cs others) total s (Some b) is sign t =
    clash (is_sign (spot_part s)) sign (ap (λ c. is_sign (spot_part c)) (sym (same_Some b s is)) ∙ ap is_sign t.1)

-- and behind a term
end_term : (w : Forms) (r : Lasting) (total : ℕ) (s : Spot) (o : Option Spot) → o ≡ Some s → is_sign (spot_part s) ≡ false → is_dot (spot_part s) ≡ false → FitsEnd o (end_at r []) → end_of (show w [] r) total ≡ cut_short MissingDot total
end_term w none_last total s None is no_sign no_dot t = absurd (none-some s is)
end_term w none_last total s (Some b) is no_sign no_dot t =
    clash (is_dot (spot_part s)) (ap (λ c. is_dot (spot_part c)) (sym (same_Some b s is)) ∙ ap is_dot t) no_dot
end_term w (sign_last m offset) total s None is no_sign no_dot t = absurd t
end_term w (sign_last m offset) total s (Some b) is no_sign no_dot t =
    clash (is_sign (spot_part s)) (ap (λ c. is_sign (spot_part c)) (sym (same_Some b s is)) ∙ (ap is_sign t.0 ∙ is-sign m)) no_sign
end_term w (form_last f) total s o is no_sign no_dot t = refl
end_term w (strings_last cs others) total s o is no_sign no_dot t = refl

pub end-from_cut : (before : List Spot) (w : Forms) (os : List Bracketed) (r : Lasting) (total : ℕ) (k : Fault) (told : ℕ) → Stands before w os r → IsCutShort before total k told → end_of (show w os r) total ≡ cut_short k told
end-from_cut before w (o ∷ os) r total k told stands (in_bracket b inner kind offset) =
    bracket_end o os w r total ∙ cut_both Unclosed k (offset_of o) told (sym kind) (sym (innermost-at before (offset_of o) (offsets os) b stands.nested inner) ∙ sym offset)
end-from_cut before w [] r total k told stands (in_bracket b inner kind offset) =
    absurd (no_innermost before b stands.nested inner)
end-from_cut before w (o ∷ os) r total k told stands (behind_sign even s last sign kind offset) =
    absurd (omega (arith, even, nested-counts before (offset_of o ∷ offsets os) stands.nested))
end-from_cut before w [] r total k told stands (behind_sign even s last sign kind offset) =
    end_sign w r total s (last_of before) last sign stands.tells ∙ cut_both Syntax k s.at told (sym kind) (sym offset)
end-from_cut before w (o ∷ os) r total k told stands (behind_term even s last no_sign no_dot kind offset) =
    absurd (omega (arith, even, nested-counts before (offset_of o ∷ offsets os) stands.nested))
end-from_cut before w [] r total k told stands (behind_term even s last no_sign no_dot kind offset) =
    end_term w r total s (last_of before) last no_sign no_dot stands.tells ∙ cut_both MissingDot k total told (sym kind) (sym offset)

-- a text is whole
text-done : (before : List Spot) (w : Forms) → Stands before w [] none_last → IsText (parts before) (form_trees w)
text-done before w stands = record {
  forms = w;
  written = sym (sym (append-nil (text_parts w)) ∙ spell-run (parts before) beginning (bare w [] none_last) stands.ran);
  meaning = refl;
  nested = omega (arith, stands.fine.whole.1.1);
  fit = stands.fine.whole.0;
  tails = stands.fine.whole.1.0;
}

not_done : (w : Forms) (o : Bracketed) (os : List Bracketed) (r : Lasting) (total : ℕ) (ts : Trees) → end_of (show w (o ∷ os) r) total ≡ done ts → ⊥
not_done w o os r total ts e = done-cut ts Unclosed (offset_of o) (sym e ∙ bracket_end o os w r total)

pub text-from_end : (before : List Spot) (w : Forms) (os : List Bracketed) (r : Lasting) (total : ℕ) (ts : Trees) → Stands before w os r → end_of (show w os r) total ≡ done ts → IsText (parts before) ts
text-from_end before w (o ∷ os) r total ts stands e = absurd (not_done w o os r total ts e)
text-from_end before w [] none_last total ts stands e =
    subst (IsText (parts before)) (same_done (form_trees w) ts e) (text-done before w stands)
text-from_end before w [] (sign_last m offset) total ts stands e = absurd (done-cut ts Syntax offset (sym e))
text-from_end before w [] (form_last f) total ts stands e = absurd (done-cut ts MissingDot total (sym e))
text-from_end before w [] (strings_last cs others) total ts stands e = absurd (done-cut ts MissingDot total (sym e))

-- Texts of which no token is faulty

-- a token goes on, or fails
pub data Goes (w : Forms) (os : List Bracketed) (r : Lasting) (b : Spot) : Type 0 where
  it_goes : (v : Forms) → (qs : List Bracketed) → (q : Lasting) → Follows w os r (spot_part b) b.at v qs q → Goes w os r b
  it_fails : (k : Fault) → (told : ℕ) → take_part (show w os r) (spot_part b) b.at ≡ fails k told → Goes w os r b

goes_by : (w : Forms) (os : List Bracketed) (r : Lasting) (b : Spot) → Judged w os r (spot_part b) b.at → Goes w os r b
goes_by w os r b (is_unread_part is took) = it_fails Unsupported b.at took
goes_by w os r b (is_out out took) = it_fails IntegerRange _ took
goes_by w os r b (is_misplaced sound stuck took) = it_fails Syntax b.at took
goes_by w os r b (is_wrong sound t stepped offset end no_list took) = it_fails Unsupported offset took
goes_by w os r b (is_deep sound t stepped no_tail nests deep took) = it_fails TooDeep b.at took
goes_by w os r b (is_next sound no_tail room v qs q follows) = it_goes v qs q follows

pub goes_or_fails : (before : List Spot) (w : Forms) (os : List Bracketed) (r : Lasting) (b : Spot) → Stands before w os r → Goes w os r b
goes_or_fails before w os r b stands = goes_by w os r b (judge w os r (spot_part b) b.at stands.fine)

-- what fails is faulty, and what is faulty fails
pub faulty-from_fails : (before : List Spot) (w : Forms) (os : List Bracketed) (r : Lasting) (b : Spot) (k : Fault) (told : ℕ) → Stands before w os r → take_part (show w os r) (spot_part b) b.at ≡ fails k told → IsFaulty before (spot_part b) b.at k told
faulty-from_fails before w os r b k told stands e =
    faulty-from_judged before w os r (spot_part b) b.at k told stands (judge w os r (spot_part b) b.at stands.fine) e

pub fails-from_faulty : (before : List Spot) (w : Forms) (os : List Bracketed) (r : Lasting) (b : Spot) (k : Fault) (told : ℕ) → Stands before w os r → IsFaulty before (spot_part b) b.at k told → take_part (show w os r) (spot_part b) b.at ≡ fails k told
fails-from_faulty before w os r b k told stands faulty =
    judged-from_faulty before w os r (spot_part b) b.at k told stands (judge w os r (spot_part b) b.at stands.fine) faulty

-- what stands behind tokens of which none is faulty
pub record Somewhere (before : List Spot) : Type 0 where
  pub whole : Forms
  pub brackets : List Bracketed
  pub last : Lasting
  pub stands : Stands before whole brackets last

stands-by : (before : List Spot) (b : Spot) (bs : List Spot) (w : Forms) (os : List Bracketed) (r : Lasting) → Stands before w os r → NoneFaults (before ++ b ∷ bs) → Goes w os r b → Somewhere (before ++ b ∷ [])
stands-by before b bs w os r stands sound (it_goes v qs q follows) =
    record { whole = v; brackets = qs; last = q; stands = stands-next before w v os qs r q b stands follows }
stands-by before b bs w os r stands sound (it_fails k told fails_it) =
    absurd (sound before bs b refl k told (faulty-from_fails before w os r b k told stands fails_it))

stands-on : (bs before : List Spot) → Somewhere before → NoneFaults (before ++ bs) → Somewhere (before ++ bs)
stands-on [] before here sound = subst Somewhere (sym (append-nil before)) here
stands-on (b ∷ bs) before here sound =
    let next = stands-by before b bs here.whole here.brackets here.last here.stands sound (goes_or_fails before here.whole here.brackets here.last b here.stands) in
    subst Somewhere (append_assoc before (b ∷ []) bs) (stands-on bs (before ++ b ∷ []) next (subst NoneFaults (sym (append_assoc before (b ∷ []) bs)) sound))

pub stands-from_sound : (before : List Spot) → NoneFaults before → Somewhere before
stands-from_sound before sound =
    stands-on before [] (record { whole = start; brackets = []; last = none_last; stands = stands-none }) sound

-- the same of tokens that are taken
goes-by : (before : List Spot) (b : Spot) (bs : List Spot) (w : Forms) (os : List Bracketed) (r : Lasting) (t : Seen) → Stands before w os r → take_all (show w os r) (b ∷ bs) ≡ goes t → Goes w os r b → (next : Somewhere (before ++ b ∷ [])) × (take_all (show next.whole next.brackets next.last) bs ≡ goes t)
goes-by before b bs w os r t stands e (it_goes v qs q follows) =
    (record { whole = v; brackets = qs; last = q; stands = stands-next before w v os qs r q b stands follows }, sym (ap (outcome_then (λ s. take_all s bs)) follows.took) ∙ e)
goes-by before b bs w os r t stands e (it_fails k told fails_it) =
    absurd (goes-fails t k told (sym e ∙ ap (outcome_then (λ s. take_all s bs)) fails_it))

taken-on : (bs before : List Spot) (here : Somewhere before) (t : Seen) → take_all (show here.whole here.brackets here.last) bs ≡ goes t → Somewhere (before ++ bs)
taken-on [] before here t e = subst Somewhere (sym (append-nil before)) here
taken-on (b ∷ bs) before here t e =
    let next = goes-by before b bs here.whole here.brackets here.last t here.stands e (goes_or_fails before here.whole here.brackets here.last b here.stands) in
    subst Somewhere (append_assoc before (b ∷ []) bs) (taken-on bs (before ++ b ∷ []) next.0 t next.1)

pub stands-from_taken : (before : List Spot) (t : Seen) → take_all nothing_seen before ≡ goes t → Somewhere before
stands-from_taken before t e =
    taken-on before [] (record { whole = start; brackets = []; last = none_last; stands = stands-none }) t e

-- a front of what is taken is taken
front_on : (back : List Spot) (t : Seen) (o : Outcome) → outcome_then (λ s. take_all s back) o ≡ goes t → (s : Seen) × (o ≡ goes s)
front_on back t (goes s) e = (s, refl)
front_on back t (fails k at) e = absurd (goes-fails t k at (sym e))

pub front-taken : (front back : List Spot) (t : Seen) → take_all nothing_seen (front ++ back) ≡ goes t → (s : Seen) × (take_all nothing_seen front ≡ goes s)
front-taken front back t e = front_on back t (take_all nothing_seen front) (sym (take_all-append front back nothing_seen) ∙ e)

-- of what is taken no token is faulty
pub sound-from_taken : (before : List Spot) (t : Seen) → take_all nothing_seen before ≡ goes t → NoneFaults before
sound-from_taken before t e outside inside s split k told faulty =
    let whole : take_all nothing_seen (outside ++ s ∷ inside) ≡ goes t = ap (take_all nothing_seen) (sym split) ∙ e in
    let front = front-taken outside (s ∷ inside) t whole in
    let here = stands-from_taken outside front.0 front.1 in
    let fails_it = fails-from_faulty outside here.whole here.brackets here.last s k told here.stands faulty in
    goes-fails t k told (sym whole ∙ (take_all-append outside (s ∷ inside) nothing_seen ∙ (ap (outcome_then (λ u. take_all u (s ∷ inside))) here.stands.took ∙ ap (outcome_then (λ u. take_all u inside)) fails_it)))
