-- The first fault: a faulty token is of no text behind the tokens before it, and these go on to one.
use Rattle.std.proofs.Common.{◌≡◌, ℕ, ◌+◌, ◌<◌, ◌≤◌, Bool, true, false, not, List, [], ◌∷◌, ◌++◌, length, refl, ap, ap₂, sym, subst, ◌∙◌, append_assoc, arith, ◌⊎◌, inl, inr}
use Rattle.std.proofs.lemmas.Bool.{cases_lt}
use Rattle.std.proofs.lemmas.List.{append-nil}
use Rattle.erl_scan.specs.declared.error.Fault.{Fault}
use Rattle.erl_scan.specs.declared.error.Fault.TheVariants.{IntegerRange, Unsupported, TooDeep, Syntax}
use Rattle.erl_scan.specs.declared.mark.Mark.TheVariants.{OpenBrace, CloseBrace, OpenBracket, CloseBracket, Comma, Bar, Plus, Minus}
use Rattle.erl_scan.specs.declared.token.Token.{Token}
use Rattle.erl_scan.specs.declared.token.Token.TheVariants.{Integer, Float, Atom, Variable, String, Mark as MarkOf, Dot}
use Rattle.erl_scan.specs.declared.token.Spot.{Spot}
use Rattle.erl_term.specs.Tree.{Trees}
use Rattle.erl_term.specs.RoundTrip.{deepest}
use Rattle.erl_consult.specs.Grammar.{Part, number, minus, plus, name, string, open_tuple, close_tuple, open_list, close_list, comma, bar, dot, unread, foreign, part_of, Form, Forms, unsigned, strings, some_tuple, some_list, tailed_list, form_parts, form_trees, is_list, IsText}
use Rattle.erl_consult.specs.Faults.{spot_part, parts, last_of, begins_list, opened, closed, IsFaulty, IsCutShort, NoneFaults}
use Rattle.erl_consult.specs.FirstFault.{CanGoOn, IsDeadEnd, FirstFault}
use Rattle.erl_consult.specs.Steps.{nothing, Seen, fails, take_part, end_of}
use Rattle.erl_consult.proofs.Spelling.{read_parts, signed, signed-parts, closers, closed_up, spells-on, spell-run, beginning}
use Rattle.erl_consult.proofs.Nesting.{nested-counts}
use Rattle.erl_consult.proofs.Judging.{Bracketed, at_tuple, at_list, at_tail, Lasting, none_last, sign_last, form_last, strings_last, show, show_all, bare, bare_all, bare_last, length-show, length-offsets, offsets, End, start_end, sign_end, string_end, bar_end, other_end, end_at, end_string, end_bar, nesting_by, tail_by, FineForm, FineForms, FineAll, is_tail, Judged, is_unread_part, is_out, is_misplaced, is_wrong, is_deep, is_next, end_offset}
use Rattle.erl_consult.proofs.Judges.{judge, fine-then, fine-tuple, fine-list, fine-tailed, fine-strings, last-form, no_tuple, depth}
use Rattle.erl_consult.proofs.Reached.{same_goes, Stands, tells-bar, parts-append}
use Rattle.erl_consult.proofs.Ends.{Somewhere, stands-from_sound, stands-from_taken, sound-from_taken, front-taken, faulty-from_fails, end-from_cut, done-cut}
use Rattle.erl_consult.proofs.Uniqueness.{taken}
use Rattle.erl_consult.proofs.Truth.{never}

-- Tokens as the scanner gives them

token_of : Part → Token
token_of (number n) = Integer n
token_of minus = MarkOf Minus
token_of plus = MarkOf Plus
token_of (name cs) = Atom cs
token_of (string cs) = String cs
token_of open_tuple = MarkOf OpenBrace
token_of close_tuple = MarkOf CloseBrace
token_of open_list = MarkOf OpenBracket
token_of close_list = MarkOf CloseBracket
token_of comma = MarkOf Comma
token_of bar = MarkOf Bar
token_of dot = Dot
token_of unread = Float
token_of foreign = Variable []

part-token : (p : Part) → part_of (token_of p) ≡ p
unfolding token_of
part-token (number n) = refl
part-token minus = refl
part-token plus = refl
part-token (name cs) = refl
part-token (string cs) = refl
part-token open_tuple = refl
part-token close_tuple = refl
part-token open_list = refl
part-token close_list = refl
part-token comma = refl
part-token bar = refl
part-token dot = refl
part-token unread = refl
part-token foreign = refl

abbrev spot_of : Part → ℕ → Spot
spot_of p at = record { what = token_of p; at = at }

abbrev spots_of : List Part → List Spot
spots_of [] = []
spots_of (p ∷ ps) = spot_of p 0 ∷ spots_of ps

parts-spots : (ps : List Part) → parts (spots_of ps) ≡ ps
parts-spots [] = refl
parts-spots (p ∷ ps) = ap₂ (λ q qs. q ∷ qs) (part-token p) (parts-spots ps)

-- No text has a faulty token

-- of a text's tokens none is faulty
text-sound : (before : List Spot) (others : List Part) (spots : List Spot) (ts : Trees) → parts spots ≡ others → IsText (parts before ++ others) ts → NoneFaults (before ++ spots)
text-sound before others spots ts are text =
    let whole : parts before ++ others ≡ parts (before ++ spots) = ap (λ ps. parts before ++ ps) (sym are) ∙ sym (parts-append before spots) in
    sound-from_taken (before ++ spots) (record { whole = ts; open_ones = []; last = nothing }) (taken (before ++ spots) ts (subst (λ ps. IsText ps ts) whole text))

no_text : (before : List Spot) (p : Part) (at : ℕ) (kind : Fault) (told : ℕ) (others : List Part) (ts : Trees) → IsFaulty before p at kind told → IsText (parts before ++ (p ∷ others)) ts → ⊥
no_text before p at kind told others ts faulty text =
    text-sound before (p ∷ others) (spot_of p at ∷ spots_of others) ts (ap₂ (λ q qs. q ∷ qs) (part-token p) (parts-spots others)) text before (spots_of others) (spot_of p at) refl kind told (subst (λ q. IsFaulty before q at kind told) (sym (part-token p)) faulty)

faulty-stops : (before : List Spot) (p : Part) (at : ℕ) (kind : Fault) (told : ℕ) → IsFaulty before p at kind told → CanGoOn (parts before ++ p ∷ []) → ⊥
faulty-stops before p at kind told faulty on =
    no_text before p at kind told on.others on.terms faulty (subst (λ ps. IsText ps on.terms) (append_assoc (parts before) (p ∷ []) on.others) on.text)

-- Tokens of which none is faulty go on

-- the brackets are closed behind a form that is within the limits, as all the others are
fine-closed_up : (os : List Bracketed) (w : Forms) (f : Form) → FineForms 0 w → FineAll os → FineForm (length os) f → (is_tail os ≡ true → is_list f ≡ true) → FineForms 0 (closed_up (bare_all os) w f)
fine-closed_up [] w f whole brackets fine tail = fine-then 0 w f whole fine
fine-closed_up (at_tuple offset fs ∷ os) w f whole brackets fine tail =
    fine-closed_up os w (some_tuple fs f) whole brackets.1.1 (fine-tuple (length os) fs f brackets.0 (last-form (at_tuple offset fs) os f fine)) (λ t. no_tuple os brackets.1.0 t)
fine-closed_up (at_list offset fs ∷ os) w f whole brackets fine tail =
    fine-closed_up os w (some_list fs f) whole brackets.1.1 (fine-list (length os) fs f brackets.0 (last-form (at_list offset fs) os f fine)) (λ t. refl)
fine-closed_up (at_tail offset bar_at fs g ∷ os) w f whole brackets fine tail =
    fine-closed_up os w (tailed_list fs g f) whole brackets.1.1 (fine-tailed (length os) fs g f brackets.0.0 brackets.0.1 (last-form (at_tail offset bar_at fs g) os f fine) (tail refl)) (λ t. refl)

goes_on-by : (before : List Spot) (w : Forms) (os : List Bracketed) (r : Lasting) (more : List Part) (f : Form) → Stands before w os r → read_parts (bare_last r) ++ more ≡ form_parts f → FineForm (length os) f → (is_tail os ≡ true → is_list f ≡ true) → CanGoOn (parts before)
goes_on-by before w os r more f stands is fine tail =
    let within : FineForms 0 (closed_up (bare_all os) w f) = fine-closed_up os w f stands.fine.whole stands.fine.brackets fine tail in
    record {
      others = more ++ closers (bare_all os);
      terms = form_trees (closed_up (bare_all os) w f);
      text = record {
        forms = closed_up (bare_all os) w f;
        written = ap (λ ps. ps ++ (more ++ closers (bare_all os))) (sym (spell-run (parts before) beginning (bare w os r) stands.ran)) ∙ spells-on w (bare_all os) (bare_last r) more f is;
        meaning = refl;
        nested = omega (arith, within.1.1);
        fit = within.0;
        tails = within.1.0;
      };
    }

-- how many brackets are open
deep : (before : List Spot) (w : Forms) (os : List Bracketed) (r : Lasting) → Stands before w os r → opened before ≡ closed before + length os
deep before w os r stands = omega (arith, nested-counts before (offsets os) stands.nested, length-offsets os)

-- an integer goes on where no tail begins
with_number : (before : List Spot) (w : Forms) (os : List Bracketed) → Stands before w os none_last → is_tail os ≡ false → CanGoOn (parts before)
with_number before w os stands free =
    goes_on-by before w os none_last (number 0 ∷ []) (unsigned 0) stands refl (refl, (refl, omega (arith, depth os stands.fine.brackets))) (λ t. never (sym free ∙ t))

-- and a string as a tail, where fewer than the most brackets are open
tail_on : (before : List Spot) (w : Forms) (os : List Bracketed) (offset bar_at : ℕ) (fs : Forms) (f : Form) → Stands before w (at_tail offset bar_at fs f ∷ os) none_last → (length (at_tail offset bar_at fs f ∷ os) < deepest) ⊎ (deepest ≤ length (at_tail offset bar_at fs f ∷ os)) → CanGoOn (parts before) ⊎ IsDeadEnd before
tail_on before w os offset bar_at fs f stands (inl less) =
    inl (goes_on-by before w (at_tail offset bar_at fs f ∷ os) none_last (string [] ∷ []) (strings [] []) stands refl (fine-strings (length (at_tail offset bar_at fs f ∷ os)) [] [] (omega (arith, less))) (λ t. refl))
tail_on before w os offset bar_at fs f stands (inr most) =
    inr (record {
      bar = tells-bar (last_of before) (bar_end bar_at) stands.tells;
      full = omega (arith, most, depth (at_tail offset bar_at fs f ∷ os) stands.fine.brackets, deep before w (at_tail offset bar_at fs f ∷ os) none_last stands);
    })

on_none : (before : List Spot) (w : Forms) (os : List Bracketed) → Stands before w os none_last → CanGoOn (parts before) ⊎ IsDeadEnd before
on_none before w [] stands = inl (with_number before w [] stands refl)
on_none before w (at_tuple offset fs ∷ os) stands = inl (with_number before w (at_tuple offset fs ∷ os) stands refl)
on_none before w (at_list offset fs ∷ os) stands = inl (with_number before w (at_list offset fs ∷ os) stands refl)
on_none before w (at_tail offset bar_at fs f ∷ os) stands =
    tail_on before w os offset bar_at fs f stands (cases_lt (length (at_tail offset bar_at fs f ∷ os)) deepest)

fine-signed : (m : Bool) (os : List Bracketed) → FineAll os → FineForm (length os) (signed m 0)
fine-signed true os fine = (refl, (refl, omega (arith, depth os fine)))
fine-signed false os fine = (refl, (refl, omega (arith, depth os fine)))

go_on : (before : List Spot) (w : Forms) (os : List Bracketed) (r : Lasting) → Stands before w os r → CanGoOn (parts before) ⊎ IsDeadEnd before
go_on before w os none_last stands = on_none before w os stands
go_on before w os (sign_last m at) stands =
    inl (goes_on-by before w os (sign_last m at) (number 0 ∷ []) (signed m 0) stands (sym (signed-parts m 0)) (fine-signed m os stands.fine.brackets) (λ t. never (sym stands.fine.last ∙ t)))
go_on before w os (form_last f) stands =
    inl (goes_on-by before w os (form_last f) [] f stands (append-nil (form_parts f)) stands.fine.last.0 stands.fine.last.1)
go_on before w os (strings_last cs others) stands =
    inl (goes_on-by before w os (strings_last cs others) [] (strings cs others) stands (append-nil (form_parts (strings cs others))) (fine-strings (length os) cs others stands.fine.last) (λ t. refl))

sound-goes_on : (before : List Spot) → NoneFaults before → CanGoOn (parts before) ⊎ IsDeadEnd before
sound-goes_on before sound =
    let here = stands-from_sound before sound in
    go_on before here.whole here.brackets here.last here.stands

-- The dead end

-- behind a bar a token either begins a list, which is one bracket more, or is faulty
lists-nest : (p : Part) → begins_list p ≡ true → nesting_by false p ≡ true
lists-nest (number n) e = never e
lists-nest minus e = never e
lists-nest plus e = never e
lists-nest (name cs) e = never e
lists-nest (string cs) e = refl
lists-nest open_tuple e = never e
lists-nest close_tuple e = never e
lists-nest open_list e = refl
lists-nest close_list e = never e
lists-nest comma e = never e
lists-nest bar e = never e
lists-nest dot e = never e
lists-nest unread e = never e
lists-nest foreign e = never e

no_room : (e : End) (p : Part) (P : Type 0) → end_bar e ≡ true → tail_by (end_bar e) p ≡ false → (nesting_by (end_string e) p ≡ true → P) → P
no_room start_end p P is free room = never is
no_room (sign_end m offset) p P is free room = never is
no_room string_end p P is free room = never is
no_room (bar_end offset) p P is free room = room (lists-nest p (not-false (begins_list p) free))
  where
    not-false : (b : Bool) → not b ≡ false → b ≡ true
    not-false true e = refl
    not-false false e = never (sym e)
no_room other_end p P is free room = never is

-- a token fails
record Fails (w : Forms) (os : List Bracketed) (r : Lasting) (b : Spot) : Type 0 where
  kind : Fault
  told : ℕ
  fails_it : take_part (show w os r) (spot_part b) b.at ≡ fails kind told

stuck_by : (w : Forms) (os : List Bracketed) (r : Lasting) (b : Spot) → end_bar (end_at r os) ≡ true → deepest ≤ length os → Judged w os r (spot_part b) b.at → Fails w os r b
stuck_by w os r b is full (is_unread_part p took) = record { kind = Unsupported; told = b.at; fails_it = took }
stuck_by w os r b is full (is_out out took) = record { kind = IntegerRange; told = end_offset (end_at r os) b.at; fails_it = took }
stuck_by w os r b is full (is_misplaced sound stuck took) = record { kind = Syntax; told = b.at; fails_it = took }
stuck_by w os r b is full (is_wrong sound t stepped offset end no_list took) = record { kind = Unsupported; told = offset; fails_it = took }
stuck_by w os r b is full (is_deep sound t stepped no_tail nests more took) = record { kind = TooDeep; told = b.at; fails_it = took }
stuck_by w os r b is full (is_next sound no_tail room v qs q follows) =
    let less : length os < deepest = no_room (end_at r os) (spot_part b) (length os < deepest) is no_tail room in
    absurd (omega (arith, less, full))

-- so behind a dead end each token is faulty
record Faults (before : List Spot) (b : Spot) : Type 0 where
  kind : Fault
  told : ℕ
  faulty : IsFaulty before (spot_part b) b.at kind told

stuck : (before : List Spot) (b : Spot) → Somewhere before → IsDeadEnd before → Faults before b
stuck before b here dead =
    let bar_is : end_bar (end_at here.last here.brackets) ≡ true = sym (tells-bar (last_of before) (end_at here.last here.brackets) here.stands.tells) ∙ dead.bar in
    let full : deepest ≤ length here.brackets = omega (arith, dead.full, deep before here.whole here.brackets here.last here.stands) in
    let f = stuck_by here.whole here.brackets here.last b bar_is full (judge here.whole here.brackets here.last (spot_part b) b.at here.stands.fine) in
    record { kind = f.kind; told = f.told; faulty = faulty-from_fails before here.whole here.brackets here.last b f.kind f.told here.stands f.fails_it }

abbrev whole_text : Trees → Seen
whole_text ts = record { whole = ts; open_ones = []; last = nothing }

-- what stands behind a front of a text
stands-in_text : (before : List Spot) (others : List Part) (ts : Trees) → IsText (parts before ++ others) ts → Somewhere before
stands-in_text before others ts text =
    let whole : parts before ++ others ≡ parts (before ++ spots_of others) = ap (λ ps. parts before ++ ps) (sym (parts-spots others)) ∙ sym (parts-append before (spots_of others)) in
    let front = front-taken before (spots_of others) (whole_text ts) (taken (before ++ spots_of others) ts (subst (λ ps. IsText ps ts) whole text)) in
    stands-from_taken before front.0 front.1

-- behind a whole text no bracket is open
level-text : (before : List Spot) (ts : Trees) → IsText (parts before) ts → (here : Somewhere before) → show here.whole here.brackets here.last ≡ whole_text ts
level-text before ts text here =
    same_goes (show here.whole here.brackets here.last) (whole_text ts) (sym here.stands.took ∙ taken before ts text)

dead-stops : (before : List Spot) (others : List Part) (ts : Trees) → IsDeadEnd before → IsText (parts before ++ others) ts → ⊥
dead-stops before [] ts dead text =
    let whole : IsText (parts before) ts = subst (λ ps. IsText ps ts) (append-nil (parts before)) text in
    let here = stands-in_text before [] ts text in
    let none_open : length (show_all here.brackets) ≡ 0 = ap (λ s. length s.open_ones) (level-text before ts whole here) in
    omega (arith, none_open, length-show here.brackets, dead.full, deep before here.whole here.brackets here.last here.stands)
dead-stops before (p ∷ ps) ts dead text =
    let f = stuck before (spot_of p 0) (stands-in_text before (p ∷ ps) ts text) dead in
    no_text before p 0 f.kind f.told ps ts (subst (λ q. IsFaulty before q 0 f.kind f.told) (part-token p) f.faulty) text

-- one more token that is not faulty stands behind no dead end
sound-front : (before after : List Spot) (s : Spot) → NoneFaults (before ++ s ∷ after) → NoneFaults before
sound-front before after s sound outside inside b split kind told faulty =
    sound outside (inside ++ s ∷ after) b (ap (λ ss. ss ++ s ∷ after) split ∙ append_assoc outside (b ∷ inside) (s ∷ after)) kind told faulty

front-by : (before after : List Spot) (s : Spot) → NoneFaults (before ++ s ∷ after) → CanGoOn (parts before) ⊎ IsDeadEnd before → CanGoOn (parts before)
front-by before after s sound (inl on) = on
front-by before after s sound (inr dead) =
    let f = stuck before s (stands-from_sound before (sound-front before after s sound)) dead in
    absurd (sound before after s refl f.kind f.told f.faulty)

-- The end

cut-stops : (before : List Spot) (total : ℕ) (kind : Fault) (told : ℕ) (ts : Trees) → IsCutShort before total kind told → IsText (parts before) ts → ⊥
cut-stops before total kind told ts cut text =
    let here = stands-in_text before [] ts (subst (λ ps. IsText ps ts) (sym (append-nil (parts before))) text) in
    done-cut ts kind told (sym (ap (λ s. end_of s total) (level-text before ts text here)) ∙ end-from_cut before here.whole here.brackets here.last total kind told here.stands cut)

pub first_fault : FirstFault
first_fault = record {
  faulty = faulty-stops;
  sound = sound-goes_on;
  front = λ before after s sound. front-by before after s sound (sound-goes_on before (sound-front before after s sound));
  dead_end = λ before dead on. dead-stops before on.others on.terms dead on.text;
  cut_short = cut-stops;
}
