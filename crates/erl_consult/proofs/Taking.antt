-- The parser takes each text that is within the limits.
use Rattle.std.proofs.Common.{◌≡◌, ℕ, suc, pos, ◌+◌, ◌<◌, ◌≤◌, Bool, true, false, cond, ◌&&◌, List, [], ◌∷◌, ◌++◌, length, Some, refl, ap, ap₂, sym, ◌∙◌, append_assoc, append-nil, arith, true≢false}
use Rattle.std.specs.List.{flat_map}
use borrow.Author.Tests.{lt-ltb}
use Rattle.erl_scan.specs.declared.error.Fault.TheVariants.{IntegerRange, TooDeep}
use Rattle.erl_scan.specs.declared.token.Spot.{Spot}
use Rattle.erl_term.specs.Tree.{Trees, int, atom, tuple, list, none, more}
use Rattle.erl_term.specs.RoundTrip.{deepest}
use Rattle.erl_term.specs.Rows.{append_trees, integers}
use Rattle.erl_consult.specs.Grammar.{Part, number, minus, plus, name, string, open_tuple, close_tuple, open_list, close_list, comma, bar, dot, Form, Forms, unsigned, negative, positive, atom_form, strings, empty_tuple, some_tuple, empty_list, some_list, tailed_list, start, then, form_parts, with_commas, text_parts, elements_of, form_tree, form_trees, nesting, nestings, fits, all_fit, is_list, has_list_tails, have_list_tails}
use Rattle.erl_consult.specs.Faults.{spot_part, parts}
use Rattle.erl_consult.specs.Steps.{Bracket, of_tuple, of_list, of_tail, Frame, Last, nothing, sign, term, text, Seen, Outcome, goes, fails, take_part, nothing_seen, with_element, elements_at, tail_elements, closed_with, begins, if_room, term_of_last, element_ended, dot_behind}
use Rattle.erl_consult.proofs.Judges.{append_trees-assoc, joined-integers, tail-list, elements-term, elements-text}
use Rattle.erl_consult.proofs.Reached.{outcome_then, take_all, take_all-append}
use Rattle.erl_consult.proofs.Truth.{never, and_left, and_right}

-- Tokens in a row

head_of : Part → List Part → Part
head_of d [] = d
head_of d (p ∷ ps) = p

rest_of : List Part → List Part
rest_of [] = []
rest_of (p ∷ ps) = ps

some : List Part → Bool
some [] = false
some (p ∷ ps) = true

same_first : (p q : Part) (ps qs : List Part) → p ∷ ps ≡ q ∷ qs → p ≡ q
unfolding head_of
same_first p q ps qs e = ap (head_of p) e

same_rest : (p q : Part) (ps qs : List Part) → p ∷ ps ≡ q ∷ qs → ps ≡ qs
unfolding rest_of
same_rest p q ps qs e = ap rest_of e

no_parts : (p : Part) (ps : List Part) → [] ≡ p ∷ ps → ⊥
unfolding some
no_parts p ps e = true≢false (sym (ap some e))

-- a token, and those behind it
record First (ss : List Spot) (p : Part) (ps : List Part) : Type 0 where
  spot : Spot
  others : List Spot
  are : ss ≡ spot ∷ others
  is : spot_part spot ≡ p
  left : parts others ≡ ps

first : (ss : List Spot) (p : Part) (ps : List Part) → parts ss ≡ p ∷ ps → First ss p ps
first [] p ps e = absurd (no_parts p ps e)
first (s ∷ ss) p ps e =
    record { spot = s; others = ss; are = refl; is = same_first (spot_part s) p (parts ss) ps e; left = same_rest (spot_part s) p (parts ss) ps e }

-- some tokens, and those behind them
record Split (ss : List Spot) (xs ys : List Part) : Type 0 where
  front : List Spot
  back : List Spot
  are : ss ≡ front ++ back
  is : parts front ≡ xs
  left : parts back ≡ ys

split-on : (s : Spot) (ss : List Spot) (x : Part) (xs ys : List Part) → spot_part s ≡ x → Split ss xs ys → Split (s ∷ ss) (x ∷ xs) ys
split-on s ss x xs ys is sp =
    record { front = s ∷ sp.front; back = sp.back; are = ap (λ t. s ∷ t) sp.are; is = ap₂ (λ p ps. p ∷ ps) is sp.is; left = sp.left }

split : (xs ys : List Part) (ss : List Spot) → parts ss ≡ xs ++ ys → Split ss xs ys
split [] ys ss e = record { front = []; back = ss; are = refl; is = refl; left = e }
split (x ∷ xs) ys [] e = absurd (no_parts x (xs ++ ys) e)
split (x ∷ xs) ys (s ∷ ss) e =
    split-on s ss x xs ys (same_first (spot_part s) x (parts ss) (xs ++ ys) e) (split xs ys ss (same_rest (spot_part s) x (parts ss) (xs ++ ys) e))

no_spots : (ss : List Spot) → parts ss ≡ [] → ss ≡ []
unfolding some
no_spots [] e = refl
no_spots (s ∷ ss) e = absurd (true≢false (ap some e))

-- a token is taken, and then the others
one : (ss : List Spot) (p : Part) (ps : List Part) (s : Seen) (o : Outcome) → First ss p ps → ((at : ℕ) → (t : Seen) × (take_part s p at ≡ goes t) × ((bs : List Spot) → parts bs ≡ ps → take_all t bs ≡ o)) → take_all s ss ≡ o
one ss p ps s o f step =
    let next = step f.spot.at in
    ap (take_all s) f.are ∙ (ap (λ q. outcome_then (λ t. take_all t f.others) (take_part s q f.spot.at)) f.is ∙ (ap (outcome_then (λ t. take_all t f.others)) next.1 ∙ next.2 f.others f.left))

-- some tokens are taken, and then the others
pub rows : (ss : List Spot) (xs ys : List Part) (s t : Seen) (o : Outcome) → parts ss ≡ xs ++ ys → ((fs : List Spot) → parts fs ≡ xs → take_all s fs ≡ goes t) → ((bs : List Spot) → parts bs ≡ ys → take_all t bs ≡ o) → take_all s ss ≡ o
rows ss xs ys s t o e front back =
    let sp = split xs ys ss e in
    ap (take_all s) sp.are ∙ (take_all-append sp.front sp.back s ∙ (ap (outcome_then (λ u. take_all u sp.back)) (front sp.front sp.is) ∙ back sp.back sp.left))

nothing_left : (s : Seen) (bs : List Spot) → parts bs ≡ [] → take_all s bs ≡ goes s
nothing_left s bs e = ap (take_all s) (no_spots bs e)

-- What the parser holds

abbrev seen : Trees → List Frame → Last → Seen
seen x fs l = record { whole = x; open_ones = fs; last = l }

abbrev frame : Bracket → ℕ → Trees → Frame
frame b at items = record { bracket = b; at = at; items = items }

abbrev bracket_tail : Bracket → Bool
bracket_tail of_tuple = false
bracket_tail of_list = false
bracket_tail (of_tail at) = true

abbrev frames_tail : List Frame → Bool
frames_tail [] = false
frames_tail (f ∷ fs) = bracket_tail f.bracket

begins_in-free : (b : Bracket) (fs : List Frame) (at : ℕ) (items : Trees) (o : Outcome) → (bracket_tail b ≡ true → ⊥) → begins (frame b at items ∷ fs) o ≡ o
begins_in-free of_tuple fs at items o free = refl
begins_in-free of_list fs at items o free = refl
begins_in-free (of_tail bar_at) fs at items o free = absurd (free refl)

begins-free : (fs : List Frame) (o : Outcome) → (frames_tail fs ≡ true → ⊥) → begins fs o ≡ o
begins-free [] o free = refl
begins-free (f ∷ fs) o free = begins_in-free f.bracket fs f.at f.items o free

has_room : (fs : List Frame) (at : ℕ) (o : Outcome) → length fs < deepest → if_room fs at o ≡ o
has_room fs at o less = ap (λ b. cond b o (fails TooDeep at)) (lt-ltb (length fs) deepest less)

abbrev last_form : Form → Last
last_form (unsigned n) = term (form_tree (unsigned n))
last_form (negative n) = term (form_tree (negative n))
last_form (positive n) = term (form_tree (positive n))
last_form (atom_form cs) = term (form_tree (atom_form cs))
last_form (strings cs others) = text (integers (cs ++ flat_map (λ ds. ds) others))
last_form empty_tuple = term (form_tree empty_tuple)
last_form (some_tuple fs f) = term (form_tree (some_tuple fs f))
last_form empty_list = term (form_tree empty_list)
last_form (some_list fs f) = term (form_tree (some_list fs f))
last_form (tailed_list fs f tail) = term (form_tree (tailed_list fs f tail))

last-term : (f : Form) → term_of_last (last_form f) ≡ Some (form_tree f)
last-term (unsigned n) = refl
last-term (negative n) = refl
last-term (positive n) = refl
last-term (atom_form cs) = refl
last-term (strings cs others) = refl
last-term empty_tuple = refl
last-term (some_tuple fs f) = refl
last-term empty_list = refl
last-term (some_list fs f) = refl
last-term (tailed_list fs f tail) = refl

last-element : (ts : Trees) (f : Form) → elements_at ts (last_form f) ≡ Some (with_element ts (form_tree f))
last-element ts (unsigned n) = elements-term ts (form_tree (unsigned n))
last-element ts (negative n) = elements-term ts (form_tree (negative n))
last-element ts (positive n) = elements-term ts (form_tree (positive n))
last-element ts (atom_form cs) = elements-term ts (form_tree (atom_form cs))
last-element ts (strings cs others) = elements-text ts (integers (cs ++ flat_map (λ ds. ds) others))
last-element ts empty_tuple = elements-term ts (form_tree empty_tuple)
last-element ts (some_tuple fs f) = elements-term ts (form_tree (some_tuple fs f))
last-element ts empty_list = elements-term ts (form_tree empty_list)
last-element ts (some_list fs f) = elements-term ts (form_tree (some_list fs f))
last-element ts (tailed_list fs f tail) = elements-term ts (form_tree (tailed_list fs f tail))

-- One form

-- strings behind one another
take_strings : (others : List (List ℕ)) (cs : List ℕ) (done : List (List ℕ)) (x : Trees) (fs : List Frame) (ss : List Spot) → parts ss ≡ flat_map (λ ds. string ds ∷ []) others → take_all (seen x fs (text (integers (cs ++ flat_map (λ ds. ds) done)))) ss ≡ goes (seen x fs (text (integers (cs ++ flat_map (λ ds. ds) (done ++ others)))))
take_strings [] cs done x fs ss e =
    nothing_left (seen x fs (text (integers (cs ++ flat_map (λ ds. ds) done)))) ss e ∙ ap (λ all. goes (seen x fs (text (integers (cs ++ flat_map (λ ds. ds) all))))) (sym (append-nil done))
take_strings (d ∷ ds) cs done x fs ss e =
    one ss (string d) (flat_map (λ es. string es ∷ []) ds) (seen x fs (text (integers (cs ++ flat_map (λ es. es) done)))) (goes (seen x fs (text (integers (cs ++ flat_map (λ es. es) (done ++ (d ∷ ds))))))) (first ss (string d) (flat_map (λ es. string es ∷ []) ds) e) (λ at. (seen x fs (text (integers (cs ++ flat_map (λ es. es) (done ++ d ∷ [])))), ap (λ ts. goes (seen x fs (text ts))) (joined-integers cs done d), λ bs left. take_strings ds cs (done ++ d ∷ []) x fs bs left ∙ ap (λ all. goes (seen x fs (text (integers (cs ++ flat_map (λ es. es) all))))) (append_assoc done (d ∷ []) ds)))

-- an opening bracket
take_open : (b : Bracket) (p : Part) (x : Trees) (fs : List Frame) → length fs < deepest → ((at : ℕ) → take_part (seen x fs nothing) p at ≡ if_room fs at (goes (seen x (frame b at none ∷ fs) nothing))) → (ps : List Part) (o : Outcome) (ss : List Spot) → parts ss ≡ p ∷ ps → ((at : ℕ) (bs : List Spot) → parts bs ≡ ps → take_all (seen x (frame b at none ∷ fs) nothing) bs ≡ o) → take_all (seen x fs nothing) ss ≡ o
take_open b p x fs less opens ps o ss e later =
    one ss p ps (seen x fs nothing) o (first ss p ps e) (λ at. (seen x (frame b at none ∷ fs) nothing, opens at ∙ has_room fs at (goes (seen x (frame b at none ∷ fs) nothing)) less, λ bs left. later at bs left))

-- the list that a tail ends
take_tail : (x : Trees) (at to : ℕ) (fs : List Frame) (gs : Forms) (f g : Form) (off : ℕ) → is_list g ≡ true → take_part (seen x (frame (of_tail to) at (with_element (form_trees gs) (form_tree f)) ∷ fs) (last_form g)) close_list off ≡ goes (seen x fs (last_form (tailed_list gs f g)))
take_tail x at to fs gs f g off is =
    ap (λ o. closed_with (seen x (frame (of_tail to) at (with_element (form_trees gs) (form_tree f)) ∷ fs) (last_form g)) fs (λ ts. list (append_trees (with_element (form_trees gs) (form_tree f)) ts)) (tail_elements o) off) (last-term g) ∙ (ap (λ o. closed_with (seen x (frame (of_tail to) at (with_element (form_trees gs) (form_tree f)) ∷ fs) (last_form g)) fs (λ ts. list (append_trees (with_element (form_trees gs) (form_tree f)) ts)) o off) (tail-list g is) ∙ ap (λ ts. goes (seen x fs (term (list ts)))) (append_trees-assoc (form_trees gs) (more (form_tree f) none) (elements_of (form_tree g))))

mutual
  pub take_form : (f : Form) (x : Trees) (fs : List Frame) (ss : List Spot) → parts ss ≡ form_parts f → fits f ≡ true → has_list_tails f ≡ true → nesting f + length fs ≤ deepest → (frames_tail fs ≡ true → is_list f ≡ true) → take_all (seen x fs nothing) ss ≡ goes (seen x fs (last_form f))
  take_form (unsigned n) x fs ss e fit tails nest tail =
      one ss (number n) [] (seen x fs nothing) (goes (seen x fs (term (int (pos n))))) (first ss (number n) [] e) (λ at. (seen x fs (term (int (pos n))), ap (λ b. cond b (begins fs (goes (seen x fs (term (int (pos n)))))) (fails IntegerRange at)) fit ∙ begins-free fs (goes (seen x fs (term (int (pos n))))) (λ t. never (tail t)), λ bs left. nothing_left (seen x fs (term (int (pos n)))) bs left))
  take_form (negative n) x fs ss e fit tails nest tail =
      one ss minus (number n ∷ []) (seen x fs nothing) (goes (seen x fs (last_form (negative n)))) (first ss minus (number n ∷ []) e) (λ at. (seen x fs (sign true at), begins-free fs (goes (seen x fs (sign true at))) (λ t. never (tail t)), λ bs left. one bs (number n) [] (seen x fs (sign true at)) (goes (seen x fs (last_form (negative n)))) (first bs (number n) [] left) (λ to. (seen x fs (last_form (negative n)), ap (λ b. cond b (goes (seen x fs (last_form (negative n)))) (fails IntegerRange at)) fit, λ cs done. nothing_left (seen x fs (last_form (negative n))) cs done))))
  take_form (positive n) x fs ss e fit tails nest tail =
      one ss plus (number n ∷ []) (seen x fs nothing) (goes (seen x fs (last_form (positive n)))) (first ss plus (number n ∷ []) e) (λ at. (seen x fs (sign false at), begins-free fs (goes (seen x fs (sign false at))) (λ t. never (tail t)), λ bs left. one bs (number n) [] (seen x fs (sign false at)) (goes (seen x fs (last_form (positive n)))) (first bs (number n) [] left) (λ to. (seen x fs (last_form (positive n)), ap (λ b. cond b (goes (seen x fs (last_form (positive n)))) (fails IntegerRange at)) fit, λ cs done. nothing_left (seen x fs (last_form (positive n))) cs done))))
  take_form (atom_form cs) x fs ss e fit tails nest tail =
      one ss (name cs) [] (seen x fs nothing) (goes (seen x fs (term (atom cs)))) (first ss (name cs) [] e) (λ at. (seen x fs (term (atom cs)), begins-free fs (goes (seen x fs (term (atom cs)))) (λ t. never (tail t)), λ bs left. nothing_left (seen x fs (term (atom cs))) bs left))
  take_form (strings cs others) x fs ss e fit tails nest tail =
      one ss (string cs) (flat_map (λ ds. string ds ∷ []) others) (seen x fs nothing) (goes (seen x fs (last_form (strings cs others)))) (first ss (string cs) (flat_map (λ ds. string ds ∷ []) others) e) (λ at. (seen x fs (text (integers (cs ++ []))), has_room fs at (goes (seen x fs (text (integers cs)))) (omega (arith, nest)) ∙ ap (λ ds. goes (seen x fs (text (integers ds)))) (sym (append-nil cs)), λ bs left. take_strings others cs [] x fs bs left))
  take_form empty_tuple x fs ss e fit tails nest tail =
      take_open of_tuple open_tuple x fs (omega (arith, nest)) (λ at. begins-free fs (if_room fs at (goes (seen x (frame of_tuple at none ∷ fs) nothing))) (λ t. never (tail t))) (close_tuple ∷ []) (goes (seen x fs (term (tuple none)))) ss e (λ at bs left. one bs close_tuple [] (seen x (frame of_tuple at none ∷ fs) nothing) (goes (seen x fs (term (tuple none)))) (first bs close_tuple [] left) (λ to. (seen x fs (term (tuple none)), refl, λ cs done. nothing_left (seen x fs (term (tuple none))) cs done)))
  take_form (some_tuple gs f) x fs ss e fit tails nest tail =
      take_open of_tuple open_tuple x fs (omega (arith, nest)) (λ at. begins-free fs (if_room fs at (goes (seen x (frame of_tuple at none ∷ fs) nothing))) (λ t. never (tail t))) (with_commas gs ++ (form_parts f ++ close_tuple ∷ [])) (goes (seen x fs (last_form (some_tuple gs f)))) ss e (λ at bs left. rows bs (with_commas gs) (form_parts f ++ close_tuple ∷ []) (seen x (frame of_tuple at none ∷ fs) nothing) (seen x (frame of_tuple at (form_trees gs) ∷ fs) nothing) (goes (seen x fs (last_form (some_tuple gs f)))) left (λ cs is. take_tuple gs x at fs cs is (and_left (all_fit gs) (fits f) fit) (and_left (have_list_tails gs) (has_list_tails f) tails) (omega (arith, nest))) (λ cs is. rows cs (form_parts f) (close_tuple ∷ []) (seen x (frame of_tuple at (form_trees gs) ∷ fs) nothing) (seen x (frame of_tuple at (form_trees gs) ∷ fs) (last_form f)) (goes (seen x fs (last_form (some_tuple gs f)))) is (λ ds are. take_form f x (frame of_tuple at (form_trees gs) ∷ fs) ds are (and_right (all_fit gs) (fits f) fit) (and_right (have_list_tails gs) (has_list_tails f) tails) (omega (arith, nest)) (λ t. never t)) (λ ds are. one ds close_tuple [] (seen x (frame of_tuple at (form_trees gs) ∷ fs) (last_form f)) (goes (seen x fs (last_form (some_tuple gs f)))) (first ds close_tuple [] are) (λ to. (seen x fs (last_form (some_tuple gs f)), ap (λ o. closed_with (seen x (frame of_tuple at (form_trees gs) ∷ fs) (last_form f)) fs tuple o to) (last-element (form_trees gs) f), λ es done. nothing_left (seen x fs (last_form (some_tuple gs f))) es done)))))
  take_form empty_list x fs ss e fit tails nest tail =
      take_open of_list open_list x fs (omega (arith, nest)) (λ at. refl) (close_list ∷ []) (goes (seen x fs (term (list none)))) ss e (λ at bs left. one bs close_list [] (seen x (frame of_list at none ∷ fs) nothing) (goes (seen x fs (term (list none)))) (first bs close_list [] left) (λ to. (seen x fs (term (list none)), refl, λ cs done. nothing_left (seen x fs (term (list none))) cs done)))
  take_form (some_list gs f) x fs ss e fit tails nest tail =
      take_open of_list open_list x fs (omega (arith, nest)) (λ at. refl) (with_commas gs ++ (form_parts f ++ close_list ∷ [])) (goes (seen x fs (last_form (some_list gs f)))) ss e (λ at bs left. rows bs (with_commas gs) (form_parts f ++ close_list ∷ []) (seen x (frame of_list at none ∷ fs) nothing) (seen x (frame of_list at (form_trees gs) ∷ fs) nothing) (goes (seen x fs (last_form (some_list gs f)))) left (λ cs is. take_list gs x at fs cs is (and_left (all_fit gs) (fits f) fit) (and_left (have_list_tails gs) (has_list_tails f) tails) (omega (arith, nest))) (λ cs is. rows cs (form_parts f) (close_list ∷ []) (seen x (frame of_list at (form_trees gs) ∷ fs) nothing) (seen x (frame of_list at (form_trees gs) ∷ fs) (last_form f)) (goes (seen x fs (last_form (some_list gs f)))) is (λ ds are. take_form f x (frame of_list at (form_trees gs) ∷ fs) ds are (and_right (all_fit gs) (fits f) fit) (and_right (have_list_tails gs) (has_list_tails f) tails) (omega (arith, nest)) (λ t. never t)) (λ ds are. one ds close_list [] (seen x (frame of_list at (form_trees gs) ∷ fs) (last_form f)) (goes (seen x fs (last_form (some_list gs f)))) (first ds close_list [] are) (λ to. (seen x fs (last_form (some_list gs f)), ap (λ o. closed_with (seen x (frame of_list at (form_trees gs) ∷ fs) (last_form f)) fs list o to) (last-element (form_trees gs) f), λ es done. nothing_left (seen x fs (last_form (some_list gs f))) es done)))))
  take_form (tailed_list gs f g) x fs ss e fit tails nest tail =
      take_open of_list open_list x fs (omega (arith, nest)) (λ at. refl) (with_commas gs ++ (form_parts f ++ (bar ∷ (form_parts g ++ close_list ∷ [])))) (goes (seen x fs (last_form (tailed_list gs f g)))) ss e (λ at bs left. rows bs (with_commas gs) (form_parts f ++ (bar ∷ (form_parts g ++ close_list ∷ []))) (seen x (frame of_list at none ∷ fs) nothing) (seen x (frame of_list at (form_trees gs) ∷ fs) nothing) (goes (seen x fs (last_form (tailed_list gs f g)))) left (λ cs is. take_list gs x at fs cs is (and_left (all_fit gs) (fits f && fits g) fit) (and_left (have_list_tails gs) (has_list_tails f && (is_list g && has_list_tails g)) tails) (omega (arith, nest))) (λ cs is. rows cs (form_parts f) (bar ∷ (form_parts g ++ close_list ∷ [])) (seen x (frame of_list at (form_trees gs) ∷ fs) nothing) (seen x (frame of_list at (form_trees gs) ∷ fs) (last_form f)) (goes (seen x fs (last_form (tailed_list gs f g)))) is (λ ds are. take_form f x (frame of_list at (form_trees gs) ∷ fs) ds are (and_left (fits f) (fits g) (and_right (all_fit gs) (fits f && fits g) fit)) (and_left (has_list_tails f) (is_list g && has_list_tails g) (and_right (have_list_tails gs) (has_list_tails f && (is_list g && has_list_tails g)) tails)) (omega (arith, nest)) (λ t. never t)) (λ ds are. one ds bar (form_parts g ++ close_list ∷ []) (seen x (frame of_list at (form_trees gs) ∷ fs) (last_form f)) (goes (seen x fs (last_form (tailed_list gs f g)))) (first ds bar (form_parts g ++ close_list ∷ []) are) (λ to. (seen x (frame (of_tail to) at (with_element (form_trees gs) (form_tree f)) ∷ fs) nothing, ap (λ o. element_ended (seen x (frame of_list at (form_trees gs) ∷ fs) (last_form f)) (frame of_list at (form_trees gs)) fs (of_tail to) o to) (last-term f), λ es left2. rows es (form_parts g) (close_list ∷ []) (seen x (frame (of_tail to) at (with_element (form_trees gs) (form_tree f)) ∷ fs) nothing) (seen x (frame (of_tail to) at (with_element (form_trees gs) (form_tree f)) ∷ fs) (last_form g)) (goes (seen x fs (last_form (tailed_list gs f g)))) left2 (λ hs are2. take_form g x (frame (of_tail to) at (with_element (form_trees gs) (form_tree f)) ∷ fs) hs are2 (and_right (fits f) (fits g) (and_right (all_fit gs) (fits f && fits g) fit)) (and_right (is_list g) (has_list_tails g) (and_right (has_list_tails f) (is_list g && has_list_tails g) (and_right (have_list_tails gs) (has_list_tails f && (is_list g && has_list_tails g)) tails))) (omega (arith, nest)) (λ t. and_left (is_list g) (has_list_tails g) (and_right (has_list_tails f) (is_list g && has_list_tails g) (and_right (have_list_tails gs) (has_list_tails f && (is_list g && has_list_tails g)) tails)))) (λ hs are2. one hs close_list [] (seen x (frame (of_tail to) at (with_element (form_trees gs) (form_tree f)) ∷ fs) (last_form g)) (goes (seen x fs (last_form (tailed_list gs f g)))) (first hs close_list [] are2) (λ off. (seen x fs (last_form (tailed_list gs f g)), take_tail x at to fs gs f g off (and_left (is_list g) (has_list_tails g) (and_right (has_list_tails f) (is_list g && has_list_tails g) (and_right (have_list_tails gs) (has_list_tails f && (is_list g && has_list_tails g)) tails))), λ ks done. nothing_left (seen x fs (last_form (tailed_list gs f g))) ks done))))))))

  -- elements, each with its comma
  take_tuple : (gs : Forms) (x : Trees) (at : ℕ) (fs : List Frame) (ss : List Spot) → parts ss ≡ with_commas gs → all_fit gs ≡ true → have_list_tails gs ≡ true → nestings gs + suc (length fs) ≤ deepest → take_all (seen x (frame of_tuple at none ∷ fs) nothing) ss ≡ goes (seen x (frame of_tuple at (form_trees gs) ∷ fs) nothing)
  take_tuple start x at fs ss e fit tails nest = nothing_left (seen x (frame of_tuple at none ∷ fs) nothing) ss e
  take_tuple (then gs f) x at fs ss e fit tails nest =
      rows ss (with_commas gs) (form_parts f ++ comma ∷ []) (seen x (frame of_tuple at none ∷ fs) nothing) (seen x (frame of_tuple at (form_trees gs) ∷ fs) nothing) (goes (seen x (frame of_tuple at (form_trees (then gs f)) ∷ fs) nothing)) e (λ cs is. take_tuple gs x at fs cs is (and_left (all_fit gs) (fits f) fit) (and_left (have_list_tails gs) (has_list_tails f) tails) (omega (arith, nest))) (λ cs is. rows cs (form_parts f) (comma ∷ []) (seen x (frame of_tuple at (form_trees gs) ∷ fs) nothing) (seen x (frame of_tuple at (form_trees gs) ∷ fs) (last_form f)) (goes (seen x (frame of_tuple at (form_trees (then gs f)) ∷ fs) nothing)) is (λ ds are. take_form f x (frame of_tuple at (form_trees gs) ∷ fs) ds are (and_right (all_fit gs) (fits f) fit) (and_right (have_list_tails gs) (has_list_tails f) tails) (omega (arith, nest)) (λ t. never t)) (λ ds are. one ds comma [] (seen x (frame of_tuple at (form_trees gs) ∷ fs) (last_form f)) (goes (seen x (frame of_tuple at (form_trees (then gs f)) ∷ fs) nothing)) (first ds comma [] are) (λ to. (seen x (frame of_tuple at (form_trees (then gs f)) ∷ fs) nothing, ap (λ o. element_ended (seen x (frame of_tuple at (form_trees gs) ∷ fs) (last_form f)) (frame of_tuple at (form_trees gs)) fs of_tuple o to) (last-term f), λ es done. nothing_left (seen x (frame of_tuple at (form_trees (then gs f)) ∷ fs) nothing) es done))))

  take_list : (gs : Forms) (x : Trees) (at : ℕ) (fs : List Frame) (ss : List Spot) → parts ss ≡ with_commas gs → all_fit gs ≡ true → have_list_tails gs ≡ true → nestings gs + suc (length fs) ≤ deepest → take_all (seen x (frame of_list at none ∷ fs) nothing) ss ≡ goes (seen x (frame of_list at (form_trees gs) ∷ fs) nothing)
  take_list start x at fs ss e fit tails nest = nothing_left (seen x (frame of_list at none ∷ fs) nothing) ss e
  take_list (then gs f) x at fs ss e fit tails nest =
      rows ss (with_commas gs) (form_parts f ++ comma ∷ []) (seen x (frame of_list at none ∷ fs) nothing) (seen x (frame of_list at (form_trees gs) ∷ fs) nothing) (goes (seen x (frame of_list at (form_trees (then gs f)) ∷ fs) nothing)) e (λ cs is. take_list gs x at fs cs is (and_left (all_fit gs) (fits f) fit) (and_left (have_list_tails gs) (has_list_tails f) tails) (omega (arith, nest))) (λ cs is. rows cs (form_parts f) (comma ∷ []) (seen x (frame of_list at (form_trees gs) ∷ fs) nothing) (seen x (frame of_list at (form_trees gs) ∷ fs) (last_form f)) (goes (seen x (frame of_list at (form_trees (then gs f)) ∷ fs) nothing)) is (λ ds are. take_form f x (frame of_list at (form_trees gs) ∷ fs) ds are (and_right (all_fit gs) (fits f) fit) (and_right (have_list_tails gs) (has_list_tails f) tails) (omega (arith, nest)) (λ t. never t)) (λ ds are. one ds comma [] (seen x (frame of_list at (form_trees gs) ∷ fs) (last_form f)) (goes (seen x (frame of_list at (form_trees (then gs f)) ∷ fs) nothing)) (first ds comma [] are) (λ to. (seen x (frame of_list at (form_trees (then gs f)) ∷ fs) nothing, ap (λ o. element_ended (seen x (frame of_list at (form_trees gs) ∷ fs) (last_form f)) (frame of_list at (form_trees gs)) fs of_list o to) (last-term f), λ es done. nothing_left (seen x (frame of_list at (form_trees (then gs f)) ∷ fs) nothing) es done))))

-- a text
pub take_text : (gs : Forms) (ss : List Spot) → parts ss ≡ text_parts gs → all_fit gs ≡ true → have_list_tails gs ≡ true → nestings gs ≤ deepest → take_all nothing_seen ss ≡ goes (seen (form_trees gs) [] nothing)
take_text start ss e fit tails nest = nothing_left nothing_seen ss e
take_text (then gs f) ss e fit tails nest =
    rows ss (text_parts gs) (form_parts f ++ dot ∷ []) nothing_seen (seen (form_trees gs) [] nothing) (goes (seen (form_trees (then gs f)) [] nothing)) e (λ cs is. take_text gs cs is (and_left (all_fit gs) (fits f) fit) (and_left (have_list_tails gs) (has_list_tails f) tails) (omega (arith, nest))) (λ cs is. rows cs (form_parts f) (dot ∷ []) (seen (form_trees gs) [] nothing) (seen (form_trees gs) [] (last_form f)) (goes (seen (form_trees (then gs f)) [] nothing)) is (λ ds are. take_form f (form_trees gs) [] ds are (and_right (all_fit gs) (fits f) fit) (and_right (have_list_tails gs) (has_list_tails f) tails) (omega (arith, nest)) (λ t. never t)) (λ ds are. one ds dot [] (seen (form_trees gs) [] (last_form f)) (goes (seen (form_trees (then gs f)) [] nothing)) (first ds dot [] are) (λ to. (seen (form_trees (then gs f)) [] nothing, ap (λ o. dot_behind (seen (form_trees gs) [] (last_form f)) o to) (last-term f), λ es done. nothing_left (seen (form_trees (then gs f)) [] nothing) es done))))
