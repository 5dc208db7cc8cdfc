-- Each token is judged: part by part, by what was read before it.
use Rattle.std.proofs.Common.{◌≡◌, ℕ, suc, ◌^◌, ◌<◌, ◌≤◌, Bool, true, false, cond, not, ◌&&◌, List, [], ◌∷◌, ◌++◌, length, Some, None, refl, ap, sym, subst, ◌∙◌, append_assoc, append-nil, arith, nat_lt}
use Rattle.std.specs.Prelude.{Option, nat_le}
use Rattle.std.specs.List.{flat_map}
use borrow.Author.Tests.{ltb-true, ltb-false}
use Rattle.erl_scan.specs.declared.error.Fault.TheVariants.{IntegerRange, TooDeep, Syntax}
use Rattle.erl_term.specs.Tree.{Tree, Trees, tuple, list, none, more}
use Rattle.erl_term.specs.RoundTrip.{deepest}
use Rattle.erl_term.specs.Rows.{append_trees, integers}
use Rattle.erl_consult.specs.Grammar.{Part, number, minus, plus, name, string, open_tuple, close_tuple, open_list, close_list, comma, bar, dot, unread, foreign, Form, Forms, unsigned, negative, positive, atom_form, strings, empty_tuple, some_tuple, empty_list, some_list, tailed_list, start, then, elements_of, form_tree, form_trees, fits, all_fit, is_list, has_list_tails, have_list_tails}
use Rattle.erl_consult.specs.Faults.{opens, closes, begins_list}
use Rattle.erl_consult.specs.Steps.{Frame, nothing, sign, term, text, Seen, Outcome, goes, fails, take_part, with_element, elements_at, tail_elements, closed_with, begins, if_room}
use Rattle.erl_consult.proofs.Spelling.{step, signed}
use Rattle.erl_consult.proofs.Judging.{Bracketed, at_tuple, at_list, at_tail, Lasting, none_last, sign_last, form_last, strings_last, show_all, show, bare, end_at, end_minus, end_string, end_bar, end_offset, TellsPart, faulty_by, tail_by, nesting_by, FineForm, FineForms, FineOne, FineAll, FineLast, is_tail, is_tuple, Fine, Moves, same, one_more, one_less, offset_of, offsets, Judged, is_unread_part, is_out, is_misplaced, is_wrong, is_deep, is_next, length-show}
use Rattle.erl_consult.proofs.Truth.{never, and-true}
use Rattle.erl_consult.proofs.Stepping.{integers-append}

-- Truth

-- Forms within the limits

pub fine-then : (d : ℕ) (fs : Forms) (f : Form) → FineForms d fs → FineForm d f → FineForms d (then fs f)
fine-then d fs f (fit, (tails, nested)) (fit1, (tails1, nested1)) =
    (and-true (all_fit fs) (fits f) fit fit1, (and-true (have_list_tails fs) (has_list_tails f) tails tails1, omega (arith, nested, nested1)))

pub fine-tuple : (d : ℕ) (fs : Forms) (f : Form) → FineForms (suc d) fs → FineForm (suc d) f → FineForm d (some_tuple fs f)
fine-tuple d fs f (fit, (tails, nested)) (fit1, (tails1, nested1)) =
    (and-true (all_fit fs) (fits f) fit fit1, (and-true (have_list_tails fs) (has_list_tails f) tails tails1, omega (arith, nested, nested1)))

pub fine-list : (d : ℕ) (fs : Forms) (f : Form) → FineForms (suc d) fs → FineForm (suc d) f → FineForm d (some_list fs f)
fine-list d fs f (fit, (tails, nested)) (fit1, (tails1, nested1)) =
    (and-true (all_fit fs) (fits f) fit fit1, (and-true (have_list_tails fs) (has_list_tails f) tails tails1, omega (arith, nested, nested1)))

pub fine-tailed : (d : ℕ) (fs : Forms) (f g : Form) → FineForms (suc d) fs → FineForm (suc d) f → FineForm (suc d) g → is_list g ≡ true → FineForm d (tailed_list fs f g)
fine-tailed d fs f g (fit, (tails, nested)) (fit1, (tails1, nested1)) (fit2, (tails2, nested2)) is =
    (and-true (all_fit fs) (fits f && fits g) fit (and-true (fits f) (fits g) fit1 fit2), (and-true (have_list_tails fs) (has_list_tails f && (is_list g && has_list_tails g)) tails (and-true (has_list_tails f) (is_list g && has_list_tails g) tails1 (and-true (is_list g) (has_list_tails g) is tails2)), omega (arith, nested, nested1, nested2)))

pub fine-strings : (d : ℕ) (cs : List ℕ) (others : List (List ℕ)) → suc d ≤ deepest → FineForm d (strings cs others)
fine-strings d cs others le = (refl, (refl, omega (arith, le)))

-- the same, at another number for the depth
at_depth : (c d : ℕ) (f : Form) → c ≡ d → FineForm c f → FineForm d f
at_depth c d f e fine = subst (λ n. FineForm n f) e fine

suc-length : (o : Bracketed) (os : List Bracketed) → length (o ∷ os) ≡ suc (length os)
suc-length o os = omega arith

-- Elements

elements-open : (ts : Trees) (t : Tree) → elements_at (with_element ts t) nothing ≡ None
elements-open none t = refl
elements-open (more u us) t = refl

elements-sign : (ts : Trees) (m : Bool) (at : ℕ) → elements_at ts (sign m at) ≡ None
elements-sign none m at = refl
elements-sign (more u us) m at = refl

pub elements-term : (ts : Trees) (t : Tree) → elements_at ts (term t) ≡ Some (with_element ts t)
elements-term none t = refl
elements-term (more u us) t = refl

pub elements-text : (ts us : Trees) → elements_at ts (text us) ≡ Some (with_element ts (list us))
elements-text none us = refl
elements-text (more t ts) us = refl

pub append_trees-assoc : (ts us vs : Trees) → append_trees (append_trees ts us) vs ≡ append_trees ts (append_trees us vs)
append_trees-assoc none us vs = refl
append_trees-assoc (more t ts) us vs = ap (more t) (append_trees-assoc ts us vs)

joined : (others : List (List ℕ)) (ds : List ℕ) → flat_map (λ es. es) (others ++ ds ∷ []) ≡ flat_map (λ es. es) others ++ ds
joined [] ds = append-nil ds
joined (c ∷ cs) ds = ap (λ x. c ++ x) (joined cs ds) ∙ sym (append_assoc c (flat_map (λ es. es) cs) ds)

pub joined-integers : (cs : List ℕ) (others : List (List ℕ)) (ds : List ℕ) → append_trees (integers (cs ++ flat_map (λ es. es) others)) (integers ds) ≡ integers (cs ++ flat_map (λ es. es) (others ++ ds ∷ []))
joined-integers cs others ds =
    sym (integers-append (cs ++ flat_map (λ es. es) others) ds) ∙ ap integers (append_assoc cs (flat_map (λ es. es) others) ds ∙ ap (λ x. cs ++ x) (sym (joined others ds)))

pub tail-list : (f : Form) → is_list f ≡ true → tail_elements (Some (form_tree f)) ≡ Some (elements_of (form_tree f))
tail-list (unsigned n) e = never e
tail-list (negative n) e = never e
tail-list (positive n) e = never e
tail-list (atom_form cs) e = never e
tail-list (strings cs others) e = refl
tail-list empty_tuple e = never e
tail-list (some_tuple fs f) e = never e
tail-list empty_list e = refl
tail-list (some_list fs f) e = refl
tail-list (tailed_list fs f tail) e = refl

-- Forms of one token that are no list, where nothing was read

begin : (w : Forms) (os : List Bracketed) (p : Part) (at : ℕ) (q : Lasting) → Fine w os none_last → faulty_by false p ≡ false → begins_list p ≡ false → ((b : Bool) → nesting_by b p ≡ false) → opens p ≡ false → closes p ≡ false → step (bare w os none_last) p ≡ Some (bare w os q) → take_part (show w os none_last) p at ≡ begins (show_all os) (goes (show w os q)) → TellsPart (end_at q os) p at → (is_tail os ≡ false → FineLast os q) → Judged w os none_last p at
begin w [] p at q fine sound no_list plain o c stepped took tells last =
    is_next sound refl (λ e. never (sym (plain false) ∙ e)) w [] q (record { stepped = stepped; took = took; tells = tells; moves = same o c refl; fine = record { whole = fine.whole; brackets = fine.brackets; last = last refl } })
begin w (at_tuple offset fs ∷ os) p at q fine sound no_list plain o c stepped took tells last =
    is_next sound refl (λ e. never (sym (plain false) ∙ e)) w (at_tuple offset fs ∷ os) q (record { stepped = stepped; took = took; tells = tells; moves = same o c refl; fine = record { whole = fine.whole; brackets = fine.brackets; last = last refl } })
begin w (at_list offset fs ∷ os) p at q fine sound no_list plain o c stepped took tells last =
    is_next sound refl (λ e. never (sym (plain false) ∙ e)) w (at_list offset fs ∷ os) q (record { stepped = stepped; took = took; tells = tells; moves = same o c refl; fine = record { whole = fine.whole; brackets = fine.brackets; last = last refl } })
begin w (at_tail offset bar_at fs f ∷ os) p at q fine sound no_list plain o c stepped took tells last =
    is_wrong sound (bare w (at_tail offset bar_at fs f ∷ os) q) stepped bar_at refl no_list took

-- brackets and strings, where fewer than the most are open
enter : (w : Forms) (os : List Bracketed) (r : Lasting) (p : Part) (at : ℕ) → faulty_by (end_minus (end_at r os)) p ≡ false → tail_by (end_bar (end_at r os)) p ≡ false → nesting_by (end_string (end_at r os)) p ≡ true → (qs : List Bracketed) (q : Lasting) → step (bare w os r) p ≡ Some (bare w qs q) → take_part (show w os r) p at ≡ if_room (show_all os) at (goes (show w qs q)) → TellsPart (end_at q qs) p at → Moves p at os qs → (length os < deepest → Fine w qs q) → (b : Bool) → nat_lt (length (show_all os)) deepest ≡ b → Judged w os r p at
enter w os r p at sound no_tail nests qs q stepped took tells moves fine true room =
    let less : length os < deepest = omega (arith, length-show os, ltb-true (length (show_all os)) deepest room) in
    is_next sound no_tail (λ e. less) w qs q (record { stepped = stepped; took = took ∙ ap (λ b. cond b (goes (show w qs q)) (fails TooDeep at)) room; tells = tells; moves = moves; fine = fine less })
enter w os r p at sound no_tail nests qs q stepped took tells moves fine false room =
    is_deep sound (bare w qs q) stepped no_tail nests (omega (arith, length-show os, ltb-false (length (show_all os)) deepest room)) (took ∙ ap (λ b. cond b (goes (show w qs q)) (fails TooDeep at)) room)

-- How deep

depth_one : (d : ℕ) (o : Bracketed) → FineOne d o → d ≤ deepest
depth_one d (at_tuple at fs) f = omega (arith, f.1.1)
depth_one d (at_list at fs) f = omega (arith, f.1.1)
depth_one d (at_tail at bar_at fs g) f = omega (arith, f.0.1.1)

pub depth : (os : List Bracketed) → FineAll os → length os ≤ deepest
depth [] f = omega arith
depth (o ∷ os) f = omega (arith, depth_one (suc (length os)) o f.0)

none-minus : (os : List Bracketed) → end_minus (end_at none_last os) ≡ false
none-minus [] = refl
none-minus (at_tuple at fs ∷ os) = refl
none-minus (at_list at fs ∷ os) = refl
none-minus (at_tail at bar_at fs f ∷ os) = refl

none-string : (os : List Bracketed) → end_string (end_at none_last os) ≡ false
none-string [] = refl
none-string (at_tuple at fs ∷ os) = refl
none-string (at_list at fs ∷ os) = refl
none-string (at_tail at bar_at fs f ∷ os) = refl

none-offset : (os : List Bracketed) (at : ℕ) → end_offset (end_at none_last os) at ≡ at
none-offset [] at = refl
none-offset (at_tuple offset fs ∷ os) at = refl
none-offset (at_list offset fs ∷ os) at = refl
none-offset (at_tail offset bar_at fs f ∷ os) at = refl

none-bar : (os : List Bracketed) → end_bar (end_at none_last os) ≡ is_tail os
none-bar [] = refl
none-bar (at_tuple offset fs ∷ os) = refl
none-bar (at_list offset fs ∷ os) = refl
none-bar (at_tail offset bar_at fs f ∷ os) = refl

-- Integers

-- an integer that is not out of range, and what is read of it
fine-unsigned : (os : List Bracketed) (n : ℕ) → FineAll os → nat_lt n (2 ^ 63) ≡ true → FineForm (length os) (unsigned n)
fine-unsigned os n fine e = (e, (refl, omega (arith, depth os fine)))

number_none : (w : Forms) (os : List Bracketed) (n at : ℕ) → Fine w os none_last → (b : Bool) → nat_lt n (2 ^ 63) ≡ b → Judged w os none_last (number n) at
number_none w os n at fine true e =
    begin w os (number n) at (form_last (unsigned n)) fine (ap not e) refl (λ b. refl) refl refl refl (ap (λ b. cond b (begins (show_all os) (goes (show w os (form_last (unsigned n))))) (fails IntegerRange at)) e) (refl, (refl, (refl, refl))) (λ no. (fine-unsigned os n fine.brackets e, λ t. never (sym no ∙ t)))
number_none w os n at fine false e =
    is_out (ap (λ m. cond m (not (nat_le n (2 ^ 63))) (not (nat_lt n (2 ^ 63)))) (none-minus os) ∙ ap not e) (ap (λ b. cond b (begins (show_all os) (goes (show w os (form_last (unsigned n))))) (fails IntegerRange at)) e ∙ ap (fails IntegerRange) (sym (none-offset os at)))

-- behind a sign: goes on, where it is in range
signed-goes : (w : Forms) (os : List Bracketed) (m : Bool) (offset n at : ℕ) → Fine w os (sign_last m offset) → faulty_by m (number n) ≡ false → fits (signed m n) ≡ true → take_part (show w os (sign_last m offset)) (number n) at ≡ goes (show w os (form_last (signed m n))) → Judged w os (sign_last m offset) (number n) at
signed-goes w os true offset n at fine sound fit took =
    is_next sound refl (λ e. never e) w os (form_last (negative n)) (record { stepped = refl; took = took; tells = (refl, (refl, (refl, refl))); moves = same refl refl refl; fine = record { whole = fine.whole; brackets = fine.brackets; last = ((fit, (refl, omega (arith, depth os fine.brackets))), λ t. never (sym fine.last ∙ t)) } })
signed-goes w os false offset n at fine sound fit took =
    is_next sound refl (λ e. never e) w os (form_last (positive n)) (record { stepped = refl; took = took; tells = (refl, (refl, (refl, refl))); moves = same refl refl refl; fine = record { whole = fine.whole; brackets = fine.brackets; last = ((fit, (refl, omega (arith, depth os fine.brackets))), λ t. never (sym fine.last ∙ t)) } })

number_minus : (w : Forms) (os : List Bracketed) (offset n at : ℕ) → Fine w os (sign_last true offset) → (b : Bool) → nat_le n (2 ^ 63) ≡ b → Judged w os (sign_last true offset) (number n) at
number_minus w os offset n at fine true e =
    signed-goes w os true offset n at fine (ap not e) e (ap (λ b. cond b (goes (show w os (form_last (negative n)))) (fails IntegerRange offset)) e)
number_minus w os offset n at fine false e =
    is_out (ap not e) (ap (λ b. cond b (goes (show w os (form_last (negative n)))) (fails IntegerRange offset)) e)

number_plus : (w : Forms) (os : List Bracketed) (offset n at : ℕ) → Fine w os (sign_last false offset) → (b : Bool) → nat_lt n (2 ^ 63) ≡ b → Judged w os (sign_last false offset) (number n) at
number_plus w os offset n at fine true e =
    signed-goes w os false offset n at fine (ap not e) e (ap (λ b. cond b (goes (show w os (form_last (positive n)))) (fails IntegerRange offset)) e)
number_plus w os offset n at fine false e =
    is_out (ap not e) (ap (λ b. cond b (goes (show w os (form_last (positive n)))) (fails IntegerRange offset)) e)

-- behind a term
number_form : (w : Forms) (os : List Bracketed) (f : Form) (n at : ℕ) → (b : Bool) → nat_lt n (2 ^ 63) ≡ b → Judged w os (form_last f) (number n) at
number_form w os f n at true e = is_misplaced (ap not e) refl (ap (λ b. cond b (fails Syntax at) (fails IntegerRange at)) e)
number_form w os f n at false e = is_out (ap not e) (ap (λ b. cond b (fails Syntax at) (fails IntegerRange at)) e)

number_strings : (w : Forms) (os : List Bracketed) (cs : List ℕ) (others : List (List ℕ)) (n at : ℕ) → (b : Bool) → nat_lt n (2 ^ 63) ≡ b → Judged w os (strings_last cs others) (number n) at
number_strings w os cs others n at true e =
    is_misplaced (ap not e) refl (ap (λ b. cond b (fails Syntax at) (fails IntegerRange at)) e)
number_strings w os cs others n at false e = is_out (ap not e) (ap (λ b. cond b (fails Syntax at) (fails IntegerRange at)) e)

judge_number : (w : Forms) (os : List Bracketed) (r : Lasting) (n at : ℕ) → Fine w os r → Judged w os r (number n) at
judge_number w os none_last n at fine = number_none w os n at fine (nat_lt n (2 ^ 63)) refl
judge_number w os (sign_last true offset) n at fine = number_minus w os offset n at fine (nat_le n (2 ^ 63)) refl
judge_number w os (sign_last false offset) n at fine = number_plus w os offset n at fine (nat_lt n (2 ^ 63)) refl
judge_number w os (form_last f) n at fine = number_form w os f n at (nat_lt n (2 ^ 63)) refl
judge_number w os (strings_last cs others) n at fine = number_strings w os cs others n at (nat_lt n (2 ^ 63)) refl

-- Signs, names and strings

judge_minus : (w : Forms) (os : List Bracketed) (r : Lasting) (at : ℕ) → Fine w os r → Judged w os r minus at
judge_minus w os none_last at fine =
    begin w os minus at (sign_last true at) fine refl refl (λ b. refl) refl refl refl refl (refl, refl) (λ no. no)
judge_minus w os (sign_last m offset) at fine = is_misplaced refl refl refl
judge_minus w os (form_last f) at fine = is_misplaced refl refl refl
judge_minus w os (strings_last cs others) at fine = is_misplaced refl refl refl

judge_plus : (w : Forms) (os : List Bracketed) (r : Lasting) (at : ℕ) → Fine w os r → Judged w os r plus at
judge_plus w os none_last at fine =
    begin w os plus at (sign_last false at) fine refl refl (λ b. refl) refl refl refl refl (refl, refl) (λ no. no)
judge_plus w os (sign_last m offset) at fine = is_misplaced refl refl refl
judge_plus w os (form_last f) at fine = is_misplaced refl refl refl
judge_plus w os (strings_last cs others) at fine = is_misplaced refl refl refl

judge_name : (w : Forms) (os : List Bracketed) (r : Lasting) (cs : List ℕ) (at : ℕ) → Fine w os r → Judged w os r (name cs) at
judge_name w os none_last cs at fine =
    begin w os (name cs) at (form_last (atom_form cs)) fine refl refl (λ b. refl) refl refl refl refl (refl, (refl, (refl, refl))) (λ no. ((refl, (refl, omega (arith, depth os fine.brackets))), λ t. never (sym no ∙ t)))
judge_name w os (sign_last m offset) cs at fine = is_misplaced refl refl refl
judge_name w os (form_last f) cs at fine = is_misplaced refl refl refl
judge_name w os (strings_last ds others) cs at fine = is_misplaced refl refl refl

judge_string : (w : Forms) (os : List Bracketed) (r : Lasting) (cs : List ℕ) (at : ℕ) → Fine w os r → Judged w os r (string cs) at
judge_string w os none_last cs at fine =
    enter w os none_last (string cs) at refl (tail-none (end_bar (end_at none_last os))) (ap not (none-string os)) os (strings_last cs []) refl (ap (λ ds. if_room (show_all os) at (goes (record { whole = form_trees w; open_ones = show_all os; last = text (integers ds) }))) (sym (append-nil cs))) (cs, refl) (same refl refl refl) (λ less. record { whole = fine.whole; brackets = fine.brackets; last = omega (arith, less) }) (nat_lt (length (show_all os)) deepest) refl
  where
    tail-none : (b : Bool) → tail_by b (string cs) ≡ false
    tail-none true = refl
    tail-none false = refl
judge_string w os (sign_last m offset) cs at fine = is_misplaced refl refl refl
judge_string w os (form_last f) cs at fine = is_misplaced refl refl refl
judge_string w os (strings_last ds others) cs at fine =
    is_next refl refl (λ e. never e) w os (strings_last ds (others ++ cs ∷ [])) (record { stepped = refl; took = ap (λ ts. goes (record { whole = form_trees w; open_ones = show_all os; last = text ts })) (joined-integers ds others cs); tells = (cs, refl); moves = same refl refl refl; fine = record { whole = fine.whole; brackets = fine.brackets; last = fine.last } })

-- Opening brackets

fine-opened : (w : Forms) (os : List Bracketed) (o : Bracketed) → Fine w os none_last → is_tail os && is_tuple o ≡ false → FineOne (suc (length os)) o → Fine w (o ∷ os) none_last
fine-opened w os o fine fits one = record { whole = fine.whole; brackets = (one, (fits, fine.brackets)); last = tt }

-- a tuple's, outside a tail
open_tuple_in : (w : Forms) (os : List Bracketed) (at : ℕ) → Fine w os none_last → is_tail os ≡ false → take_part (show w os none_last) open_tuple at ≡ if_room (show_all os) at (goes (show w (at_tuple at start ∷ os) none_last)) → Judged w os none_last open_tuple at
open_tuple_in w os at fine free took =
    enter w os none_last open_tuple at refl (ap (λ b. tail_by b open_tuple) (none-bar os ∙ free)) refl (at_tuple at start ∷ os) none_last refl took (refl, (refl, (refl, refl))) (one_more refl refl) (λ less. fine-opened w os (at_tuple at start) fine (ap (λ b. b && true) free) (refl, (refl, omega (arith, less)))) (nat_lt (length (show_all os)) deepest) refl

judge_open_tuple : (w : Forms) (os : List Bracketed) (r : Lasting) (at : ℕ) → Fine w os r → Judged w os r open_tuple at
judge_open_tuple w [] none_last at fine = open_tuple_in w [] at fine refl refl
judge_open_tuple w (at_tuple offset fs ∷ os) none_last at fine = open_tuple_in w (at_tuple offset fs ∷ os) at fine refl refl
judge_open_tuple w (at_list offset fs ∷ os) none_last at fine = open_tuple_in w (at_list offset fs ∷ os) at fine refl refl
judge_open_tuple w (at_tail offset bar_at fs f ∷ os) none_last at fine =
    is_wrong refl (bare w (at_tuple at start ∷ (at_tail offset bar_at fs f ∷ os)) none_last) refl bar_at refl refl refl
judge_open_tuple w os (sign_last m offset) at fine = is_misplaced refl refl refl
judge_open_tuple w os (form_last f) at fine = is_misplaced refl refl refl
judge_open_tuple w os (strings_last cs others) at fine = is_misplaced refl refl refl

judge_open_list : (w : Forms) (os : List Bracketed) (r : Lasting) (at : ℕ) → Fine w os r → Judged w os r open_list at
judge_open_list w os none_last at fine =
    enter w os none_last open_list at refl (tail-none (end_bar (end_at none_last os))) refl (at_list at start ∷ os) none_last refl refl (refl, (refl, (refl, refl))) (one_more refl refl) (λ less. fine-opened w os (at_list at start) fine (and-false (is_tail os)) (refl, (refl, omega (arith, less)))) (nat_lt (length (show_all os)) deepest) refl
  where
    tail-none : (b : Bool) → tail_by b open_list ≡ false
    tail-none true = refl
    tail-none false = refl

    and-false : (b : Bool) → b && false ≡ false
    and-false true = refl
    and-false false = refl
judge_open_list w os (sign_last m offset) at fine = is_misplaced refl refl refl
judge_open_list w os (form_last f) at fine = is_misplaced refl refl refl
judge_open_list w os (strings_last cs others) at fine = is_misplaced refl refl refl

-- Closing brackets

-- a form in the bracket's offset
closed-next : (w : Forms) (o : Bracketed) (os : List Bracketed) (r : Lasting) (p : Part) (at offset : ℕ) (g : Form) → Fine w (o ∷ os) r → faulty_by (end_minus (end_at r (o ∷ os))) p ≡ false → tail_by (end_bar (end_at r (o ∷ os))) p ≡ false → ((b : Bool) → nesting_by b p ≡ false) → opens p ≡ false → closes p ≡ true → TellsPart (end_at (form_last g) os) p at → step (bare w (o ∷ os) r) p ≡ Some (bare w os (form_last g)) → take_part (show w (o ∷ os) r) p at ≡ goes (show w os (form_last g)) → FineForm (length os) g → (is_tail os ≡ true → is_list g ≡ true) → Judged w (o ∷ os) r p at
closed-next w o os r p at offset g fine sound no_tail plain opens_not closes_it tells stepped took fine_g is =
    is_next sound no_tail (λ e. never (sym (plain (end_string (end_at r (o ∷ os)))) ∙ e)) w os (form_last g) (record { stepped = stepped; took = took; tells = tells; moves = one_less opens_not closes_it (offset_of o) refl; fine = record { whole = fine.whole; brackets = fine.brackets.1.1; last = (fine_g, is) } })

-- a bracket in a tail's offset is no tuple's
pub no_tuple : (os : List Bracketed) → is_tail os && true ≡ false → is_tail os ≡ true → {A : Type 0} → A
no_tuple os kept is = never (sym kept ∙ ap (λ b. b && true) is)

-- the last element of a row that ends
pub last-form : (o : Bracketed) (os : List Bracketed) (f : Form) → FineForm (length (o ∷ os)) f → FineForm (suc (length os)) f
last-form o os f fine = at_depth (length (o ∷ os)) (suc (length os)) f (suc-length o os) fine

last-strings : (o : Bracketed) (os : List Bracketed) (cs : List ℕ) (others : List (List ℕ)) → suc (length (o ∷ os)) ≤ deepest → FineForm (suc (length os)) (strings cs others)
last-strings o os cs others le = fine-strings (suc (length os)) cs others (omega (arith, le))

close_tuple_here : (w : Forms) (offset : ℕ) (fs : Forms) (os : List Bracketed) (r : Lasting) (at : ℕ) → Fine w (at_tuple offset fs ∷ os) r → Judged w (at_tuple offset fs ∷ os) r close_tuple at
close_tuple_here w offset start os none_last at fine =
    closed-next w (at_tuple offset start) os none_last close_tuple at offset empty_tuple fine refl refl (λ b. refl) refl refl (refl, (refl, (refl, refl))) refl refl (refl, (refl, omega (arith, depth_one (suc (length os)) (at_tuple offset start) fine.brackets.0))) (λ t. no_tuple os fine.brackets.1.0 t)
close_tuple_here w offset (then fs f) os none_last at fine =
    is_misplaced refl refl (ap (λ o. closed_with (show w (at_tuple offset (then fs f) ∷ os) none_last) (show_all os) tuple o at) (elements-open (form_trees fs) (form_tree f)))
close_tuple_here w offset fs os (sign_last m at1) at fine =
    is_misplaced refl (closed-sign fs) (ap (λ o. closed_with (show w (at_tuple offset fs ∷ os) (sign_last m at1)) (show_all os) tuple o at) (elements-sign (form_trees fs) m at1))
  where
    closed-sign : (gs : Forms) → step (bare w (at_tuple offset gs ∷ os) (sign_last m at1)) close_tuple ≡ None
    closed-sign start = refl
    closed-sign (then gs g) = refl
close_tuple_here w offset fs os (form_last f) at fine =
    closed-next w (at_tuple offset fs) os (form_last f) close_tuple at offset (some_tuple fs f) fine refl refl (λ b. refl) refl refl (refl, (refl, (refl, refl))) (closed-form fs) (ap (λ o. closed_with (show w (at_tuple offset fs ∷ os) (form_last f)) (show_all os) tuple o at) (elements-term (form_trees fs) (form_tree f))) (fine-tuple (length os) fs f fine.brackets.0 (last-form (at_tuple offset fs) os f fine.last.0)) (λ t. no_tuple os fine.brackets.1.0 t)
  where
    closed-form : (gs : Forms) → step (bare w (at_tuple offset gs ∷ os) (form_last f)) close_tuple ≡ Some (bare w os (form_last (some_tuple gs f)))
    closed-form start = refl
    closed-form (then gs g) = refl
close_tuple_here w offset fs os (strings_last cs others) at fine =
    closed-next w (at_tuple offset fs) os (strings_last cs others) close_tuple at offset (some_tuple fs (strings cs others)) fine refl refl (λ b. refl) refl refl (refl, (refl, (refl, refl))) (closed-form fs) (ap (λ o. closed_with (show w (at_tuple offset fs ∷ os) (strings_last cs others)) (show_all os) tuple o at) (elements-text (form_trees fs) (integers (cs ++ flat_map (λ ds. ds) others)))) (fine-tuple (length os) fs (strings cs others) fine.brackets.0 (last-strings (at_tuple offset fs) os cs others fine.last)) (λ t. no_tuple os fine.brackets.1.0 t)
  where
    closed-form : (gs : Forms) → step (bare w (at_tuple offset gs ∷ os) (strings_last cs others)) close_tuple ≡ Some (bare w os (form_last (some_tuple gs (strings cs others))))
    closed-form start = refl
    closed-form (then gs g) = refl

judge_close_tuple : (w : Forms) (os : List Bracketed) (r : Lasting) (at : ℕ) → Fine w os r → Judged w os r close_tuple at
judge_close_tuple w [] r at fine = is_misplaced refl refl refl
judge_close_tuple w (at_tuple offset fs ∷ os) r at fine = close_tuple_here w offset fs os r at fine
judge_close_tuple w (at_list offset fs ∷ os) r at fine = is_misplaced refl refl refl
judge_close_tuple w (at_tail offset bar_at fs f ∷ os) r at fine = is_misplaced refl refl refl

close_list_here : (w : Forms) (offset : ℕ) (fs : Forms) (os : List Bracketed) (r : Lasting) (at : ℕ) → Fine w (at_list offset fs ∷ os) r → Judged w (at_list offset fs ∷ os) r close_list at
close_list_here w offset start os none_last at fine =
    closed-next w (at_list offset start) os none_last close_list at offset empty_list fine refl refl (λ b. refl) refl refl (refl, (refl, (refl, refl))) refl refl (refl, (refl, omega (arith, depth_one (suc (length os)) (at_list offset start) fine.brackets.0))) (λ t. refl)
close_list_here w offset (then fs f) os none_last at fine =
    is_misplaced refl refl (ap (λ o. closed_with (show w (at_list offset (then fs f) ∷ os) none_last) (show_all os) list o at) (elements-open (form_trees fs) (form_tree f)))
close_list_here w offset fs os (sign_last m at1) at fine =
    is_misplaced refl (closed-sign fs) (ap (λ o. closed_with (show w (at_list offset fs ∷ os) (sign_last m at1)) (show_all os) list o at) (elements-sign (form_trees fs) m at1))
  where
    closed-sign : (gs : Forms) → step (bare w (at_list offset gs ∷ os) (sign_last m at1)) close_list ≡ None
    closed-sign start = refl
    closed-sign (then gs g) = refl
close_list_here w offset fs os (form_last f) at fine =
    closed-next w (at_list offset fs) os (form_last f) close_list at offset (some_list fs f) fine refl refl (λ b. refl) refl refl (refl, (refl, (refl, refl))) (closed-form fs) (ap (λ o. closed_with (show w (at_list offset fs ∷ os) (form_last f)) (show_all os) list o at) (elements-term (form_trees fs) (form_tree f))) (fine-list (length os) fs f fine.brackets.0 (last-form (at_list offset fs) os f fine.last.0)) (λ t. refl)
  where
    closed-form : (gs : Forms) → step (bare w (at_list offset gs ∷ os) (form_last f)) close_list ≡ Some (bare w os (form_last (some_list gs f)))
    closed-form start = refl
    closed-form (then gs g) = refl
close_list_here w offset fs os (strings_last cs others) at fine =
    closed-next w (at_list offset fs) os (strings_last cs others) close_list at offset (some_list fs (strings cs others)) fine refl refl (λ b. refl) refl refl (refl, (refl, (refl, refl))) (closed-form fs) (ap (λ o. closed_with (show w (at_list offset fs ∷ os) (strings_last cs others)) (show_all os) list o at) (elements-text (form_trees fs) (integers (cs ++ flat_map (λ ds. ds) others)))) (fine-list (length os) fs (strings cs others) fine.brackets.0 (last-strings (at_list offset fs) os cs others fine.last)) (λ t. refl)
  where
    closed-form : (gs : Forms) → step (bare w (at_list offset gs ∷ os) (strings_last cs others)) close_list ≡ Some (bare w os (form_last (some_list gs (strings cs others))))
    closed-form start = refl
    closed-form (then gs g) = refl

-- the list with a tail's elements behind its own
with_tail : Seen → List Frame → Trees → ℕ → Option Trees → Outcome
with_tail s fs items at o = closed_with s fs (λ ts. list (append_trees items ts)) o at

tail_took : (w : Forms) (os : List Bracketed) (r : Lasting) (offset bar_at : ℕ) (fs : Forms) (f g : Form) (at : ℕ) → take_part (show w (at_tail offset bar_at fs f ∷ os) r) close_list at ≡ closed_with (show w (at_tail offset bar_at fs f ∷ os) r) (show_all os) (λ ts. list (append_trees (form_trees (then fs f)) ts)) (tail_elements (Some (form_tree g))) at → is_list g ≡ true → take_part (show w (at_tail offset bar_at fs f ∷ os) r) close_list at ≡ goes (show w os (form_last (tailed_list fs f g)))
tail_took w os r offset bar_at fs f g at took is =
    took ∙ (ap (λ o. closed_with (show w (at_tail offset bar_at fs f ∷ os) r) (show_all os) (λ ts. list (append_trees (form_trees (then fs f)) ts)) o at) (tail-list g is) ∙ ap (λ ts. goes (record { whole = form_trees w; open_ones = show_all os; last = term (list ts) })) (append_trees-assoc (form_trees fs) (more (form_tree f) none) (elements_of (form_tree g))))

close_tail_here : (w : Forms) (offset bar_at : ℕ) (fs : Forms) (f : Form) (os : List Bracketed) (r : Lasting) (at : ℕ) → Fine w (at_tail offset bar_at fs f ∷ os) r → Judged w (at_tail offset bar_at fs f ∷ os) r close_list at
close_tail_here w offset bar_at fs f os none_last at fine = is_misplaced refl refl refl
close_tail_here w offset bar_at fs f os (sign_last m at1) at fine = is_misplaced refl refl refl
close_tail_here w offset bar_at fs f os (form_last g) at fine =
    closed-next w (at_tail offset bar_at fs f) os (form_last g) close_list at offset (tailed_list fs f g) fine refl refl (λ b. refl) refl refl (refl, (refl, (refl, refl))) refl (tail_took w os (form_last g) offset bar_at fs f g at refl (fine.last.1 refl)) (fine-tailed (length os) fs f g fine.brackets.0.0 fine.brackets.0.1 (last-form (at_tail offset bar_at fs f) os g fine.last.0) (fine.last.1 refl)) (λ t. refl)
close_tail_here w offset bar_at fs f os (strings_last cs others) at fine =
    closed-next w (at_tail offset bar_at fs f) os (strings_last cs others) close_list at offset (tailed_list fs f (strings cs others)) fine refl refl (λ b. refl) refl refl (refl, (refl, (refl, refl))) refl (tail_took w os (strings_last cs others) offset bar_at fs f (strings cs others) at refl refl) (fine-tailed (length os) fs f (strings cs others) fine.brackets.0.0 fine.brackets.0.1 (last-strings (at_tail offset bar_at fs f) os cs others fine.last) refl) (λ t. refl)

judge_close_list : (w : Forms) (os : List Bracketed) (r : Lasting) (at : ℕ) → Fine w os r → Judged w os r close_list at
judge_close_list w [] r at fine = is_misplaced refl refl refl
judge_close_list w (at_tuple offset fs ∷ os) r at fine = is_misplaced refl refl refl
judge_close_list w (at_list offset fs ∷ os) r at fine = close_list_here w offset fs os r at fine
judge_close_list w (at_tail offset bar_at fs f ∷ os) r at fine = close_tail_here w offset bar_at fs f os r at fine

-- Commas, bars and dots

-- the same brackets, with one more element in the innermost
element-next : (w : Forms) (o q : Bracketed) (os : List Bracketed) (r : Lasting) (p : Part) (at : ℕ) → Fine w (o ∷ os) r → faulty_by (end_minus (end_at r (o ∷ os))) p ≡ false → tail_by (end_bar (end_at r (o ∷ os))) p ≡ false → ((b : Bool) → nesting_by b p ≡ false) → opens p ≡ false → closes p ≡ false → offset_of q ≡ offset_of o → TellsPart (end_at none_last (q ∷ os)) p at → step (bare w (o ∷ os) r) p ≡ Some (bare w (q ∷ os) none_last) → take_part (show w (o ∷ os) r) p at ≡ goes (show w (q ∷ os) none_last) → FineOne (suc (length os)) q → is_tail os && is_tuple q ≡ false → Judged w (o ∷ os) r p at
element-next w o q os r p at fine sound no_tail plain opens_not closes_not stays tells stepped took fine_q fits =
    is_next sound no_tail (λ e. never (sym (plain (end_string (end_at r (o ∷ os)))) ∙ e)) w (q ∷ os) none_last (record { stepped = stepped; took = took; tells = tells; moves = same opens_not closes_not (ap (λ x. x ∷ offsets os) stays); fine = record { whole = fine.whole; brackets = (fine_q, (fits, fine.brackets.1.1)); last = tt } })

judge_comma : (w : Forms) (os : List Bracketed) (r : Lasting) (at : ℕ) → Fine w os r → Judged w os r comma at
judge_comma w [] r at fine = is_misplaced refl refl refl
judge_comma w (at_tuple offset fs ∷ os) none_last at fine = is_misplaced refl refl refl
judge_comma w (at_tuple offset fs ∷ os) (sign_last m at1) at fine = is_misplaced refl refl refl
judge_comma w (at_tuple offset fs ∷ os) (form_last f) at fine =
    element-next w (at_tuple offset fs) (at_tuple offset (then fs f)) os (form_last f) comma at fine refl refl (λ b. refl) refl refl refl (refl, (refl, (refl, refl))) refl refl (fine-then (suc (length os)) fs f fine.brackets.0 (last-form (at_tuple offset fs) os f fine.last.0)) fine.brackets.1.0
judge_comma w (at_tuple offset fs ∷ os) (strings_last cs others) at fine =
    element-next w (at_tuple offset fs) (at_tuple offset (then fs (strings cs others))) os (strings_last cs others) comma at fine refl refl (λ b. refl) refl refl refl (refl, (refl, (refl, refl))) refl refl (fine-then (suc (length os)) fs (strings cs others) fine.brackets.0 (last-strings (at_tuple offset fs) os cs others fine.last)) fine.brackets.1.0
judge_comma w (at_list offset fs ∷ os) none_last at fine = is_misplaced refl refl refl
judge_comma w (at_list offset fs ∷ os) (sign_last m at1) at fine = is_misplaced refl refl refl
judge_comma w (at_list offset fs ∷ os) (form_last f) at fine =
    element-next w (at_list offset fs) (at_list offset (then fs f)) os (form_last f) comma at fine refl refl (λ b. refl) refl refl refl (refl, (refl, (refl, refl))) refl refl (fine-then (suc (length os)) fs f fine.brackets.0 (last-form (at_list offset fs) os f fine.last.0)) fine.brackets.1.0
judge_comma w (at_list offset fs ∷ os) (strings_last cs others) at fine =
    element-next w (at_list offset fs) (at_list offset (then fs (strings cs others))) os (strings_last cs others) comma at fine refl refl (λ b. refl) refl refl refl (refl, (refl, (refl, refl))) refl refl (fine-then (suc (length os)) fs (strings cs others) fine.brackets.0 (last-strings (at_list offset fs) os cs others fine.last)) fine.brackets.1.0
judge_comma w (at_tail offset bar_at fs f ∷ os) r at fine = is_misplaced refl refl refl

judge_bar : (w : Forms) (os : List Bracketed) (r : Lasting) (at : ℕ) → Fine w os r → Judged w os r bar at
judge_bar w [] r at fine = is_misplaced refl refl refl
judge_bar w (at_tuple offset fs ∷ os) r at fine = is_misplaced refl refl refl
judge_bar w (at_list offset fs ∷ os) none_last at fine = is_misplaced refl refl refl
judge_bar w (at_list offset fs ∷ os) (sign_last m at1) at fine = is_misplaced refl refl refl
judge_bar w (at_list offset fs ∷ os) (form_last f) at fine =
    element-next w (at_list offset fs) (at_tail offset at fs f) os (form_last f) bar at fine refl refl (λ b. refl) refl refl refl (refl, refl) refl refl (fine.brackets.0, last-form (at_list offset fs) os f fine.last.0) fine.brackets.1.0
judge_bar w (at_list offset fs ∷ os) (strings_last cs others) at fine =
    element-next w (at_list offset fs) (at_tail offset at fs (strings cs others)) os (strings_last cs others) bar at fine refl refl (λ b. refl) refl refl refl (refl, refl) refl refl (fine.brackets.0, last-strings (at_list offset fs) os cs others fine.last) fine.brackets.1.0
judge_bar w (at_tail offset bar_at fs f ∷ os) r at fine = is_misplaced refl refl refl

judge_dot : (w : Forms) (os : List Bracketed) (r : Lasting) (at : ℕ) → Fine w os r → Judged w os r dot at
judge_dot w [] none_last at fine = is_misplaced refl refl refl
judge_dot w [] (sign_last m at1) at fine = is_misplaced refl refl refl
judge_dot w [] (form_last f) at fine =
    is_next refl refl (λ e. never e) (then w f) [] none_last (record { stepped = refl; took = refl; tells = refl; moves = same refl refl refl; fine = record { whole = fine-then 0 w f fine.whole fine.last.0; brackets = tt; last = tt } })
judge_dot w [] (strings_last cs others) at fine =
    is_next refl refl (λ e. never e) (then w (strings cs others)) [] none_last (record { stepped = refl; took = refl; tells = refl; moves = same refl refl refl; fine = record { whole = fine-then 0 w (strings cs others) fine.whole (fine-strings 0 cs others fine.last); brackets = tt; last = tt } })
judge_dot w (o ∷ os) r at fine = is_misplaced refl refl refl

-- Every token

pub judge : (w : Forms) (os : List Bracketed) (r : Lasting) (p : Part) (at : ℕ) → Fine w os r → Judged w os r p at
judge w os r (number n) at fine = judge_number w os r n at fine
judge w os r minus at fine = judge_minus w os r at fine
judge w os r plus at fine = judge_plus w os r at fine
judge w os r (name cs) at fine = judge_name w os r cs at fine
judge w os r (string cs) at fine = judge_string w os r cs at fine
judge w os r open_tuple at fine = judge_open_tuple w os r at fine
judge w os r close_tuple at fine = judge_close_tuple w os r at fine
judge w os r open_list at fine = judge_open_list w os r at fine
judge w os r close_list at fine = judge_close_list w os r at fine
judge w os r comma at fine = judge_comma w os r at fine
judge w os r bar at fine = judge_bar w os r at fine
judge w os r dot at fine = judge_dot w os r at fine
judge w os r unread at fine = is_unread_part refl refl
judge w os r foreign at fine = is_misplaced refl refl refl
