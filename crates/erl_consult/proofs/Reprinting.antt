-- What a term prints as is read back as that term.
use Rattle.std.proofs.Common.{◌≡◌, ℕ, suc, pos, negsuc, ◌+◌, ◌/◌, ◌%◌, ◌^◌, ◌<◌, ◌≤◌, max, Bool, true, false, cond, not, ◌&&◌, ◌||◌, List, [], ◌∷◌, ◌++◌, length, Some, None, refl, ap, ap₂, sym, subst, ◌∙◌, append_assoc, append-nil, arith, true≢false, eqb}
use Rattle.std.specs.Prelude.{Option, nat_le, codes, option_map}
use Rattle.std.specs.Option.{option_and_then}
use Rattle.std.specs.List.{flat_map}
use Rattle.std.specs.Str.{chars}
use Rattle.std.specs.Str.Parse.{AllDigits}
use Rattle.std.specs.Fmt.{decimal}
use Rattle.std.proofs.lemmas.Bool.{cond-true, cond-false, leb-true, le-leb}
use Rattle.std.proofs.lemmas.Option.{none-some, same_Some}
use Rattle.std.proofs.lemmas.Str.{chars-encodes, encodes-append}
use Rattle.std.proofs.lemmas.Str.Parse.{digit_from_value}
use Rattle.std.proofs.lemmas.Fmt.{decimal_is_IsNumeral}
use borrow.Author.Tests.{ltb-true}
use lib.Utf8.{scalar, scalars, encode, encodes, low_scalar}
use Rattle.erl_chars.specs.Cursor.{byte_count, offset}
use Rattle.erl_chars.specs.Gaps.{after_gap}
use Rattle.erl_scan.specs.declared.token.Token.{Token}
use Rattle.erl_scan.specs.declared.token.Token.TheVariants.{Integer, Atom, String, Mark as MarkOf, Dot}
use Rattle.erl_scan.specs.declared.mark.Mark.TheVariants.{OpenBrace, CloseBrace, OpenBracket, CloseBracket, Comma, Minus}
use Rattle.erl_scan.specs.declared.token.Spot.{Spot}
use Rattle.erl_scan.specs.Tokens.{Comes, token, Reads}
use Rattle.erl_term.specs.Tree.{Tree, Trees, int, atom, pid, tuple, list, none, more, depth, greatest_depth}
use Rattle.erl_term.specs.Text.{utf8, text, elements_text, others_text, list_text, printable, printable_char, string_text, string_char, atom_text, quoted_char, is_plain, hex, hex_digit}
use Rattle.erl_term.specs.Rows.{append_trees, integers}
use Rattle.erl_term.specs.RoundTrip.{deepest, has_pids, have_pids, is_bounded, are_bounded}
use Rattle.erl_consult.specs.Grammar.{Part, number, minus, name, string, open_tuple, close_tuple, open_list, close_list, comma, dot, part_of, Form, Forms, unsigned, negative, atom_form, strings, empty_tuple, some_tuple, empty_list, some_list, start, then, form_parts, with_commas, form_tree, form_trees, nesting, nestings, fits, all_fit, has_list_tails, have_list_tails, IsText}
use Rattle.erl_consult.specs.Faults.{parts}
use Rattle.erl_consult.specs.Printed.{PrintedReads}
use Rattle.erl_consult.proofs.Judges.{append_trees-assoc}
use Rattle.erl_consult.proofs.Lexing.{Ends, ends-comma, ends-tuple, ends-list, ends-dot, comes-open_tuple, comes-close_tuple, comes-open_list, comes-close_list, comes-comma, comes-dot, comes-decimal, comes-minus, gap-decimal, comes-string, lexed-atom, control-small}
use Rattle.erl_consult.proofs.Reached.{parts-append}
use Rattle.erl_consult.proofs.Truth.{not_true, and-true, and_left, and_right, or_left, or_right}

-- The form that a term is printed in

abbrev pub row_front : Forms → Form → List Form → Forms
row_front acc f [] = acc
row_front acc f (g ∷ gs) = row_front (then acc f) g gs

abbrev pub row_last : Form → List Form → Form
row_last f [] = f
row_last f (g ∷ gs) = row_last g gs

abbrev tuple_form : List Form → Form
tuple_form [] = empty_tuple
tuple_form (f ∷ fs) = some_tuple (row_front start f fs) (row_last f fs)

abbrev plain_list : List Form → Form
plain_list [] = empty_list
plain_list (f ∷ fs) = some_list (row_front start f fs) (row_last f fs)

abbrev list_form : Option (List ℕ) → List Form → Form
list_form None fs = plain_list fs
list_form (Some []) fs = empty_list
list_form (Some (c ∷ cs)) fs = strings (c ∷ cs) []

abbrev mutual
  form_of : Tree → Form
  form_of (int (pos n)) = unsigned n
  form_of (int (negsuc n)) = negative (suc n)
  form_of (atom cs) = atom_form cs
  form_of (pid n) = empty_tuple
  form_of (tuple ts) = tuple_form (row_of ts)
  form_of (list ts) = list_form (printable ts) (row_of ts)

  row_of : Trees → List Form
  row_of none = []
  row_of (more t ts) = form_of t ∷ row_of ts

-- a row's tokens, its terms, and what is asked of it, from the first on

abbrev pub row_parts : Form → List Form → List Part
row_parts f [] = form_parts f
row_parts f (g ∷ gs) = form_parts f ++ comma ∷ row_parts g gs

front-parts : (acc : Forms) (f : Form) (fs : List Form) (ps : List Part) → with_commas (row_front acc f fs) ++ (form_parts (row_last f fs) ++ ps) ≡ with_commas acc ++ (row_parts f fs ++ ps)
front-parts acc f [] ps = refl
front-parts acc f (g ∷ gs) ps =
    front-parts (then acc f) g gs ps ∙ (append_assoc (with_commas acc) (form_parts f ++ comma ∷ []) (row_parts g gs ++ ps) ∙ ap (λ x. with_commas acc ++ x) (append_assoc (form_parts f) (comma ∷ []) (row_parts g gs ++ ps) ∙ sym (append_assoc (form_parts f) (comma ∷ row_parts g gs) ps)))

abbrev pub row_trees : List Form → Trees
row_trees [] = none
row_trees (f ∷ fs) = more (form_tree f) (row_trees fs)

front-trees : (acc : Forms) (f : Form) (fs : List Form) → append_trees (form_trees (row_front acc f fs)) (more (form_tree (row_last f fs)) none) ≡ append_trees (form_trees acc) (row_trees (f ∷ fs))
front-trees acc f [] = refl
front-trees acc f (g ∷ gs) =
    front-trees (then acc f) g gs ∙ append_trees-assoc (form_trees acc) (more (form_tree f) none) (row_trees (g ∷ gs))

abbrev pub row_nesting : List Form → ℕ
row_nesting [] = 0
row_nesting (f ∷ fs) = max (nesting f) (row_nesting fs)

front-nesting : (acc : Forms) (f : Form) (fs : List Form) → max (nestings (row_front acc f fs)) (nesting (row_last f fs)) ≡ max (nestings acc) (row_nesting (f ∷ fs))
front-nesting acc f [] = omega arith
front-nesting acc f (g ∷ gs) = omega (arith, front-nesting (then acc f) g gs)

-- Each form of a row is within the limits.
abbrev Fine : Form → Type 0
Fine f = (fits f ≡ true) × (has_list_tails f ≡ true)

abbrev AllFine : List Form → Type 0
AllFine [] = Unit {0}
AllFine (f ∷ fs) = Fine f × AllFine fs

front-fine : (acc : Forms) (f : Form) (fs : List Form) → (all_fit acc ≡ true) × (have_list_tails acc ≡ true) → Fine f → AllFine fs → ((all_fit (row_front acc f fs) && fits (row_last f fs)) ≡ true) × ((have_list_tails (row_front acc f fs) && has_list_tails (row_last f fs)) ≡ true)
front-fine acc f [] fine one others =
    (and-true (all_fit acc) (fits f) fine.0 one.0, and-true (have_list_tails acc) (has_list_tails f) fine.1 one.1)
front-fine acc f (g ∷ gs) fine one others =
    front-fine (then acc f) g gs (and-true (all_fit acc) (fits f) fine.0 one.0, and-true (have_list_tails acc) (has_list_tails f) fine.1 one.1) others.0 others.1

tuple-fine : (fs : List Form) → AllFine fs → Fine (tuple_form fs)
tuple-fine [] fine = (refl, refl)
tuple-fine (f ∷ fs) fine = front-fine start f fs (refl, refl) fine.0 fine.1

list-fine : (p : Option (List ℕ)) (fs : List Form) → AllFine fs → Fine (list_form p fs)
list-fine None [] fine = (refl, refl)
list-fine None (f ∷ fs) fine = front-fine start f fs (refl, refl) fine.0 fine.1
list-fine (Some []) fs fine = (refl, refl)
list-fine (Some (c ∷ cs)) fs fine = (refl, refl)

mutual
  form-fine : (t : Tree) → is_bounded t ≡ true → Fine (form_of t)
  form-fine (int (pos n)) b = (b, refl)
  form-fine (int (negsuc n)) b = (le-leb (suc n) (2 ^ 63) (omega (arith, ltb-true n (2 ^ 63) b)), refl)
  form-fine (atom cs) b = (refl, refl)
  form-fine (pid n) b = (refl, refl)
  form-fine (tuple ts) b = tuple-fine (row_of ts) (row-fine ts b)
  form-fine (list ts) b = list-fine (printable ts) (row_of ts) (row-fine ts b)

  row-fine : (ts : Trees) → are_bounded ts ≡ true → AllFine (row_of ts)
  row-fine none b = tt
  row-fine (more t ts) b = (form-fine t (and_left (is_bounded t) (are_bounded ts) b), row-fine ts (and_right (is_bounded t) (are_bounded ts) b))

-- A term is nested as deep as it is written.

tuple-nesting : (fs : List Form) → nesting (tuple_form fs) ≡ 1 + row_nesting fs
tuple-nesting [] = omega arith
tuple-nesting (f ∷ fs) = omega (arith, front-nesting start f fs)

list-nesting : (p : Option (List ℕ)) (fs : List Form) → nesting (list_form p fs) ≤ 1 + row_nesting fs
list-nesting None [] = omega arith
list-nesting None (f ∷ fs) = omega (arith, front-nesting start f fs)
list-nesting (Some []) fs = omega arith
list-nesting (Some (c ∷ cs)) fs = omega arith

mutual
  form-nesting : (t : Tree) → has_pids t ≡ false → nesting (form_of t) ≤ depth t
  form-nesting (int (pos n)) p = omega arith
  form-nesting (int (negsuc n)) p = omega arith
  form-nesting (atom cs) p = omega arith
  form-nesting (pid n) p = absurd (true≢false p)
  form-nesting (tuple ts) p = omega (arith, tuple-nesting (row_of ts), row-nesting ts p)
  form-nesting (list ts) p = omega (arith, list-nesting (printable ts) (row_of ts), row-nesting ts p)

  row-nesting : (ts : Trees) → have_pids ts ≡ false → row_nesting (row_of ts) ≤ greatest_depth ts
  row-nesting none p = omega arith
  row-nesting (more t ts) p = omega (arith, form-nesting t (or_left (has_pids t) (have_pids ts) p), row-nesting ts (or_right (has_pids t) (have_pids ts) p))

-- The form means the term.

printable-char : (t : Tree) (c : ℕ) → printable_char t ≡ Some c → t ≡ int (pos c)
printable-char (int (pos n)) c e = by (nat_le 32 n && nat_le n 126) e
  where
    by : (b : Bool) → cond b (Some n) None ≡ Some c → int (pos n) ≡ int (pos c)
    by true h = ap (λ m. int (pos m)) (same_Some n c h)
    by false h = absurd (none-some c h)
printable-char (int (negsuc n)) c e = absurd (none-some c e)
printable-char (atom cs) c e = absurd (none-some c e)
printable-char (pid n) c e = absurd (none-some c e)
printable-char (tuple ts) c e = absurd (none-some c e)
printable-char (list ts) c e = absurd (none-some c e)

printable-step : (o : Option ℕ) (q : Option (List ℕ)) (cs : List ℕ) → option_and_then (λ c. option_map (λ ds. c ∷ ds) q) o ≡ Some cs → (c : ℕ) × ((ds : List ℕ) × ((o ≡ Some c) × ((q ≡ Some ds) × (cs ≡ c ∷ ds))))
printable-step None q cs e = absurd (none-some cs e)
printable-step (Some c) None cs e = absurd (none-some cs e)
printable-step (Some c) (Some ds) cs e = (c, (ds, (refl, (refl, sym (same_Some (c ∷ ds) cs e)))))

printable-integers : (ts : Trees) (cs : List ℕ) → printable ts ≡ Some cs → integers cs ≡ ts
printable-integers none cs e = ap integers (sym (same_Some [] cs e))
printable-integers (more t ts) cs e =
    let s = printable-step (printable_char t) (printable ts) cs e in
    ap integers s.1.1.1.1 ∙ ap₂ more (sym (printable-char t s.0 s.1.1.0)) (printable-integers ts s.1.0 s.1.1.1.0)

tuple-tree : (fs : List Form) → form_tree (tuple_form fs) ≡ tuple (row_trees fs)
tuple-tree [] = refl
tuple-tree (f ∷ fs) = ap tuple (front-trees start f fs)

list-tree : (ts : Trees) (fs : List Form) (p : Option (List ℕ)) → row_trees fs ≡ ts → printable ts ≡ p → form_tree (list_form p fs) ≡ list ts
list-tree ts [] None is e = ap list is
list-tree ts (f ∷ fs) None is e = ap list (front-trees start f fs ∙ is)
list-tree ts fs (Some []) is e = ap list (printable-integers ts [] e)
list-tree ts fs (Some (c ∷ cs)) is e =
    ap (λ x. list (integers x)) (append-nil (c ∷ cs)) ∙ ap list (printable-integers ts (c ∷ cs) e)

mutual
  form-tree : (t : Tree) → has_pids t ≡ false → form_tree (form_of t) ≡ t
  form-tree (int (pos n)) p = refl
  form-tree (int (negsuc n)) p = refl
  form-tree (atom cs) p = refl
  form-tree (pid n) p = absurd (true≢false p)
  form-tree (tuple ts) p = tuple-tree (row_of ts) ∙ ap tuple (row-trees ts p)
  form-tree (list ts) p = list-tree ts (row_of ts) (printable ts) (row-trees ts p) refl

  row-trees : (ts : Trees) → have_pids ts ≡ false → row_trees (row_of ts) ≡ ts
  row-trees none p = refl
  row-trees (more t ts) p = ap₂ more (form-tree t (or_left (has_pids t) (have_pids ts) p)) (row-trees ts (or_right (has_pids t) (have_pids ts) p))

-- What is printed is read token by token

-- tokens of these kinds come first in a text, and so much is left behind them
pub record Reading (total : ℕ) (cs rest : List ℕ) (ps : List Part) : Type 0 where
  pub spots : List Spot
  pub read : Reads total cs spots rest
  pub are : parts spots ≡ ps

one : (total : ℕ) (cs rest : List ℕ) (t : Token) → Comes (after_gap cs) (token t rest) → Reading total cs rest (part_of t ∷ [])
one total cs rest t comes = record {
  spots = record { what = t; at = offset total (after_gap cs) } ∷ [];
  read = (rest, comes, refl, refl);
  are = refl;
}

reads-then : (total : ℕ) (cs mid rest : List ℕ) (xs ys : List Spot) → Reads total cs xs mid → Reads total mid ys rest → Reads total cs (xs ++ ys) rest
reads-then total cs mid rest [] ys first second = subst (λ c. Reads total c ys rest) (sym first) second
reads-then total cs mid rest (x ∷ xs) ys (left, comes, at, later) second =
    (left, comes, at, reads-then total left mid rest xs ys later second)

and_then : (total : ℕ) (cs mid rest : List ℕ) (ps qs : List Part) → Reading total cs mid ps → Reading total mid rest qs → Reading total cs rest (ps ++ qs)
and_then total cs mid rest ps qs first second = record {
  spots = first.spots ++ second.spots;
  read = reads-then total cs mid rest first.spots second.spots first.read second.read;
  are = parts-append first.spots second.spots ∙ ap₂ (λ x y. x ++ y) first.are second.are;
}

as_text : (total : ℕ) (cs ds rest : List ℕ) (ps : List Part) → cs ≡ ds → Reading total ds rest ps → Reading total cs rest ps
as_text total cs ds rest ps e r = subst (λ x. Reading total x rest ps) (sym e) r

as_parts : (total : ℕ) (cs rest : List ℕ) (ps qs : List Part) → ps ≡ qs → Reading total cs rest ps → Reading total cs rest qs
as_parts total cs rest ps qs e r = subst (λ x. Reading total cs rest x) e r

read_decimal : (n total : ℕ) (rest : List ℕ) → n ≤ 2 ^ 63 → Ends rest → Reading total (decimal n ++ rest) rest (number n ∷ [])
read_decimal n total rest le ends =
    one total (decimal n ++ rest) rest (Integer n) (subst (λ x. Comes x (token (Integer n) rest)) (sym (gap-decimal n rest le)) (comes-decimal n rest le ends))

read_atom : (cs : List ℕ) (total : ℕ) (rest : List ℕ) → length cs ≤ 255 → Ends rest → Reading total (atom_text cs ++ rest) rest (name cs ∷ [])
read_atom cs total rest short ends =
    let lexed = lexed-atom cs rest short ends in
    one total (atom_text cs ++ rest) rest (Atom cs) (subst (λ x. Comes x (token (Atom cs) rest)) (sym lexed.gap) lexed.comes)

read_string : (c : ℕ) (cs : List ℕ) (total : ℕ) (rest : List ℕ) → Reading total (string_text (c ∷ cs) ++ rest) rest (string (c ∷ cs) ∷ [])
read_string c cs total rest =
    one total (string_text (c ∷ cs) ++ rest) rest (String (c ∷ cs)) (subst (λ x. Comes (34 ∷ x) (token (String (c ∷ cs)) rest)) (sym (append_assoc (flat_map string_char (c ∷ cs)) (34 ∷ []) rest)) (comes-string c cs rest))

-- a bracket, elements, and the closing bracket
around : (total : ℕ) (front shut : ℕ) (body rest : List ℕ) (o s : Token) (ps : List Part) → Comes (after_gap (front ∷ (body ++ shut ∷ rest))) (token o (body ++ shut ∷ rest)) → Comes (after_gap (shut ∷ rest)) (token s rest) → Reading total (body ++ shut ∷ rest) (shut ∷ rest) ps → Reading total ((front ∷ (body ++ shut ∷ [])) ++ rest) rest (part_of o ∷ (ps ++ part_of s ∷ []))
around total front shut body rest o s ps opens shuts inside =
    as_text total ((front ∷ (body ++ shut ∷ [])) ++ rest) (front ∷ (body ++ shut ∷ rest)) rest (part_of o ∷ (ps ++ part_of s ∷ [])) (ap (λ x. front ∷ x) (append_assoc body (shut ∷ []) rest)) (and_then total (front ∷ (body ++ shut ∷ rest)) (body ++ shut ∷ rest) rest (part_of o ∷ []) (ps ++ part_of s ∷ []) (one total (front ∷ (body ++ shut ∷ rest)) (body ++ shut ∷ rest) o opens) (and_then total (body ++ shut ∷ rest) (shut ∷ rest) rest ps (part_of s ∷ []) inside (one total (shut ∷ rest) rest s shuts)))

-- the elements behind the first, each behind its comma
abbrev others_parts : List Form → List Part
others_parts [] = []
others_parts (g ∷ gs) = comma ∷ (form_parts g ++ others_parts gs)

row-others : (f : Form) (gs : List Form) → form_parts f ++ others_parts gs ≡ row_parts f gs
row-others f [] = append-nil (form_parts f)
row-others f (g ∷ gs) = ap (λ x. form_parts f ++ comma ∷ x) (row-others g gs)

ends-others : (ts : Trees) (rest : List ℕ) → Ends rest → Ends (others_text ts ++ rest)
ends-others none rest ends = ends
ends-others (more t ts) rest ends = ends-comma ((text t ++ others_text ts) ++ rest)

tuple-parts : (f : Form) (fs : List Form) → open_tuple ∷ (row_parts f fs ++ close_tuple ∷ []) ≡ form_parts (tuple_form (f ∷ fs))
tuple-parts f fs = ap (λ x. open_tuple ∷ x) (sym (front-parts start f fs (close_tuple ∷ [])))

list-parts : (f : Form) (fs : List Form) → open_list ∷ (row_parts f fs ++ close_list ∷ []) ≡ form_parts (plain_list (f ∷ fs))
list-parts f fs = ap (λ x. open_list ∷ x) (sym (front-parts start f fs (close_list ∷ [])))

-- a list, by whether it is printed as a string
read_list : (t : Tree) (us : Trees) (p : Option (List ℕ)) (total : ℕ) (rest : List ℕ) → Reading total (elements_text (more t us) ++ 93 ∷ rest) (93 ∷ rest) (row_parts (form_of t) (row_of us)) → Reading total (list_text p (elements_text (more t us)) ++ rest) rest (form_parts (list_form p (row_of (more t us))))
read_list t us None total rest inside =
    as_parts total (list_text None (elements_text (more t us)) ++ rest) rest (open_list ∷ (row_parts (form_of t) (row_of us) ++ close_list ∷ [])) (form_parts (plain_list (form_of t ∷ row_of us))) (list-parts (form_of t) (row_of us)) (around total 91 93 (elements_text (more t us)) rest (MarkOf OpenBracket) (MarkOf CloseBracket) (row_parts (form_of t) (row_of us)) (comes-open_list (elements_text (more t us) ++ 93 ∷ rest)) (comes-close_list rest) inside)
read_list t us (Some []) total rest inside =
    and_then total (codes "[]" ++ rest) (93 ∷ rest) rest (open_list ∷ []) (close_list ∷ []) (one total (codes "[]" ++ rest) (93 ∷ rest) (MarkOf OpenBracket) (comes-open_list (93 ∷ rest))) (one total (93 ∷ rest) rest (MarkOf CloseBracket) (comes-close_list rest))
read_list t us (Some (c ∷ cs)) total rest inside = read_string c cs total rest

-- an element, and those behind it
row_reading : (t : Tree) (ts : Trees) (total : ℕ) (rest : List ℕ) → Reading total (text t ++ (others_text ts ++ rest)) (others_text ts ++ rest) (form_parts (form_of t)) → Reading total (others_text ts ++ rest) rest (others_parts (row_of ts)) → Reading total ((text t ++ others_text ts) ++ rest) rest (row_parts (form_of t) (row_of ts))
row_reading t ts total rest first others =
    as_text total ((text t ++ others_text ts) ++ rest) (text t ++ (others_text ts ++ rest)) rest (row_parts (form_of t) (row_of ts)) (append_assoc (text t) (others_text ts) rest) (as_parts total (text t ++ (others_text ts ++ rest)) rest (form_parts (form_of t) ++ others_parts (row_of ts)) (row_parts (form_of t) (row_of ts)) (row-others (form_of t) (row_of ts)) (and_then total (text t ++ (others_text ts ++ rest)) (others_text ts ++ rest) rest (form_parts (form_of t)) (others_parts (row_of ts)) first others))

-- the same behind a comma
other_reading : (t : Tree) (ts : Trees) (total : ℕ) (rest : List ℕ) → Reading total (text t ++ (others_text ts ++ rest)) (others_text ts ++ rest) (form_parts (form_of t)) → Reading total (others_text ts ++ rest) rest (others_parts (row_of ts)) → Reading total (others_text (more t ts) ++ rest) rest (others_parts (row_of (more t ts)))
other_reading t ts total rest first others =
    as_text total ((44 ∷ (text t ++ others_text ts)) ++ rest) (44 ∷ (text t ++ (others_text ts ++ rest))) rest (comma ∷ (form_parts (form_of t) ++ others_parts (row_of ts))) (ap (λ x. 44 ∷ x) (append_assoc (text t) (others_text ts) rest)) (and_then total (44 ∷ (text t ++ (others_text ts ++ rest))) (text t ++ (others_text ts ++ rest)) rest (comma ∷ []) (form_parts (form_of t) ++ others_parts (row_of ts)) (one total (44 ∷ (text t ++ (others_text ts ++ rest))) (text t ++ (others_text ts ++ rest)) (MarkOf Comma) (comes-comma (text t ++ (others_text ts ++ rest)))) (and_then total (text t ++ (others_text ts ++ rest)) (others_text ts ++ rest) rest (form_parts (form_of t)) (others_parts (row_of ts)) first others))

mutual
  pub read_tree : (t : Tree) → is_bounded t ≡ true → has_pids t ≡ false → (total : ℕ) (rest : List ℕ) → Ends rest → Reading total (text t ++ rest) rest (form_parts (form_of t))
  read_tree (int (pos n)) b p total rest ends = read_decimal n total rest (omega (arith, ltb-true n (2 ^ 63) b)) ends
  read_tree (int (negsuc n)) b p total rest ends =
      let le : suc n ≤ 2 ^ 63 = omega (arith, ltb-true n (2 ^ 63) b) in
      and_then total (45 ∷ (decimal (suc n) ++ rest)) (decimal (suc n) ++ rest) rest (minus ∷ []) (number (suc n) ∷ []) (one total (45 ∷ (decimal (suc n) ++ rest)) (decimal (suc n) ++ rest) (MarkOf Minus) (comes-minus (suc n) rest le)) (read_decimal (suc n) total rest le ends)
  read_tree (atom cs) b p total rest ends =
      read_atom cs total rest (leb-true (length cs) 255 (and_left (nat_le (length cs) 255) (scalars cs) b)) ends
  read_tree (pid n) b p total rest ends = absurd (true≢false p)
  read_tree (tuple none) b p total rest ends =
      and_then total (123 ∷ 125 ∷ rest) (125 ∷ rest) rest (open_tuple ∷ []) (close_tuple ∷ []) (one total (123 ∷ 125 ∷ rest) (125 ∷ rest) (MarkOf OpenBrace) (comes-open_tuple (125 ∷ rest))) (one total (125 ∷ rest) rest (MarkOf CloseBrace) (comes-close_tuple rest))
  read_tree (tuple (more t ts)) b p total rest ends =
      as_parts total (text (tuple (more t ts)) ++ rest) rest (open_tuple ∷ (row_parts (form_of t) (row_of ts) ++ close_tuple ∷ [])) (form_parts (tuple_form (form_of t ∷ row_of ts))) (tuple-parts (form_of t) (row_of ts)) (around total 123 125 (elements_text (more t ts)) rest (MarkOf OpenBrace) (MarkOf CloseBrace) (row_parts (form_of t) (row_of ts)) (comes-open_tuple (elements_text (more t ts) ++ 125 ∷ rest)) (comes-close_tuple rest) (row_reading t ts total (125 ∷ rest) (read_tree t (and_left (is_bounded t) (are_bounded ts) b) (or_left (has_pids t) (have_pids ts) p) total (others_text ts ++ 125 ∷ rest) (ends-others ts (125 ∷ rest) (ends-tuple rest))) (read_others ts (and_right (is_bounded t) (are_bounded ts) b) (or_right (has_pids t) (have_pids ts) p) total (125 ∷ rest) (ends-tuple rest))))
  read_tree (list none) b p total rest ends =
      and_then total (91 ∷ 93 ∷ rest) (93 ∷ rest) rest (open_list ∷ []) (close_list ∷ []) (one total (91 ∷ 93 ∷ rest) (93 ∷ rest) (MarkOf OpenBracket) (comes-open_list (93 ∷ rest))) (one total (93 ∷ rest) rest (MarkOf CloseBracket) (comes-close_list rest))
  read_tree (list (more t ts)) b p total rest ends =
      read_list t ts (printable (more t ts)) total rest (row_reading t ts total (93 ∷ rest) (read_tree t (and_left (is_bounded t) (are_bounded ts) b) (or_left (has_pids t) (have_pids ts) p) total (others_text ts ++ 93 ∷ rest) (ends-others ts (93 ∷ rest) (ends-list rest))) (read_others ts (and_right (is_bounded t) (are_bounded ts) b) (or_right (has_pids t) (have_pids ts) p) total (93 ∷ rest) (ends-list rest)))

  read_others : (ts : Trees) → are_bounded ts ≡ true → have_pids ts ≡ false → (total : ℕ) (rest : List ℕ) → Ends rest → Reading total (others_text ts ++ rest) rest (others_parts (row_of ts))
  read_others none b p total rest ends = record { spots = []; read = refl; are = refl }
  read_others (more t ts) b p total rest ends =
      other_reading t ts total rest (read_tree t (and_left (is_bounded t) (are_bounded ts) b) (or_left (has_pids t) (have_pids ts) p) total (others_text ts ++ rest) (ends-others ts rest ends)) (read_others ts (and_right (is_bounded t) (are_bounded ts) b) (or_right (has_pids t) (have_pids ts) p) total rest ends)

-- A printed text is one of Unicode scalar values

scalars-append : (xs ys : List ℕ) → scalars xs ≡ true → scalars ys ≡ true → scalars (xs ++ ys) ≡ true
scalars-append [] ys first second = second
scalars-append (x ∷ xs) ys first second =
    and-true (scalar x) (scalars (xs ++ ys)) (and_left (scalar x) (scalars xs) first) (scalars-append xs ys (and_right (scalar x) (scalars xs) first) second)

one-scalar : (c : ℕ) → scalar c ≡ true → scalars (c ∷ []) ≡ true
one-scalar c e = and-true (scalar c) true e refl

digits-scalars : (ds : List ℕ) → AllDigits 10 ds → scalars ds ≡ true
digits-scalars [] all = refl
digits-scalars (d ∷ ds) all =
    and-true (scalar d) (scalars ds) (low_scalar d (omega (arith, (digit_from_value d all.0).1))) (digits-scalars ds all.1)

decimal-scalars : (n : ℕ) → n ≤ 2 ^ 63 → scalars (decimal n) ≡ true
decimal-scalars n le = digits-scalars (decimal n) (decimal_is_IsNumeral n (omega (arith, le))).0.1

hex_digit-small : (n : ℕ) → n < 16 → hex_digit n < 128
hex_digit-small n small = by (nat_le n 9) refl
  where
    by : (b : Bool) → nat_le n 9 ≡ b → hex_digit n < 128
    by true e = omega (arith, cond-true (nat_le n 9) (48 + n) (87 + n) e, leb-true n 9 e)
    by false e = omega (arith, cond-false (nat_le n 9) (48 + n) (87 + n) e, small)

hex-scalars : (c : ℕ) → c < 256 → scalars (hex c) ≡ true
hex-scalars c small = by (nat_le c 15) refl
  where
    by : (b : Bool) → nat_le c 15 ≡ b → scalars (hex c) ≡ true
    by true e =
        ap scalars (cond-true (nat_le c 15) (hex_digit c ∷ []) (hex_digit (c / 16) ∷ hex_digit (c % 16) ∷ []) e) ∙ one-scalar (hex_digit c) (low_scalar (hex_digit c) (omega (arith, hex_digit-small c (omega (arith, leb-true c 15 e)))))
    by false e =
        ap scalars (cond-false (nat_le c 15) (hex_digit c ∷ []) (hex_digit (c / 16) ∷ hex_digit (c % 16) ∷ []) e) ∙ and-true (scalar (hex_digit (c / 16))) (scalars (hex_digit (c % 16) ∷ [])) (low_scalar (hex_digit (c / 16)) (omega (arith, hex_digit-small (c / 16) (omega (arith, small))))) (one-scalar (hex_digit (c % 16)) (low_scalar (hex_digit (c % 16)) (omega (arith, hex_digit-small (c % 16) (omega arith)))))

quoted-scalars : (c : ℕ) → scalar c ≡ true → scalars (quoted_char c) ≡ true
quoted-scalars c e = by (eqb c 39 || eqb c 92) (nat_le c 31 || eqb c 127) refl refl
  where
    by : (a b : Bool) → eqb c 39 || eqb c 92 ≡ a → nat_le c 31 || eqb c 127 ≡ b → scalars (quoted_char c) ≡ true
    by true b quote control = ap scalars (cond-true (eqb c 39 || eqb c 92) (92 ∷ c ∷ []) _ quote) ∙ one-scalar c e
    by false true quote control =
        ap scalars (cond-false (eqb c 39 || eqb c 92) (92 ∷ c ∷ []) _ quote ∙ cond-true (nat_le c 31 || eqb c 127) (codes "\\x{" ++ (hex c ++ 125 ∷ [])) (c ∷ []) control) ∙ scalars-append (hex c) (125 ∷ []) (hex-scalars c (control-small c (nat_le c 31) (eqb c 127) refl refl control)) refl
    by false false quote control =
        ap scalars (cond-false (eqb c 39 || eqb c 92) (92 ∷ c ∷ []) _ quote ∙ cond-false (nat_le c 31 || eqb c 127) (codes "\\x{" ++ (hex c ++ 125 ∷ [])) (c ∷ []) control) ∙ one-scalar c e

string-scalars : (c : ℕ) → scalar c ≡ true → scalars (string_char c) ≡ true
string-scalars c e = by (eqb c 34 || eqb c 92) refl
  where
    by : (a : Bool) → eqb c 34 || eqb c 92 ≡ a → scalars (string_char c) ≡ true
    by true quote = ap scalars (cond-true (eqb c 34 || eqb c 92) (92 ∷ c ∷ []) (c ∷ []) quote) ∙ one-scalar c e
    by false quote = ap scalars (cond-false (eqb c 34 || eqb c 92) (92 ∷ c ∷ []) (c ∷ []) quote) ∙ one-scalar c e

all-scalars : (f : ℕ → List ℕ) → ((c : ℕ) → scalar c ≡ true → scalars (f c) ≡ true) → (cs : List ℕ) → scalars cs ≡ true → scalars (flat_map f cs) ≡ true
all-scalars f each [] e = refl
all-scalars f each (c ∷ cs) e =
    scalars-append (f c) (flat_map f cs) (each c (and_left (scalar c) (scalars cs) e)) (all-scalars f each cs (and_right (scalar c) (scalars cs) e))

atom-scalars : (cs : List ℕ) → scalars cs ≡ true → scalars (atom_text cs) ≡ true
atom-scalars cs e = by (is_plain cs) refl
  where
    by : (b : Bool) → is_plain cs ≡ b → scalars (atom_text cs) ≡ true
    by true h = ap scalars (cond-true (is_plain cs) cs (39 ∷ (flat_map quoted_char cs ++ 39 ∷ [])) h) ∙ e
    by false h =
        ap scalars (cond-false (is_plain cs) cs (39 ∷ (flat_map quoted_char cs ++ 39 ∷ [])) h) ∙ scalars-append (flat_map quoted_char cs) (39 ∷ []) (all-scalars quoted_char quoted-scalars cs e) refl

char-scalar : (t : Tree) (c : ℕ) → printable_char t ≡ Some c → scalar c ≡ true
char-scalar (int (pos n)) c e = by (nat_le 32 n && nat_le n 126) refl e
  where
    by : (b : Bool) → nat_le 32 n && nat_le n 126 ≡ b → cond b (Some n) None ≡ Some c → scalar c ≡ true
    by true is h =
        ap scalar (sym (same_Some n c h)) ∙ low_scalar n (omega (arith, leb-true n 126 (and_right (nat_le 32 n) (nat_le n 126) is)))
    by false is h = absurd (none-some c h)
char-scalar (int (negsuc n)) c e = absurd (none-some c e)
char-scalar (atom cs) c e = absurd (none-some c e)
char-scalar (pid n) c e = absurd (none-some c e)
char-scalar (tuple ts) c e = absurd (none-some c e)
char-scalar (list ts) c e = absurd (none-some c e)

printable-scalars : (ts : Trees) (cs : List ℕ) → printable ts ≡ Some cs → scalars cs ≡ true
printable-scalars none cs e = ap scalars (sym (same_Some [] cs e))
printable-scalars (more t ts) cs e =
    let s = printable-step (printable_char t) (printable ts) cs e in
    ap scalars s.1.1.1.1 ∙ and-true (scalar s.0) (scalars s.1.0) (char-scalar t s.0 s.1.1.0) (printable-scalars ts s.1.0 s.1.1.1.0)

list-scalars : (p : Option (List ℕ)) (elements : List ℕ) → ((cs : List ℕ) → p ≡ Some cs → scalars cs ≡ true) → scalars elements ≡ true → scalars (list_text p elements) ≡ true
list-scalars None elements chars_are e = scalars-append elements (93 ∷ []) e refl
list-scalars (Some []) elements chars_are e = refl
list-scalars (Some (c ∷ cs)) elements chars_are e =
    scalars-append (flat_map string_char (c ∷ cs)) (34 ∷ []) (all-scalars string_char string-scalars (c ∷ cs) (chars_are (c ∷ cs) refl)) refl

mutual
  text-scalars : (t : Tree) → is_bounded t ≡ true → has_pids t ≡ false → scalars (text t) ≡ true
  text-scalars (int (pos n)) b p = decimal-scalars n (omega (arith, ltb-true n (2 ^ 63) b))
  text-scalars (int (negsuc n)) b p = decimal-scalars (suc n) (omega (arith, ltb-true n (2 ^ 63) b))
  text-scalars (atom cs) b p = atom-scalars cs (and_right (nat_le (length cs) 255) (scalars cs) b)
  text-scalars (pid n) b p = absurd (true≢false p)
  text-scalars (tuple ts) b p = scalars-append (elements_text ts) (125 ∷ []) (elements-scalars ts b p) refl
  text-scalars (list ts) b p =
      list-scalars (printable ts) (elements_text ts) (λ cs e. printable-scalars ts cs e) (elements-scalars ts b p)

  elements-scalars : (ts : Trees) → are_bounded ts ≡ true → have_pids ts ≡ false → scalars (elements_text ts) ≡ true
  elements-scalars none b p = refl
  elements-scalars (more t ts) b p =
      scalars-append (text t) (others_text ts) (text-scalars t (and_left (is_bounded t) (are_bounded ts) b) (or_left (has_pids t) (have_pids ts) p)) (others-scalars ts (and_right (is_bounded t) (are_bounded ts) b) (or_right (has_pids t) (have_pids ts) p))

  others-scalars : (ts : Trees) → are_bounded ts ≡ true → have_pids ts ≡ false → scalars (others_text ts) ≡ true
  others-scalars none b p = refl
  others-scalars (more t ts) b p =
      scalars-append (text t) (others_text ts) (text-scalars t (and_left (is_bounded t) (are_bounded ts) b) (or_left (has_pids t) (have_pids ts) p)) (others-scalars ts (and_right (is_bounded t) (are_bounded ts) b) (or_right (has_pids t) (have_pids ts) p))

-- The law

printed_bytes : (cs : List ℕ) → encodes (cs ++ 46 ∷ 10 ∷ []) ≡ utf8 cs ++ 46 ∷ 10 ∷ []
unfolding utf8 encode
printed_bytes cs = encodes-append cs (46 ∷ 10 ∷ [])

-- one term and its dot are a text
one_term : (t : Tree) → is_bounded t ≡ true → has_pids t ≡ false → depth t ≤ deepest → (ps : List Part) → ps ≡ form_parts (form_of t) ++ dot ∷ [] → IsText ps (more t none)
one_term t b p deep ps is = record {
  forms = then start (form_of t);
  written = is;
  meaning = ap (λ u. more u none) (sym (form-tree t p));
  nested = omega (arith, form-nesting t p, deep);
  fit = (form-fine t b).0;
  tails = (form-fine t b).1;
}

pub printed_reads : PrintedReads
printed_reads t b readable =
    let p = not_true (has_pids t) (and_left (not (has_pids t)) (nat_le (depth t) deepest) readable) in
    let deep = leb-true (depth t) deepest (and_right (not (has_pids t)) (nat_le (depth t) deepest) readable) in
    let cs = text t ++ 46 ∷ 10 ∷ [] in
    let whole : scalars (text t ++ 46 ∷ 10 ∷ []) ≡ true = scalars-append (text t) (46 ∷ 10 ∷ []) (text-scalars t b p) refl in
    let bytes : encodes (text t ++ 46 ∷ 10 ∷ []) ≡ utf8 (text t) ++ 46 ∷ 10 ∷ [] = printed_bytes (text t) in
    let characters : chars (utf8 (text t) ++ 46 ∷ 10 ∷ []) ≡ text t ++ 46 ∷ 10 ∷ [] = ap chars (sym bytes) ∙ chars-encodes (text t ++ 46 ∷ 10 ∷ []) whole in
    let total = byte_count (chars (utf8 (text t) ++ 46 ∷ 10 ∷ [])) in
    let reading = and_then total (text t ++ 46 ∷ 10 ∷ []) (46 ∷ 10 ∷ []) (10 ∷ []) (form_parts (form_of t)) (dot ∷ []) (read_tree t b p total (46 ∷ 10 ∷ []) ends-dot) (one total (46 ∷ 10 ∷ []) (10 ∷ []) Dot comes-dot) in
    record {
      utf8 = (text t ++ 46 ∷ 10 ∷ [], (whole, bytes));
      spots = reading.spots;
      left = 10 ∷ [];
      read = subst (λ x. Reads total x reading.spots (10 ∷ [])) (sym characters) reading.read;
      ended = refl;
      text = one_term t b p deep (parts reading.spots) reading.are;
    }
