-- Lemmas on the steps of reading: rows and brackets that grow by one.
use Rattle.std.proofs.Common.{◌≡◌, ℕ, pos, ◌+◌, ◌<◌, length-append, List, [], ◌∷◌, ◌++◌, length, reverse, get_or, take, drop, zero, suc, false, ◌==◌, Option, Some, None, option_map, Result, Ok, Err, IsErr, ◌⊎◌, inl, inr, if◌then◌else◌, true, nat_lt, subst, sym, ap, ◌∙◌, refl, arith}
use Rattle.std.specs.Result.{IsErrAnd}
use Rattle.std.proofs.lemmas.Bool.Decides.{nat_tests}
use Rattle.erl_scan.specs.declared.error.Fault.{Fault}
use Rattle.erl_scan.specs.declared.error.Fault.TheVariants.{Syntax, TooDeep, Memory as refused}
use Rattle.erl_scan.specs.declared.error.ReadError.{ReadError}
use Rattle.std.proofs.lemmas.List.{reverse-append, reverse-reverse, take-append-drop, take_all, take_more}
use Rattle.std.proofs.lemmas.Str.{chars-append}
use Rattle.std.specs.Str.{chars, IsUtf8}
use Rattle.erl_term.specs.declared.term.Term.{Term}
use Rattle.erl_term.specs.RoundTrip.{deepest}
use Rattle.erl_term.specs.Rows.{append_trees, integers}
use Rattle.erl_term.specs.Term.{tree, trees}
use Rattle.erl_term.specs.Tree.{Tree, Trees, int, tuple, list, none, more}
use Rattle.erl_consult.specs.declared.parsing.parser.Bracket.{Bracket as Kind}
use Rattle.erl_consult.specs.declared.parsing.parser.Bracket.TheVariants.{Tuple, List as ListOf, Tail}
use Rattle.erl_consult.specs.declared.parsing.parser.Last.{Last as Held}
use Rattle.erl_consult.specs.declared.parsing.parser.Last.TheVariants.{Nothing}
use Rattle.erl_consult.specs.declared.parsing.parser.Open.{Open}
use Rattle.erl_consult.specs.Parser.{bracket_seen, frame_seen, frames, last_seen, innermost_frame, with_frame, Gives}
use Rattle.erl_consult.specs.Steps.{Bracket, Frame, Last, Seen, Outcome, nothing, term, goes, fails, opened_by, closed_with, take_dot_by, with_element, elements_at, tail_elements, term_of_last, element_ended, take_bar_by, take_comma_by, take_close_tuple_by, take_close_list_by, bar_in, comma_in, close_tuple_in, close_list_in}

-- Rows

pub trees-append : (ts us : List Term) → trees (ts ++ us) ≡ append_trees (trees ts) (trees us)
trees-append [] us = refl
trees-append (t ∷ ts) us = ap (λ rest. more (tree t) rest) (trees-append ts us)

pub trees-push : (ts : List Term) (t : Term) → trees (ts ++ t ∷ []) ≡ with_element (trees ts) (tree t)
trees-push ts t = trees-append ts (t ∷ [])

-- behind elements that stand backwards those that come before them, backwards too
pub trees-backwards : (heads tail turned all : List Term) → turned ≡ reverse heads → all ≡ tail ++ turned → append_trees (trees heads) (trees (reverse tail)) ≡ trees (reverse all)
trees-backwards heads tail turned all is joined =
    let back : heads ++ reverse tail ≡ reverse all = grind (arith, reverse-append, reverse-reverse) in
    sym (trees-append heads (reverse tail)) ∙ ap (λ ts. trees ts) back

pub append_trees-assoc : (ts us vs : Trees) → append_trees (append_trees ts us) vs ≡ append_trees ts (append_trees us vs)
append_trees-assoc none us vs = refl
append_trees-assoc (more t ts) us vs = ap (λ rest. more t rest) (append_trees-assoc ts us vs)

pub append_trees-none : (ts : Trees) → append_trees ts none ≡ ts
append_trees-none none = refl
append_trees-none (more t ts) = ap (λ rest. more t rest) (append_trees-none ts)

pub integers-push : (cs : List ℕ) (c : ℕ) → integers (cs ++ c ∷ []) ≡ with_element (integers cs) (int (pos c))
integers-push [] c = refl
integers-push (d ∷ cs) c = ap (λ rest. more (int (pos d)) rest) (integers-push cs c)

-- one character more
pub integers-more : (before now after : Trees) (cs : List ℕ) (c : ℕ) → now ≡ append_trees before (integers cs) → after ≡ with_element now (int (pos c)) → after ≡ append_trees before (integers (cs ++ c ∷ []))
integers-more before now after cs c so_far pushed =
    pushed ∙ ap (λ ts. with_element ts (int (pos c))) so_far ∙ append_trees-assoc before (integers cs) (more (int (pos c)) none) ∙ ap (λ ts. append_trees before ts) (sym (integers-push cs c))

pub integers-append : (cs ds : List ℕ) → integers (cs ++ ds) ≡ append_trees (integers cs) (integers ds)
integers-append [] ds = refl
integers-append (c ∷ cs) ds = ap (λ rest. more (int (pos c)) rest) (integers-append cs ds)

-- the front of a text behind other terms, and then its back
pub pieces-joined : (before now : Trees) (text front back : List ℕ) (at : ℕ) → IsUtf8 front → front ≡ take at text → back ≡ drop at text → now ≡ append_trees before (integers (chars front)) → append_trees now (integers (chars back)) ≡ append_trees before (integers (chars text))
pieces-joined before now text front back at valid is_front is_back pushed =
    let whole : text ≡ front ++ back = sym (take-append-drop at text) ∙ ap (λ bs. bs ++ drop at text) (sym is_front) ∙ ap (λ bs. front ++ bs) (sym is_back) in
    let joined = sym (integers-append (chars front) (chars back)) ∙ ap (λ cs. integers cs) (sym (chars-append front back valid) ∙ ap (λ bs. chars bs) (sym whole)) in
    ap (λ ts. append_trees ts (integers (chars back))) pushed ∙ append_trees-assoc before (integers (chars front)) (integers (chars back)) ∙ ap (λ ts. append_trees before ts) joined

-- Brackets

pub frames-push : (os : List Open) (o : Open) → frames (os ++ o ∷ []) ≡ frame_seen o ∷ frames os
frames-push [] o = refl
frames-push (p ∷ os) o = ap (λ fs. fs ++ frame_seen p ∷ []) (frames-push os o)

-- the innermost one taken out
pub frames-pop : (os rest : List Open) (o : Open) → os ≡ rest ++ o ∷ [] → frames os ≡ frame_seen o ∷ frames rest
frames-pop os rest o e = ap (λ ps. frames ps) e ∙ frames-push rest o

pub length-frames : (os : List Open) → length (frames os) ≡ length os
length-frames [] = refl
length-frames (o ∷ os) = omega (arith, length-append {A = Frame}, length-frames os)

-- no element is awaited behind a comma
pub elements_at-nothing : (ts : List Term) (n : ℕ) (last : Held) → n ≡ length ts → false ≡ (n == 0) → last ≡ Nothing → elements_at (trees ts) (last_seen last) ≡ None
elements_at-nothing [] n last len some e = absurd (let no : ⊥ = grind (arith, nat_tests) in no)
elements_at-nothing (t ∷ ts) n last len some e = ap (λ l. elements_at (trees (t ∷ ts)) (last_seen l)) e

-- What a token does at the innermost bracket, by its kind

pub bar_taken : (s : Seen) (os rest : List Open) (o : Open) (at : ℕ) (b : Kind) → os ≡ rest ++ o ∷ [] → o.bracket ≡ b → take_bar_by s (frames os) at ≡ bar_in s (frame_seen o) (frames rest) (bracket_seen b) at
bar_taken s os rest o at b e is =
    ap (λ fs. take_bar_by s fs at) (frames-pop os rest o e) ∙ ap (λ k. bar_in s (frame_seen o) (frames rest) (bracket_seen k) at) is

pub comma_taken : (s : Seen) (os rest : List Open) (o : Open) (at : ℕ) (b : Kind) → os ≡ rest ++ o ∷ [] → o.bracket ≡ b → take_comma_by s (frames os) at ≡ comma_in s (frame_seen o) (frames rest) (bracket_seen b) at
comma_taken s os rest o at b e is =
    ap (λ fs. take_comma_by s fs at) (frames-pop os rest o e) ∙ ap (λ k. comma_in s (frame_seen o) (frames rest) (bracket_seen k) at) is

pub close_tuple_taken : (s : Seen) (os rest : List Open) (o : Open) (at : ℕ) (b : Kind) → os ≡ rest ++ o ∷ [] → o.bracket ≡ b → take_close_tuple_by s (frames os) at ≡ close_tuple_in s (frames rest) (bracket_seen b) (trees o.items.items) at
close_tuple_taken s os rest o at b e is =
    ap (λ fs. take_close_tuple_by s fs at) (frames-pop os rest o e) ∙ ap (λ k. close_tuple_in s (frames rest) (bracket_seen k) (trees o.items.items) at) is

pub close_list_taken : (s : Seen) (os rest : List Open) (o : Open) (at : ℕ) (b : Kind) → os ≡ rest ++ o ∷ [] → o.bracket ≡ b → take_close_list_by s (frames os) at ≡ close_list_in s (frames rest) (bracket_seen b) (trees o.items.items) at
close_list_taken s os rest o at b e is =
    ap (λ fs. take_close_list_by s fs at) (frames-pop os rest o e) ∙ ap (λ k. close_list_in s (frames rest) (bracket_seen k) (trees o.items.items) at) is

-- an element ends, and its bracket goes on
pub element_ended-some : (s t : Seen) (f : Frame) (fs : List Frame) (b : Bracket) (o : Option Tree) (u : Tree) (at : ℕ) (items : Trees) → o ≡ Some u → items ≡ with_element f.items u → t ≡ record { whole = s.whole; open_ones = fs; last = nothing } → element_ended s f fs b o at ≡ goes (with_frame t (record { bracket = b; at = f.at; items = items }))
element_ended-some s t f fs b o u at items is pushed now =
    ap (λ x. element_ended s f fs b x at) is ∙ ap (λ us. goes (record { whole = s.whole; open_ones = record { bracket = b; at = f.at; items = us } ∷ fs; last = nothing })) (sym pushed) ∙ ap (λ r. goes (with_frame r (record { bracket = b; at = f.at; items = items }))) (sym now)

-- a bracket opens where fewer than the most are open
pub opened_by-room : (s : Seen) (b : Bracket) (at : ℕ) (items : Trees) → true ≡ nat_lt (length s.open_ones) deepest → s.last ≡ nothing → items ≡ none → opened_by s b at ≡ goes (with_frame s (record { bracket = b; at = at; items = items }))
opened_by-room s b at items room before empty =
    ap (λ r. if r then goes (record { whole = s.whole; open_ones = record { bracket = b; at = at; items = none } ∷ s.open_ones; last = nothing }) else fails TooDeep at) (sym room) ∙ ap (λ l. goes (record { whole = s.whole; open_ones = record { bracket = b; at = at; items = none } ∷ s.open_ones; last = l })) (sym before) ∙ ap (λ us. goes (with_frame s (record { bracket = b; at = at; items = us }))) (sym empty)

-- a closing bracket, by what the elements are
pub closed_with-some : (s : Seen) (fs : List Frame) (make : Trees → Tree) (o : Option Trees) (ts : Trees) (at : ℕ) → o ≡ Some ts → closed_with s fs make o at ≡ goes (record { whole = s.whole; open_ones = fs; last = term (make ts) })
closed_with-some s fs make o ts at is = ap (λ x. closed_with s fs make x at) is

pub closed_with-none : (s : Seen) (fs : List Frame) (make : Trees → Tree) (o : Option Trees) (at : ℕ) → o ≡ None → closed_with s fs make o at ≡ fails Syntax at
closed_with-none s fs make o at is = ap (λ x. closed_with s fs make x at) is

-- a list with a tail is closed as one row
pub closed_with-tail : (s : Seen) (fs : List Frame) (items : Trees) (o : Option Trees) (at : ℕ) → closed_with s fs (λ ts. list (append_trees items ts)) o at ≡ closed_with s fs list (option_map (append_trees items) o) at
closed_with-tail s fs items None at = refl
closed_with-tail s fs items (Some ts) at = refl

-- what the three closings come to
pub close_tuple-some : (s : Seen) (os rest : List Open) (o : Open) (at : ℕ) (ts row : Trees) → os ≡ rest ++ o ∷ [] → o.bracket ≡ Tuple → elements_at (trees o.items.items) s.last ≡ Some ts → row ≡ ts → take_close_tuple_by s (frames os) at ≡ goes (record { whole = s.whole; open_ones = frames rest; last = term (tuple row) })
close_tuple-some s os rest o at ts row e is elements made =
    close_tuple_taken s os rest o at Tuple e is ∙ closed_with-some s (frames rest) tuple (elements_at (trees o.items.items) s.last) ts at elements ∙ ap (λ us. goes (record { whole = s.whole; open_ones = frames rest; last = term (tuple us) })) (sym made)

pub close_list-some : (s : Seen) (os rest : List Open) (o : Open) (at : ℕ) (ts : Trees) (held : Last) → os ≡ rest ++ o ∷ [] → o.bracket ≡ ListOf → elements_at (trees o.items.items) s.last ≡ Some ts → held ≡ term (list ts) → take_close_list_by s (frames os) at ≡ goes (record { whole = s.whole; open_ones = frames rest; last = held })
close_list-some s os rest o at ts held e is elements made =
    close_list_taken s os rest o at ListOf e is ∙ closed_with-some s (frames rest) list (elements_at (trees o.items.items) s.last) ts at elements ∙ ap (λ l. goes (record { whole = s.whole; open_ones = frames rest; last = l })) (sym made)

pub close_tail-some : (s : Seen) (os rest : List Open) (o : Open) (bar at : ℕ) (ts : Trees) (held : Last) → os ≡ rest ++ o ∷ [] → o.bracket ≡ Tail bar → option_map (append_trees (trees o.items.items)) (tail_elements (term_of_last s.last)) ≡ Some ts → held ≡ term (list ts) → take_close_list_by s (frames os) at ≡ goes (record { whole = s.whole; open_ones = frames rest; last = held })
close_tail-some s os rest o bar at ts held e is elements made =
    close_list_taken s os rest o at (Tail bar) e is ∙ closed_with-tail s (frames rest) (trees o.items.items) (tail_elements (term_of_last s.last)) at ∙ closed_with-some s (frames rest) list (option_map (append_trees (trees o.items.items)) (tail_elements (term_of_last s.last))) ts at elements ∙ ap (λ l. goes (record { whole = s.whole; open_ones = frames rest; last = l })) (sym made)

pub close_tuple-none : (s : Seen) (os rest : List Open) (o : Open) (at : ℕ) → os ≡ rest ++ o ∷ [] → o.bracket ≡ Tuple → elements_at (trees o.items.items) s.last ≡ None → take_close_tuple_by s (frames os) at ≡ fails Syntax at
close_tuple-none s os rest o at e is no_elements =
    close_tuple_taken s os rest o at Tuple e is ∙ closed_with-none s (frames rest) tuple (elements_at (trees o.items.items) s.last) at no_elements

pub close_list-none : (s : Seen) (os rest : List Open) (o : Open) (at : ℕ) → os ≡ rest ++ o ∷ [] → o.bracket ≡ ListOf → elements_at (trees o.items.items) s.last ≡ None → take_close_list_by s (frames os) at ≡ fails Syntax at
close_list-none s os rest o at e is no_elements =
    close_list_taken s os rest o at ListOf e is ∙ closed_with-none s (frames rest) list (elements_at (trees o.items.items) s.last) at no_elements

pub close_tail-none : (s : Seen) (os rest : List Open) (o : Open) (bar at : ℕ) → os ≡ rest ++ o ∷ [] → o.bracket ≡ Tail bar → option_map (append_trees (trees o.items.items)) (tail_elements (term_of_last s.last)) ≡ None → take_close_list_by s (frames os) at ≡ fails Syntax at
close_tail-none s os rest o bar at e is no_elements =
    close_list_taken s os rest o at (Tail bar) e is ∙ closed_with-tail s (frames rest) (trees o.items.items) (tail_elements (term_of_last s.last)) at ∙ closed_with-none s (frames rest) list (option_map (append_trees (trees o.items.items)) (tail_elements (term_of_last s.last))) at no_elements

-- What a call gives

-- an error that is passed on
pub gives-err : (r : Result (Unit {0}) ReadError) (o : Outcome) (new : Seen) (e : ReadError) → IsErr r × IsErrAnd r (λ y. y ≡ e) → (e.kind ≡ refused) ⊎ (o ≡ fails e.kind e.at) → Gives o new r
gives-err (Ok u) o new e is why = absurd is.1
gives-err (Err y) o new e is why =
    subst (λ x. (x.kind ≡ refused) ⊎ (o ≡ fails x.kind x.at)) (sym is.1) why

-- why it is one: memory, or what a fault of syntax says
pub refused_for : (o : Outcome) (P : Type 0) (kind : Fault) (told at : ℕ) → (kind ≡ refused) ⊎ (P × (kind ≡ Syntax) × (told ≡ at)) → (P → o ≡ fails Syntax at) → (kind ≡ refused) ⊎ (o ≡ fails kind told)
refused_for o P kind told at (inl memory) means = inl memory
refused_for o P kind told at (inr fault) means =
    inr (means fault.0 ∙ ap (λ k. fails k at) (sym fault.1) ∙ ap (λ n. fails kind n) (sym fault.2))

nonzero : (n : ℕ) → false ≡ (n == 0) → 0 < n
nonzero zero e = absurd (let no : ⊥ = cc in no)
nonzero (suc n) e = omega arith

dot_within : (s : Seen) (fs : List Frame) (at : ℕ) → 0 < length fs → take_dot_by s fs at ≡ fails Syntax at
dot_within s [] at some = absurd (omega arith)
dot_within s (f ∷ fs) at some = refl

-- a dot inside a bracket
pub take_dot-inside : (s : Seen) (os : List Open) (n at : ℕ) → n ≡ length os → false ≡ (n == 0) → take_dot_by s (frames os) at ≡ fails Syntax at
take_dot-inside s os n at len some = dot_within s (frames os) at (omega (arith, nonzero n some, length-frames os))

-- the innermost bracket is the last
pub innermost_frame-last : (os : List Open) (o : Open) (n : ℕ) → n + 1 ≡ length os → o ≡ get_or os n o → innermost_frame (frames os) ≡ Some (frame_seen o)
innermost_frame-last os o n len is =
    let split : os ≡ take n os ++ o ∷ [] = sym (take_all (n + 1) os (omega (arith, len))) ∙ take_more os n o (omega (arith, len)) ∙ ap (λ p. take n os ++ p ∷ []) (sym is) in
    ap (λ fs. innermost_frame fs) (frames-pop os (take n os) o split)
