-- Lemmas on what is written: pieces appended one after the other, and the bytes of tuples, lists and numbers.
use Rattle.std.proofs.Common.{◌≡◌, ℕ, ◌+◌, ◌-◌, ◌^◌, ◌<◌, drop, take, reverse, get_or, eqb, length, slice_get, Some, pos, Bool, true, false, ◌&&◌, List, [], ◌∷◌, ◌++◌, codes, Result, Ok, Err, OnOk, append_assoc, append-nil, refl, sym, ap, ◌∙◌, arith}
use Rattle.std.specs.Fmt.{decimal}
use Rattle.std.specs.Option.{unwrap_or}
use Rattle.std.proofs.lemmas.Bool.{ne_eqb}
use Rattle.std.proofs.lemmas.List.{reverse-append, take_more}
use Rattle.std.proofs.lemmas.Option.{unwrap_or-slice_get}
use Rattle.erl_semantics.proofs.Tests.{from_here}
use lib.Utf8.{encode}
use Rattle.std.proofs.lemmas.Fmt.{IsAscii-decimal}
use Rattle.erl_term.specs.Tree.{Tree, Trees, int, atom, pid, tuple, list, none, more}
use Rattle.erl_term.specs.Rows.{append_trees}
use Rattle.erl_term.specs.Text.{utf8, text, elements_text, others_text}
use Rattle.erl_term.proofs.Texts.{utf8-append, utf8-nil, utf8-ascii}
use Rattle.shell_answers.specs.Answers.{is_none, listed, separator}

-- what an Ok has appended
pub on_ok : {T E : Type 0} (r : Result T E) (P Q : Type 0) → OnOk r P → (P → Q) → OnOk r Q
on_ok (Ok x) P Q p f = f p
on_ok (Err e) P Q p f = tt

-- a piece, and what is appended behind it
pub before : (old mid new a rest : List ℕ) → mid ≡ old ++ a → new ≡ mid ++ rest → new ≡ old ++ (a ++ rest)
before old mid new a rest p q = q ∙ ap (λ l. l ++ rest) p ∙ append_assoc old a rest

-- the same bytes
pub same : (old new a b : List ℕ) → new ≡ old ++ a → a ≡ b → new ≡ old ++ b
same old new a b p e = p ∙ ap (λ l. old ++ l) e

-- the bytes of two parts
pub part : (xs ys bs ds : List ℕ) → utf8 xs ≡ bs → utf8 ys ≡ ds → utf8 (xs ++ ys) ≡ bs ++ ds
part xs ys bs ds p q = utf8-append xs ys ∙ ap (λ l. l ++ utf8 ys) p ∙ ap (λ l. bs ++ l) q

pub number-bytes : (n : ℕ) → n < 2 ^ 64 → utf8 (decimal n) ≡ decimal n
number-bytes n small = utf8-ascii (decimal n) (IsAscii-decimal n small)

-- the bytes of a term
abbrev pub bytes : Tree → List ℕ
bytes t = utf8 (text t)

-- a character of one byte in front
front-one : (c : ℕ) (cs : List ℕ) → utf8 (c ∷ cs) ≡ utf8 (c ∷ []) ++ utf8 cs
front-one c cs = utf8-append (c ∷ []) cs

pub comma-front : (cs : List ℕ) → utf8 (44 ∷ cs) ≡ 44 ∷ utf8 cs
unfolding utf8 encode
comma-front cs = refl

open-front : (cs : List ℕ) → utf8 (123 ∷ cs) ≡ 123 ∷ utf8 cs
unfolding utf8 encode
open-front cs = refl

pub bracket-front : (cs : List ℕ) → utf8 (91 ∷ cs) ≡ 91 ∷ utf8 cs
unfolding utf8 encode
bracket-front cs = refl

close-bytes : utf8 (125 ∷ []) ≡ 125 ∷ []
unfolding utf8 encode
close-bytes = refl

pub bracket-bytes : utf8 (93 ∷ []) ≡ 93 ∷ []
unfolding utf8 encode
bracket-bytes = refl

-- What stands behind the first element of a tuple: the others, each behind a comma, the bracket, and what follows it.
abbrev pub behind : Trees → List ℕ → List ℕ
behind none after = 125 ∷ after
behind (more t ts) after = 44 ∷ (bytes t ++ behind ts after)

others-bytes : (ts : Trees) (after : List ℕ) → utf8 (others_text ts) ++ (125 ∷ after) ≡ behind ts after
others-bytes none after = ap (λ l. l ++ (125 ∷ after)) utf8-nil
others-bytes (more t ts) after =
    ap (λ l. l ++ (125 ∷ after)) (comma-front (text t ++ others_text ts) ∙ ap (λ l. 44 ∷ l) (utf8-append (text t) (others_text ts)))
    ∙ ap (λ l. 44 ∷ l) (append_assoc (bytes t) (utf8 (others_text ts)) (125 ∷ after) ∙ ap (λ l. bytes t ++ l) (others-bytes ts after))

-- a tuple, and what follows it
pub tuple-bytes : (t : Tree) (ts : Trees) (after : List ℕ) → bytes (tuple (more t ts)) ++ after ≡ 123 ∷ (bytes t ++ behind ts after)
tuple-bytes t ts after =
    let inner = text t ++ others_text ts in
    let all : bytes (tuple (more t ts)) ≡ 123 ∷ ((bytes t ++ utf8 (others_text ts)) ++ 125 ∷ []) = open-front (inner ++ 125 ∷ []) ∙ ap (λ l. 123 ∷ l) (part inner (125 ∷ []) (bytes t ++ utf8 (others_text ts)) (125 ∷ []) (utf8-append (text t) (others_text ts)) close-bytes) in
    ap (λ l. l ++ after) all ∙ ap (λ l. 123 ∷ l) (append_assoc (bytes t ++ utf8 (others_text ts)) (125 ∷ []) after ∙ append_assoc (bytes t) (utf8 (others_text ts)) (125 ∷ after) ∙ ap (λ l. bytes t ++ l) (others-bytes ts after))

-- and alone
pub tuple-alone : (t : Tree) (ts : Trees) → bytes (tuple (more t ts)) ≡ 123 ∷ (bytes t ++ behind ts [])
tuple-alone t ts = sym (append-nil (bytes (tuple (more t ts)))) ∙ tuple-bytes t ts []

-- a row of tuples
abbrev pub AreTuples : Trees → Type 0
AreTuples none = Unit {0}
AreTuples (more (int n) ts) = ⊥
AreTuples (more (atom cs) ts) = ⊥
AreTuples (more (pid n) ts) = ⊥
AreTuples (more (tuple us) ts) = AreTuples ts
AreTuples (more (list us) ts) = ⊥

-- as a list it stands in brackets
bracketed : (ts : Trees) → AreTuples ts → text (list ts) ≡ 91 ∷ (elements_text ts ++ 93 ∷ [])
bracketed none are = refl
bracketed (more (int n) ts) are = absurd are
bracketed (more (atom cs) ts) are = absurd are
bracketed (more (pid n) ts) are = absurd are
bracketed (more (tuple us) ts) are = refl
bracketed (more (list us) ts) are = absurd are

pub list-bytes : (ts : Trees) (after : List ℕ) → AreTuples ts → bytes (list ts) ++ after ≡ 91 ∷ (utf8 (elements_text ts) ++ 93 ∷ after)
list-bytes ts after are =
    let all : bytes (list ts) ≡ 91 ∷ (utf8 (elements_text ts) ++ 93 ∷ []) = ap utf8 (bracketed ts are) ∙ bracket-front (elements_text ts ++ 93 ∷ []) ∙ ap (λ l. 91 ∷ l) (part (elements_text ts) (93 ∷ []) (utf8 (elements_text ts)) (93 ∷ []) refl bracket-bytes) in
    ap (λ l. l ++ after) all ∙ ap (λ l. 91 ∷ l) (append_assoc (utf8 (elements_text ts)) (93 ∷ []) after)

pub list-alone : (ts : Trees) → AreTuples ts → bytes (list ts) ≡ 91 ∷ (utf8 (elements_text ts) ++ 93 ∷ [])
list-alone ts are = sym (append-nil (bytes (list ts))) ∙ list-bytes ts [] are

-- rows of tuples, one behind the other
pub AreTuples-append : (ts us : Trees) → AreTuples ts → AreTuples us → AreTuples (append_trees ts us)
AreTuples-append none us are also = also
AreTuples-append (more (int n) ts) us are also = absurd are
AreTuples-append (more (atom cs) ts) us are also = absurd are
AreTuples-append (more (pid n) ts) us are also = absurd are
AreTuples-append (more (tuple vs) ts) us are also = AreTuples-append ts us are also
AreTuples-append (more (list vs) ts) us are also = absurd are

-- the bytes of a pid
pub pid-pieces : (n : ℕ) → codes "<0." ++ (bytes (int (pos n)) ++ codes ".0>") ≡ bytes (pid n)
unfolding utf8 encode
pid-pieces n = sym (ap (λ l. codes "<0." ++ l) (part (decimal n) (codes ".0>") (utf8 (decimal n)) (codes ".0>") refl refl))

-- Rows, element by element

others-append : (ts us : Trees) → utf8 (others_text (append_trees ts us)) ≡ utf8 (others_text ts) ++ utf8 (others_text us)
others-append none us = sym (ap (λ l. l ++ utf8 (others_text us)) utf8-nil)
others-append (more t ts) us =
    comma-front (text t ++ others_text (append_trees ts us)) ∙ ap (λ l. 44 ∷ l) (utf8-append (text t) (others_text (append_trees ts us)) ∙ ap (λ l. bytes t ++ l) (others-append ts us) ∙ sym (append_assoc (bytes t) (utf8 (others_text ts)) (utf8 (others_text us))) ∙ ap (λ l. l ++ utf8 (others_text us)) (sym (utf8-append (text t) (others_text ts))))
    ∙ ap (λ l. l ++ utf8 (others_text us)) (sym (comma-front (text t ++ others_text ts)))

-- nothing is left
pub listed-none : (is_first : Bool) (out : List ℕ) → out ++ utf8 (listed is_first none) ≡ out
listed-none true out = ap (λ l. out ++ l) utf8-nil ∙ append-nil out
listed-none false out = ap (λ l. out ++ l) utf8-nil ∙ append-nil out

pub listed-more : (is_first : Bool) (t : Tree) (ts : Trees) → utf8 (listed is_first (more t ts)) ≡ separator is_first ++ (bytes t ++ utf8 (listed false ts))
listed-more true t ts = utf8-append (text t) (others_text ts)
listed-more false t ts = comma-front (text t ++ others_text ts) ∙ ap (λ l. 44 ∷ l) (utf8-append (text t) (others_text ts))

-- a row behind another
pub listed-append : (is_first : Bool) (ts us : Trees) → utf8 (listed is_first (append_trees ts us)) ≡ utf8 (listed is_first ts) ++ utf8 (listed (is_first && is_none ts) us)
listed-append true none us = sym (ap (λ l. l ++ utf8 (elements_text us)) utf8-nil)
listed-append false none us = sym (ap (λ l. l ++ utf8 (others_text us)) utf8-nil)
listed-append true (more t ts) us =
    utf8-append (text t) (others_text (append_trees ts us)) ∙ ap (λ l. bytes t ++ l) (others-append ts us) ∙ sym (append_assoc (bytes t) (utf8 (others_text ts)) (utf8 (others_text us))) ∙ ap (λ l. l ++ utf8 (others_text us)) (sym (utf8-append (text t) (others_text ts)))
listed-append false (more t ts) us = others-append (more t ts) us

-- a row was written: what is left are the others
pub row_written : (is_first now : Bool) (ts us : Trees) (old out new whole : List ℕ) → old ++ whole ≡ out ++ utf8 (listed is_first (append_trees ts us)) → new ≡ out ++ utf8 (listed is_first ts) → now ≡ (is_first && is_none ts) → old ++ whole ≡ new ++ utf8 (listed now us)
row_written is_first now ts us old out new whole so_far wrote is =
    so_far ∙ ap (λ l. out ++ l) (listed-append is_first ts us) ∙ sym (append_assoc out (utf8 (listed is_first ts)) (utf8 (listed (is_first && is_none ts) us))) ∙ ap (λ l. l ++ utf8 (listed (is_first && is_none ts) us)) (sym wrote) ∙ ap (λ b. new ++ utf8 (listed b us)) (sym is)

-- all was written
pub all_written : (is_first : Bool) (left : Trees) (old out whole : List ℕ) → old ++ whole ≡ out ++ utf8 (listed is_first left) → left ≡ none → out ≡ old ++ whole
all_written is_first left old out whole so_far is = sym (so_far ∙ ap (λ ts. out ++ utf8 (listed is_first ts)) is ∙ listed-none is_first out)

-- an element was written: what is left are the others
pub element : (is_first : Bool) (t : Tree) (ts : Trees) (old out mid new whole : List ℕ) → old ++ whole ≡ out ++ utf8 (listed is_first (more t ts)) → mid ≡ out ++ separator is_first → new ≡ mid ++ bytes t → old ++ whole ≡ new ++ utf8 (listed false ts)
element is_first t ts old out mid new whole so_far sep wrote =
    so_far ∙ ap (λ l. out ++ l) (listed-more is_first t ts) ∙ sym (append_assoc out (separator is_first) (bytes t ++ utf8 (listed false ts))) ∙ ap (λ l. l ++ (bytes t ++ utf8 (listed false ts))) (sym sep) ∙ sym (append_assoc mid (bytes t) (utf8 (listed false ts))) ∙ ap (λ l. l ++ utf8 (listed false ts)) (sym wrote)

-- Indices in a list

-- the element at an index, and those behind it
pub at_index : {A : Type 0} (xs : List A) (index : ℕ) (x : A) → index < length xs → Some x ≡ slice_get xs index → drop index xs ≡ x ∷ drop (index + 1) xs
at_index xs index x within is = from_here xs index x within (ap (λ o. unwrap_or o x) is ∙ unwrap_or-slice_get xs index x)

-- behind an element none is the first
pub not_first : (index : ℕ) → eqb (index + 1) 0 ≡ false
not_first index = ne_eqb (index + 1) 0 (λ e. absurd (omega (arith, e)))

-- the elements from the end: the one at an index, and those before it
pub at_end : {A : Type 0} (xs : List A) (index k : ℕ) (x : A) → index + (k + 1) ≡ length xs → x ≡ get_or xs k x → reverse (take (length xs - index) xs) ≡ x ∷ reverse (take (length xs - (index + 1)) xs)
at_end xs index k x is e =
    let here : length xs - index ≡ k + 1 = omega (arith, is) in
    let behind : length xs - (index + 1) ≡ k = omega (arith, is) in
    let within : k < length xs = omega (arith, is) in
    ap (λ n. reverse (take n xs)) here ∙ ap reverse (take_more xs k x within) ∙ reverse-append (take k xs) (get_or xs k x ∷ []) ∙ ap (λ y. y ∷ reverse (take k xs)) (sym e) ∙ ap (λ n. x ∷ reverse (take n xs)) (sym behind)
