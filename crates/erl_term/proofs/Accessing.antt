-- Lemmas on what rows are read as.
use Rattle.std.proofs.Common.{◌≡◌, ℕ, ◌+◌, ◌<◌, List, [], ◌∷◌, ◌++◌, length, get_or, drop, Option, Some, None, option_map, option_and_then, sym, ap, ◌∙◌, refl, append_assoc, arith}
use Rattle.std.specs.Prelude.{encode_utf8, encode_utf8_all}
use Rattle.std.specs.Str.{chars}
use Rattle.std.proofs.lemmas.Str.{chars_from_encodes}
use Rattle.std.specs.Str.{IsUtf8}
use lib.Utf8.{encodes}
use Rattle.std.proofs.lemmas.List.{drop_more, append-nil}
use Rattle.erl_term.specs.declared.term.Term.{Term}
use Rattle.erl_term.specs.Tree.{Tree, Trees, none, more}
use Rattle.erl_term.specs.Accessors.{first_of, one_of, all_of, char_of}
use Rattle.erl_term.specs.Term.{tree, trees}

abbrev row_of : Option (Tree × Trees) → Trees
row_of None = none
row_of (Some p) = more p.0 p.1

-- a row by its first term and the others
pub first_of-is : (row : Trees) (t : Tree) (ts : Trees) → first_of row ≡ Some (t, ts) → row ≡ more t ts
first_of-is none t ts e = absurd (let no : ⊥ = cc in no)
first_of-is (more u us) t ts e = ap (λ o. row_of o) e

pub one_of-first : (row : Trees) (t : Tree) (rest : List Term) → first_of row ≡ Some (t, trees rest) → (length rest ≡ 0 → one_of row ≡ Some t) × ((length rest ≡ 0 → ⊥) → one_of row ≡ None)
one_of-first row t [] e = (λ _. ap one_of (first_of-is row t none e), λ other. absurd (other refl))
one_of-first row t (u ∷ us) e =
    (λ empty. absurd (omega (arith, empty)), λ _. ap one_of (first_of-is row t (more (tree u) (trees us)) e))

-- Strings, character by character: `whole` is what the bytes so far and the rest make

joined : (bytes : List ℕ) (c : ℕ) (rest : Option (List ℕ)) → option_map (λ r. bytes ++ encode_utf8_all r) (option_map (λ cs. c ∷ cs) rest) ≡ option_map (λ r. (bytes ++ encode_utf8 c) ++ encode_utf8_all r) rest
joined bytes c None = refl
joined bytes c (Some cs) = ap Some (sym (append_assoc bytes (encode_utf8 c) (encode_utf8_all cs)))

here : (items : List Term) (i : ℕ) (t : Term) → i < length items → t ≡ get_or items i t → all_of char_of (trees (drop i items)) ≡ option_and_then (λ a. option_map (λ as'. a ∷ as') (all_of char_of (trees (drop (i + 1) items)))) (char_of (tree t))
here items i t within is =
    ap (λ ts. all_of char_of (trees ts)) (drop_more items i t within ∙ ap (λ u. u ∷ drop (i + 1) items) (sym is))

pub string-more : (items : List Term) (i : ℕ) (t : Term) (c : ℕ) (bytes : List ℕ) (whole : Option (List ℕ)) → i < length items → t ≡ get_or items i t → Some c ≡ char_of (tree t) → whole ≡ option_map (λ r. bytes ++ encode_utf8_all r) (all_of char_of (trees (drop i items))) → whole ≡ option_map (λ r. (bytes ++ encode_utf8 c) ++ encode_utf8_all r) (all_of char_of (trees (drop (i + 1) items)))
string-more items i t c bytes whole within is read so_far =
    let rest = all_of char_of (trees (drop (i + 1) items)) in
    so_far ∙ ap (λ o. option_map (λ r. bytes ++ encode_utf8_all r) o) (here items i t within is ∙ ap (λ o. option_and_then (λ a. option_map (λ as'. a ∷ as') rest) o) (sym read)) ∙ joined bytes c rest

pub string-none : (items : List Term) (i : ℕ) (t : Term) (bytes : List ℕ) (whole : Option (List ℕ)) → i < length items → t ≡ get_or items i t → None ≡ char_of (tree t) → whole ≡ option_map (λ r. bytes ++ encode_utf8_all r) (all_of char_of (trees (drop i items))) → whole ≡ None
string-none items i t bytes whole within is read so_far =
    let rest = all_of char_of (trees (drop (i + 1) items)) in
    so_far ∙ ap (λ o. option_map (λ r. bytes ++ encode_utf8_all r) o) (here items i t within is ∙ ap (λ o. option_and_then (λ a. option_map (λ as'. a ∷ as') rest) o) (sym read))

pub string-end : (items : List Term) (i : ℕ) (bytes : List ℕ) (whole : Option (List ℕ)) → drop i items ≡ [] → whole ≡ option_map (λ r. bytes ++ encode_utf8_all r) (all_of char_of (trees (drop i items))) → whole ≡ Some bytes
string-end items i bytes whole passed so_far =
    so_far ∙ ap (λ ts. option_map (λ r. bytes ++ encode_utf8_all r) (all_of char_of (trees ts))) passed ∙ ap Some (append-nil bytes)

-- the characters by their bytes

encodes_all : (cs : List ℕ) → encodes cs ≡ encode_utf8_all cs
encodes_all [] = refl
encodes_all (c ∷ cs) = ap (λ l. encode_utf8 c ++ l) (encodes_all cs)

pub as_chars : (o : Option (List ℕ)) (bs : List ℕ) → IsUtf8 bs → option_map encode_utf8_all o ≡ Some bs → o ≡ Some (chars bs)
as_chars None bs u e = absurd (let no : ⊥ = cc in no)
as_chars (Some cs) bs u e =
    let same : encode_utf8_all cs ≡ bs = cc in
    ap Some (chars_from_encodes cs bs u (encodes_all cs ∙ same))
