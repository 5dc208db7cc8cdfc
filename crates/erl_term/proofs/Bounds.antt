-- Lemmas on process identifiers and bounds of terms in a row.
use Rattle.std.proofs.Common.{◌≡◌, ℕ, ◌+◌, ◌<◌, Bool, true, false, ◌&&◌, ◌||◌, ◌≤◌, List, [], ◌∷◌, ◌++◌, length, get_or, take, refl, ap, ap₂, sym, ◌∙◌, le-leb}
use Rattle.std.specs.Str.{chars, IsUtf8}
use Rattle.std.proofs.lemmas.Str.{scalars-chars}
use lib.Utf8.{scalars}
use Rattle.erl_term.specs.declared.term.Term.TheVariants.{Atom as AtomOf}
use Rattle.erl_term.specs.declared.term.Term.{Term}
use Rattle.erl_term.specs.RoundTrip.{has_pids, have_pids, is_bounded, are_bounded}
use Rattle.erl_term.specs.Term.{tree, trees}
use Rattle.erl_term.proofs.Rows.{take_here}

or-assoc : (a b c : Bool) → a || (b || c) ≡ (a || b) || c
or-assoc true b c = refl
or-assoc false b c = refl

or-false : (a : Bool) → a || false ≡ false || a
or-false true = refl
or-false false = refl

and-assoc : (a b c : Bool) → a && (b && c) ≡ (a && b) && c
and-assoc true b c = refl
and-assoc false b c = refl

and-true : (a : Bool) → a && true ≡ true && a
and-true true = refl
and-true false = refl

have_pids-push : (ts : List Term) (t : Term) → have_pids (trees (ts ++ t ∷ [])) ≡ have_pids (trees ts) || has_pids (tree t)
have_pids-push [] t = or-false (has_pids (tree t))
have_pids-push (u ∷ us) t =
    ap (λ b. has_pids (tree u) || b) (have_pids-push us t) ∙ or-assoc (has_pids (tree u)) (have_pids (trees us)) (has_pids (tree t))

are_bounded-push : (ts : List Term) (t : Term) → are_bounded (trees (ts ++ t ∷ [])) ≡ are_bounded (trees ts) && is_bounded (tree t)
are_bounded-push [] t = and-true (is_bounded (tree t))
are_bounded-push (u ∷ us) t =
    ap (λ b. is_bounded (tree u) && b) (are_bounded-push us t) ∙ and-assoc (is_bounded (tree u)) (are_bounded (trees us)) (is_bounded (tree t))

-- the terms so far and the next
pub have_pids-more : (items : List Term) (i : ℕ) (t : Term) (have has : Bool) → i < length items → t ≡ get_or items i t → have ≡ have_pids (trees (take i items)) → has ≡ has_pids (tree t) → have || has ≡ have_pids (trees (take (i + 1) items))
have_pids-more items i t have has within is so_far here =
    ap (λ b. b || has) so_far ∙ (ap (λ b. have_pids (trees (take i items)) || b) here ∙ (sym (have_pids-push (take i items) t) ∙ ap (λ ts. have_pids (trees ts)) (sym (take_here items i t within is))))

pub are_bounded-more : (items : List Term) (i : ℕ) (t : Term) → i < length items → t ≡ get_or items i t → are_bounded (trees (take i items)) ≡ true → is_bounded (tree t) ≡ true → are_bounded (trees (take (i + 1) items)) ≡ true
are_bounded-more items i t within is so_far here =
    ap (λ ts. are_bounded (trees ts)) (take_here items i t within is) ∙ (are_bounded-push (take i items) t ∙ (ap (λ b. b && is_bounded (tree t)) so_far ∙ here))

-- an atom's characters
pub atom_bounded : (t : Term) (cs bytes : List ℕ) → t ≡ AtomOf cs → chars bytes ≡ cs → length cs ≤ 255 → IsUtf8 bytes → is_bounded (tree t) ≡ true
atom_bounded t cs bytes is chars_are short utf8 =
    ap (λ u. is_bounded (tree u)) is ∙ ap₂ (λ a b. a && b) (le-leb (length cs) 255 short) (ap scalars (sym chars_are) ∙ scalars-chars bytes utf8)
