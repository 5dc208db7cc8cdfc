-- What is kept suspended after one instruction more.
use Rattle.std.proofs.Common.{◌≡◌, ◌∙◌, ℕ, ◌+◌, ◌<◌, Bool, false, List, [], ◌∷◌, ◌++◌, length, take, get_or, refl, sym, ap}
use Rattle.std.proofs.lemmas.List.{take_more}
use Rattle.low_instructions.specs.declared.low.Low.{Low}
use Rattle.upgrade_review.specs.Suspended.{through}

-- one instruction more
through-more : (after : Bool → Low → Bool) (kept : Bool) (script : List Low) (low : Low) →
    through after kept (script ++ low ∷ []) ≡ after (through after kept script) low
unfolding through
through-more after kept [] low = refl
through-more after kept (first ∷ script) low = through-more after (after kept first) script low

pub through-none : (after : Bool → Low → Bool) (kept : Bool) → through after kept [] ≡ kept
unfolding through
through-none after kept = refl

pub through-next : (after : Bool → Low → Bool) (script : List Low) (n : ℕ) (low : Low) (kept : Bool) → n < length script →
    low ≡ get_or script n low → kept ≡ through after false (take n script) →
    after kept low ≡ through after false (take (n + 1) script)
through-next after script n low kept within item so_far =
    ap (λ b. after b low) so_far ∙ sym (through-more after false (take n script) low)
    ∙ ap (through after false) (sym (take_more script n low within ∙ ap (λ y. take n script ++ y ∷ []) (sym item)))
