-- What takes changes back, the last first.
use Rattle.std.proofs.Common.{◌≡◌, ℕ, zero, suc, ◌-◌, ◌<◌, ◌≤◌, List, [], ◌∷◌, ◌++◌, length, drop, get_or, refl, sym, ap, subst, ◌∙◌, arith}
use Rattle.process_store.specs.Table.{Table}
use Rattle.process_effects.specs.Batches.{AllFit, FitsOne, all_undone, change_undone}
use Rattle.process_effects.specs.declared.change.Addition.{Addition}

undone_push : (cs : List Addition) (c : Addition) (t : Table) → all_undone (cs ++ c ∷ []) t ≡ all_undone cs (change_undone c t)
undone_push [] c t = refl
undone_push (d ∷ ds) c t = ap (change_undone d) (undone_push ds c t)

fits_push : (cs : List Addition) (c : Addition) (t : Table) → FitsOne c t → AllFit cs (change_undone c t) → AllFit (cs ++ c ∷ []) t
fits_push [] c t last rest = (tt, last)
fits_push (d ∷ ds) c t last rest =
    (fits_push ds c t last rest.0, subst (FitsOne d) (sym (undone_push ds c t)) rest.1)

-- a change that was made is noted

pub noted_back : (cs noted : List Addition) (c : Addition) (before after : Table) → noted ≡ cs ++ c ∷ [] → change_undone c after ≡ before → all_undone noted after ≡ all_undone cs before
noted_back cs noted c before after is back =
    ap (λ xs. all_undone xs after) is ∙ undone_push cs c after ∙ ap (all_undone cs) back

pub noted_fits : (cs noted : List Addition) (c : Addition) (before after : Table) → noted ≡ cs ++ c ∷ [] → change_undone c after ≡ before → FitsOne c after → AllFit cs before → AllFit noted after
noted_fits cs noted c before after is back can all =
    subst (λ xs. AllFit xs after) (sym is) (fits_push cs c after can (subst (AllFit cs) (sym back) all))

-- the one before those that are taken back can be

fits_at : (cs : List Addition) (k : ℕ) (d : Addition) (t : Table) → k < length cs → AllFit cs t → FitsOne (get_or cs k d) (all_undone (drop (suc k) cs) t)
fits_at [] k d t within all = absurd (omega (arith, within))
fits_at (c ∷ cs) zero d t within all = all.1
fits_at (c ∷ cs) (suc k) d t within all = fits_at cs k d t (omega (arith, within)) all.0

pub fits_next : (cs : List Addition) (index : ℕ) (d : Addition) (t now : Table) → 0 < index → index ≤ length cs → AllFit cs t → now ≡ all_undone (drop index cs) t → FitsOne (get_or cs (index - 1) d) now
fits_next cs index d t now some within all is =
    let k = index - 1 in
    let next : suc k ≡ index = omega (arith, some) in
    subst (FitsOne (get_or cs k d)) (sym (is ∙ ap (λ n. all_undone (drop n cs) t) (sym next))) (fits_at cs k d t (omega (arith, some, within)) all)
