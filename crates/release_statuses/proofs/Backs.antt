-- What takes each change back.
use Rattle.std.proofs.Common.{◌≡◌, ℕ, ◌<◌, List, [], ◌∷◌, get_or, length, drop, insert, remove, slice_get}
use Rattle.std.proofs.Common.{None, Some, refl, sym, ap, subst, ◌∙◌, arith}
use Rattle.std.proofs.lemmas.List.{length-map}
use Rattle.std.proofs.lemmas.List.Edits.{length-remove}
use Rattle.values.proofs.Edits.{insert-remove}
use Rattle.release_table.specs.declared.table.Release.{Release}
use Rattle.release_statuses.specs.declared.listed.Listed.{Listed}
use Rattle.release_statuses.specs.declared.status.Status.{Status}
use Rattle.release_statuses.specs.declared.undo.ReleasesUndo.{ReleasesUndo}
use Rattle.release_statuses.specs.declared.undo.ReleasesUndo.TheVariants.{Removed, Statuses}
use Rattle.release_statuses.specs.Statuses.{HasPermanent, index_of, vsn_of}
use Rattle.release_statuses.specs.Undo.{IsAbsent, IsPlaced, TakesBack, undone, with_statuses}
use Rattle.release_statuses.proofs.Standing.{releases_of, statuses_of}

-- `before` are the releases by the list of their fields, and `now` the releases
taken_back : (undo : ReleasesUndo) (before now after : List Listed) → IsPlaced undo after → IsAbsent undo after →
    undone undo after ≡ before → HasPermanent before → before ≡ now → TakesBack undo now after
taken_back undo before now after placed absent back has same = record {
  fits = record { placed = placed; kept = subst HasPermanent (sym back) has; absent = absent };
  back = back ∙ same;
}

pub Removed-back : (index : ℕ) (it : Listed) (before now after : List Listed) → slice_get before index ≡ Some it →
    index < length before → after ≡ remove before index → index_of (vsn_of it) after ≡ None → HasPermanent before →
    before ≡ now → TakesBack (Removed index it) now after
Removed-back index it before now after at within is absent has same =
    let back : insert after index it ≡ before = ap (λ xs. insert xs index it) is ∙ insert-remove before index it at in
    let shorter = length-remove before index within in
    taken_back (Removed index it) before now after (omega (arith, ap length is, shorter, within)) absent back has same

-- releases that are the same get the statuses that they had
with_statuses-back : (xs ys : List Listed) → releases_of ys ≡ releases_of xs → with_statuses (statuses_of xs) ys ≡ xs
with_statuses-back [] [] same = refl
with_statuses-back [] (y ∷ ys) same = absurd (omega (arith, ap length same))
with_statuses-back (x ∷ xs) [] same = absurd (omega (arith, ap length same))
with_statuses-back (x ∷ xs) (y ∷ ys) same =
    let first : y.release ≡ x.release = ap (λ (rs : List Release). get_or rs 0 x.release) same in
    let others : releases_of ys ≡ releases_of xs = ap (λ (rs : List Release). drop 1 rs) same in
    let back = with_statuses-back xs ys others in
    λ i. record { release = first i; status = x.status } ∷ back i

pub Statuses-back : (row : List Status) (before now after : List Listed) → row ≡ statuses_of before →
    releases_of after ≡ releases_of before → HasPermanent before → before ≡ now → TakesBack (Statuses row) now after
Statuses-back row before now after is kept has same =
    let back : with_statuses row after ≡ before = ap (λ ss. with_statuses ss after) is ∙ with_statuses-back before after kept in
    let former = length-map before (λ (it : Listed). it.status) in
    let one = length-map before (λ (it : Listed). it.release) in
    let other = length-map after (λ (it : Listed). it.release) in
    let placed : length row ≡ length after = omega (arith, ap length is, former, ap length kept, one, other) in
    taken_back (Statuses row) before now after placed tt back has same
