-- The release of a version at its index, and what a change of statuses leaves of it.
use Rattle.std.proofs.Common.{◌≡◌, ℕ, ◌+◌, ◌<◌, Bool, true, false, not, cond, List, [], ◌∷◌, length, map, slice_get}
use Rattle.std.proofs.Common.{Option, None, Some, IsSome, is_some, option_and_then, option_map, inl, inr, refl, sym, ap, ◌∙◌}
use Rattle.std.proofs.Common.{arith}
use Rattle.std.specs.List.{position, position_or_len}
use Rattle.std.specs.Prelude.{nat_lt}
use Rattle.std.specs.Str.{bytes_eq}
use Rattle.std.proofs.lemmas.List.{length-map}
use Rattle.std.proofs.lemmas.Bool.{false≢true}
use Rattle.std.proofs.lemmas.Option.{slice_get_cases}
use Rattle.values.proofs.Edits.{map-changed_at}
use Rattle.release_table.specs.declared.table.Release.{Release}
use Rattle.release_statuses.specs.declared.listed.Listed.{Listed}
use Rattle.release_statuses.specs.declared.status.Status.{Status}
use Rattle.release_statuses.specs.declared.status.Status.TheVariants.{Current, Permanent, Old}
use Rattle.release_statuses.specs.Statuses.{has_status, installed, is_permanent, made_permanent}
use Rattle.release_statuses.specs.Statuses.{index_of, rebooted, restarted, set_at, set_status, status_of}
use Rattle.release_statuses.specs.Statuses.{status_changed, vsn_of, with_status}
use Rattle.release_statuses.proofs.Tests.{first-within}

-- one release, changed
abbrev pub status_changed_one : Status → Status → Listed → Listed
status_changed_one from to it = cond (has_status from it) (with_status to it) it

abbrev pub releases_of : List Listed → List Release
releases_of xs = map (λ (it : Listed). it.release) xs

abbrev pub statuses_of : List Listed → List Status
statuses_of xs = map (λ (it : Listed). it.status) xs

pub none_unless : {A : Type 0} (o : Option A) → ((x : A) → o ≡ Some x → ⊥) → o ≡ None
none_unless None some = refl
none_unless (Some x) some = absurd (some x refl)

-- A release stands at its index.

pub record Stands (vsn : List ℕ) (xs : List Listed) (index : ℕ) : Type 0 where
  pub it : Listed
  pub there : slice_get xs index ≡ Some it
  pub within : index < length xs
  pub status : status_of vsn xs ≡ Some it.status

pub Stands-index : (vsn : List ℕ) (xs : List Listed) (index : ℕ) → index_of vsn xs ≡ Some index → Stands vsn xs index
Stands-index vsn xs index at =
    let within = first-within (λ (it : Listed). bytes_eq vsn (vsn_of it)) xs index at in
    elim (slice_get_cases xs index).1 [
      | inl some ↦ record {
        it = some.0;
        there = some.2;
        within = within;
        status = ap (λ o. option_map (λ (it : Listed). it.status) (option_and_then (slice_get xs) o)) at ∙
            ap (option_map (λ (it : Listed). it.status)) some.2;
      }
      | inr past ↦ absurd (omega (arith, within, past.0))
    ]

-- a release that has a status stands somewhere
pub index-status : (vsn : List ℕ) (xs : List Listed) → IsSome (status_of vsn xs) → (index : ℕ) × (index_of vsn xs ≡ Some index)
index-status vsn xs some =
    by (index_of vsn xs) refl
  where
    by : (o : Option ℕ) → index_of vsn xs ≡ o → (index : ℕ) × (index_of vsn xs ≡ Some index)
    by None none =
        let nowhere = ap (λ o. option_map (λ (it : Listed). it.status) (option_and_then (slice_get xs) o)) none in
        absurd (false≢true (sym (ap is_some nowhere) ∙ some))
    by (Some index) at = (index, at)

-- No change of statuses touches the releases.

release-status_changed_one : (b : Bool) (to : Status) (it : Listed) → (cond b (with_status to it) it).release ≡ it.release
release-status_changed_one true to it = refl
release-status_changed_one false to it = refl

pub releases-status_changed : (from to : Status) (xs : List Listed) → releases_of (status_changed from to xs) ≡ releases_of xs
releases-status_changed from to [] = refl
releases-status_changed from to (x ∷ xs) = λ i. release-status_changed_one (has_status from x) to x i ∷ releases-status_changed from to xs i

pub releases-set_at : (status : Status) (index : Option ℕ) (xs : List Listed) →
    releases_of (set_at status index xs) ≡ releases_of xs
releases-set_at status None xs = refl
releases-set_at status (Some index) xs = map-changed_at (λ (it : Listed). it.release) (with_status status) (λ it. refl) xs index

releases-cond : (b : Bool) (xs ys zs : List Listed) → releases_of xs ≡ releases_of zs → releases_of ys ≡ releases_of zs →
    releases_of (cond b xs ys) ≡ releases_of zs
releases-cond true xs ys zs one other = one
releases-cond false xs ys zs one other = other

pub releases-installed : (vsn : List ℕ) (xs : List Listed) → releases_of (installed vsn xs) ≡ releases_of xs
releases-installed vsn xs =
    let ts = status_changed Current Old xs in
    let same = releases-status_changed Current Old xs in
    releases-cond (is_permanent (status_of vsn xs)) ts (set_status vsn Current ts) xs same
    (releases-set_at Current (index_of vsn ts) ts ∙ same)

pub releases-made_permanent : (vsn : List ℕ) (xs : List Listed) → releases_of (made_permanent vsn xs) ≡ releases_of xs
releases-made_permanent vsn xs =
    let ts = status_changed Permanent Old xs in
    releases-cond (is_permanent (status_of vsn xs)) xs (set_status vsn Permanent ts) xs refl
    (releases-set_at Permanent (index_of vsn ts) ts ∙ releases-status_changed Permanent Old xs)

pub releases-rebooted : (vsn : List ℕ) (xs : List Listed) → releases_of (rebooted vsn xs) ≡ releases_of xs
releases-rebooted vsn xs =
    let rs = restarted xs in
    let ts = status_changed Permanent Old rs in
    releases-set_at Permanent (index_of vsn ts) ts ∙ releases-status_changed Permanent Old rs ∙ releases-status_changed Current Old xs

-- So each stands where it stood.

index-releases : (q : Release → Bool) (xs : List Listed) →
    position_or_len (λ (it : Listed). q it.release) xs ≡ position_or_len q (releases_of xs)
index-releases q [] = refl
index-releases q (x ∷ xs) = ap (λ n. cond (not (q x.release)) (1 + n) 0) (index-releases q xs)

position-releases : (q : Release → Bool) (xs : List Listed) →
    position (λ (it : Listed). q it.release) xs ≡ position q (releases_of xs)
position-releases q xs =
    let first = index-releases q xs in
    let long = length-map xs (λ (it : Listed). it.release) in
    λ i. cond (nat_lt (first i) (sym long i)) (Some (first i)) None

pub index_of-same : (vsn : List ℕ) (xs ys : List Listed) → releases_of ys ≡ releases_of xs → index_of vsn ys ≡ index_of vsn xs
index_of-same vsn xs ys same =
    let of_vsn = λ (r : Release). bytes_eq vsn r.rel.vsn in
    position-releases of_vsn ys ∙ ap (position of_vsn) same ∙ sym (position-releases of_vsn xs)
