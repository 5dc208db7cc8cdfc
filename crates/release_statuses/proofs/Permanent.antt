-- One release is permanent, before each change and after it.
use Rattle.std.proofs.Common.{◌≡◌, ℕ, false, ◌||◌, List, [], ◌∷◌, remove, Option, None, Some, IsSome, option_map}
use Rattle.std.proofs.Common.{refl, sym, ap, subst, ◌∙◌}
use Rattle.std.specs.List.{list_any}
use Rattle.std.proofs.lemmas.Bool.{cond_both}
use Rattle.std.proofs.lemmas.Option.{slice_get-map}
use Rattle.release_table.specs.declared.table.Release.{Release}
use Rattle.release_statuses.specs.declared.listed.Listed.{Listed}
use Rattle.release_statuses.specs.declared.status.Status.{Status}
use Rattle.release_statuses.specs.declared.status.Status.TheVariants.{Unpacked, Current, Permanent, Old}
use Rattle.release_statuses.specs.Statuses.{HasPermanent, has_status, installed, is_permanent, is_status, made_permanent}
use Rattle.release_statuses.specs.Statuses.{permanent_refusal, index_of, index_with, reboot_refusal, rebooted, remove_refusal}
use Rattle.release_statuses.specs.Statuses.{restarted, set_at, set_status, status_of, status_changed, unless_installed, unless_old}
use Rattle.release_statuses.specs.Statuses.{unless_permanent, with_status}
use Rattle.release_statuses.proofs.Standing.{Stands-index, index-status, index_of-same, releases-status_changed, status_changed_one}
use Rattle.release_statuses.proofs.Tests.{first-there, list_any-changed_at, list_any-changed_to, list_any-remove}

-- one stands somewhere
pub permanent-there : (xs : List Listed) → index_with Permanent xs ≡ None → HasPermanent xs → ⊥
permanent-there xs none has = first-there (has_status Permanent) xs none has

-- Removed: it isn't permanent.

unrefused_remove : (s : Status) → unless_permanent (Some s) ≡ None → is_status Permanent s ≡ false
unrefused_remove Unpacked none = refl
unrefused_remove Current none = refl
unrefused_remove Permanent none = absurd cc
unrefused_remove Old none = refl

pub permanent-removed : (vsn : List ℕ) (xs : List Listed) (index : ℕ) → index_of vsn xs ≡ Some index →
    remove_refusal vsn xs ≡ None → HasPermanent xs → HasPermanent (remove xs index)
permanent-removed vsn xs index at unrefused has =
    let s = Stands-index vsn xs index at in
    let other = unrefused_remove s.it.status (ap unless_permanent (sym s.status) ∙ unrefused) in
    list_any-remove (has_status Permanent) xs index s.it s.there other has

-- What was current is old: that leaves the permanent one.

permanent-status_changed_one : (it : Listed) → has_status Permanent (status_changed_one Current Old it) ≡ has_status Permanent it
permanent-status_changed_one it =
    by it.release it.status
  where
    by : (r : Release) (s : Status) →
        has_status Permanent (status_changed_one Current Old (record { release = r; status = s })) ≡ is_status Permanent s
    by r Unpacked = refl
    by r Current = refl
    by r Permanent = refl
    by r Old = refl

permanent-status_changed : (xs : List Listed) →
    list_any (has_status Permanent) (status_changed Current Old xs) ≡ list_any (has_status Permanent) xs
permanent-status_changed [] = refl
permanent-status_changed (x ∷ xs) = λ i. permanent-status_changed_one x i || permanent-status_changed xs i

pub permanent-restarted : (xs : List Listed) → HasPermanent xs → HasPermanent (restarted xs)
permanent-restarted xs has = permanent-status_changed xs ∙ has

-- Installed: a release that isn't permanent is current.

permanent-current : (vsn : List ℕ) (xs : List Listed) (o : Option ℕ) → index_of vsn xs ≡ o →
    is_permanent (status_of vsn xs) ≡ false → HasPermanent xs → HasPermanent (set_at Current o (status_changed Current Old xs))
permanent-current vsn xs None at other has = permanent-restarted xs has
permanent-current vsn xs (Some index) at other has =
    let s = Stands-index vsn xs index at in
    let ts = status_changed Current Old xs in
    let it = status_changed_one Current Old s.it in
    let here = slice_get-map (status_changed_one Current Old) xs index ∙ ap (option_map (status_changed_one Current Old)) s.there in
    let fails = permanent-status_changed_one s.it ∙ sym (ap is_permanent s.status) ∙ other in
    let still = permanent-restarted xs has in
    list_any-changed_at (has_status Permanent) (with_status Current) ts index it here fails still

pub permanent-installed : (vsn : List ℕ) (xs : List Listed) → HasPermanent xs → HasPermanent (installed vsn xs)
permanent-installed vsn xs has =
    let ts = status_changed Current Old xs in
    let index = sym (index_of-same vsn xs ts (releases-status_changed Current Old xs)) in
    cond_both (is_permanent (status_of vsn xs)) ts (set_status vsn Current ts) HasPermanent (λ _. permanent-restarted xs has)
    (λ other. permanent-current vsn xs (index_of vsn ts) index other has)

-- Made permanent: a release is, where one stands.

permanent-set : (vsn : List ℕ) (xs : List Listed) (index : ℕ) → index_of vsn xs ≡ Some index →
    HasPermanent (set_status vsn Permanent xs)
permanent-set vsn xs index at =
    let s = Stands-index vsn xs index at in
    subst (λ o. HasPermanent (set_at Permanent o xs)) (sym at)
    (list_any-changed_to (has_status Permanent) (with_status Permanent) xs index s.it s.there refl)

some_installed : (o : Option Status) → unless_installed o ≡ None → IsSome o
some_installed None none = absurd cc
some_installed (Some s) none = refl

pub permanent-made_permanent : (vsn : List ℕ) (xs : List Listed) → permanent_refusal vsn xs ≡ None → HasPermanent xs →
    HasPermanent (made_permanent vsn xs)
permanent-made_permanent vsn xs unrefused has =
    let ts = status_changed Permanent Old xs in
    let at = index-status vsn xs (some_installed (status_of vsn xs) unrefused) in
    let still = index_of-same vsn xs ts (releases-status_changed Permanent Old xs) ∙ at.1 in
    cond_both (is_permanent (status_of vsn xs)) xs (set_status vsn Permanent ts) HasPermanent (λ _. has)
    (λ _. permanent-set vsn ts at.0 still)

some_old : (o : Option Status) → unless_old o ≡ None → IsSome o
some_old None none = absurd cc
some_old (Some s) none = refl

pub permanent-rebooted : (vsn : List ℕ) (xs : List Listed) → reboot_refusal vsn xs ≡ None → HasPermanent (rebooted vsn xs)
permanent-rebooted vsn xs unrefused =
    let rs = restarted xs in
    let ts = status_changed Permanent Old rs in
    let at = index-status vsn xs (some_old (status_of vsn xs) unrefused) in
    let still = index_of-same vsn xs ts (releases-status_changed Permanent Old rs ∙ releases-status_changed Current Old xs) ∙ at.1 in
    permanent-set vsn ts at.0 still
