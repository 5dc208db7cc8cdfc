-- The findings about the parts of an upgrade are the findings about the upgrade.
use Rattle.std.proofs.Common.{◌≡◌, ℕ, List, [], None, Some, Option, Contains, ◌⊎◌, ◌↔◌, inl, inr, length, refl, sym, subst}
use Rattle.std.proofs.lemmas.Option.{get_or_from_slice_get, none-some, slice_get_read, slice_get_within}
use Rattle.std.specs.List.{slice_get}
use Rattle.low_instructions.specs.declared.low.Low.{Low}
use Rattle.low_instructions.specs.declared.low.Low.TheVariants.{LoadObjectCode, PointOfNoReturn, Load, Remove, Purge, Suspend}
use Rattle.low_instructions.specs.declared.low.Low.TheVariants.{Resume, CodeChange, Stop, Start, Apply}
use Rattle.release_table.specs.declared.table.Release.{Release}
use Rattle.upgrade_review.proofs.Adding.{adds_both, from_nothing, none_twice}
use Rattle.upgrade_review.specs.Findings.{AreDifferent, IsAmiss, IsFound, not_loaded, loaded_again, no_code_change, starts}
use Rattle.upgrade_review.specs.Findings.{restarts, stops, no_way_down, not_undone}
use Rattle.upgrade_review.specs.Gathering.{Adds, FromEach, IsFoundAt, IsFoundIn, IsNotLoadedIn, IsNotLoadedOf, IsNotUndoneAt}
use Rattle.upgrade_review.specs.Gathering.{IsStart, IsStop}
use Rattle.upgrade_review.specs.Gathering.{OfApp}
use Rattle.upgrade_review.specs.Scripts.{started_by, stopped_by}
use Rattle.upgrade_review.specs.declared.finding.Finding.{Finding}
use Rattle.upgrade_review.specs.declared.finding.Finding.TheVariants.{NoWayDown}

-- an item of a list, and the same at its index
at_index : {X : Type 0} (xs : List X) (k : ℕ) (x : X) → slice_get xs k ≡ Some x → Contains xs x
at_index xs k x is = (k, slice_get_within xs k x is, get_or_from_slice_get xs k x x is)

index_of : {X : Type 0} (xs : List X) (x : X) (there : Contains xs x) → slice_get xs there.0 ≡ Some x
index_of xs x there = slice_get_read xs (length xs) there.0 x refl there.1 (sym there.2)

module _ (left installed : Release) (script : List Low) (f : Finding) where
  of_modules : IsNotLoadedIn left installed script f → IsFound left installed script f
  of_modules w =
      let one = w.3.3 in
      not_loaded w.1 w.3.1 (at_index installed.apps w.0 w.1 w.2) (at_index w.1.modules w.3.0 w.3.1 w.3.2) one.0 one.1 one.2

  of_start : (i : ℕ) (low : Low) (app : List ℕ) → slice_get script i ≡ Some low → started_by low ≡ Some app →
      IsStart script i app f → IsFound left installed script f
  of_start i low app is by either = elim either [
    | inl first ↦ starts i low app is by first.0 first.1
    | inr again ↦ restarts i low app is by again.0 again.1
  ]

  of_apply : (i : ℕ) (low : Low) → slice_get script i ≡ Some low →
      OfApp (IsStart script i) (started_by low) f ⊎ OfApp (IsStop script i) (stopped_by low) f → IsFound left installed script f
  of_apply i low is either = elim either [
    | inl w ↦ of_start i low w.0 is w.1 w.2
    | inr w ↦ stops i low w.0 is w.1 w.2.0 w.2.1
  ]

  of_instruction : (i : ℕ) (low : Low) → slice_get script i ≡ Some low → IsFoundAt left installed script i low f →
      IsFound left installed script f
  of_instruction i (LoadObjectCode application version modules) is w = absurd w
  of_instruction i PointOfNoReturn is w = absurd w
  of_instruction i (Load name pre post) is w = loaded_again i name pre post w.0.0 is w.0.1 w.0.2 w.1 w.2
  of_instruction i (Remove name pre post) is w = absurd w
  of_instruction i (Purge modules) is w = absurd w
  of_instruction i (Suspend modules) is w = absurd w
  of_instruction i (Resume modules) is w = absurd w
  of_instruction i (CodeChange way changes) is w =
      no_code_change i way changes w.1 w.3.1.0 is (at_index changes w.0 w.1 w.2) w.3.0 w.3.1.1 w.3.1.2 w.3.2
  of_instruction i (Stop modules) is w = absurd w
  of_instruction i (Start modules) is w = absurd w
  of_instruction i (Apply name function arguments) is w = of_apply i (Apply name function arguments) is w

  of_parts : IsNotLoadedIn left installed script f ⊎ IsFoundIn left installed script f → IsFound left installed script f
  of_parts either = elim either [ inl w ↦ of_modules w | inr w ↦ of_instruction w.0 w.1 w.2 w.3 ]

  start_at : (i : ℕ) (low : Low) (app : List ℕ) → started_by low ≡ Some app → IsStart script i app f →
      IsFoundAt left installed script i low f
  start_at i (LoadObjectCode application version modules) app by w = absurd (none-some app by)
  start_at i PointOfNoReturn app by w = absurd (none-some app by)
  start_at i (Load name pre post) app by w = absurd (none-some app by)
  start_at i (Remove name pre post) app by w = absurd (none-some app by)
  start_at i (Purge modules) app by w = absurd (none-some app by)
  start_at i (Suspend modules) app by w = absurd (none-some app by)
  start_at i (Resume modules) app by w = absurd (none-some app by)
  start_at i (CodeChange way changes) app by w = absurd (none-some app by)
  start_at i (Stop modules) app by w = absurd (none-some app by)
  start_at i (Start modules) app by w = absurd (none-some app by)
  start_at i (Apply name function arguments) app by w = inl (app, by, w)

  stop_at : (i : ℕ) (low : Low) (app : List ℕ) → stopped_by low ≡ Some app → IsStop script i app f →
      IsFoundAt left installed script i low f
  stop_at i (LoadObjectCode application version modules) app by w = absurd (none-some app by)
  stop_at i PointOfNoReturn app by w = absurd (none-some app by)
  stop_at i (Load name pre post) app by w = absurd (none-some app by)
  stop_at i (Remove name pre post) app by w = absurd (none-some app by)
  stop_at i (Purge modules) app by w = absurd (none-some app by)
  stop_at i (Suspend modules) app by w = absurd (none-some app by)
  stop_at i (Resume modules) app by w = absurd (none-some app by)
  stop_at i (CodeChange way changes) app by w = absurd (none-some app by)
  stop_at i (Stop modules) app by w = absurd (none-some app by)
  stop_at i (Start modules) app by w = absurd (none-some app by)
  stop_at i (Apply name function arguments) app by w = inr (app, by, w)

  in_parts : IsFound left installed script f → IsNotLoadedIn left installed script f ⊎ IsFoundIn left installed script f
  in_parts (not_loaded a c in_apps in_modules other unloaded is) =
      let one : IsNotLoadedOf left script a f = (in_modules.0, c, index_of a.modules c in_modules, (other, unloaded, is)) in
      inl (in_apps.0, a, index_of installed.apps a in_apps, one)
  in_parts (loaded_again i m pre post c at before after kept is) = inr (i, Load m pre post, at, ((c, before, after), kept, is))
  in_parts (no_code_change i way changes change c at among plain code lacks is) =
      inr (i, CodeChange way changes, at, (among.0, change, index_of changes change among, (plain, (c, code, lacks), is)))
  in_parts (starts i low app at by before is) = inr (i, low, at, start_at i low app by (inl (before, is)))
  in_parts (restarts i low app at by before is) = inr (i, low, at, start_at i low app by (inr (before, is)))
  in_parts (stops i low app at by behind is) = inr (i, low, at, stop_at i low app by (behind, is))

-- the findings about the modules, and then those about the instructions, are all findings
pub found_of_parts : (left installed : Release) (script : List Low) (before between found : List Finding) → before ≡ [] →
    Adds (IsNotLoadedIn left installed script) before between → Adds (IsFoundIn left installed script) between found →
    (f : Finding) → Contains found f ↔ IsFound left installed script f
found_of_parts left installed script before between found nothing first second f =
    let P : Finding → Type 0 = λ g. IsNotLoadedIn left installed script g ⊎ IsFoundIn left installed script g in
    let both : Adds P before found =
    adds_both (IsNotLoadedIn left installed script) (IsFoundIn left installed script) before between found first second in
    let there = from_nothing P found (subst (λ found'. Adds P found' found) nothing both) f in
    ((λ w. of_parts left installed script f (there.0 w)), (λ w. there.1 (in_parts left installed script f w)))

pub once_of_parts : (P Q : Finding → Type 0) (before between found : List Finding) → before ≡ [] → Adds P before between →
    Adds Q between found → AreDifferent found
once_of_parts P Q before between found nothing first second =
    second.once (first.once (subst AreDifferent (sym nothing) none_twice))

-- On the way down.

module _ (up down : List Low) (f : Finding) where
  of_undone : (i : ℕ) (low : Low) → slice_get up i ≡ Some low → IsNotUndoneAt down i low f → IsAmiss up (Some down) f
  of_undone i (LoadObjectCode application version modules) is w = absurd w
  of_undone i PointOfNoReturn is w = absurd w
  of_undone i (Load name pre post) is w = not_undone down i name pre post refl is w.0 w.1 w.2
  of_undone i (Remove name pre post) is w = absurd w
  of_undone i (Purge modules) is w = absurd w
  of_undone i (Suspend modules) is w = absurd w
  of_undone i (Resume modules) is w = absurd w
  of_undone i (CodeChange way changes) is w = absurd w
  of_undone i (Stop modules) is w = absurd w
  of_undone i (Start modules) is w = absurd w
  of_undone i (Apply name function arguments) is w = absurd w

  undone_in : IsAmiss up (Some down) f → FromEach (IsNotUndoneAt down) up f
  undone_in (no_way_down none is) = absurd (none-some down (sym none))
  undone_in (not_undone script i m pre post same at loaded removed is) =
      let it : script ≡ down = cc in
      (i, Load m pre post, at, subst (λ d. IsNotUndoneAt d i (Load m pre post) f) it (loaded, removed, is))

pub amiss_down : (up down : List Low) (way : Option (List Low)) (before new found : List Finding) → way ≡ Some down →
    before ≡ [] → found ≡ new → Adds (FromEach (IsNotUndoneAt down) up) before new → (f : Finding) →
    Contains found f ↔ IsAmiss up way f
amiss_down up down way before new found is nothing same adds f =
    let P : Finding → Type 0 = FromEach (IsNotUndoneAt down) up in
    let there = from_nothing P new (subst (λ old. Adds P old new) nothing adds) f in
    let told : Contains new f ↔ IsAmiss up (Some down) f = (
      (λ w. let one : FromEach (IsNotUndoneAt down) up f = there.0 w in of_undone up down f one.0 one.1 one.2 one.3),
      (λ w. there.1 (undone_in up down f w)),
    ) in
    subst (λ it. Contains it f ↔ IsAmiss up way f) (sym same) (subst (λ it. Contains new f ↔ IsAmiss up it f) (sym is) told)

no_way_is : (up : List Low) (f : Finding) → IsAmiss up None f → f ≡ NoWayDown
no_way_is up f (no_way_down none is) = is
no_way_is up f (not_undone script i m pre post same at loaded removed is) = absurd (none-some script same)

pub amiss_without : (up : List Low) (way : Option (List Low)) (before new found : List Finding) → way ≡ None →
    before ≡ [] → found ≡ new → Adds (λ f. f ≡ NoWayDown) before new → (f : Finding) → Contains found f ↔ IsAmiss up way f
amiss_without up way before new found is nothing same adds f =
    let there = from_nothing (λ g. g ≡ NoWayDown) new (subst (λ old. Adds (λ g. g ≡ NoWayDown) old new) nothing adds) f in
    let told : Contains new f ↔ IsAmiss up None f = ((λ w. no_way_down refl (there.0 w)), (λ w. there.1 (no_way_is up f w))) in
    subst (λ it. Contains it f ↔ IsAmiss up way f) (sym same) (subst (λ it. Contains new f ↔ IsAmiss up it f) (sym is) told)
