-- Steps of applications that are taken back, one more; and what they hold.
use Rattle.std.proofs.Common.{◌≡◌, ℕ, Bool, true, false, List, [], ◌∷◌, ◌++◌, Option, None, Some, refl, sym, ap, subst, eq-eqb, eqb-true, slice_get, ◌∙◌}
use Rattle.std.specs.Prelude.{IsPermutation, ◌==◌, if◌then◌else◌, option_and_then}
use Rattle.std.specs.Str.{bytes_eq}
use Rattle.std.proofs.lemmas.List.{append-nil}
use Rattle.std.proofs.lemmas.List.Concat.{flat_map-append}
use Rattle.std.proofs.lemmas.List.Elements.{All-nil, All-push}
use Rattle.std.proofs.lemmas.List.Sorted.{IsPermutation-refl}
use Rattle.std.proofs.lemmas.Option.{none-some, same_Some}
use Rattle.app_table.proofs.Keys.{elsewhere}
use Rattle.app_table.proofs.Options.{false_true}
use Rattle.app_table.proofs.Taken.{none_lost, renewed_again}
use Rattle.app_table.specs.Applications.{Application}
use Rattle.app_table.specs.Pieces.{AreNotAmong, AreSpecsLost, IsRenewal, children_at, children_in, formers, formers_at, specs_in}
use Rattle.app_table.specs.Renewing.{children_renewed, renewed, with_renewed}
use Rattle.app_table.specs.Undo.{undone}
use Rattle.app_table.specs.declared.child.Child.{Child}
use Rattle.app_table.specs.declared.undo.AppsUndo.{AppsUndo}
use Rattle.app_table.specs.declared.undo.AppsUndo.TheVariants.{Renewed}
use Rattle.child_specs.proofs.Forms.{table}
use Rattle.child_specs.specs.Forms.{AreDistinct}
use Rattle.child_specs.specs.declared.child.ChildSpec.{ChildSpec}
use Rattle.code_changes.proofs.OneWay.{given-once}
use Rattle.code_changes.specs.Renewing.{if_named, supervisor_in}
use Rattle.code_changes.specs.Undo.{AreRenewals, AreRenewalsIn, IsRenewed, IsRenewedOrNot, all_formers_at, all_undone, anew, as_before}
use Rattle.erl_semantics.specs.declared.acts.Act.{Act}
use Rattle.erl_semantics.specs.declared.instance.Instance.{Instance}
use Rattle.erl_semantics.specs.declared.outcome.End.{End}
use Rattle.erl_semantics.specs.declared.outcome.End.TheVariants.{Rest, Value, Exit}
use Rattle.erl_term.specs.Term.{tree}
use Rattle.otp_files.specs.declared.app.StartModule.{StartModule}
use Rattle.sys_protocol.specs.AppStarts as starts
use Rattle.values.proofs.Edits.{slice_get-changed_at}

pub undone_more : (us : List AppsUndo) (u : AppsUndo) (apps : List Application) → all_undone (us ++ u ∷ []) apps ≡ all_undone us (undone u apps)
undone_more [] u apps = refl
undone_more (first ∷ us) u apps = ap (undone first) (undone_more us u apps)

formers_more : (index : ℕ) (us : List AppsUndo) (u : AppsUndo) → all_formers_at index (us ++ u ∷ []) ≡ all_formers_at index us ++ formers_at index u
formers_more index us u =
    flat_map-append (formers_at index) us (u ∷ []) ∙ ap (λ (ss : List ChildSpec). all_formers_at index us ++ ss) (append-nil (formers_at index u))

formers_same : (index : ℕ) (us : List AppsUndo) (u : AppsUndo) → formers_at index u ≡ [] → all_formers_at index (us ++ u ∷ []) ≡ all_formers_at index us
formers_same index us u none =
    formers_more index us u ∙ ap (λ (ss : List ChildSpec). all_formers_at index us ++ ss) none ∙ append-nil (all_formers_at index us)

-- of another application than the one whose children were specified anew
none_elsewhere : (index other : ℕ) (u : AppsUndo) → IsRenewal index u → (other ≡ index → ⊥) → formers_at other u ≡ []
none_elsewhere index other u (edits, is) differs =
    ap (formers_at other) is ∙ by_test (index == other) refl
  where
    by_test : (b : Bool) → (index == other) ≡ b → formers_at other (Renewed index edits) ≡ []
    by_test true same = absurd (differs (sym (eqb-true index other same)))
    by_test false same = ap (λ (b : Bool). if b then formers edits else []) same

-- A supervision names no two children by one Id.

distinct_in : (specs : List ChildSpec) (end : End) → starts.children_in end ≡ Some specs → AreDistinct specs
distinct_in specs (Rest place) is = absurd (none-some specs is)
distinct_in specs (Value v) is = (table.sound (tree v) specs is).distinct
distinct_in specs (Exit reason) is = absurd (none-some specs is)

given_distinct : (code : List Instance) (s : StartModule) (specs : List ChildSpec) (acts : List Act) → starts.GivesSupervision code s specs acts → AreDistinct specs
given_distinct code s specs acts given = distinct_in specs given.outcome.end given.supervision

-- The supervisor of an application is that of its specification.
pub its_supervisor : (name : List ℕ) (a : Application) (s : StartModule) → supervisor_in name a ≡ Some s → a.spec.start ≡ Some s
its_supervisor name a s is = by_start a.is_started is
  where
    by_name : (m : StartModule) (b : Bool) → (if b then Some m else None) ≡ Some s → Some m ≡ Some s
    by_name m true same = same
    by_name m false same = absurd (none-some s same)

    by_module : (o : Option StartModule) → option_and_then (if_named name) o ≡ Some s → o ≡ Some s
    by_module None same = absurd (none-some s same)
    by_module (Some m) same = by_name m (bytes_eq m.name name) same

    by_start : (b : Bool) → (if b then option_and_then (if_named name) a.spec.start else None) ≡ Some s → a.spec.start ≡ Some s
    by_start true same = by_module a.spec.start same
    by_start false same = absurd (none-some s same)

-- Nothing is held of children that are as they were.
nothing_lost : (held : List ChildSpec) (before after : List Child) → held ≡ [] → after ≡ before → AreSpecsLost held before after
nothing_lost held before after none same = record {
  stay = specs_in before;
  new = [];
  were = subst (λ (ss : List ChildSpec). IsPermutation (ss ++ specs_in before) (specs_in before)) (sym none) (IsPermutation-refl (specs_in before));
  are = subst (λ (cs : List Child). IsPermutation (specs_in before) (specs_in cs)) (sym same) (IsPermutation-refl (specs_in before));
  lost = subst (λ (ss : List ChildSpec). AreNotAmong [] ss) (sym none) tt;
}

-- No step so far.
pub no_renewals : (code : List Instance) (apps : List Application) → AreRenewalsIn code [] apps apps
no_renewals code apps = record {
  back = refl;
  only = let P : AppsUndo → Type 0 = λ v. (at : ℕ) × IsRenewal at v in All-nil P;
  indices = λ index. as_before refl refl;
}

same_still : (code : List Instance) (held now : List ChildSpec) (o p q : Option Application) → now ≡ held → q ≡ p → IsRenewedOrNot code held o p → IsRenewedOrNot code now o q
same_still code held now o p q holds stays x =
    subst (λ (r : Option Application). IsRenewedOrNot code now o r) (sym stays) (subst (λ (ss : List ChildSpec). IsRenewedOrNot code ss o p) (sym holds) x)

-- The application at an index has its children specified anew: the first time, or once more.
module _ (code : List Instance) (us : List AppsUndo) (u : AppsUndo) (before apps after : List Application) (index : ℕ) (a : Application) (s : StartModule) (specs : List ChildSpec) (acts : List Act) (stands : slice_get apps index ≡ Some a) (its : a.spec.start ≡ Some s) (given : starts.GivesSupervision code s specs acts) (is : after ≡ children_renewed index specs apps) (lost : AreSpecsLost (formers_at index u) (children_at index apps) (children_at index after)) where
  stands_then : slice_get after index ≡ Some (with_renewed specs a)
  stands_then = ap (λ (xs : List Application). slice_get xs index) is ∙ slice_get-changed_at (with_renewed specs) apps index a stands

  lost_here : AreSpecsLost (formers_at index u) a.children (renewed specs a.children)
  lost_here =
      subst (λ (cs : List Child). AreSpecsLost (formers_at index u) cs (renewed specs a.children)) (ap children_in stands)
      (subst (λ (cs : List Child). AreSpecsLost (formers_at index u) (children_at index apps) cs) (ap children_in stands_then) lost)

  first_time : slice_get apps index ≡ slice_get before index → all_formers_at index us ≡ [] → IsRenewedOrNot code (all_formers_at index (us ++ u ∷ [])) (slice_get before index) (slice_get after index)
  first_time same none =
      let held : formers_at index u ≡ all_formers_at index (us ++ u ∷ []) =
      sym (formers_more index us u ∙ ap (λ (ss : List ChildSpec). ss ++ formers_at index u) none) in
      anew a (with_renewed specs a) (sym same ∙ stands) stands_then (record {
        supervisor = s;
        specs = specs;
        acts = acts;
        its = its;
        gives = given;
        renewed = refl;
        lost = subst (λ (ss : List ChildSpec). AreSpecsLost ss a.children (renewed specs a.children)) held lost_here;
      })

  -- its children were specified so already
  once_more : (b c : Application) (held : List ChildSpec) → slice_get apps index ≡ Some c → IsRenewed code held b c → with_renewed specs a ≡ a
  once_more b c held there r =
      let same : c ≡ a = same_Some c a (sym there ∙ stands) in
      let now : a ≡ with_renewed r.specs b = sym same ∙ r.renewed in
      let supervisor : s ≡ r.supervisor = same_Some s r.supervisor (sym its ∙ ap (λ (x : Application). x.spec.start) now ∙ r.its) in
      let gives = subst (λ (m : StartModule). starts.GivesSupervision code m specs acts) supervisor given in
      let both : specs ≡ r.specs = (given-once code r.supervisor specs r.specs acts r.acts gives r.gives).0 in
      (λ i. with_renewed (both i) (now i))
      ∙ ap (λ (cs : List Child). record b { children = cs }) (renewed_again r.specs b.children)
      ∙ sym now

  here : IsRenewedOrNot code (all_formers_at index us) (slice_get before index) (slice_get apps index) → IsRenewedOrNot code (all_formers_at index (us ++ u ∷ [])) (slice_get before index) (slice_get after index)
  here (as_before none same) = first_time same none
  here (anew b c first stood r) =
      let stays : with_renewed specs a ≡ a = once_more b c (all_formers_at index us) stood r in
      let still : AreSpecsLost (formers_at index u) a.children a.children =
      subst (λ (cs : List Child). AreSpecsLost (formers_at index u) a.children cs) (ap (λ (x : Application). x.children) stays) lost_here in
      same_still code (all_formers_at index us) (all_formers_at index (us ++ u ∷ [])) (slice_get before index) (slice_get apps index) (slice_get after index)
      (formers_same index us u (none_lost (formers_at index u) a.children still))
      (stands_then ∙ ap Some stays ∙ sym stands)
      (anew b c first stood r)

  there : IsRenewal index u → (other : ℕ) → (other ≡ index → ⊥) → IsRenewedOrNot code (all_formers_at other us) (slice_get before other) (slice_get apps other) → IsRenewedOrNot code (all_formers_at other (us ++ u ∷ [])) (slice_get before other) (slice_get after other)
  there only other differs x =
      same_still code (all_formers_at other us) (all_formers_at other (us ++ u ∷ [])) (slice_get before other) (slice_get apps other) (slice_get after other)
      (formers_same other us u (none_elsewhere index other u only differs))
      (ap (λ (xs : List Application). slice_get xs other) is ∙ elsewhere (with_renewed specs) apps index other differs)
      x

  everywhere : IsRenewal index u → (other : ℕ) → (b : Bool) → (other == index) ≡ b → IsRenewedOrNot code (all_formers_at other us) (slice_get before other) (slice_get apps other) → IsRenewedOrNot code (all_formers_at other (us ++ u ∷ [])) (slice_get before other) (slice_get after other)
  everywhere only other true same x =
      let is_it : index ≡ other = sym (eqb-true other index same) in
      subst (λ n. IsRenewedOrNot code (all_formers_at n us) (slice_get before n) (slice_get apps n) → IsRenewedOrNot code (all_formers_at n (us ++ u ∷ [])) (slice_get before n) (slice_get after n)) is_it here x
  everywhere only other false same x =
      there only other (λ is_it. false_true (sym same ∙ eq-eqb other index is_it)) x

pub renewals_more : (code : List Instance) (us : List AppsUndo) (u : AppsUndo) (before apps after : List Application) (index : ℕ) (a : Application) →
    (s : StartModule) (specs : List ChildSpec) (acts : List Act) → slice_get apps index ≡ Some a → a.spec.start ≡ Some s →
    starts.GivesSupervision code s specs acts → after ≡ children_renewed index specs apps → undone u after ≡ apps → IsRenewal index u →
    (AreDistinct specs → AreSpecsLost (formers_at index u) (children_at index apps) (children_at index after)) →
    AreRenewalsIn code us before apps → AreRenewalsIn code (us ++ u ∷ []) before after
renewals_more code us u before apps after index a s specs acts stands its given is back only lost so_far =
    let P : AppsUndo → Type 0 = λ v. (at : ℕ) × IsRenewal at v in
    record {
      back = undone_more us u after ∙ ap (all_undone us) back ∙ so_far.back;
      only = All-push P us u so_far.only (index, only);
      indices = λ other.
          everywhere code us u before apps after index a s specs acts stands its given is (lost (given_distinct code s specs acts given))
          only other (other == index) refl (so_far.indices other);
    }

-- Over all the steps.

place_lost : (code : List Instance) (held : List ChildSpec) (o p : Option Application) → IsRenewedOrNot code held o p → AreSpecsLost held (children_in o) (children_in p)
place_lost code held o p (as_before none same) = nothing_lost held (children_in o) (children_in p) none (ap children_in same)
place_lost code held o p (anew a b first stood r) =
    subst (λ (x : Option Application). AreSpecsLost held (children_in x) (children_in p)) (sym first)
    (subst (λ (x : Option Application). AreSpecsLost held a.children (children_in x)) (sym stood) r.lost)

pub are_renewals : (code : List Instance) (us : List AppsUndo) (before after : List Application) → AreRenewalsIn code us before after → AreRenewals us before after
are_renewals code us before after all = record {
  back = all.back;
  only = all.only;
  pieces = λ index. place_lost code (all_formers_at index us) (slice_get before index) (slice_get after index) (all.indices index);
}
