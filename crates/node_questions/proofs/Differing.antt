-- The differences of nodes, by their parts.
use Rattle.std.proofs.Common.{◌≡◌, ◌⊎◌, inl, inr, ℕ, Bool, true, false, List, [], Contains, ◌↔◌, Option, None, Some}
use Rattle.std.proofs.Common.{option_and_then, length, refl, sym, ap, subst, ◌∙◌}
use Rattle.std.proofs.lemmas.Map.Entries.{place_from_lookup}
use Rattle.std.proofs.lemmas.Option.{get_or_from_slice_get, slice_get_read, slice_get_within}
use Rattle.std.proofs.lemmas.Slice.Eq.{bytes_eq-Decides}
use Rattle.std.specs.List.{slice_get}
use Rattle.std.specs.Option.{option_map}
use Rattle.std.specs.Str.{bytes_eq}
use Rattle.app_table.specs.Applications.{Application, child_of}
use Rattle.app_table.specs.declared.child.Child.{Child}
use Rattle.code_server.specs.Modules.{Entry, Table as Loaded, slots_of}
use Rattle.code_server.specs.declared.modules.Instance.{Instance}
use Rattle.code_server.specs.declared.modules.Slots.{Slots}
use Rattle.erl_ir.specs.Module.{Forms}
use Rattle.process.specs.Process.{ProcessState}
use Rattle.upgrade_review.proofs.Adding.{adds_both, from_nothing}
use Rattle.upgrade_review.specs.Gathering.{Adds, FromEach}
use Rattle.node_questions.specs.Differences.{Differs, RunsOnBoth}
use Rattle.node_questions.specs.Differences.{application_missing, application_stays, child_missing, child_stays}
use Rattle.node_questions.specs.Differences.{other_specification, other_name, other_state, code_missing, other_code, code_stays}
use Rattle.node_questions.specs.Parts.{DiffersAsBooted, DiffersAsChild, DiffersAsStarted, DiffersIfRuns, DiffersInCode}
use Rattle.node_questions.specs.Parts.{HasOtherCode}
use Rattle.node_questions.specs.Parts.{HasOtherSpecification, IsChildStaying, StaysAfterUpgrade, StaysAsStarted}
use Rattle.node_questions.specs.Running.{Running, code_of, is_awaited, process_in, process_of, runs}
use Rattle.node_questions.specs.declared.comparing.Difference.{Difference}

-- an item of a list, and the same at its index
at_index : {X : Type 0} (xs : List X) (k : ℕ) (x : X) → slice_get xs k ≡ Some x → Contains xs x
at_index xs k x is = (k, slice_get_within xs k x is, get_or_from_slice_get xs k x x is)

index_of : {X : Type 0} (xs : List X) (x : X) (there : Contains xs x) → slice_get xs there.0 ≡ Some x
index_of xs x there = slice_get_read xs (length xs) there.0 x refl there.1 (sym there.2)

-- a module that has current code is in the table
has_slots : (m : List ℕ) (t : Loaded Forms) (c : Forms) (o : Option (Slots Forms)) → slots_of m t ≡ o → code_of m t ≡ Some c →
    (slots : Slots Forms) × (slots_of m t ≡ Some slots)
has_slots m t c None none code =
    let gone : code_of m t ≡ None = ap (λ (o : Option (Slots Forms)). option_map (λ (i : Instance Forms). i.code)
    (option_and_then (λ (slots : Slots Forms). slots.current) o)) none in
    let clash : Some c ≡ None = sym code ∙ gone in cc
has_slots m t c (Some slots) is code = (slots, is)

stands : (m : List ℕ) (t : Loaded Forms) (c : Forms) → code_of m t ≡ Some c →
    (i : ℕ) × (entry : Entry Forms) × (slice_get t.entries i ≡ Some entry) × (entry.0 ≡ m)
stands m t c code =
    let there = has_slots m t c (slots_of m t) refl code in
    let at = place_from_lookup (bytes_eq m) t.entries there.0 there.1 in
    (at.0, (at.1, there.0), at.2, sym ((bytes_eq-Decides m at.1).0 at.3))

module _ (u f : Running) (d : Difference) where
  of_process : (a : Application) (c : Child) (b : Bool) (q p : Option ProcessState) → RunsOnBoth f u a → Contains a.children c →
      is_awaited (child_of a.spec.name c.spec.id u.apps) ≡ b → process_in a.spec.name c.spec.id u ≡ q →
      process_of c f.processes ≡ p → DiffersIfRuns a.spec.name c.spec.id b q p d → Differs u f d
  of_process a c b q None on among due upgraded booted w = absurd w
  of_process a c b None (Some p) on among due upgraded booted w = child_missing a c p on among booted upgraded (due ∙ w.0) w.1
  of_process a c b (Some q) (Some p) on among due upgraded booted w = elim w [
    | inl name ↦ other_name a c p q on among booted upgraded name.0 name.1
    | inr state ↦ other_state a c p q on among booted upgraded state.0 state.1
  ]

  of_specification : (a : Application) (c : Child) (o : Option Child) → RunsOnBoth f u a → Contains a.children c →
      child_of a.spec.name c.spec.id u.apps ≡ o → HasOtherSpecification a.spec.name c o d → Differs u f d
  of_specification a c None on among is w = absurd w
  of_specification a c (Some other) on among is w = other_specification a c other on among is w.0 w.1

  of_child : (a : Application) (c : Child) → RunsOnBoth f u a → Contains a.children c →
      DiffersAsChild a.spec.name u f.processes c d → Differs u f d
  of_child a c on among either = elim either [
    | inl w ↦ of_process a c (is_awaited (child_of a.spec.name c.spec.id u.apps)) (process_in a.spec.name c.spec.id u)
        (process_of c f.processes) on among refl refl refl w
    | inr w ↦ of_specification a c (child_of a.spec.name c.spec.id u.apps) on among refl w
  ]

  of_started : (a : Application) (b : Bool) → Contains f.apps a → a.is_started ≡ true → runs a.spec.name u.apps ≡ b →
      DiffersAsStarted b u f.processes a d → Differs u f d
  of_started a true among started there w =
      of_child a w.1 (record { among = among; runs_here = started; runs_there = there }) (at_index a.children w.0 w.1 w.2) w.3
  of_started a false among started there w =
      application_missing a (record { among = among; runs_here = started; runs_there = there }) w

  of_booted : FromEach (λ i. DiffersAsBooted u f.processes) f.apps d → Differs u f d
  of_booted w = let it = w.3 in
      of_started w.1 (runs w.1.spec.name u.apps) (at_index f.apps w.0 w.1 w.2) it.0 refl it.1

  of_staying : (a : Application) (b : Bool) → Contains u.apps a → a.is_started ≡ true → runs a.spec.name f.apps ≡ b →
      StaysAsStarted b f.apps a d → Differs u f d
  of_staying a true among started there w = let one : IsChildStaying a.spec.name f.apps w.1 d = w.3 in
      child_stays a w.1 (record { among = among; runs_here = started; runs_there = there }) (at_index a.children w.0 w.1 w.2)
      one.0 one.1
  of_staying a false among started there w =
      application_stays a (record { among = among; runs_here = started; runs_there = there }) w

  of_upgraded : FromEach (λ i. StaysAfterUpgrade f.apps) u.apps d → Differs u f d
  of_upgraded w = let it = w.3 in
      of_staying w.1 (runs w.1.spec.name f.apps) (at_index u.apps w.0 w.1 w.2) it.0 refl it.1

  of_codes : (m : List ℕ) (one other : Option Forms) → code_of m u.modules ≡ one → code_of m f.modules ≡ other →
      HasOtherCode m one other d → Differs u f d
  of_codes m None None upgraded booted w = absurd w
  of_codes m None (Some c) upgraded booted w = code_missing m c booted upgraded w
  of_codes m (Some other) None upgraded booted w = code_stays m other upgraded booted w
  of_codes m (Some other) (Some c) upgraded booted w = other_code m c other booted upgraded w.0 w.1

  of_code : (entries : List (Entry Forms)) → FromEach (λ i entry. DiffersInCode u.modules f.modules entry.0) entries d →
      Differs u f d
  of_code entries w =
      of_codes w.1.0 (code_of w.1.0 u.modules) (code_of w.1.0 f.modules) refl refl w.3

  -- The other way round.

  in_booted : (a : Application) (b : Bool) (here : Contains f.apps a) → a.is_started ≡ true → runs a.spec.name u.apps ≡ b →
      DiffersAsStarted b u f.processes a d → FromEach (λ i. DiffersAsBooted u f.processes) f.apps d
  in_booted a b here started there w = (
    here.0,
    a,
    index_of f.apps a here,
    (started, subst (λ b'. DiffersAsStarted b' u f.processes a d) (sym there) w),
  )

  in_child : (a : Application) (c : Child) → RunsOnBoth f u a → Contains a.children c →
      DiffersAsChild a.spec.name u f.processes c d → FromEach (λ i. DiffersAsBooted u f.processes) f.apps d
  in_child a c on among w = in_booted a true on.among on.runs_here on.runs_there (among.0, c, index_of a.children c among, w)

  in_process : (a : Application) (c : Child) (b : Bool) (q p : Option ProcessState) → RunsOnBoth f u a → Contains a.children c →
      is_awaited (child_of a.spec.name c.spec.id u.apps) ≡ b → process_in a.spec.name c.spec.id u ≡ q →
      process_of c f.processes ≡ p → DiffersIfRuns a.spec.name c.spec.id b q p d →
      FromEach (λ i. DiffersAsBooted u f.processes) f.apps d
  in_process a c b q p on among due upgraded booted w =
      let now = process_in a.spec.name c.spec.id u in
      let was = process_of c f.processes in
      in_child a c on among (inl (
      subst (λ b'. DiffersIfRuns a.spec.name c.spec.id b' now was d) (sym due)
      (subst (λ q'. DiffersIfRuns a.spec.name c.spec.id b q' was d) (sym upgraded)
      (subst (λ p'. DiffersIfRuns a.spec.name c.spec.id b q p' d) (sym booted) w))))

  in_upgraded : (a : Application) (b : Bool) (here : Contains u.apps a) → a.is_started ≡ true → runs a.spec.name f.apps ≡ b →
      StaysAsStarted b f.apps a d → FromEach (λ i. StaysAfterUpgrade f.apps) u.apps d
  in_upgraded a b here started there w = (
    here.0,
    a,
    index_of u.apps a here,
    (started, subst (λ b'. StaysAsStarted b' f.apps a d) (sym there) w),
  )

  in_code : (t : Loaded Forms) (m : List ℕ) (c : Forms) (one other : Option Forms) → code_of m t ≡ Some c →
      code_of m u.modules ≡ one → code_of m f.modules ≡ other → HasOtherCode m one other d →
      FromEach (λ i entry. DiffersInCode u.modules f.modules entry.0) t.entries d
  in_code t m c one other there upgraded booted w =
      let at = stands m t c there in
      let here : DiffersInCode u.modules f.modules m d =
      subst (λ o. HasOtherCode m o (code_of m f.modules) d) (sym upgraded) (subst (λ o. HasOtherCode m one o d) (sym booted) w) in
      (at.0, at.1, at.2, subst (λ n. DiffersInCode u.modules f.modules n d) (sym at.3) here)

-- The four parts of the whole, in the order in which they are noted.

abbrev InApps : Running → Running → Difference → Type 0
InApps u f d = FromEach (λ i. DiffersAsBooted u f.processes) f.apps d ⊎ FromEach (λ i. StaysAfterUpgrade f.apps) u.apps d

abbrev InCode : Running → Running → Difference → Type 0
InCode u f d = FromEach (λ i entry. DiffersInCode u.modules f.modules entry.0) f.modules.entries d
    ⊎ FromEach (λ i entry. DiffersInCode u.modules f.modules entry.0) u.modules.entries d

module _ (u f : Running) (d : Difference) where
  of_parts : InApps u f d ⊎ InCode u f d → Differs u f d
  of_parts either = elim either [
    | inl apps ↦ elim apps [ inl w ↦ of_booted u f d w | inr w ↦ of_upgraded u f d w ]
    | inr code ↦ elim code [ inl w ↦ of_code u f d f.modules.entries w | inr w ↦ of_code u f d u.modules.entries w ]
  ]

  in_parts : Differs u f d → InApps u f d ⊎ InCode u f d
  in_parts (application_missing a alone is) = inl (inl (in_booted u f d a false alone.among alone.runs_here alone.runs_there is))
  in_parts (application_stays a alone is) = inl (inr (in_upgraded u f d a false alone.among alone.runs_here alone.runs_there is))
  in_parts (child_missing a c p on among booted upgraded due is) =
      inl (inl (in_process u f d a c false None (Some p) on among due upgraded booted (refl, is)))
  in_parts (child_stays a c on among none is) = inl (inr (in_upgraded u f d a true on.among on.runs_here on.runs_there
      (among.0, c, index_of a.children c among, (none, is))))
  in_parts (other_specification a c other on among there differs is) = inl (inl (in_child u f d a c on among
      (inr (subst (λ o. HasOtherSpecification a.spec.name c o d) (sym there) (differs, is)))))
  in_parts (other_name a c p q on among booted upgraded differs is) =
      inl (inl (in_process u f d a c (is_awaited (child_of a.spec.name c.spec.id u.apps)) (Some q) (Some p) on among refl upgraded
      booted (inl (differs, is))))
  in_parts (other_state a c p q on among booted upgraded differs is) =
      inl (inl (in_process u f d a c (is_awaited (child_of a.spec.name c.spec.id u.apps)) (Some q) (Some p) on among refl upgraded
      booted (inr (differs, is))))
  in_parts (code_missing m c booted upgraded is) =
      inr (inl (in_code u f d f.modules m c None (Some c) booted upgraded booted is))
  in_parts (other_code m c other booted upgraded differs is) =
      inr (inl (in_code u f d f.modules m c (Some other) (Some c) booted upgraded booted (differs, is)))
  in_parts (code_stays m c upgraded booted is) =
      inr (inr (in_code u f d u.modules m c (Some c) None upgraded upgraded booted is))

-- the differences of the four parts are all differences
pub differs_of_parts : (u f : Running) (none booted apps code found : List Difference) → none ≡ [] →
    Adds (FromEach (λ i. DiffersAsBooted u f.processes) f.apps) none booted →
    Adds (FromEach (λ i. StaysAfterUpgrade f.apps) u.apps) booted apps →
    Adds (FromEach (λ i entry. DiffersInCode u.modules f.modules entry.0) f.modules.entries) apps code →
    Adds (FromEach (λ i entry. DiffersInCode u.modules f.modules entry.0) u.modules.entries) code found →
    (d : Difference) → Contains found d ↔ Differs u f d
differs_of_parts u f none booted apps code found nothing first second third fourth d =
    let P : Difference → Type 0 = λ e. InApps u f e ⊎ InCode u f e in
    let in_apps : Adds (InApps u f) none apps = adds_both (FromEach (λ i. DiffersAsBooted u f.processes) f.apps)
    (FromEach (λ i. StaysAfterUpgrade f.apps) u.apps) none booted apps first second in
    let in_code : Adds (InCode u f) apps found =
    adds_both (FromEach (λ i entry. DiffersInCode u.modules f.modules entry.0) f.modules.entries)
    (FromEach (λ i entry. DiffersInCode u.modules f.modules entry.0) u.modules.entries) apps code found third fourth in
    let all : Adds P none found = adds_both (InApps u f) (InCode u f) none apps found in_apps in_code in
    let there = from_nothing P found (subst (λ none'. Adds P none' found) nothing all) d in
    ((λ w. of_parts u f d (there.0 w)), (λ w. there.1 (in_parts u f d w)))
