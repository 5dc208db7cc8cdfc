-- Calls that nobody answers, by the parts of a script.
use Rattle.std.proofs.Common.{◌≡◌, ◌∙◌, ℕ, ◌+◌, ◌-◌, ◌<◌, ◌≤◌, Bool, true, false, ◌&&◌, not, List, [], ◌∷◌, ◌++◌, length, get_or, take}
use Rattle.std.proofs.Common.{Option, Some, Result, Contains, ◌⊎◌, ◌↔◌, inl, inr, OnOk, arith, refl, sym, ap, subst}
use Rattle.std.proofs.lemmas.Bool.{cases_lt}
use Rattle.std.proofs.lemmas.List.{get_or_append_left, get_or_push, take_more}
use Rattle.std.proofs.lemmas.List.Elements.{Contains-append_cases, Contains-append_left, Contains-append_right}
use Rattle.std.proofs.lemmas.Option.{get_or_from_slice_get, none-some, slice_get_read, slice_get_within}
use Rattle.std.specs.List.{slice_get}
use Rattle.erl_term.proofs.Rows.{count-trees}
use Rattle.erl_term.specs.declared.term.Term.{Term}
use Rattle.erl_term.specs.Term.{trees}
use Rattle.erl_term.specs.Tree.{Trees, count}
use Rattle.low_instructions.specs.declared.low.Low.{Low}
use Rattle.low_instructions.specs.declared.low.Low.TheVariants.{LoadObjectCode, PointOfNoReturn, Load, Remove, Purge, Suspend}
use Rattle.low_instructions.specs.declared.low.Low.TheVariants.{Resume, CodeChange, Stop, Start, Apply}
use Rattle.low_instructions.specs.declared.modules.Direction.{Direction}
use Rattle.upgrade_review.proofs.Adding.{adds_alike, adds_both, from_nothing}
use Rattle.upgrade_review.proofs.Noting.{on_ok}
use Rattle.upgrade_review.proofs.Windows.{finding_alike}
use Rattle.upgrade_review.specs.Calls.{IsAsking, IsAskingOf, asking}
use Rattle.upgrade_review.specs.Calls.{AppliesNobodyAt, AppliesNobodyBy, IsOutside, IsOutsideOf, IsUnansweredCall}
use Rattle.upgrade_review.specs.Calls.{IsUnansweredIn, IsWindowFinding, LeavesUnanswered, answers, applied_by}
use Rattle.upgrade_review.specs.Calls.{applies_nobody, current_after, current_by, holds_at, interface_at, interface_in}
use Rattle.upgrade_review.specs.Calls.{interface_of_current, is_idle, is_known, is_missed, is_unanswered, makes, of_current, outside, unanswered}
use Rattle.upgrade_review.specs.Gathering.{Adds, FromEach}
use Rattle.upgrade_review.specs.declared.calls.Current.{Current}
use Rattle.upgrade_review.specs.declared.calls.Current.TheVariants.{Left, Installed, Removed}
use Rattle.upgrade_review.specs.declared.finding.Finding.{Finding}
use Rattle.upgrade_review.specs.declared.interface.Call.{Call}
use Rattle.upgrade_review.specs.declared.interface.Interface.{Interface}

-- an item of a list, and the same at its index
at_index : {X : Type 0} (xs : List X) (k : ℕ) (x : X) → slice_get xs k ≡ Some x → Contains xs x
at_index xs k x is = (k, slice_get_within xs k x is, get_or_from_slice_get xs k x x is)

index_of : {X : Type 0} (xs : List X) (x : X) (there : Contains xs x) → slice_get xs there.0 ≡ Some x
index_of xs x there = slice_get_read xs (length xs) there.0 x refl there.1 (sym there.2)

-- Which code is current, one instruction after the other.

current-more : (m : List ℕ) (c : Current) (script : List Low) (low : Low) →
    current_by m c (script ++ low ∷ []) ≡ current_after m (current_by m c script) low
unfolding current_by
current-more m c [] low = refl
current-more m c (first ∷ script) low = current-more m (current_after m c first) script low

pub current-none : (m : List ℕ) (c : Current) → current_by m c [] ≡ c
unfolding current_by
current-none m c = refl

pub current-next : (m : List ℕ) (script : List Low) (n : ℕ) (low : Low) (c : Current) → n < length script →
    low ≡ get_or script n low → c ≡ current_by m Left (take n script) → current_after m c low ≡ current_by m Left (take (n + 1) script)
current-next m script n low c within item so_far =
    ap (λ d. current_after m d low) so_far ∙ sym (current-more m Left (take n script) low)
    ∙ ap (current_by m Left) (sym (take_more script n low within ∙ ap (λ y. take n script ++ y ∷ []) (sym item)))

-- what holds of the current code

made_at : (k : Call) (c : Current) (left installed : Option Interface) →
    of_current c (makes k left) (makes k installed) ≡ makes k (interface_of_current c left installed)
made_at k Left left installed = refl
made_at k Installed left installed = refl
made_at k Removed left installed = refl

pub answered_at : (k : Call) (c : Current) (left installed : Option Interface) →
    of_current c (answers k left) (answers k installed) ≡ answers k (interface_of_current c left installed)
answered_at k Left left installed = refl
answered_at k Installed left installed = refl
answered_at k Removed left installed = refl

pub answers-after : (left installed : List Interface) (k : Call) (before : List Low) (c : Current) (on_left on_installed r : Bool) →
    on_left ≡ answers k (interface_in k.«module» left) → on_installed ≡ answers k (interface_in k.«module» installed) →
    c ≡ current_by k.«module» Left before → r ≡ of_current c on_left on_installed →
    r ≡ answers k (interface_at k.«module» before left installed)
answers-after left installed k before c on_left on_installed r of_left of_installed current is =
    is ∙ ap (λ b. of_current c b on_installed) of_left ∙ ap (of_current c (answers k (interface_in k.«module» left))) of_installed
    ∙ answered_at k c (interface_in k.«module» left) (interface_in k.«module» installed)
    ∙ ap (λ d. answers k (interface_of_current d (interface_in k.«module» left) (interface_in k.«module» installed))) current

makes-after : (left installed : List Interface) (caller : List ℕ) (k : Call) (before : List Low) (c : Current)
    (on_left on_installed : Bool) → on_left ≡ makes k (interface_in caller left) →
    on_installed ≡ makes k (interface_in caller installed) → c ≡ current_by caller Left before →
    of_current c on_left on_installed ≡ makes k (interface_at caller before left installed)
makes-after left installed caller k before c on_left on_installed of_left of_installed current =
    ap (λ b. of_current c b on_installed) of_left ∙ ap (of_current c (makes k (interface_in caller left))) of_installed
    ∙ made_at k c (interface_in caller left) (interface_in caller installed)
    ∙ ap (λ d. makes k (interface_of_current d (interface_in caller left) (interface_in caller installed))) current

-- Whether nobody answers at a point, given which codes make the call and which answer it.
pub point : (left installed : List Interface) (caller : List ℕ) (k : Call) (before : List Low) (caller_code called_code : Current)
    (made_left made_installed answered_left answered_installed r : Bool) → made_left ≡ makes k (interface_in caller left) →
    made_installed ≡ makes k (interface_in caller installed) → answered_left ≡ answers k (interface_in k.«module» left) →
    answered_installed ≡ answers k (interface_in k.«module» installed) → caller_code ≡ current_by caller Left before →
    called_code ≡ current_by k.«module» Left before →
    r ≡ (of_current caller_code made_left made_installed && not (of_current called_code answered_left answered_installed)) →
    r ≡ is_unanswered left installed caller k before
point left installed caller k before caller_code called_code ml mi al ai r made makes' answers' answered caller_at called_at is =
    is ∙ ap (λ b. b && not (of_current called_code al ai)) (makes-after left installed caller k before caller_code ml mi made makes' caller_at)
    ∙ ap (λ b. makes k (interface_at caller before left installed) && not b)
    (answers-after left installed k before called_code al ai (of_current called_code al ai) answers' answered called_at refl)

-- The list of points: after the first point, and after one more.

pub points-first : (points : List Bool) (r : Bool) (holds : ℕ → Bool) → points ≡ [] ++ r ∷ [] → r ≡ holds 0 →
    (i : ℕ) → i ≤ 0 → holds_at points i ≡ holds i
points-first points r holds pushed is i below =
    let same : i ≡ 0 = omega arith in
    let here : holds_at (r ∷ []) i ≡ holds i = subst (λ j. holds_at (r ∷ []) j ≡ holds j) (sym same) is in
    ap (λ them. holds_at them i) pushed ∙ here

pub points-more : (points more : List Bool) (n : ℕ) (r : Bool) (holds : ℕ → Bool) → length points ≡ n + 1 →
    ((i : ℕ) → i ≤ n → holds_at points i ≡ holds i) → more ≡ points ++ r ∷ [] → r ≡ holds (n + 1) →
    (i : ℕ) → i ≤ n + 1 → holds_at more i ≡ holds i
points-more points more n r holds count so_far pushed is i below =
    let there : holds_at (points ++ r ∷ []) i ≡ holds i = elim (cases_lt i (n + 1)) [
      | inl before ↦ get_or_append_left points (r ∷ []) false i (omega arith) ∙ so_far i (omega arith)
      | inr behind ↦ let same : i ≡ n + 1 = omega arith in
          subst (λ j. holds_at (points ++ r ∷ []) j ≡ holds j) (sym same) (get_or_push points r false (n + 1) count ∙ is)
    ] in
    ap (λ them. holds_at them i) pushed ∙ there

pub points-next : (points more : List Bool) (n : ℕ) (r : Bool) (holds : ℕ → Bool) → length points ≡ n →
    ((i : ℕ) → i < n → holds_at points i ≡ holds i) → more ≡ points ++ r ∷ [] → r ≡ holds n →
    (i : ℕ) → i < n + 1 → holds_at more i ≡ holds i
points-next points more n r holds counted so_far pushed is i below =
    let there : holds_at (points ++ r ∷ []) i ≡ holds i = elim (cases_lt i n) [
      | inl before ↦ get_or_append_left points (r ∷ []) false i (omega arith) ∙ so_far i before
      | inr behind ↦ let same : i ≡ n = omega arith in
          subst (λ j. holds_at (points ++ r ∷ []) j ≡ holds j) (sym same) (get_or_push points r false n counted ∙ is)
    ] in
    ap (λ them. holds_at them i) pushed ∙ there

-- The windows of the list of points are those of the call: for each point, whether nobody answers and whether a process may make
-- the call.
pub windows-of-points : {T E : Type 0} (r : Result T E) (way : Direction) (left installed : List Interface) (script : List Low)
    (app caller : List ℕ) (k : Call) (answered points : List Bool) (old new : List Finding) →
    is_known k.«module» left installed ≡ true → length points ≡ length script + 1 →
    ((i : ℕ) → i ≤ length script → holds_at points i ≡ (holds_at answered i && not (is_idle app caller script i))) →
    ((i : ℕ) → i ≤ length script → holds_at answered i ≡ is_unanswered left installed caller k (take i script)) →
    OnOk r (Adds (IsWindowFinding way (holds_at points) (length points - 1) caller k) old new) →
    OnOk r (Adds (IsUnansweredCall way left installed script app caller k) old new)
windows-of-points r way left installed script app caller k answered points old new known counted idle written noted =
    let last : length points - 1 ≡ length script = omega arith in
    let holds : ℕ → Bool = is_missed left installed app caller k script in
    let at : (i : ℕ) → i ≤ length script → holds_at points i ≡ holds i =
    λ i below. idle i below ∙ ap (λ (b : Bool). b && not (is_idle app caller script i)) (written i below) in
    let Found : ℕ → Finding → Type 0 = λ n. IsWindowFinding way (holds_at points) n caller k in
    let there = subst (λ (n : ℕ). OnOk r (Adds (Found n) old new)) last noted in
    on_ok r (Adds (Found (length script)) old new) (Adds (IsUnansweredCall way left installed script app caller k) old new)
    (λ adds. adds_alike (Found (length script)) (IsUnansweredCall way left installed script app caller k) old new
    (λ f w. (known, finding_alike way (holds_at points) holds (length script) caller k f at w))
    (λ f w. finding_alike way holds (holds_at points) (length script) caller k f (λ i below. sym (at i below)) w.1) adds) there

-- What is noted of the function that an instruction applies, if it applies one.

pub noted-of-applied : {T E : Type 0} (r : Result T E) (R : Call → Finding → Type 0) (applied : Option Call) (k : Call)
    (old new : List Finding) → applied ≡ Some k → OnOk r (Adds (R k) old new) →
    OnOk r (Adds (λ f. (it : Call) × (applied ≡ Some it) × R it f) old new)
noted-of-applied r R applied k old new is on =
    on_ok r (Adds (R k) old new) (Adds (λ f. (it : Call) × (applied ≡ Some it) × R it f) old new)
    (λ adds. adds_alike (R k) (λ f. (it : Call) × (applied ≡ Some it) × R it f) old new (λ f w. (k, is, w))
    (λ f w. let same : w.0 ≡ k = let both : Some w.0 ≡ Some k = sym w.1 ∙ is in cc in subst (λ it. R it f) same w.2) adds) on

abbrev pub call_of : List ℕ → List ℕ → ℕ → Call
call_of m name arity = record { «module» = m; function = name; arity = arity }

pub applied-is : (low : Low) (m name module_copy name_copy : List ℕ) (them : Trees) (arguments : List Term) →
    low ≡ Apply m name them → module_copy ≡ m → name_copy ≡ name → trees arguments ≡ them →
    Some (call_of module_copy name_copy (length arguments)) ≡ applied_by low
applied-is low m name module_copy name_copy them arguments is of_module of_name row =
    let call : List ℕ → List ℕ → ℕ → Option Call = λ a b n. Some (call_of a b n) in
    ap (λ a. call a name_copy (length arguments)) of_module ∙ ap (λ b. call m b (length arguments)) of_name
    ∙ ap (call m name) (sym (count-trees arguments) ∙ ap count row) ∙ ap applied_by (sym is)

-- The findings about the parts are the findings.

module _ (way : Direction) (left installed : List Interface) (script : List Low) (f : Finding) where
  of_callers : (callers : List Interface) → ((it : Interface) → Contains callers it → Contains (left ++ installed) it) →
      IsUnansweredIn way left installed script callers f → LeavesUnanswered way left installed script f
  of_callers callers among w =
      let caller = w.1 in
      let k = w.3.1 in
      let found = w.3.3 in
      unanswered caller k found.1.0 found.1.1.0 (among caller (at_index callers w.0 caller w.2))
      (at_index caller.calls w.3.0 k w.3.2) found.0 found.1.1.1 found.1.1.2 found.1.1.3

  of_applied : (i : ℕ) (m name : List ℕ) (arguments : Trees) (k : Call) → slice_get script i ≡ Some (Apply m name arguments) →
      k ≡ call_of m name (count arguments) → AppliesNobodyAt way left installed script i k f →
      LeavesUnanswered way left installed script f
  of_applied i m name arguments k is same w =
      let here = subst (λ (it : Call). AppliesNobodyAt way left installed script i it f) same w in
      applies_nobody i m name arguments is here.0 here.1 here.2

  of_instruction : (i : ℕ) (low : Low) → slice_get script i ≡ Some low → AppliesNobodyBy way left installed script i low f →
      LeavesUnanswered way left installed script f
  of_instruction i (LoadObjectCode application version modules) is w = absurd (none-some w.0 w.1)
  of_instruction i PointOfNoReturn is w = absurd (none-some w.0 w.1)
  of_instruction i (Load name pre post) is w = absurd (none-some w.0 w.1)
  of_instruction i (Remove name pre post) is w = absurd (none-some w.0 w.1)
  of_instruction i (Purge modules) is w = absurd (none-some w.0 w.1)
  of_instruction i (Suspend modules) is w = absurd (none-some w.0 w.1)
  of_instruction i (Resume modules) is w = absurd (none-some w.0 w.1)
  of_instruction i (CodeChange direction changes) is w = absurd (none-some w.0 w.1)
  of_instruction i (Stop modules) is w = absurd (none-some w.0 w.1)
  of_instruction i (Start modules) is w = absurd (none-some w.0 w.1)
  of_instruction i (Apply name function arguments) is w =
      let it = call_of name function (count arguments) in
      let same : w.0 ≡ it = let both : Some w.0 ≡ Some it = sym w.1 in cc in
      of_applied i name function arguments w.0 is same w.2

  abbrev Parts : Type 0
  Parts = IsUnansweredIn way left installed script left f ⊎
      (IsUnansweredIn way left installed script installed f ⊎ FromEach (AppliesNobodyBy way left installed script) script f)

  of_parts : Parts → LeavesUnanswered way left installed script f
  of_parts either = elim either [
    | inl of_left ↦ of_callers left (λ it there. Contains-append_left left installed it there) of_left
    | inr others ↦ elim others [
      | inl of_installed ↦ of_callers installed (λ it there. Contains-append_right left installed it there) of_installed
      | inr w ↦ of_instruction w.0 w.1 w.2 w.3
    ]
  ]

  in_callers : (callers : List Interface) (caller : Interface) (k : Call) → Contains callers caller → Contains caller.calls k →
      IsUnansweredCall way left installed script caller.application caller.name k f → IsUnansweredIn way left installed script callers f
  in_callers callers caller k among calls found =
      (among.0, caller, index_of callers caller among, (calls.0, k, index_of caller.calls k calls, found))

  in_parts : LeavesUnanswered way left installed script f → Parts
  in_parts (unanswered caller k from to among calls known window upgrade is) =
      let found : IsUnansweredCall way left installed script caller.application caller.name k f = (known, (from, (to, window, upgrade, is))) in
      elim (Contains-append_cases left installed caller among) [
        | inl of_left ↦ inl (in_callers left caller k of_left calls found)
        | inr of_installed ↦ inr (inl (in_callers installed caller k of_installed calls found))
      ]
  in_parts (applies_nobody i m name arguments at known nobody is) =
      inr (inr (
        i,
        Apply m name arguments,
        at,
        (call_of m name (count arguments), refl, (known, nobody, is)),
      ))

pub found-of-parts : (way : Direction) (left installed : List Interface) (script : List Low)
    (before by_left by_installed found : List Finding) → before ≡ [] →
    Adds (IsUnansweredIn way left installed script left) before by_left →
    Adds (IsUnansweredIn way left installed script installed) by_left by_installed →
    Adds (FromEach (AppliesNobodyBy way left installed script) script) by_installed found →
    (f : Finding) → Contains found f ↔ LeavesUnanswered way left installed script f
found-of-parts way left installed script before by_left by_installed found nothing first second third f =
    let A : Finding → Type 0 = IsUnansweredIn way left installed script left in
    let B : Finding → Type 0 = IsUnansweredIn way left installed script installed in
    let C : Finding → Type 0 = FromEach (AppliesNobodyBy way left installed script) script in
    let P : Finding → Type 0 = λ g. A g ⊎ (B g ⊎ C g) in
    let all : Adds P before found =
    adds_both A (λ g. B g ⊎ C g) before by_left found first (adds_both B C by_left by_installed found second third) in
    let there = from_nothing P found (subst (λ before'. Adds P before' found) nothing all) f in (
      (λ w. of_parts way left installed script f (there.0 w)),
      (λ w. there.1 (in_parts way left installed script f w)),
    )

-- Calls to modules that neither release has.

module _ (left installed : List Interface) (f : Finding) where
  of_outside : FromEach (λ i caller. IsOutsideOf left installed caller) installed f → IsOutside left installed f
  of_outside w =
      let caller = w.1 in
      outside caller w.3.1 (at_index installed w.0 caller w.2) (at_index caller.calls w.3.0 w.3.1 w.3.2) w.3.3.0 w.3.3.1 w.3.3.2

  in_outside : IsOutside left installed f → FromEach (λ i caller. IsOutsideOf left installed caller) installed f
  in_outside (outside caller k among calls unknown no_start is) =
      (among.0, caller, index_of installed caller among, (calls.0, k, index_of caller.calls k calls, (unknown, no_start, is)))

pub outside-of-parts : (left installed : List Interface) (before found : List Finding) → before ≡ [] →
    Adds (FromEach (λ i caller. IsOutsideOf left installed caller) installed) before found →
    (f : Finding) → Contains found f ↔ IsOutside left installed f
outside-of-parts left installed before found nothing all f =
    let P : Finding → Type 0 = FromEach (λ i caller. IsOutsideOf left installed caller) installed in
    let there = from_nothing P found (subst (λ before'. Adds P before' found) nothing all) f in
    ((λ w. of_outside left installed f (there.0 w)), (λ w. there.1 (in_outside left installed f w)))

-- The findings about functions that serve and call gen_server:call, by modules.

of_asking : (installed : List Interface) (f : Finding) → FromEach (λ i server. IsAskingOf server) installed f → IsAsking installed f
of_asking installed f w =
    let one : IsAskingOf w.1 f = w.3 in
    asking w.1 one.1 (at_index installed w.0 w.1 w.2) (at_index w.1.asking one.0 one.1 one.2) one.3

in_asking : (installed : List Interface) (f : Finding) → IsAsking installed f → FromEach (λ i server. IsAskingOf server) installed f
in_asking installed f (asking server key among keys is) =
    (among.0, server, index_of installed server among, (keys.0, key, index_of server.asking key keys, is))

pub asking-of-parts : (installed : List Interface) (before found : List Finding) → before ≡ [] →
    Adds (FromEach (λ i server. IsAskingOf server) installed) before found → (f : Finding) → Contains found f ↔ IsAsking installed f
asking-of-parts installed before found nothing all f =
    let P : Finding → Type 0 = FromEach (λ i server. IsAskingOf server) installed in
    let there = from_nothing P found (subst (λ before'. Adds P before' found) nothing all) f in
    ((λ w. of_asking installed f (there.0 w)), (λ w. there.1 (in_asking installed f w)))
