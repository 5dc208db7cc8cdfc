-- A `code_change` is made in one way, or isn't for one reason.
use Rattle.std.proofs.Common.{◌≡◌, ℕ, inl, inr, List, [], ◌∷◌, ◌++◌, Option, None, Some, refl, sym, ap, subst, ◌∙◌}
use Rattle.std.proofs.lemmas.Option.{none-some, same_Some}
use Rattle.app_table.specs.Applications.{Application}
use Rattle.app_table.specs.Renewing.{with_renewed}
use Rattle.child_specs.specs.declared.child.ChildSpec.{ChildSpec}
use Rattle.code_changes.specs.Changing.{AllUpgrade, FirstStops, RefusesCodeChange, Script, Stops, Upgraded, Upgrades, behind, changes_in}
use Rattle.code_changes.specs.Laws.{CodeChangesOneWay}
use Rattle.code_changes.specs.Renewing.{AllRenew, FirstBadInit, Gives, GivesNone, RenewsIf, supervisor_in}
use Rattle.code_changes.specs.declared.changing.CodeChangeError.{CodeChangeError}
use Rattle.code_changes.specs.declared.changing.CodeChangeError.TheVariants.{Unchanged, BadInit, CounterEnd}
use Rattle.erl_semantics.specs.declared.acts.Act.{Act}
use Rattle.erl_semantics.specs.declared.instance.Instance.{Instance}
use Rattle.erl_semantics.specs.declared.outcome.Outcome.{Outcome}
use Rattle.erl_term.specs.declared.term.Term.{Term}
use Rattle.low_instructions.specs.declared.modules.ModuleChange.{ModuleChange}
use Rattle.otp_files.specs.declared.app.StartModule.{StartModule}
use Rattle.process_effects.specs.Begins.{acts_begun, begun_told}
use Rattle.process_effects.specs.declared.told.Reply.{Reply}
use Rattle.process_store.specs.Table.{Table}
use Rattle.sys_protocol.proofs.ApplicationsOneWay.{applications_start_one_way}
use Rattle.sys_protocol.specs.AppStarts.{GivesNoSupervision, GivesSupervision, children_in, init_fault}
use Rattle.upgrade_calls.proofs.ChangesOneWay as states
use Rattle.upgrade_calls.specs.Changing.{AreCounted}

-- A supervisor gives one supervision, or none, for one reason.

pub given-once : (code : List Instance) (s : StartModule) (specs others : List ChildSpec) (acts more : List Act) → GivesSupervision code s specs acts →
    GivesSupervision code s others more → (specs ≡ others) × (acts ≡ more)
given-once code s specs others acts more first second =
    let same = applications_start_one_way.gives code s first.outcome second.outcome first.gives second.gives in (
      same_Some specs others (sym first.supervision ∙ ap (λ (o : Outcome). children_in o.end) same ∙ second.supervision),
      first.asks ∙ ap (λ (o : Outcome). o.acts) same ∙ sym second.asks,
    )

none-once : (code : List Instance) (s : StartModule) (x y : Term) → GivesNoSupervision code s x → GivesNoSupervision code s y → x ≡ y
none-once code s x y first second =
    let same = applications_start_one_way.gives code s first.outcome second.outcome first.gives second.gives in
    first.because ∙ ap (λ (o : Outcome). init_fault o.end) same ∙ sym second.because

given_or_none : (code : List Instance) (s : StartModule) (specs : List ChildSpec) (acts : List Act) (x : Term) → GivesSupervision code s specs acts →
    GivesNoSupervision code s x → ⊥
given_or_none code s specs acts x given none =
    let same = applications_start_one_way.gives code s none.outcome given.outcome none.gives given.gives in
    none-some specs (sym none.none ∙ ap (λ (o : Outcome). children_in o.end) same ∙ given.supervision)

-- An application has one list of children then.

renews-once : (code : List Instance) (o : Option StartModule) (a b c : Application) (t after last : Table) (told said : List Reply) →
    RenewsIf code o a b t after told → RenewsIf code o a c t last said → (b ≡ c) × (after ≡ last) × (told ≡ said)
renews-once code None a b c t after last told said first second = (first.0 ∙ sym second.0, first.1 ∙ sym second.1, first.2 ∙ sym second.2)
renews-once code (Some s) a b c t after last told said first second =
    let same = given-once code s first.specs second.specs first.acts second.acts first.gives second.gives in (
      first.renewed ∙ ap (λ (specs : List ChildSpec). with_renewed specs a) same.0 ∙ sym second.renewed,
      first.done ∙ ap (λ (acts : List Act). acts_begun None code acts t) same.1 ∙ sym second.done,
      first.tells ∙ ap (λ (acts : List Act). begun_told None code acts t) same.1 ∙ sym second.tells,
    )

all_renew-once : (code : List Instance) (name : List ℕ) (apps : List Application) (t : Table) (one other : List Application) (after last : Table) →
    (told said : List Reply) → AllRenew code name apps t one after told → AllRenew code name apps t other last said →
    (one ≡ other) × (after ≡ last) × (told ≡ said)
all_renew-once code name [] t one other after last told said first second =
    (first.0 ∙ sym second.0, first.1 ∙ sym second.1, first.2 ∙ sym second.2)
all_renew-once code name (a ∷ apps) t [] other after last told said first second = absurd first
all_renew-once code name (a ∷ apps) t (b ∷ one) [] after last told said first second = absurd second
all_renew-once code name (a ∷ apps) t (b ∷ one) (c ∷ other) after last told said (mid, x, xs, renews, rest, tells) (mid_too, y, ys, renews_too, rest_too, says) =
    let same = renews-once code (supervisor_in name a) a b c t mid mid_too x y renews renews_too in
    let there = subst (λ (u : Table). AllRenew code name apps u one after xs) same.1 rest in
    let others = all_renew-once code name apps mid_too one other after last xs ys there rest_too in (
      (λ i. same.0 i ∷ others.0 i),
      others.1,
      tells ∙ (λ i. same.2 i ++ others.2 i) ∙ sym says,
    )

-- The first that gives none is one, for one reason.

gives_or_none : (code : List Instance) (o : Option StartModule) (x : Term) → Gives code o → GivesNone code o x → ⊥
gives_or_none code None x given none = none
gives_or_none code (Some s) x (specs, acts, given) none = given_or_none code s specs acts x given none

gives_none-once : (code : List Instance) (o : Option StartModule) (x y : Term) → GivesNone code o x → GivesNone code o y → x ≡ y
gives_none-once code None x y first second = absurd first
gives_none-once code (Some s) x y first second = none-once code s x y first second

bad-once : (code : List Instance) (name : List ℕ) (apps : List Application) (x y : Term) → FirstBadInit code name apps x →
    FirstBadInit code name apps y → x ≡ y
bad-once code name [] x y first second = absurd first
bad-once code name (a ∷ apps) x y (inl first) (inl second) = gives_none-once code (supervisor_in name a) x y first second
bad-once code name (a ∷ apps) x y (inl first) (inr second) = absurd (gives_or_none code (supervisor_in name a) x second.0 first)
bad-once code name (a ∷ apps) x y (inr first) (inl second) = absurd (gives_or_none code (supervisor_in name a) y first.0 second)
bad-once code name (a ∷ apps) x y (inr first) (inr second) = bad-once code name apps x y first.1 second.1

renews_or_none : (code : List Instance) (o : Option StartModule) (a b : Application) (t after : Table) (told : List Reply) (x : Term) →
    RenewsIf code o a b t after told → GivesNone code o x → ⊥
renews_or_none code None a b t after told x renews none = none
renews_or_none code (Some s) a b t after told x renews none = given_or_none code s renews.specs renews.acts x renews.gives none

renew_or_bad : (code : List Instance) (name : List ℕ) (apps : List Application) (t : Table) (one : List Application) (after : Table) →
    (told : List Reply) (x : Term) → AllRenew code name apps t one after told → FirstBadInit code name apps x → ⊥
renew_or_bad code name [] t one after told x renew bad = bad
renew_or_bad code name (a ∷ apps) t [] after told x renew bad = renew
renew_or_bad code name (a ∷ apps) t (b ∷ one) after told x (mid, y, ys, renews, rest, tells) (inl none) =
    renews_or_none code (supervisor_in name a) a b t mid y x renews none
renew_or_bad code name (a ∷ apps) t (b ∷ one) after told x (mid, y, ys, renews, rest, tells) (inr bad) =
    renew_or_bad code name apps mid one after ys x rest bad.1

-- One module.

upgraded : (one other : Upgraded) → one.apps ≡ other.apps → one.processes ≡ other.processes → one.told ≡ other.told →
    one.changes ≡ other.changes → one ≡ other
upgraded one other apps processes told changes = λ i. record { apps = apps i; processes = processes i; told = told i; changes = changes i }

upgrades-once : (code : List Instance) (s : Script) (m : ModuleChange) (apps : List Application) (t : Table) (u v : Upgraded) →
    Upgrades code s m apps t u → Upgrades code s m apps t v → u ≡ v
upgrades-once code s m apps t u v first second =
    let cs = changes_in s m apps t in
    let same = states.changes_one_way.changes code cs t first.between second.between first.said second.said first.change second.change in
    let there = subst (λ (w : Table). AllRenew code m.name apps w u.apps u.processes first.rest) same.0 first.renew in
    let both = all_renew-once code m.name apps second.between u.apps v.apps u.processes v.processes first.rest second.rest there second.renew in
    let told : u.told ≡ v.told = first.tells ∙ (λ i. same.1 i ++ both.2 i) ∙ sym second.tells in
    upgraded u v both.0 both.1 told (first.changes ∙ sym second.changes)

stops-once : (code : List Instance) (s : Script) (m : ModuleChange) (apps : List Application) (t : Table) (e f : CodeChangeError) →
    Stops e code s m apps t → Stops f code s m apps t → e ≡ f
stops-once code s m apps t (Unchanged x) (Unchanged y) first second =
    ap Unchanged (states.changes_one_way.fails code (changes_in s m apps t) t x y first second)
stops-once code s m apps t (Unchanged x) (BadInit y) first (mid, said, all, bad) =
    absurd (states.changes_one_way.never_both code (changes_in s m apps t) t mid said x all first)
stops-once code s m apps t (Unchanged x) CounterEnd first second = absurd second
stops-once code s m apps t (BadInit x) (Unchanged y) (mid, said, all, bad) second =
    absurd (states.changes_one_way.never_both code (changes_in s m apps t) t mid said y all second)
stops-once code s m apps t (BadInit x) (BadInit y) (mid, said, all, bad) (last, told, all_too, bad_too) =
    ap BadInit (bad-once code m.name apps x y bad bad_too)
stops-once code s m apps t (BadInit x) CounterEnd first second = absurd second
stops-once code s m apps t CounterEnd f first second = absurd first

upgrades_or_stops : (code : List Instance) (s : Script) (m : ModuleChange) (apps : List Application) (t : Table) (u : Upgraded) →
    (e : CodeChangeError) → Upgrades code s m apps t u → Stops e code s m apps t → ⊥
upgrades_or_stops code s m apps t u (Unchanged x) up stops =
    states.changes_one_way.never_both code (changes_in s m apps t) t up.between up.said x up.change stops
upgrades_or_stops code s m apps t u (BadInit x) up (mid, said, all, bad) =
    renew_or_bad code m.name apps up.between u.apps u.processes up.rest x up.renew bad
upgrades_or_stops code s m apps t u CounterEnd up stops = stops

-- All modules.

all-once : (code : List Instance) (s : Script) (ms : List ModuleChange) (apps : List Application) (t : Table) (u v : Upgraded) →
    AllUpgrade code s ms apps t u → AllUpgrade code s ms apps t v → u ≡ v
all-once code s [] apps t u v first second = first ∙ sym second
all-once code s (m ∷ ms) apps t u v (one, rest, up, all, is) (other, rest_too, up_too, all_too, also) =
    let same = upgrades-once code s m apps t one other up up_too in
    let there = subst (λ (w : Upgraded). AllUpgrade code s ms w.apps w.processes rest) same all in
    let both = all-once code s ms other.apps other.processes rest rest_too there all_too in
    is ∙ (λ i. behind (same i) (both i)) ∙ sym also

first-once : (code : List Instance) (s : Script) (ms : List ModuleChange) (apps : List Application) (t : Table) (e f : CodeChangeError) →
    FirstStops e code s ms apps t → FirstStops f code s ms apps t → e ≡ f
first-once code s [] apps t e f first second = absurd first
first-once code s (m ∷ ms) apps t e f (inl first) (inl second) = stops-once code s m apps t e f first second
first-once code s (m ∷ ms) apps t e f (inl first) (inr (other, up, later)) = absurd (upgrades_or_stops code s m apps t other e up first)
first-once code s (m ∷ ms) apps t e f (inr (one, up, later)) (inl second) = absurd (upgrades_or_stops code s m apps t one f up second)
first-once code s (m ∷ ms) apps t e f (inr (one, up, later)) (inr (other, up_too, later_too)) =
    let same = upgrades-once code s m apps t one other up up_too in
    let there = subst (λ (w : Upgraded). FirstStops e code s ms w.apps w.processes) same later in
    first-once code s ms other.apps other.processes e f there later_too

all_or_first : (code : List Instance) (s : Script) (ms : List ModuleChange) (apps : List Application) (t : Table) (u : Upgraded) →
    (e : CodeChangeError) → AllUpgrade code s ms apps t u → FirstStops e code s ms apps t → ⊥
all_or_first code s [] apps t u e all first = first
all_or_first code s (m ∷ ms) apps t u e (one, rest, up, all, is) (inl stops) = upgrades_or_stops code s m apps t one e up stops
all_or_first code s (m ∷ ms) apps t u e (one, rest, up, all, is) (inr (other, up_too, later)) =
    let same = upgrades-once code s m apps t one other up up_too in
    let there = subst (λ (w : Upgraded). AllUpgrade code s ms w.apps w.processes rest) same all in
    all_or_first code s ms other.apps other.processes rest e there later

refuses-once : (code : List Instance) (s : Script) (ms : List ModuleChange) (apps : List Application) (t : Table) (e f : CodeChangeError) →
    RefusesCodeChange e code s ms apps t → RefusesCodeChange f code s ms apps t → e ≡ f
refuses-once code s ms apps t (Unchanged x) (Unchanged y) first second = first-once code s ms apps t (Unchanged x) (Unchanged y) first second
refuses-once code s ms apps t (Unchanged x) (BadInit y) first second = first-once code s ms apps t (Unchanged x) (BadInit y) first second
refuses-once code s ms apps t (Unchanged x) CounterEnd first (u, all, uncounted) = absurd (all_or_first code s ms apps t u (Unchanged x) all first)
refuses-once code s ms apps t (BadInit x) (Unchanged y) first second = first-once code s ms apps t (BadInit x) (Unchanged y) first second
refuses-once code s ms apps t (BadInit x) (BadInit y) first second = first-once code s ms apps t (BadInit x) (BadInit y) first second
refuses-once code s ms apps t (BadInit x) CounterEnd first (u, all, uncounted) = absurd (all_or_first code s ms apps t u (BadInit x) all first)
refuses-once code s ms apps t CounterEnd (Unchanged y) (u, all, uncounted) second = absurd (all_or_first code s ms apps t u (Unchanged y) all second)
refuses-once code s ms apps t CounterEnd (BadInit y) (u, all, uncounted) second = absurd (all_or_first code s ms apps t u (BadInit y) all second)
refuses-once code s ms apps t CounterEnd CounterEnd first second = refl

never_both : (code : List Instance) (s : Script) (ms : List ModuleChange) (apps : List Application) (t : Table) (u : Upgraded) →
    (e : CodeChangeError) → AllUpgrade code s ms apps t u → AreCounted u.changes u.processes → RefusesCodeChange e code s ms apps t → ⊥
never_both code s ms apps t u (Unchanged x) all counted refuses = all_or_first code s ms apps t u (Unchanged x) all refuses
never_both code s ms apps t u (BadInit x) all counted refuses = all_or_first code s ms apps t u (BadInit x) all refuses
never_both code s ms apps t u CounterEnd all counted (v, all_too, uncounted) =
    uncounted (subst (λ (w : Upgraded). AreCounted w.changes w.processes) (all-once code s ms apps t u v all all_too) counted)

pub changes_one_way : CodeChangesOneWay
changes_one_way = record { upgrades = all-once; refuses = refuses-once; never_both = never_both }
