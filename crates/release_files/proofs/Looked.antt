-- What is told of a release's files, as they are looked at.
use Rattle.std.proofs.Common.{map, ◌≡◌, ◌⊎◌, ℕ, ◌+◌, ◌<◌, ◌≤◌, true, false, List, [], ◌∷◌, ◌++◌, length, get_or, take, Contains, Result, Ok, Err, inl, inr, refl, sym, ap, ◌∙◌, subst, arith, string_bytes}
use Rattle.std.specs.Prelude.{◌↔◌, ◌≢◌, All, Any, IfOk}
use Rattle.std.proofs.lemmas.List.{append_assoc, append-nil, map-append, take_all}
use Rattle.std.proofs.lemmas.List.Elements.{All-nil, All-push, All-weaker, Contains-append_left, Contains-push, Contains-push_cases}
use Rattle.std.proofs.lemmas.List.Quantifiers.{Any-push}
use Rattle.erl_ir.specs.Module.{Forms}
use Rattle.erl_parse.specs.Sources.{OneModule}
use Rattle.otp_files.specs.declared.app.AppSpec.{AppSpec}
use Rattle.otp_files.specs.declared.applications.RelApp.{RelApp}
use Rattle.release_files.specs.declared.fault.FileFault.{FileFault}
use Rattle.release_files.specs.declared.fault.FileFault.TheVariants.{Memory}
use Rattle.release_files.specs.declared.fault.ReleaseFault.{ReleaseFault}
use Rattle.release_files.specs.AllFaults.{AreListed, AreSomeOf, IsFaultBeside, IsKnown, Lists, Source, SourceIsWrong, fault_paths, listed, of_appup, of_relup, of_source, of_spec, paths_beside, paths_of_app, paths_of_apps, second_of_name, sources_of_app, sources_of_apps, unlisted, wrong_itself}
use Rattle.release_files.specs.Found.{AllAreTold, AppsAreTold, AreTold, Finds, FindsFault, FindsSource, HasAppup, HasFault, HasRelup, HasSpec, IsNewModule, TellsApp, TellsSources, finds_fault, finds_module, finds_none, finds_wrong}
use Rattle.release_files.specs.Faults.{AppupFault, RelupFault, SourceFault, SourceWrong, SpecFault, known_module, wrong_source}
use Rattle.release_files.specs.Files.{Contents}
use Rattle.release_files.specs.Paths.{app_path, appup_path, relup_path, source_path}
use Rattle.release_files.specs.Releases.{IsModuleOf, IsSpecOf, is_built_in, with_files}
use Rattle.release_files.proofs.Apart.{module_apart}
use Rattle.release_files.proofs.Applied.{built_in_front, other_front}
use Rattle.release_files.proofs.Sourced.{front_more, zip_more}

-- Lists

pub none_in : {A : Type 0} (x : A) → Contains {X = A} [] x → ⊥
none_in x stands = no_index stands.0 stands.1
  where
    no_index : (k : ℕ) → k < 0 → ⊥
    no_index k below = absurd (omega arith)

pub no_split : {A : Type 0} (front : List A) (x : A) (rest : List A) → [] ≡ front ++ x ∷ rest → ⊥
no_split [] x rest is = let impossible : ⊥ = cc in impossible
no_split (y ∷ front) x rest is = let impossible : ⊥ = cc in impossible

-- an item of a list with one more at its end: that one, or one before it
pub split_push : {A : Type 0} (xs : List A) (x : A) (front : List A) (y : A) (rest : List A) → xs ++ x ∷ [] ≡ front ++ y ∷ rest → ((front ≡ xs) × (y ≡ x)) ⊎ ((others : List A) × (xs ≡ front ++ y ∷ others))
split_push [] x [] y rest is = inl (refl, cc)
split_push [] x (z ∷ front) y rest is = absurd (no_split front y rest (let tails : [] ≡ front ++ y ∷ rest = cc in tails))
split_push (w ∷ xs) x [] y rest is = let heads : w ≡ y = cc in inr (xs, ap (λ v. v ∷ xs) heads)
split_push (w ∷ xs) x (z ∷ front) y rest is =
    let heads : w ≡ z = cc in
    let tails : xs ++ x ∷ [] ≡ front ++ y ∷ rest = cc in
    elim (split_push xs x front y rest tails) [
      | inl last ↦ inl (ap (λ fs. z ∷ fs) last.0 ∙ ap (λ v. v ∷ xs) (sym heads), last.1)
      | inr before ↦ inr (before.0, ap (λ v. v ∷ xs) heads ∙ ap (λ vs. z ∷ vs) before.1)
    ]

pub any_more : {A : Type 0} (P : A → Type 0) (xs ys : List A) → Any P xs → Any P (xs ++ ys)
any_more P xs ys some =
    let there = Contains-append_left xs ys some.1 (some.0, some.2, some.3) in
    (there.0, some.1, there.1, there.2, some.4)

-- Sources

pub known_more : (files : Contents) (sources more : List Source) (name : List ℕ) → IsKnown files sources name → IsKnown files (sources ++ more) name
known_more files sources more name known = record {
  app = known.app;
  stands = Contains-append_left sources more (known.app, name) known.stands;
  forms = known.forms;
  read = known.read;
}

known_last : (files : Contents) (sources : List Source) (app : RelApp) (name n : List ℕ) (m : Forms) → IsModuleOf files app name m → name ≡ n → IsKnown files (sources ++ (app, name) ∷ []) n
known_last files sources app name n m read is =
    subst (λ k. IsKnown files (sources ++ (app, name) ∷ []) k) is (record { app = app; stands = Contains-push sources (app, name); forms = m; read = read })

-- one that is known is among those before the last, or is the last
known_cases : (files : Contents) (sources : List Source) (app : RelApp) (name n : List ℕ) → IsKnown files (sources ++ (app, name) ∷ []) n → IsKnown files sources n ⊎ ((name ≡ n) × ((m : Forms) × IsModuleOf files app name m))
known_cases files sources app name n known =
    elim (Contains-push_cases sources (app, name) (known.app, n) known.stands) [
      | inl before ↦ inl (record { app = known.app; stands = before; forms = known.forms; read = known.read })
      | inr is ↦
          let apps : app ≡ known.app = ap (λ s. s.0) is in
          let names : name ≡ n = ap (λ s. s.1) is in
          inr (names, (known.forms, subst (λ k. IsModuleOf files app k known.forms) (sym names) (subst (λ a. IsModuleOf files a n known.forms) (sym apps) known.read)))
    ]

sources_of_apps_more : (files : Contents) (apps : List RelApp) (lists : List (List (List ℕ))) (app : RelApp) (names : List (List ℕ)) → AreListed files apps lists → sources_of_apps (apps ++ app ∷ []) (lists ++ names ∷ []) ≡ sources_of_apps apps lists ++ sources_of_app app names
sources_of_apps_more files [] [] app names all = append-nil (sources_of_app app names)
sources_of_apps_more files [] (ns ∷ lists) app names all = absurd all
sources_of_apps_more files (a ∷ apps) [] app names all = absurd all
sources_of_apps_more files (a ∷ apps) (ns ∷ lists) app names all =
    ap (λ more. sources_of_app a ns ++ more) (sources_of_apps_more files apps lists app names all.1) ∙ sym (append_assoc (sources_of_app a ns) (sources_of_apps apps lists) (sources_of_app app names))

paths_of_apps_more : (files : Contents) (apps : List RelApp) (lists : List (List (List ℕ))) (app : RelApp) (names : List (List ℕ)) → AreListed files apps lists → paths_of_apps (apps ++ app ∷ []) (lists ++ names ∷ []) ≡ paths_of_apps apps lists ++ paths_of_app app names
paths_of_apps_more files [] [] app names all = append-nil (paths_of_app app names)
paths_of_apps_more files [] (ns ∷ lists) app names all = absurd all
paths_of_apps_more files (a ∷ apps) [] app names all = absurd all
paths_of_apps_more files (a ∷ apps) (ns ∷ lists) app names all =
    ap (λ more. paths_of_app a ns ++ more) (paths_of_apps_more files apps lists app names all.1) ∙ sym (append_assoc (paths_of_app a ns) (paths_of_apps apps lists) (paths_of_app app names))

-- paths, as files are looked at one by one
paths_beside_more : (files : Contents) (vsn : List ℕ) (apps : List RelApp) (lists : List (List (List ℕ))) (app : RelApp) (names : List (List ℕ)) → AreListed files apps lists → ((paths_beside vsn apps lists ++ app_path app ∷ []) ++ appup_path app ∷ []) ++ map (source_path app) names ≡ paths_beside vsn (apps ++ app ∷ []) (lists ++ names ∷ [])
paths_beside_more files vsn apps lists app names all =
    let before = paths_beside vsn apps lists in
    let one : before ++ app_path app ∷ [] ++ appup_path app ∷ [] ++ map (source_path app) names ≡ before ++ app_path app ∷ [] ++ (appup_path app ∷ map (source_path app) names) = append_assoc (before ++ app_path app ∷ []) (appup_path app ∷ []) (map (source_path app) names) in
    let two : before ++ app_path app ∷ [] ++ (appup_path app ∷ map (source_path app) names) ≡ before ++ paths_of_app app names = append_assoc before (app_path app ∷ []) (appup_path app ∷ map (source_path app) names) in
    one ∙ two ∙ ap (λ ps. relup_path vsn ∷ ps) (sym (paths_of_apps_more files apps lists app names all))

-- Paths in order

none_of : (all : List (List ℕ)) → AreSomeOf [] all
none_of [] = tt
none_of (first ∷ others) = tt

some_skip : (paths all : List (List ℕ)) (path : List ℕ) → AreSomeOf paths all → AreSomeOf paths (all ++ path ∷ [])
some_skip [] all path some = none_of (all ++ path ∷ [])
some_skip (p ∷ paths) [] path some = absurd some
some_skip (p ∷ paths) (first ∷ others) path some =
    elim some [
      | inl here ↦ inl (here.0, some_skip paths others path here.1)
      | inr later ↦ inr (some_skip (p ∷ paths) others path later)
    ]

some_more : (paths all : List (List ℕ)) (path : List ℕ) → AreSomeOf paths all → AreSomeOf (paths ++ path ∷ []) (all ++ path ∷ [])
some_more [] [] path some = inl (refl, tt)
some_more [] (first ∷ others) path some = inr (some_more [] others path (none_of others))
some_more (p ∷ paths) [] path some = absurd some
some_more (p ∷ paths) (first ∷ others) path some =
    elim some [
      | inl here ↦ inl (here.0, some_more paths others path here.1)
      | inr later ↦ inr (some_more (p ∷ paths) others path later)
    ]

fault_in_order : (found : List ReleaseFault) (f : ReleaseFault) (paths : List (List ℕ)) (path : List ℕ) → AreSomeOf (fault_paths found) paths → string_bytes f.path ≡ path → AreSomeOf (fault_paths (found ++ f ∷ [])) (paths ++ path ∷ [])
fault_in_order found f paths path some at =
    let next : fault_paths (found ++ f ∷ []) ≡ fault_paths found ++ path ∷ [] = map-append (λ (g : ReleaseFault). string_bytes g.path) found (f ∷ []) ∙ ap (λ p. fault_paths found ++ p ∷ []) at in
    subst (λ ps. AreSomeOf ps (paths ++ path ∷ [])) (sym next) (some_more (fault_paths found) paths path some)

-- Faults that are found

abbrev Beside : Contents → List ℕ → List RelApp → List Source → ReleaseFault → Type 0
Beside files vsn apps sources f = IsFaultBeside files vsn apps sources (string_bytes f.path) f.fault

behind_sources : (files : Contents) (vsn : List ℕ) (apps : List RelApp) (sources more : List Source) (f : ReleaseFault) → Beside files vsn apps sources f → Beside files vsn apps (sources ++ more) f
behind_sources files vsn apps sources more f (of_relup wrong) = of_relup wrong
behind_sources files vsn apps sources more f (of_spec app stands wrong) = of_spec app stands wrong
behind_sources files vsn apps sources more f (of_appup app stands wrong) = of_appup app stands wrong
behind_sources files vsn apps sources more f (of_source front app name rest split at wrong) =
    of_source front app name (rest ++ more) (ap (λ ss. ss ++ more) split ∙ append_assoc front ((app, name) ∷ rest) more) at wrong

behind_apps : (files : Contents) (vsn : List ℕ) (apps more : List RelApp) (sources : List Source) (f : ReleaseFault) → Beside files vsn apps sources f → Beside files vsn (apps ++ more) sources f
behind_apps files vsn apps more sources f (of_relup wrong) = of_relup wrong
behind_apps files vsn apps more sources f (of_spec app stands wrong) = of_spec app (Contains-append_left apps more app stands) wrong
behind_apps files vsn apps more sources f (of_appup app stands wrong) = of_appup app (Contains-append_left apps more app stands) wrong
behind_apps files vsn apps more sources f (of_source front app name rest split at wrong) = of_source front app name rest split at wrong

-- what was found stays found
found_more : (IsWrong : List ℕ → FileFault → Type 0) (P : Type 0) (old more : List ReleaseFault) → P ⊎ HasFault old IsWrong → P ⊎ HasFault (old ++ more) IsWrong
found_more IsWrong P old more told =
    elim told [
      | inl fine ↦ inl fine
      | inr wrong ↦ inr (any_more (λ f. IsWrong (string_bytes f.path) f.fault) old more wrong)
    ]

abbrev IsWrongSource : Contents → List Source → RelApp → List ℕ → List ℕ → FileFault → Type 0
IsWrongSource files front app name path fault = (path ≡ source_path app name) × SourceIsWrong files front name path fault

whole_more : (files : Contents) (vsn : List ℕ) (apps : List RelApp) (sources : List Source) (old more : List ReleaseFault) → AllAreTold files vsn apps sources old → AllAreTold files vsn apps sources (old ++ more)
whole_more files vsn apps sources old more whole = record {
  relup = found_more (RelupFault files vsn) (HasRelup files vsn) old more whole.relup;
  specs = λ app stands. found_more (SpecFault files app) (HasSpec files app) old more (whole.specs app stands);
  appups = λ app stands. found_more (AppupFault files app) (HasAppup files app) old more (whole.appups app stands);
  modules = λ front app name rest split. found_more (IsWrongSource files front app name) (IsNewModule files front app name) old more (whole.modules front app name rest split);
}

-- One source more

abbrev IsToldSource : Contents → List Source → RelApp → List ℕ → List ReleaseFault → Type 0
IsToldSource files front app name found = IsNewModule files front app name ⊎ HasFault found (IsWrongSource files front app name)

same_source : (files : Contents) (found : List ReleaseFault) (sources front : List Source) (one other : Source) → front ≡ sources → other ≡ one → IsToldSource files sources one.0 one.1 found → IsToldSource files front other.0 other.1 found
same_source files found sources front one other fronts is here =
    subst (λ (s : Source). IsToldSource files front s.0 s.1 found) (sym is) (subst (λ (fs : List Source). IsToldSource files fs one.0 one.1 found) (sym fronts) here)

whole_source : (files : Contents) (vsn : List ℕ) (apps : List RelApp) (sources : List Source) (app : RelApp) (name : List ℕ) (found : List ReleaseFault) → AllAreTold files vsn apps sources found → IsToldSource files sources app name found → AllAreTold files vsn apps (sources ++ (app, name) ∷ []) found
whole_source files vsn apps sources app name found whole here = record {
  relup = whole.relup;
  specs = whole.specs;
  appups = whole.appups;
  modules = λ front a n rest split.
      elim (split_push sources (app, name) front (a, n) rest split) [
        | inl last ↦ same_source files found sources front (app, name) (a, n) last.0 last.1 here
        | inr before ↦ whole.modules front a n before.0 before.1
      ];
}

new_source : (files : Contents) (vsn : List ℕ) (apps : List RelApp) (sources : List Source) (app : RelApp) (name : List ℕ) (paths seen : List (List ℕ)) (found : List ReleaseFault) (m : Forms) → AreTold files vsn apps sources paths seen found → IsModuleOf files app name m → (Contains seen name → ⊥) → AreTold files vsn apps (sources ++ (app, name) ∷ []) (paths ++ source_path app name ∷ []) (seen ++ name ∷ []) found
new_source files vsn apps sources app name paths seen found m told read other = record {
  known = λ n. (
    λ stands. elim (Contains-push_cases seen name n stands) [
      | inl before ↦ known_more files sources ((app, name) ∷ []) n ((told.known n).0 before)
      | inr last ↦ known_last files sources app name n m read last
    ],
    λ known. elim (known_cases files sources app name n known) [
      | inl before ↦ Contains-append_left seen (name ∷ []) n ((told.known n).1 before)
      | inr last ↦ subst (λ k. Contains (seen ++ name ∷ []) k) last.0 (Contains-push seen name)
    ],
  );
  sound = All-weaker (Beside files vsn apps sources) (Beside files vsn apps (sources ++ (app, name) ∷ [])) (behind_sources files vsn apps sources ((app, name) ∷ [])) found told.sound;
  whole = whole_source files vsn apps sources app name found told.whole (inl (record { forms = m; read = read; is_new = λ known. other ((told.known name).1 known) }));
  ordered = some_skip (fault_paths found) paths (source_path app name) told.ordered;
}

-- what is wrong behind names is wrong behind the sources that have them
by_names : (files : Contents) (sources : List Source) (seen : List (List ℕ)) (name path : List ℕ) (fault : FileFault) → ((n : List ℕ) → Contains seen n ↔ IsKnown files sources n) → SourceWrong files seen name path fault → SourceIsWrong files sources name path fault
by_names files sources seen name path fault known (wrong_source wrong) = wrong_itself wrong
by_names files sources seen name path fault known (known_module m says named stands is) = second_of_name m says named ((known name).0 stands) is

-- and where it is read as its module, that name is among them
seen_before : OneModule → (files : Contents) (seen : List (List ℕ)) (app : RelApp) (name path : List ℕ) (m : Forms) (fault : FileFault) → IsModuleOf files app name m → path ≡ source_path app name → SourceWrong files seen name path fault → Contains seen name
seen_before law files seen app name path m fault read at (wrong_source wrong) = absurd (module_apart law files app name path m fault read at wrong)
seen_before law files seen app name path m fault read at (known_module n says named stands is) = stands

faulty_source : OneModule → (files : Contents) (vsn : List ℕ) (apps : List RelApp) (sources : List Source) (app : RelApp) (name : List ℕ) (paths seen : List (List ℕ)) (found : List ReleaseFault) (f : ReleaseFault) → AreTold files vsn apps sources paths seen found → SourceFault files app seen name (string_bytes f.path) f.fault → AreTold files vsn apps (sources ++ (app, name) ∷ []) (paths ++ source_path app name ∷ []) seen (found ++ f ∷ [])
faulty_source law files vsn apps sources app name paths seen found f told wrong =
    let path = string_bytes f.path in
    let here : SourceIsWrong files sources name path f.fault = by_names files sources seen name path f.fault told.known wrong.wrong in
    record {
      known = λ n. (
        λ stands. known_more files sources ((app, name) ∷ []) n ((told.known n).0 stands),
        λ known. elim (known_cases files sources app name n known) [
          | inl before ↦ (told.known n).1 before
          | inr last ↦ subst (Contains seen) last.0 (seen_before law files seen app name path last.1.0 f.fault last.1.1 wrong.at wrong.wrong)
        ],
      );
      sound = All-push (Beside files vsn apps (sources ++ (app, name) ∷ [])) found f (All-weaker (Beside files vsn apps sources) (Beside files vsn apps (sources ++ (app, name) ∷ [])) (behind_sources files vsn apps sources ((app, name) ∷ [])) found told.sound) (of_source sources app name [] refl wrong.at here);
      whole = whole_source files vsn apps sources app name (found ++ f ∷ []) (whole_more files vsn apps sources found (f ∷ []) told.whole) (inr (Any-push (λ (g : ReleaseFault). IsWrongSource files sources app name (string_bytes g.path) g.fault) found f (wrong.at, here)));
      ordered = fault_in_order found f paths (source_path app name) told.ordered wrong.at;
    }

source_found : OneModule → (files : Contents) (vsn : List ℕ) (apps : List RelApp) (sources : List Source) (app : RelApp) (name : List ℕ) (paths seen after : List (List ℕ)) (old new : List ReleaseFault) → AreTold files vsn apps sources paths seen old → FindsSource files app name seen after old new → AreTold files vsn apps (sources ++ (app, name) ∷ []) (paths ++ source_path app name ∷ []) after new
source_found law files vsn apps sources app name paths seen after old new told (finds_module m read other is same) =
    let all = sources ++ (app, name) ∷ [] in
    let at = paths ++ source_path app name ∷ [] in
    subst (λ fs. AreTold files vsn apps all at after fs) (sym same) (subst (λ ns. AreTold files vsn apps all at ns old) (sym is) (new_source files vsn apps sources app name paths seen old m told read other))
source_found law files vsn apps sources app name paths seen after old new told (finds_wrong found same) =
    let all = sources ++ (app, name) ∷ [] in
    let at = paths ++ source_path app name ∷ [] in
    subst (λ fs. AreTold files vsn apps all at after fs) (sym found.is) (subst (λ ns. AreTold files vsn apps all at ns (old ++ found.more ∷ [])) (sym same) (faulty_source law files vsn apps sources app name paths seen old found.more told found.wrong))

-- What a reader tells is a fault that is found, where memory was not refused

pub told_once : (IsWrong : List ℕ → FileFault → Type 0) (old new : List ReleaseFault) (f : ReleaseFault) → (f.fault ≡ Memory) ⊎ IsWrong (string_bytes f.path) f.fault → (f.fault ≢ Memory) × (new ≡ old ++ f ∷ []) → FindsFault IsWrong old new
told_once IsWrong old new f told added =
    elim told [
      | inl memory ↦ absurd (added.0 memory)
      | inr wrong ↦ record { more = f; wrong = wrong; is = added.1 }
    ]

pub told_or_none : {T E : Type 0} (r : Result T E) (Fine : Type 0) (IsWrong : List ℕ → FileFault → Type 0) (old new : List ReleaseFault) (f : ReleaseFault) → (f.fault ≡ Memory) ⊎ IsWrong (string_bytes f.path) f.fault → IfOk r (λ _. (f.fault ≢ Memory) × (new ≡ old ++ f ∷ [])) → IfOk r (λ _. Finds Fine IsWrong old new)
told_or_none (Ok x) Fine IsWrong old new f told added = finds_fault (told_once IsWrong old new f told added)
told_or_none (Err e) Fine IsWrong old new f told added = tt

pub source_told_once : {T E : Type 0} (r : Result T E) (files : Contents) (app : RelApp) (name : List ℕ) (seen after : List (List ℕ)) (old new : List ReleaseFault) (f : ReleaseFault) → (f.fault ≡ Memory) ⊎ (SourceFault files app seen name (string_bytes f.path) f.fault × (after ≡ seen)) → IfOk r (λ _. (f.fault ≢ Memory) × (new ≡ old ++ f ∷ [])) → IfOk r (λ _. FindsSource files app name seen after old new)
source_told_once (Ok x) files app name seen after old new f told added =
    elim told [
      | inl memory ↦ absurd (added.0 memory)
      | inr wrong ↦ finds_wrong (record { more = f; wrong = wrong.0; is = added.1 }) wrong.1
    ]
source_told_once (Err e) files app name seen after old new f told added = tt

-- The sources of an application, as its names come

pub sources_begin : (files : Contents) (app : RelApp) (seen : List (List ℕ)) (found : List ReleaseFault) → TellsSources files app [] seen seen found found
sources_begin files app seen found = λ vsn apps sources paths told.
    subst (λ ps. AreTold files vsn apps (sources ++ []) ps seen found) (sym (append-nil paths)) (subst (λ ss. AreTold files vsn apps ss paths seen found) (sym (append-nil sources)) told)

pub sources_turn : OneModule → (files : Contents) (app : RelApp) (names before seen after : List (List ℕ)) (first old new : List ReleaseFault) (i : ℕ) (name : List ℕ) → i < length names → name ≡ get_or names i name → TellsSources files app (take i names) before seen first old → FindsSource files app name seen after old new → TellsSources files app (take (i + 1) names) before after first new
sources_turn law files app names before seen after first old new i name below is so_far here = λ vsn apps sources paths told.
    let front = take i names in
    let more = front_more names i name below is in
    let next = ap (λ ns. sources ++ sources_of_app app ns) more ∙ ap (λ ss. sources ++ ss) (map-append (λ n. (app, n)) front (name ∷ [])) ∙ sym (append_assoc sources (sources_of_app app front) ((app, name) ∷ [])) in
    let at = ap (λ ns. paths ++ map (source_path app) ns) more ∙ ap (λ ps. paths ++ ps) (map-append (source_path app) front (name ∷ [])) ∙ sym (append_assoc paths (map (source_path app) front) (source_path app name ∷ [])) in
    let told_here = source_found law files vsn apps (sources ++ sources_of_app app front) app name (paths ++ map (source_path app) front) seen after old new (so_far vsn apps sources paths told) here in
    subst (λ ps. AreTold files vsn apps (sources ++ sources_of_app app (take (i + 1) names)) ps after new) (sym at) (subst (λ ss. AreTold files vsn apps ss ((paths ++ map (source_path app) front) ++ source_path app name ∷ []) after new) (sym next) told_here)

pub sources_end : (files : Contents) (app : RelApp) (names before seen : List (List ℕ)) (first found : List ReleaseFault) (i : ℕ) → length names ≤ i → TellsSources files app (take i names) before seen first found → TellsSources files app names before seen first found
sources_end files app names before seen first found i over so_far = subst (λ ns. TellsSources files app ns before seen first found) (take_all i names over) so_far

-- One application more

finds_still : (Fine : Type 0) (IsWrong Other : List ℕ → FileFault → Type 0) (P : Type 0) (old new : List ReleaseFault) → Finds Fine IsWrong old new → P ⊎ HasFault old Other → P ⊎ HasFault new Other
finds_still Fine IsWrong Other P old new (finds_none fine same) told = subst (λ fs. P ⊎ HasFault fs Other) (sym same) told
finds_still Fine IsWrong Other P old new (finds_fault found) told = subst (λ fs. P ⊎ HasFault fs Other) (sym found.is) (found_more Other P old (found.more ∷ []) told)

finds_here : (Fine : Type 0) (IsWrong : List ℕ → FileFault → Type 0) (old new : List ReleaseFault) → Finds Fine IsWrong old new → Fine ⊎ HasFault new IsWrong
finds_here Fine IsWrong old new (finds_none fine same) = inl fine
finds_here Fine IsWrong old new (finds_fault found) =
    inr (subst (λ fs. HasFault fs IsWrong) (sym found.is) (Any-push (λ (f : ReleaseFault). IsWrong (string_bytes f.path) f.fault) old found.more found.wrong))

finds_sound : (Fine : Type 0) (IsWrong : List ℕ → FileFault → Type 0) (P : ReleaseFault → Type 0) (old new : List ReleaseFault) → Finds Fine IsWrong old new → ((f : ReleaseFault) → IsWrong (string_bytes f.path) f.fault → P f) → All P old → All P new
finds_sound Fine IsWrong P old new (finds_none fine same) by so_far = subst (All P) (sym same) so_far
finds_sound Fine IsWrong P old new (finds_fault found) by so_far = subst (All P) (sym found.is) (All-push P old found.more so_far (by found.more found.wrong))

-- its path comes next
finds_in_order : (Fine : Type 0) (IsWrong : List ℕ → FileFault → Type 0) (at : List ℕ) (paths : List (List ℕ)) (old new : List ReleaseFault) → Finds Fine IsWrong old new → ((path : List ℕ) (fault : FileFault) → IsWrong path fault → path ≡ at) → AreSomeOf (fault_paths old) paths → AreSomeOf (fault_paths new) (paths ++ at ∷ [])
finds_in_order Fine IsWrong at paths old new (finds_none fine same) by some =
    subst (λ fs. AreSomeOf (fault_paths fs) (paths ++ at ∷ [])) (sym same) (some_skip (fault_paths old) paths at some)
finds_in_order Fine IsWrong at paths old new (finds_fault found) by some =
    subst (λ fs. AreSomeOf (fault_paths fs) (paths ++ at ∷ [])) (sym found.is) (fault_in_order old found.more paths at some (by (string_bytes found.more.path) found.more.fault found.wrong))

app_found : (files : Contents) (vsn : List ℕ) (apps : List RelApp) (sources : List Source) (app : RelApp) (paths seen : List (List ℕ)) (first then last : List ReleaseFault) → AreTold files vsn apps sources paths seen first → Finds (HasSpec files app) (SpecFault files app) first then → Finds (HasAppup files app) (AppupFault files app) then last → AreTold files vsn (apps ++ app ∷ []) sources ((paths ++ app_path app ∷ []) ++ appup_path app ∷ []) seen last
app_found files vsn apps sources app paths seen first then last told spec appup = record {
  known = told.known;
  sound =
      let P = Beside files vsn (apps ++ app ∷ []) sources in
      let before = All-weaker (Beside files vsn apps sources) P (behind_apps files vsn apps (app ∷ []) sources) first told.sound in
      let with_spec = finds_sound (HasSpec files app) (SpecFault files app) P first then spec (λ f wrong. of_spec app (Contains-push apps app) wrong) before in
      finds_sound (HasAppup files app) (AppupFault files app) P then last appup (λ f wrong. of_appup app (Contains-push apps app) wrong) with_spec;
  whole = record {
    relup = still (RelupFault files vsn) (HasRelup files vsn) told.whole.relup;
    specs = λ a stands.
        elim (Contains-push_cases apps app a stands) [
          | inl before ↦ still (SpecFault files a) (HasSpec files a) (told.whole.specs a before)
          | inr is ↦ subst (λ b. HasSpec files b ⊎ HasFault last (SpecFault files b)) is (finds_still (HasAppup files app) (AppupFault files app) (SpecFault files app) (HasSpec files app) then last appup (finds_here (HasSpec files app) (SpecFault files app) first then spec))
        ];
    appups = λ a stands.
        elim (Contains-push_cases apps app a stands) [
          | inl before ↦ still (AppupFault files a) (HasAppup files a) (told.whole.appups a before)
          | inr is ↦ subst (λ b. HasAppup files b ⊎ HasFault last (AppupFault files b)) is (finds_here (HasAppup files app) (AppupFault files app) then last appup)
        ];
    modules = λ front a n rest split. still (IsWrongSource files front a n) (IsNewModule files front a n) (told.whole.modules front a n rest split);
  };
  ordered = finds_in_order (HasAppup files app) (AppupFault files app) (appup_path app) (paths ++ app_path app ∷ []) then last appup (λ path fault wrong. wrong.at) (finds_in_order (HasSpec files app) (SpecFault files app) (app_path app) paths first then spec (λ path fault wrong. wrong.at) told.ordered);
}
  where
    still : (Other : List ℕ → FileFault → Type 0) (P : Type 0) → P ⊎ HasFault first Other → P ⊎ HasFault last Other
    still Other P so_far = finds_still (HasAppup files app) (AppupFault files app) Other P then last appup (finds_still (HasSpec files app) (SpecFault files app) Other P first then spec so_far)

-- what is told of it, with its names
app_more : (files : Contents) (vsn : List ℕ) (apps : List RelApp) (app : RelApp) (lists : List (List (List ℕ))) (names seen : List (List ℕ)) (found : List ReleaseFault) → AreListed files apps lists → Lists files app names → AreTold files vsn (apps ++ app ∷ []) (sources_of_apps apps lists ++ sources_of_app app names) (((paths_beside vsn apps lists ++ app_path app ∷ []) ++ appup_path app ∷ []) ++ map (source_path app) names) seen found → AppsAreTold files vsn (apps ++ app ∷ []) seen found
app_more files vsn apps app lists names seen found each here told = record {
  lists = lists ++ names ∷ [];
  each = zip_more (Lists files) apps lists app names each here;
  told = subst (λ ps. AreTold files vsn (apps ++ app ∷ []) (sources_of_apps (apps ++ app ∷ []) (lists ++ names ∷ [])) ps seen found) (paths_beside_more files vsn apps lists app names each) (subst (λ ss. AreTold files vsn (apps ++ app ∷ []) ss (((paths_beside vsn apps lists ++ app_path app ∷ []) ++ appup_path app ∷ []) ++ map (source_path app) names) seen found) (sym (sources_of_apps_more files apps lists app names each)) told);
}

pub app_listed : {T E : Type 0} (r : Result T E) (files : Contents) (app : RelApp) (spec : AppSpec) (names seen after : List (List ℕ)) (first then last new : List ReleaseFault) → IsSpecOf files app spec × (then ≡ first) → Finds (HasAppup files app) (AppupFault files app) then last → names ≡ spec.modules → IfOk r (λ _. TellsSources files app names seen after last new) → IfOk r (λ _. TellsApp files app seen after first new)
app_listed (Ok x) files app spec names seen after first then last new is appup named tells = λ vsn apps told.
    let paths = paths_beside vsn apps told.lists in
    let sources = sources_of_apps apps told.lists in
    let here = app_found files vsn apps sources app paths seen first then last told.told (finds_none (spec, is.0) is.1) appup in
    app_more files vsn apps app told.lists names after new told.each (listed spec is.0 named) (tells vsn (apps ++ app ∷ []) sources ((paths ++ app_path app ∷ []) ++ appup_path app ∷ []) here)
app_listed (Err e) files app spec names seen after first then last new is appup named tells = tt

pub app_unlisted : (files : Contents) (app : RelApp) (seen : List (List ℕ)) (first then last : List ReleaseFault) → FindsFault (SpecFault files app) first then → Finds (HasAppup files app) (AppupFault files app) then last → TellsApp files app seen seen first last
app_unlisted files app seen first then last found appup = λ vsn apps told.
    let paths = paths_beside vsn apps told.lists in
    let sources = sources_of_apps apps told.lists in
    let here = app_found files vsn apps sources app paths seen first then last told.told (finds_fault found) appup in
    let tells = sources_begin files app seen last in
    app_more files vsn apps app told.lists [] seen last told.each (unlisted (string_bytes found.more.path) found.more.fault found.wrong refl) (tells vsn (apps ++ app ∷ []) sources ((paths ++ app_path app ∷ []) ++ appup_path app ∷ []) here)

-- The applications of a release, as they come

relup_found : (files : Contents) (vsn : List ℕ) (found : List ReleaseFault) → Finds (HasRelup files vsn) (RelupFault files vsn) [] found → AppsAreTold files vsn [] [] found
relup_found files vsn found relup = record {
  lists = [];
  each = tt;
  told = record {
    known = λ n. (λ stands. absurd (none_in n stands), λ known. absurd (none_in (known.app, n) known.stands));
    sound = finds_sound (HasRelup files vsn) (RelupFault files vsn) (Beside files vsn [] []) [] found relup (λ f wrong. of_relup wrong) (All-nil (Beside files vsn [] []));
    whole = record {
      relup = finds_here (HasRelup files vsn) (RelupFault files vsn) [] found relup;
      specs = λ app stands. absurd (none_in app stands);
      appups = λ app stands. absurd (none_in app stands);
      modules = λ front app name rest split. absurd (no_split front (app, name) rest split);
    };
    ordered = finds_in_order (HasRelup files vsn) (RelupFault files vsn) (relup_path vsn) [] [] found relup (λ path fault wrong. wrong.at) tt;
  };
}

-- what is told of so many applications, where the relup was looked at
abbrev pub TellsApps : Contents → List RelApp → List (List ℕ) → List ReleaseFault → List ReleaseFault → Type 0
TellsApps files apps seen first found = (vsn : List ℕ) → AppsAreTold files vsn [] [] first → AppsAreTold files vsn (with_files apps) seen found

pub apps_skip : (files : Contents) (apps : List RelApp) (seen : List (List ℕ)) (first found : List ReleaseFault) (i : ℕ) (app : RelApp) → i < length apps → app ≡ get_or apps i app → is_built_in app ≡ true → TellsApps files (take i apps) seen first found → TellsApps files (take (i + 1) apps) seen first found
apps_skip files apps seen first found i app below is built_in so_far = λ vsn told.
    subst (λ some. AppsAreTold files vsn some seen found) (sym (ap with_files (front_more apps i app below is) ∙ built_in_front (take i apps) app built_in)) (so_far vsn told)

pub apps_turn : (files : Contents) (apps : List RelApp) (seen after : List (List ℕ)) (first old new : List ReleaseFault) (i : ℕ) (app : RelApp) → i < length apps → app ≡ get_or apps i app → is_built_in app ≡ false → TellsApps files (take i apps) seen first old → TellsApp files app seen after old new → TellsApps files (take (i + 1) apps) after first new
apps_turn files apps seen after first old new i app below is other so_far here = λ vsn told.
    subst (λ some. AppsAreTold files vsn some after new) (sym (ap with_files (front_more apps i app below is) ∙ other_front (take i apps) app other)) (here vsn (with_files (take i apps)) (so_far vsn told))

pub apps_end : (files : Contents) (apps : List RelApp) (seen : List (List ℕ)) (first found : List ReleaseFault) (i : ℕ) → length apps ≤ i → TellsApps files (take i apps) seen first found → TellsApps files apps seen first found
apps_end files apps seen first found i over so_far = subst (λ some. TellsApps files some seen first found) (take_all i apps over) so_far

pub apps_begin : (files : Contents) (seen : List (List ℕ)) (found : List ReleaseFault) → seen ≡ [] → TellsApps files [] seen found found
apps_begin files seen found none = λ vsn told. subst (λ ns. AppsAreTold files vsn [] ns found) (sym none) told

-- the relup, and then the applications of a `.rel`
pub all_found : (files : Contents) (vsn : List ℕ) (apps all : List RelApp) (none then last : List ReleaseFault) → none ≡ [] → apps ≡ all → Finds (HasRelup files vsn) (RelupFault files vsn) none then → ((v : List ℕ) → AppsAreTold files v [] [] then → (seen : List (List ℕ)) × AppsAreTold files v (with_files apps) seen last) → (seen : List (List ℕ)) × AppsAreTold files vsn (with_files all) seen last
all_found files vsn apps all none then last is same relup tells =
    let told = tells vsn (relup_found files vsn then (subst (λ fs. Finds (HasRelup files vsn) (RelupFault files vsn) fs then) is relup)) in
    (told.0, subst (λ some. AppsAreTold files vsn (with_files some) told.0 last) same told.1)
