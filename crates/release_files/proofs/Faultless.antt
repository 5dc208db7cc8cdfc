-- A release of whose files no fault is told.
use Rattle.std.proofs.Common.{◌≡◌, ◌⊎◌, ℕ, ◌+◌, ◌<◌, List, [], ◌∷◌, ◌++◌, length, get_or, take, drop, map, Contains, inl, inr, refl, sym, ap, ◌∙◌, subst, arith}
use Rattle.std.specs.Prelude.{Any}
use Rattle.std.specs.List.{AllZip}
use Rattle.std.proofs.lemmas.List.{append_assoc, append-nil, get_or-map, length-map, map-append}
use Rattle.std.proofs.lemmas.List.Elements.{Contains-append_left, Contains-append_right, Contains-get_or, Contains-push}
use Rattle.erl_ir.specs.Module.{Forms}
use Rattle.otp_files.specs.declared.applications.RelApp.{RelApp}
use Rattle.otp_files.specs.declared.rel.RelSpec.{RelSpec}
use Rattle.release_table.specs.declared.table.AppFiles.{AppFiles}
use Rattle.release_table.specs.declared.table.Release.{Release}
use Rattle.release_files.specs.declared.fault.ReleaseFault.{ReleaseFault}
use Rattle.release_files.specs.AllFaults.{AreListed, IsKnown, Lists, Source, listed, sources_of_app, sources_of_apps, unlisted}
use Rattle.release_files.specs.Found.{AllAreTold, AppsAreTold, HasAppup, HasSpec, IsNewModule}
use Rattle.release_files.specs.Files.{Contents}
use Rattle.release_files.specs.Releases.{AreDistinct, AreFilesOf, IsModuleOf, IsRelOf, IsRelease, module_names, names_of, with_files}
use Rattle.release_files.proofs.Apart.{BytesLaw, spec_apart}
use Rattle.release_files.proofs.Known.{distinct_more, none_distinct}
use Rattle.release_files.proofs.Sourced.{item_between, names_are}

-- what is told of nothing is fine
fine : (P : Type 0) (IsWrong : ReleaseFault → Type 0) → P ⊎ Any IsWrong [] → P
fine P IsWrong told =
    elim told [
      | inl is ↦ is
      | inr some ↦ absurd (no_index some.0 some.2)
    ]
  where
    no_index : (k : ℕ) → k < 0 → ⊥
    no_index k below = absurd (omega arith)

-- Lists

contains_split : {A : Type 0} (xs : List A) (x : A) → Contains xs x → (front : List A) × ((rest : List A) × (xs ≡ front ++ x ∷ rest))
contains_split xs x stands = (take stands.0 xs, (drop (stands.0 + 1) xs, item_between xs stands.0 x stands.1 (sym stands.2)))

contains_map : {A B : Type 0} (f : A → B) (xs : List A) (x : A) → Contains xs x → Contains (map f xs) (f x)
contains_map f xs x stands =
    let below : stands.0 < length (map f xs) = subst (λ n. stands.0 < n) (sym (length-map xs f)) stands.1 in
    (stands.0, below, get_or-map f xs stands.0 x (f x) stands.1 ∙ ap f stands.2)

contains_cons : {A : Type 0} (xs : List A) (y x : A) → Contains xs x → Contains (y ∷ xs) x
contains_cons xs y x stands = Contains-append_right (y ∷ []) xs x stands

abbrev source_names : List Source → List (List ℕ)
source_names sources = map (λ s. s.1) sources

-- a name of sources is that of one of them
of_name : (sources : List Source) (app : RelApp) (name : List ℕ) → Contains (source_names sources) name → (one : Source) × (Contains sources one × (one.1 ≡ name))
of_name sources app name stands =
    let below : stands.0 < length sources = subst (λ n. stands.0 < n) (length-map sources (λ s. s.1)) stands.1 in
    let default : Source = (app, name) in
    (get_or sources stands.0 default, (Contains-get_or sources stands.0 default below, sym (get_or-map (λ (s : Source). s.1) sources stands.0 default name below) ∙ stands.2))

names_of_app : (app : RelApp) (names : List (List ℕ)) → source_names (sources_of_app app names) ≡ names
names_of_app app [] = refl
names_of_app app (name ∷ names) = ap (λ ns. name ∷ ns) (names_of_app app names)

-- Modules

-- each source is that of a module whose name is new
abbrev AreModules : Contents → List Source → Type 0
AreModules files sources = (front : List Source) → (app : RelApp) → (name : List ℕ) → (rest : List Source) → sources ≡ front ++ (app, name) ∷ rest → IsNewModule files front app name

-- an earlier one of this name would be known
name_is_new : (files : Contents) (sources front rest : List Source) (app : RelApp) (name : List ℕ) → AreModules files sources → sources ≡ front ++ (app, name) ∷ rest → Contains (source_names front) name → ⊥
name_is_new files sources front rest app name are is stands =
    let one = of_name front app name stands in
    let split = contains_split front one.0 one.1.0 in
    let parted : sources ≡ split.0 ++ one.0 ∷ (split.1.0 ++ (app, name) ∷ rest) = is ∙ ap (λ fs. fs ++ (app, name) ∷ rest) split.1.1 ∙ append_assoc split.0 (one.0 ∷ split.1.0) ((app, name) ∷ rest) in
    let new = are split.0 one.0.0 one.0.1 (split.1.0 ++ (app, name) ∷ rest) parted in
    (are front app name rest is).is_new (subst (IsKnown files front) one.1.1 (record { app = one.0.0; stands = one.1.0; forms = new.forms; read = new.read }))

distinct_names : (files : Contents) (sources front rest : List Source) → AreModules files sources → sources ≡ front ++ rest → AreDistinct (source_names front) → AreDistinct (source_names sources)
distinct_names files sources front [] are is distinct = subst (λ ss. AreDistinct (source_names ss)) (sym (is ∙ append-nil front)) distinct
distinct_names files sources front (s ∷ rest) are is distinct =
    let next : source_names (front ++ s ∷ []) ≡ source_names front ++ s.1 ∷ [] = map-append (λ (t : Source). t.1) front (s ∷ []) in
    let more = distinct_more (source_names front) s.1 distinct (name_is_new files sources front rest s.0 s.1 are is) in
    distinct_names files sources (front ++ s ∷ []) rest are (is ∙ sym (append_assoc front (s ∷ []) rest)) (subst AreDistinct (sym next) more)

abbrev HasModule : Contents → RelApp → List ℕ → Type 0
HasModule files app name = (m : Forms) × IsModuleOf files app name m

has_module : (files : Contents) (sources : List Source) → AreModules files sources → (app : RelApp) (name : List ℕ) → Contains sources (app, name) → HasModule files app name
has_module files sources are app name stands =
    let split = contains_split sources (app, name) stands in
    let new = are split.0 app name split.1.0 split.1.1 in
    (new.forms, new.read)

read_modules : (files : Contents) (app : RelApp) (names : List (List ℕ)) → ((name : List ℕ) → Contains names name → HasModule files app name) → (modules : List Forms) × AllZip (IsModuleOf files app) names modules
read_modules files app [] has = ([], tt)
read_modules files app (name ∷ names) has =
    let first = has name (Contains-append_left (name ∷ []) names name (Contains-push [] name)) in
    let rest = read_modules files app names (λ n stands. has n (contains_cons names name n stands)) in
    (first.0 ∷ rest.0, (first.1, rest.1))

-- Applications

read_app : BytesLaw → (files : Contents) (app : RelApp) (names : List (List ℕ)) → Lists files app names → HasSpec files app → HasAppup files app → ((name : List ℕ) → Contains names name → HasModule files app name) → (read : AppFiles) × (AreFilesOf files app read × (module_names read.modules ≡ names))
read_app law files app names (listed spec is named) has appup modules =
    let read = read_modules files app names modules in (
      record { spec = spec; appup = appup.0; modules = read.0 },
      (record { spec = is; appup = appup.1; modules = subst (λ ns. AllZip (IsModuleOf files app) ns read.0) named read.1 }, names_are files app names read.0 read.1),
    )
read_app law files app names (unlisted path fault wrong none) has appup modules = absurd (spec_apart law files app has.0 path fault has.1 wrong)

abbrev AreRead : Contents → List RelApp → List Source → Type 0
AreRead files apps sources = (read : List AppFiles) × (AllZip (AreFilesOf files) apps read × (names_of read ≡ source_names sources))

read_apps : BytesLaw → (files : Contents) (apps : List RelApp) (lists : List (List (List ℕ))) → AreListed files apps lists → ((app : RelApp) → Contains apps app → HasSpec files app) → ((app : RelApp) → Contains apps app → HasAppup files app) → ((app : RelApp) (name : List ℕ) → Contains (sources_of_apps apps lists) (app, name) → HasModule files app name) → AreRead files apps (sources_of_apps apps lists)
read_apps law files [] [] all specs appups modules = ([], (tt, refl))
read_apps law files [] (names ∷ lists) all specs appups modules = absurd all
read_apps law files (app ∷ apps) [] all specs appups modules = absurd all
read_apps law files (app ∷ apps) (names ∷ lists) all specs appups modules =
    let here = Contains-append_left (app ∷ []) apps app (Contains-push [] app) in
    let own = λ (name : List ℕ) (stands : Contains names name). modules app name (Contains-append_left (sources_of_app app names) (sources_of_apps apps lists) (app, name) (contains_map (λ (n : List ℕ). let s : Source = (app, n) in s) names name stands)) in
    let first = read_app law files app names all.0 (specs app here) (appups app here) own in
    let rest = read_apps law files apps lists all.1 (λ a stands. specs a (contains_cons apps app a stands)) (λ a stands. appups a (contains_cons apps app a stands)) (λ a name stands. modules a name (Contains-append_right (sources_of_app app names) (sources_of_apps apps lists) (a, name) stands)) in
    let names_are : names_of (first.0 ∷ rest.0) ≡ source_names (sources_of_app app names) ++ source_names (sources_of_apps apps lists) = ap (λ ns. ns ++ names_of rest.0) (first.1.1 ∙ sym (names_of_app app names)) ∙ ap (λ ns. source_names (sources_of_app app names) ++ ns) rest.1.1 in
    (first.0 ∷ rest.0, ((first.1.0, rest.1.0), names_are ∙ sym (map-append (λ (s : Source). s.1) (sources_of_app app names) (sources_of_apps apps lists))))

-- The release whole

faultless : BytesLaw → (files : Contents) (vsn : List ℕ) (rel : RelSpec) (lists : List (List (List ℕ))) → IsRelOf files vsn rel → AreListed files (with_files rel.apps) lists → AllAreTold files vsn (with_files rel.apps) (sources_of_apps (with_files rel.apps) lists) [] → (release : Release) × IsRelease files vsn release
faultless law files vsn rel lists is each told =
    let apps = with_files rel.apps in
    let sources = sources_of_apps apps lists in
    let relup = fine _ _ told.relup in
    let modules : AreModules files sources = λ front app name rest split. fine _ _ (told.modules front app name rest split) in
    let found = read_apps law files apps lists each (λ app stands. fine _ _ (told.specs app stands)) (λ app stands. fine _ _ (told.appups app stands)) (has_module files sources modules) in
    let distinct = distinct_names files sources [] sources modules refl none_distinct in
    let release : Release = record { rel = rel; relup = relup.0; apps = found.0 } in (
      release,
      record { rel = is; relup = relup.1; apps = record { each = found.1.0; distinct = subst AreDistinct (sym found.1.1) distinct } },
    )

pub no_fault : BytesLaw → (files : Contents) (vsn : List ℕ) (rel : RelSpec) (seen : List (List ℕ)) (found : List ReleaseFault) → IsRelOf files vsn rel → AppsAreTold files vsn (with_files rel.apps) seen found → found ≡ [] → (release : Release) × IsRelease files vsn release
no_fault law files vsn rel seen found is told none =
    let apps = with_files rel.apps in
    faultless law files vsn rel told.lists is told.each (subst (λ fs. AllAreTold files vsn apps (sources_of_apps apps told.lists) fs) none told.told.whole)
