-- What is told of a release's files is all that is wrong with them, and nothing else.
use Rattle.std.proofs.Common.{ap, ◌≡◌, ◌⊎◌, ℕ, List, [], ◌∷◌, length, Result, Ok, Err, inl, inr, sym, ◌∙◌, subst, string_bytes}
use Rattle.std.specs.Prelude.{◌≢◌, All, IfOk}
use Rattle.std.proofs.lemmas.List.Elements.{All-nil, All-push, All-weaker}
use Rattle.std.proofs.lemmas.List.Quantifiers.{Any-push}
use Rattle.erl_parse.specs.Sources.{OneModule}
use Rattle.otp_files.specs.declared.applications.RelApp.{RelApp}
use Rattle.otp_files.specs.declared.rel.RelSpec.{RelSpec}
use Rattle.release_files.specs.declared.fault.FileFault.{FileFault}
use Rattle.release_files.specs.declared.fault.FileFault.TheVariants.{Memory}
use Rattle.release_files.specs.declared.fault.ReleaseFault.{ReleaseFault}
use Rattle.release_files.specs.AllFaults.{AreInOrder, AreSomeOf, IsFault, IsFaultBeside, IsLike, IsTold, Source, SourceIsWrong, beside_rel, fault_paths, of_appup, of_rel, of_relup, of_source, of_spec, paths_beside, sources_of_apps}
use Rattle.release_files.specs.Found.{AllAreTold, AppsAreTold, HasFault}
use Rattle.release_files.specs.Faults.{AppupFault, RelFault, RelupFault, SpecFault}
use Rattle.release_files.specs.Files.{Contents}
use Rattle.release_files.specs.Paths.{source_path}
use Rattle.release_files.specs.Releases.{IsRelOf, with_files}
use Rattle.release_files.proofs.Apart.{AreOne, BytesLaw, all_lists_once, appup_apart, appup_like, rel_apart, rel_like, rel_once, relup_apart, relup_like, source_apart, source_like, spec_apart, spec_like}

pub behind : {T E : Type 0} (P Q : T → Type 0) (r : Result T E) → ((x : T) → P x → Q x) → IfOk r P → IfOk r Q
behind P Q (Ok x) so is = so x is
behind P Q (Err e) so is = tt

abbrev Faulty : Contents → List ℕ → ReleaseFault → Type 0
Faulty files vsn f = IsFault files vsn (string_bytes f.path) f.fault

-- Beside the `.rel`

pub all_sound : (files : Contents) (vsn : List ℕ) (rel : RelSpec) (seen : List (List ℕ)) (found : List ReleaseFault) → IsRelOf files vsn rel → AppsAreTold files vsn (with_files rel.apps) seen found → All (Faulty files vsn) found
all_sound files vsn rel seen found is told =
    let apps = with_files rel.apps in
    All-weaker (λ (f : ReleaseFault). IsFaultBeside files vsn apps (sources_of_apps apps told.lists) (string_bytes f.path) f.fault) (Faulty files vsn) (λ f wrong. beside_rel rel is told.lists told.each wrong) found told.told.sound

-- a fault of what is faulty is like the one that is found of it
told_by : (found : List ReleaseFault) (IsWrong : List ℕ → FileFault → Type 0) (path : List ℕ) (fault : FileFault) → ((at : List ℕ) (said : FileFault) → IsWrong at said → (at ≡ path) × IsLike said fault) → HasFault found IsWrong → IsTold found path fault
told_by found IsWrong path fault so some = (some.0, some.1, some.2, some.3, so (string_bytes some.1.path) some.1.fault some.4)

told_unless : (found : List ReleaseFault) (Fine : Type 0) (IsWrong : List ℕ → FileFault → Type 0) (path : List ℕ) (fault : FileFault) → (Fine → ⊥) → AreOne IsWrong → IsWrong path fault → Fine ⊎ HasFault found IsWrong → IsTold found path fault
told_unless found Fine IsWrong path fault faulty one wrong told =
    elim told [
      | inl fine ↦ absurd (faulty fine)
      | inr some ↦ told_by found IsWrong path fault (λ at said also. one at path said fault also wrong) some
    ]

beside_whole : BytesLaw → OneModule → (files : Contents) (vsn : List ℕ) (apps : List RelApp) (sources : List Source) (found : List ReleaseFault) (path : List ℕ) (fault : FileFault) → AllAreTold files vsn apps sources found → IsFaultBeside files vsn apps sources path fault → IsTold found path fault
beside_whole law one files vsn apps sources found path fault told (of_relup wrong) =
    told_unless found _ (RelupFault files vsn) path fault (λ fine. relup_apart law files vsn fine.0 path fault fine.1 wrong) (relup_like law files vsn) wrong told.relup
beside_whole law one files vsn apps sources found path fault told (of_spec app stands wrong) =
    told_unless found _ (SpecFault files app) path fault (λ fine. spec_apart law files app fine.0 path fault fine.1 wrong) (spec_like law files app) wrong (told.specs app stands)
beside_whole law one files vsn apps sources found path fault told (of_appup app stands wrong) =
    told_unless found _ (AppupFault files app) path fault (λ fine. appup_apart law files app fine.0 path fault fine.1 wrong) (appup_like law files app) wrong (told.appups app stands)
beside_whole law one files vsn apps sources found path fault told (of_source front app name rest split at wrong) =
    told_unless found _ (λ p f. (p ≡ source_path app name) × SourceIsWrong files front name p f) path fault
    (λ fine. source_apart one files front app name path fault fine at wrong)
    (λ p q f g first second. (first.0 ∙ sym second.0, source_like one files front name p f g first.1 (subst (λ k. SourceIsWrong files front name k g) (second.0 ∙ sym first.0) second.1)))
    (at, wrong) (told.modules front app name rest split)

pub all_whole : BytesLaw → OneModule → (files : Contents) (vsn : List ℕ) (rel : RelSpec) (seen : List (List ℕ)) (found : List ReleaseFault) → IsRelOf files vsn rel → AppsAreTold files vsn (with_files rel.apps) seen found → (path : List ℕ) (fault : FileFault) → IsFault files vsn path fault → IsTold found path fault
all_whole law one files vsn rel seen found is told path fault (of_rel wrong) = absurd (rel_apart law files vsn rel path fault is wrong)
all_whole law one files vsn rel seen found is told path fault (beside_rel other also lists each wrong) =
    let same : rel ≡ other = rel_once law files vsn rel other is also in
    let here : AppsAreTold files vsn (with_files other.apps) seen found = subst (λ (r : RelSpec). AppsAreTold files vsn (with_files r.apps) seen found) same told in
    let apps = with_files other.apps in
    let lists_are : here.lists ≡ lists = all_lists_once law files apps here.lists lists here.each each in
    beside_whole law one files vsn apps (sources_of_apps apps lists) found path fault (subst (λ ls. AllAreTold files vsn apps (sources_of_apps apps ls) found) lists_are here.told.whole) wrong

pub all_ordered : BytesLaw → (files : Contents) (vsn : List ℕ) (rel : RelSpec) (seen : List (List ℕ)) (found : List ReleaseFault) → IsRelOf files vsn rel → AppsAreTold files vsn (with_files rel.apps) seen found → AreInOrder files vsn found
all_ordered law files vsn rel seen found is told = record {
  alone = λ path fault wrong. absurd (rel_apart law files vsn rel path fault is wrong);
  beside = λ other also lists each.
      let same : rel ≡ other = rel_once law files vsn rel other is also in
      let here : AppsAreTold files vsn (with_files other.apps) seen found = subst (λ (r : RelSpec). AppsAreTold files vsn (with_files r.apps) seen found) same told in
      let lists_are : here.lists ≡ lists = all_lists_once law files (with_files other.apps) here.lists lists here.each each in
      subst (λ ls. AreSomeOf (fault_paths found) (paths_beside vsn (with_files other.apps) ls)) lists_are here.told.ordered;
}

-- The `.rel` alone

pub rel_wrong : (files : Contents) (vsn : List ℕ) (f : ReleaseFault) → (f.fault ≡ Memory) ⊎ RelFault files vsn (string_bytes f.path) f.fault → f.fault ≢ Memory → RelFault files vsn (string_bytes f.path) f.fault
rel_wrong files vsn f told known =
    elim told [
      | inl memory ↦ absurd (known memory)
      | inr wrong ↦ wrong
    ]

pub only_sound : (files : Contents) (vsn : List ℕ) (f : ReleaseFault) (found : List ReleaseFault) → RelFault files vsn (string_bytes f.path) f.fault → found ≡ f ∷ [] → All (Faulty files vsn) found
only_sound files vsn f found wrong is =
    subst (All (Faulty files vsn)) (sym is) (All-push (Faulty files vsn) [] f (All-nil (Faulty files vsn)) (of_rel wrong))

only_told : BytesLaw → (files : Contents) (vsn : List ℕ) (f : ReleaseFault) → RelFault files vsn (string_bytes f.path) f.fault → (path : List ℕ) (fault : FileFault) → IsFault files vsn path fault → (string_bytes f.path ≡ path) × IsLike f.fault fault
only_told law files vsn f wrong path fault (of_rel also) = rel_like law files vsn (string_bytes f.path) path f.fault fault wrong also
only_told law files vsn f wrong path fault (beside_rel rel is lists each also) = absurd (rel_apart law files vsn rel (string_bytes f.path) f.fault is wrong)

pub only_whole : BytesLaw → (files : Contents) (vsn : List ℕ) (f : ReleaseFault) (found : List ReleaseFault) → RelFault files vsn (string_bytes f.path) f.fault → found ≡ f ∷ [] → (path : List ℕ) (fault : FileFault) → IsFault files vsn path fault → IsTold found path fault
only_whole law files vsn f found wrong is path fault faulty =
    subst (λ fs. IsTold fs path fault) (sym is) (Any-push (λ (g : ReleaseFault). (string_bytes g.path ≡ path) × IsLike g.fault fault) [] f (only_told law files vsn f wrong path fault faulty))

pub only_ordered : BytesLaw → (files : Contents) (vsn : List ℕ) (f : ReleaseFault) (found : List ReleaseFault) → RelFault files vsn (string_bytes f.path) f.fault → found ≡ f ∷ [] → AreInOrder files vsn found
only_ordered law files vsn f found wrong is = record {
  alone = λ path fault also. ap length is;
  beside = λ rel read lists each. absurd (rel_apart law files vsn rel (string_bytes f.path) f.fault read wrong);
}

pub not_none : (f : ReleaseFault) (found : List ReleaseFault) → found ≡ f ∷ [] → found ≡ [] → ⊥
not_none f found is none = let impossible : ⊥ = cc in impossible
