-- The sources of an application, as its names come.
use Rattle.std.proofs.Common.{◌≡◌, ◌⊎◌, ℕ, ◌+◌, ◌<◌, ◌≤◌, List, [], ◌∷◌, ◌++◌, length, get_or, take, drop, Contains, inl, inr, refl, sym, ap, ◌∙◌, subst}
use Rattle.std.specs.List.{AllZip}
use Rattle.std.proofs.lemmas.List.{append_assoc, append-nil, drop_more, take-append-drop, take_all, take_more}
use Rattle.erl_ir.specs.Module.{Forms}
use Rattle.otp_files.specs.declared.applications.RelApp.{RelApp}
use Rattle.release_files.specs.declared.fault.FileFault.{FileFault}
use Rattle.release_files.specs.declared.fault.FileFault.TheVariants.{Memory}
use Rattle.release_files.specs.Faults.{SourceFault, SourcesFault}
use Rattle.release_files.specs.Files.{Contents}
use Rattle.release_files.specs.Releases.{AreDistinct, IsModuleOf, module_names}
use Rattle.release_files.proofs.Known.{distinct_more}

-- lists that belong together, and a pair more
pub zip_more : {A B : Type 0} (R : A → B → Type 0) (xs : List A) (ys : List B) (x : A) (y : B) → AllZip R xs ys → R x y → AllZip R (xs ++ x ∷ []) (ys ++ y ∷ [])
zip_more R [] [] x y all here = (here, tt)
zip_more R [] (z ∷ ys) x y all here = absurd all
zip_more R (w ∷ xs) [] x y all here = absurd all
zip_more R (w ∷ xs) (z ∷ ys) x y all here = (all.0, zip_more R xs ys x y all.1 here)

-- an item of a list, with what stands in front of it and behind it
pub item_between : {A : Type 0} (xs : List A) (i : ℕ) (x : A) → i < length xs → x ≡ get_or xs i x → xs ≡ take i xs ++ x ∷ drop (i + 1) xs
item_between xs i x below is = sym (take-append-drop i xs) ∙ ap (λ rest. take i xs ++ rest) (drop_more xs i x below ∙ ap (λ y. y ∷ drop (i + 1) xs) (sym is))

pub front_more : {A : Type 0} (xs : List A) (i : ℕ) (x : A) → i < length xs → x ≡ get_or xs i x → take (i + 1) xs ≡ take i xs ++ x ∷ []
front_more xs i x below is = take_more xs i x below ∙ ap (λ y. take i xs ++ y ∷ []) (sym is)

-- modules have the names that they were read by
pub names_are : (files : Contents) (app : RelApp) (names : List (List ℕ)) (modules : List Forms) → AllZip (IsModuleOf files app) names modules → module_names modules ≡ names
names_are files app [] [] all = refl
names_are files app [] (m ∷ modules) all = absurd all
names_are files app (name ∷ names) [] all = absurd all
names_are files app (name ∷ names) (m ∷ modules) all = ap (λ n. n ∷ module_names modules) all.0.of_name ∙ ap (λ ns. name ∷ ns) (names_are files app names modules all.1)

-- what holds behind so many sources
pub record AreSoFar (files : Contents) (app : RelApp) (before : List (List ℕ)) (names : List (List ℕ)) (seen : List (List ℕ)) (modules : List Forms) : Type 0 where
  pub fine : AllZip (IsModuleOf files app) names modules
  pub seen_are : seen ≡ before ++ names
  pub distinct : AreDistinct seen

pub none_so_far : (files : Contents) (app : RelApp) (before : List (List ℕ)) → AreDistinct before → AreSoFar files app before [] before []
none_so_far files app before distinct = record { fine = tt; seen_are = sym (append-nil before); distinct = distinct }

pub source_more : (files : Contents) (app : RelApp) (before names seen new : List (List ℕ)) (modules : List Forms) (i : ℕ) (name : List ℕ) (m : Forms) → i < length names → name ≡ get_or names i name → AreSoFar files app before (take i names) seen modules → IsModuleOf files app name m → (Contains seen name → ⊥) → new ≡ seen ++ name ∷ [] → AreSoFar files app before (take (i + 1) names) new (modules ++ m ∷ [])
source_more files app before names seen new modules i name m below is so_far here other more =
    let next = front_more names i name below is in
    record {
      fine = subst (λ ns. AllZip (IsModuleOf files app) ns (modules ++ m ∷ [])) (sym next) (zip_more (IsModuleOf files app) (take i names) modules name m so_far.fine here);
      seen_are = more ∙ ap (λ ns. ns ++ name ∷ []) so_far.seen_are ∙ append_assoc before (take i names) (name ∷ []) ∙ ap (λ ns. before ++ ns) (sym next);
      distinct = subst AreDistinct (sym more) (distinct_more seen name so_far.distinct other);
    }

pub source_wrong : (files : Contents) (app : RelApp) (before names seen : List (List ℕ)) (modules : List Forms) (i : ℕ) (name path : List ℕ) (fault : FileFault) → i < length names → name ≡ get_or names i name → AreSoFar files app before (take i names) seen modules → SourceFault files app seen name path fault → SourcesFault files app before names path fault
source_wrong files app before names seen modules i name path fault below is so_far wrong = record {
  front = take i names;
  name = name;
  rest = drop (i + 1) names;
  split = item_between names i name below is;
  modules = modules;
  fine = so_far.fine;
  distinct = subst AreDistinct so_far.seen_are so_far.distinct;
  wrong = subst (λ ns. SourceFault files app ns name path fault) so_far.seen_are wrong;
}

-- an item that is put behind what was read
pub source_turn : (files : Contents) (app : RelApp) (before names seen new : List (List ℕ)) (modules pushed : List Forms) (i : ℕ) (name : List ℕ) (m : Forms) → i < length names → name ≡ get_or names i name → AreSoFar files app before (take i names) seen modules → IsModuleOf files app name m → (Contains seen name → ⊥) → new ≡ seen ++ name ∷ [] → pushed ≡ modules ++ m ∷ [] → AreSoFar files app before (take (i + 1) names) new pushed
source_turn files app before names seen new modules pushed i name m below is so_far here other more all =
    subst (λ ms. AreSoFar files app before (take (i + 1) names) new ms) (sym all) (source_more files app before names seen new modules i name m below is so_far here other more)

pub sources_begin : (files : Contents) (app : RelApp) (before : List (List ℕ)) (modules : List Forms) → AreDistinct before → modules ≡ [] → AreSoFar files app before [] before modules
sources_begin files app before modules distinct none =
    subst (λ ms. AreSoFar files app before [] before ms) (sym none) (none_so_far files app before distinct)

pub sources_end : (files : Contents) (app : RelApp) (before names seen : List (List ℕ)) (modules : List Forms) (i : ℕ) → length names ≤ i → AreSoFar files app before (take i names) seen modules → AllZip (IsModuleOf files app) names modules × (seen ≡ before ++ names) × AreDistinct seen
sources_end files app before names seen modules i over so_far =
    let all = take_all i names over in
    (subst (λ ns. AllZip (IsModuleOf files app) ns modules) all so_far.fine, so_far.seen_are ∙ ap (λ ns. before ++ ns) all, so_far.distinct)

pub sources_wrong : (files : Contents) (app : RelApp) (before names seen after : List (List ℕ)) (modules : List Forms) (i : ℕ) (name path : List ℕ) (fault : FileFault) → i < length names → name ≡ get_or names i name → AreSoFar files app before (take i names) seen modules → (fault ≡ Memory) ⊎ (SourceFault files app seen name path fault × (after ≡ seen)) → (fault ≡ Memory) ⊎ SourcesFault files app before names path fault
sources_wrong files app before names seen after modules i name path fault below is so_far told =
    elim told [
      | inl memory ↦ inl memory
      | inr wrong ↦ inr (source_wrong files app before names seen modules i name path fault below is so_far wrong.0)
    ]
