-- The applications of a release, as they come.
use Rattle.std.proofs.Common.{◌≡◌, ◌⊎◌, ℕ, ◌+◌, ◌<◌, ◌≤◌, Bool, true, false, List, [], ◌∷◌, ◌++◌, length, get_or, take, drop, inl, inr, refl, sym, ap, ◌∙◌, subst}
use Rattle.std.specs.Prelude.{cond, not}
use Rattle.std.proofs.lemmas.List.{append-nil, take_all}
use Rattle.std.proofs.lemmas.List.Concat.{flat_map-append}
use Rattle.std.proofs.lemmas.List.Elements.{filter-append}
use Rattle.otp_files.specs.declared.applications.RelApp.{RelApp}
use Rattle.release_table.specs.declared.table.AppFiles.{AppFiles}
use Rattle.release_files.specs.declared.fault.FileFault.{FileFault}
use Rattle.release_files.specs.declared.fault.FileFault.TheVariants.{Memory}
use Rattle.release_files.specs.Faults.{AppFault, AppsFault}
use Rattle.release_files.specs.Files.{Contents}
use Rattle.release_files.specs.Releases.{AreAppsOf, AreDistinct, AreFilesOf, is_built_in, module_names, names_of, with_files}
use Rattle.release_files.proofs.Known.{none_distinct}
use Rattle.release_files.proofs.Sourced.{front_more, item_between, zip_more}

abbrev pub has_files : RelApp → Bool
has_files app = not (is_built_in app)

pub built_in_front : (xs : List RelApp) (app : RelApp) → is_built_in app ≡ true → with_files (xs ++ app ∷ []) ≡ with_files xs
built_in_front xs app is = filter-append has_files xs (app ∷ []) ∙ ap (λ b. with_files xs ++ cond (not b) (app ∷ []) []) is ∙ append-nil (with_files xs)

pub other_front : (xs : List RelApp) (app : RelApp) → is_built_in app ≡ false → with_files (xs ++ app ∷ []) ≡ with_files xs ++ app ∷ []
other_front xs app is = filter-append has_files xs (app ∷ []) ∙ ap (λ b. with_files xs ++ cond (not b) (app ∷ []) []) is

other_between : (xs ys : List RelApp) (app : RelApp) → is_built_in app ≡ false → with_files (xs ++ app ∷ ys) ≡ with_files xs ++ app ∷ with_files ys
other_between xs ys app is = filter-append has_files xs (app ∷ ys) ∙ ap (λ b. with_files xs ++ cond (not b) (app ∷ with_files ys) (with_files ys)) is

names_more : (read : List AppFiles) (app : AppFiles) → names_of (read ++ app ∷ []) ≡ names_of read ++ module_names app.modules
names_more read app = flat_map-append (λ a. module_names a.modules) read (app ∷ []) ∙ ap (λ ns. names_of read ++ ns) (append-nil (module_names app.modules))

-- what holds behind so many applications
pub record AreReadSoFar (files : Contents) (apps : List RelApp) (seen : List (List ℕ)) (read : List AppFiles) : Type 0 where
  pub are : AreAppsOf files (with_files apps) read
  pub seen_are : seen ≡ names_of read

pub none_read : (files : Contents) → AreReadSoFar files [] [] []
none_read files = record { are = record { each = tt; distinct = none_distinct }; seen_are = refl }

pub app_skipped : (files : Contents) (apps : List RelApp) (seen : List (List ℕ)) (read : List AppFiles) (i : ℕ) (app : RelApp) → i < length apps → app ≡ get_or apps i app → is_built_in app ≡ true → AreReadSoFar files (take i apps) seen read → AreReadSoFar files (take (i + 1) apps) seen read
app_skipped files apps seen read i app below is built_in so_far =
    let next = ap with_files (front_more apps i app below is) ∙ built_in_front (take i apps) app built_in in
    record { are = subst (λ some. AreAppsOf files some read) (sym next) so_far.are; seen_are = so_far.seen_are }

pub app_more : (files : Contents) (apps : List RelApp) (seen new : List (List ℕ)) (read : List AppFiles) (i : ℕ) (app : RelApp) (found : AppFiles) → i < length apps → app ≡ get_or apps i app → is_built_in app ≡ false → AreReadSoFar files (take i apps) seen read → AreFilesOf files app found → new ≡ seen ++ module_names found.modules → AreDistinct new → AreReadSoFar files (take (i + 1) apps) new (read ++ found ∷ [])
app_more files apps seen new read i app found below is other so_far here more distinct =
    let next = ap with_files (front_more apps i app below is) ∙ other_front (take i apps) app other in
    let all = more ∙ ap (λ ns. ns ++ module_names found.modules) so_far.seen_are ∙ sym (names_more read found) in
    let each = zip_more (AreFilesOf files) (with_files (take i apps)) read app found so_far.are.each here in
    record {
      are = subst (λ some. AreAppsOf files some (read ++ found ∷ [])) (sym next) (record { each = each; distinct = subst AreDistinct all distinct });
      seen_are = all;
    }

pub app_wrong : (files : Contents) (apps : List RelApp) (seen : List (List ℕ)) (read : List AppFiles) (i : ℕ) (app : RelApp) (path : List ℕ) (fault : FileFault) → i < length apps → app ≡ get_or apps i app → is_built_in app ≡ false → AreReadSoFar files (take i apps) seen read → AppFault files app seen path fault → AppsFault files (with_files apps) path fault
app_wrong files apps seen read i app path fault below is other so_far wrong = record {
  front = with_files (take i apps);
  app = app;
  rest = with_files (drop (i + 1) apps);
  split = ap with_files (item_between apps i app below is) ∙ other_between (take i apps) (drop (i + 1) apps) app other;
  read = read;
  fine = so_far.are;
  wrong = subst (λ ns. AppFault files app ns path fault) so_far.seen_are wrong;
}

-- an application that is put behind what was read
pub app_turn : (files : Contents) (apps : List RelApp) (seen new : List (List ℕ)) (read pushed : List AppFiles) (i : ℕ) (app : RelApp) (found : AppFiles) → i < length apps → app ≡ get_or apps i app → is_built_in app ≡ false → AreReadSoFar files (take i apps) seen read → AreFilesOf files app found → new ≡ seen ++ module_names found.modules → AreDistinct new → pushed ≡ read ++ found ∷ [] → AreReadSoFar files (take (i + 1) apps) new pushed
app_turn files apps seen new read pushed i app found below is other so_far here more distinct all =
    subst (λ rs. AreReadSoFar files (take (i + 1) apps) new rs) (sym all) (app_more files apps seen new read i app found below is other so_far here more distinct)

pub apps_begin : (files : Contents) (seen : List (List ℕ)) (read : List AppFiles) → seen ≡ [] → read ≡ [] → AreReadSoFar files [] seen read
apps_begin files seen read none unread =
    subst (λ rs. AreReadSoFar files [] seen rs) (sym unread) (subst (λ ns. AreReadSoFar files [] ns []) (sym none) (none_read files))

pub seen_distinct : (files : Contents) (apps : List RelApp) (seen : List (List ℕ)) (read : List AppFiles) → AreReadSoFar files apps seen read → AreDistinct seen
seen_distinct files apps seen read so_far = subst AreDistinct (sym so_far.seen_are) so_far.are.distinct

pub apps_end : (files : Contents) (apps : List RelApp) (seen : List (List ℕ)) (read : List AppFiles) (i : ℕ) → length apps ≤ i → AreReadSoFar files (take i apps) seen read → AreAppsOf files (with_files apps) read
apps_end files apps seen read i over so_far = subst (λ some. AreAppsOf files (with_files some) read) (take_all i apps over) so_far.are

pub apps_wrong : (files : Contents) (apps : List RelApp) (seen : List (List ℕ)) (read : List AppFiles) (i : ℕ) (app : RelApp) (path : List ℕ) (fault : FileFault) → i < length apps → app ≡ get_or apps i app → is_built_in app ≡ false → AreReadSoFar files (take i apps) seen read → (fault ≡ Memory) ⊎ AppFault files app seen path fault → (fault ≡ Memory) ⊎ AppsFault files (with_files apps) path fault
apps_wrong files apps seen read i app path fault below is other so_far told =
    elim told [
      | inl memory ↦ inl memory
      | inr wrong ↦ inr (app_wrong files apps seen read i app path fault below is other so_far wrong)
    ]
