-- What is told of a relup is one of the ways that there are.
use Rattle.std.proofs.Common.{◌≡◌, ◌⊎◌, inl, inr, ℕ, List, ◌++◌, Option, None, Some, ap, subst, sym, ◌∙◌}
use Rattle.erl_term.specs.declared.term.Term.{Term}
use Rattle.low_instructions.specs.declared.low.Low.{Low}
use Rattle.otp_files.specs.declared.upgrade.Upgrades.{Upgrades}
use Rattle.release_files.specs.Faults.{IsFirstFault}
use Rattle.release_files.specs.Files.{Contents}
use Rattle.release_files.specs.Releases.{IsRelease}
use Rattle.release_files.specs.declared.fault.FileFault.{FileFault}
use Rattle.release_files.specs.declared.fault.FileFault.TheVariants as file
use Rattle.release_relups.specs.Parts.{appups_of, rel_apps}
use Rattle.release_table.specs.declared.table.Release.{Release}
use Rattle.relup_make.specs.Relups.{IsRefusal, IsTranslation}
use Rattle.relup_make.specs.declared.error.MakeError.{MakeError}
use Rattle.relup_make.specs.declared.error.MakeError.TheVariants as make
use Rattle.shell_answers.specs.Answers.{line_of}
use Rattle.shell_answers.specs.Faults.{file_fault}
use Rattle.shell_answers.specs.Relups.{unmade}
use Rattle.shell_relups.specs.Relups.{IsRelupTold, IsWritten, RelupTold, made, no_memory_for_relup, no_relup, unmade_fate, unread_answer, unread_fate}
use Rattle.shell_state.specs.Fate.{Fate}
use Rattle.shell_state.specs.Fate.TheVariants as fates

-- The files of the one release or of the other could not be read.

module _ (files : Contents) (from to vsn : List ℕ) (tells : (path : List ℕ) (why : FileFault) → IsFirstFault files vsn path why → RelupTold files from to None (file_fault path why)) where
  fault-told : (path : List ℕ) (why : FileFault) (fate : Option Fate) (text appended : List ℕ) → IsFirstFault files vsn path why → (fate ≡ unread_fate why) × (appended ≡ text ++ line_of (unread_answer path why)) → IsRelupTold files from to fate text appended
  fault-told path file.Missing fate text appended first said =
      subst (λ f. IsRelupTold files from to f text appended) (sym said.0) (_, tells path file.Missing first, said.1)
  fault-told path (file.File e) fate text appended first said =
      subst (λ f. IsRelupTold files from to f text appended) (sym said.0) (_, tells path (file.File e) first, said.1)
  fault-told path (file.Lang e) fate text appended first said =
      subst (λ f. IsRelupTold files from to f text appended) (sym said.0) (_, tells path (file.Lang e) first, said.1)
  fault-told path file.WrongModule fate text appended first said =
      subst (λ f. IsRelupTold files from to f text appended) (sym said.0) (_, tells path file.WrongModule first, said.1)
  fault-told path file.DuplicateModule fate text appended first said =
      subst (λ f. IsRelupTold files from to f text appended) (sym said.0) (_, tells path file.DuplicateModule first, said.1)
  fault-told path file.Memory fate text appended first said =
      subst (λ f. IsRelupTold files from to f text appended) (sym said.0) (_, no_memory_for_relup, said.1)

  pub unread-told : (path : List ℕ) (why : FileFault) (fate : Option Fate) (text appended : List ℕ) → (why ≡ file.Memory) ⊎ IsFirstFault files vsn path why → (fate ≡ unread_fate why) × (appended ≡ text ++ line_of (unread_answer path why)) → IsRelupTold files from to fate text appended
  unread-told path why fate text appended (inl none) said =
      subst (λ f. IsRelupTold files from to f text appended) (sym (said.0 ∙ ap (λ w. unread_fate w) none)) (_, no_memory_for_relup, said.1 ∙ ap (λ w. text ++ line_of (unread_answer path w)) none)
  unread-told path why fate text appended (inr first) said = fault-told path why fate text appended first said

-- A relup of both was made, or it is told what stands against it.

module _ (files : Contents) (from to : List ℕ) (old new : Release) (is_old : IsRelease files from old) (is_new : IsRelease files to new) where
  pub made-told : (relup : Upgrades Term Low) (fate : Option Fate) (text appended : List ℕ) → IsTranslation (rel_apps old) (rel_apps new) (appups_of new) relup → IsWritten relup fate text appended → IsRelupTold files from to fate text appended
  made-told relup None text appended is told = (_, made old new relup is_old is_new is, told)
  made-told relup (Some fates.Refused) text appended is told = (_, no_memory_for_relup, told)
  made-told relup (Some (fates.StoppedAt mark)) text appended is told = absurd told

  refusal-told : (why : MakeError) (fate : Option Fate) (text appended : List ℕ) → IsRefusal (rel_apps old) (rel_apps new) (appups_of new) why → (fate ≡ unmade_fate why) × (appended ≡ text ++ line_of (unmade why)) → IsRelupTold files from to fate text appended
  refusal-told make.ErtsChanged fate text appended is said =
      subst (λ f. IsRelupTold files from to f text appended) (sym said.0) (_, no_relup old new make.ErtsChanged is_old is_new is, said.1)
  refusal-told (make.BaseChanged app) fate text appended is said =
      subst (λ f. IsRelupTold files from to f text appended) (sym said.0) (_, no_relup old new (make.BaseChanged app) is_old is_new is, said.1)
  refusal-told (make.NoAppup app) fate text appended is said =
      subst (λ f. IsRelupTold files from to f text appended) (sym said.0) (_, no_relup old new (make.NoAppup app) is_old is_new is, said.1)
  refusal-told (make.NoEntry app vsn) fate text appended is said =
      subst (λ f. IsRelupTold files from to f text appended) (sym said.0) (_, no_relup old new (make.NoEntry app vsn) is_old is_new is, said.1)
  refusal-told (make.UnknownModule name) fate text appended is said =
      subst (λ f. IsRelupTold files from to f text appended) (sym said.0) (_, no_relup old new (make.UnknownModule name) is_old is_new is, said.1)
  refusal-told make.Memory fate text appended is said =
      subst (λ f. IsRelupTold files from to f text appended) (sym said.0) (_, no_memory_for_relup, said.1)

  pub unmade-told : (why : MakeError) (fate : Option Fate) (text appended : List ℕ) → (why ≡ make.Memory) ⊎ IsRefusal (rel_apps old) (rel_apps new) (appups_of new) why → (fate ≡ unmade_fate why) × (appended ≡ text ++ line_of (unmade why)) → IsRelupTold files from to fate text appended
  unmade-told why fate text appended (inl none) said =
      subst (λ f. IsRelupTold files from to f text appended) (sym (said.0 ∙ ap (λ w. unmade_fate w) none)) (_, no_memory_for_relup, said.1 ∙ ap (λ w. text ++ line_of (unmade w)) none)
  unmade-told why fate text appended (inr refuses) said = refusal-told why fate text appended refuses said
