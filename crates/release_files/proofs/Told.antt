-- What is told of a file that is refused.
use Rattle.std.proofs.Common.{◌≡◌, ◌⊎◌, ℕ, List, Some, inl, inr, sym, ◌∙◌, subst}
use Rattle.std.specs.Prelude.{◌≢◌}
use Rattle.erl_parse.specs.Sources.{IsNoSource}
use Rattle.erl_parse.specs.Telling.{Says}
use Rattle.erl_parse.specs.declared.error.LangError.{LangError}
use Rattle.otp_files.specs.declared.error.FileError.{FileError}
use Rattle.otp_files.specs.declared.error.FileError.TheVariants.{Memory as file_refused}
use Rattle.release_files.specs.declared.fault.FileFault.{FileFault}
use Rattle.release_files.specs.declared.fault.FileFault.TheVariants.{File, Lang, Memory}
use Rattle.release_files.specs.Faults.{StandsRefused, StandsUnread}
use Rattle.release_files.specs.Files.{Contents, file_of}
use Rattle.values.specs.Failure.{Fails}
use Rattle.values.specs.declared.failure.Failure.{Failure}
use Rattle.values.specs.declared.failure.Failure.TheVariants as failures

pub file_told : (Refused : List ℕ → FileError → Type 0) (files : Contents) (path text : List ℕ) (error : FileError) (fault : FileFault) → file_of path files ≡ Some text → (error ≡ file_refused) ⊎ Refused text error → (fault ≡ Memory) ⊎ ((error ≢ file_refused) × (fault ≡ File error)) → (fault ≡ Memory) ⊎ StandsRefused Refused files path fault
file_told Refused files path text error fault stands read told =
    elim told [
      | inl memory ↦ inl memory
      | inr known ↦ elim read [
        | inl memory ↦ absurd (known.0 memory)
        | inr refused ↦ inr (record { text = text; stands = stands; error = error; refused = refused; is = known.1 })
      ]
    ]

pub source_told : (files : Contents) (path text : List ℕ) (failure : Failure LangError) (fault : FileFault) → file_of path files ≡ Some text → Fails (Says text) (Unit {0}) failure → Fails (λ _. IsNoSource text) (Unit {0}) failure → Fails (λ error. fault ≡ Lang error) (fault ≡ Memory) failure → (fault ≡ Memory) ⊎ StandsUnread files path fault
source_told files path text (failures.Refused error) fault stands says none told =
    inr (record { text = text; stands = stands; error = error; no_source = none; says = says; is = told })
source_told files path text failures.Memory fault stands says none told = inl told

-- a fault that is told at a path
pub told_at : (Wrong : List ℕ → FileFault → Type 0) (path at : List ℕ) (fault said : FileFault) → (fault ≡ Memory) ⊎ Wrong path fault → (said ≡ Memory) ⊎ ((at ≡ path) × (said ≡ fault)) → (said ≡ Memory) ⊎ Wrong at said
told_at Wrong path at fault said wrong told =
    elim told [
      | inl memory ↦ inl memory
      | inr same ↦ elim wrong [
        | inl memory ↦ inl (same.1 ∙ memory)
        | inr is ↦ inr (subst (λ p. Wrong p said) (sym same.0) (subst (Wrong path) (sym same.1) is))
      ]
    ]
