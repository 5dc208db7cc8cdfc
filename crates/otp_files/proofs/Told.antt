-- What is told of a text that is not read, as data.
use Rattle.std.proofs.Common.{◌≡◌, ◌⊎◌, ℕ, List, inl, inr}
use Rattle.erl_scan.specs.declared.error.Fault.TheVariants.{Memory as no_memory}
use Rattle.erl_scan.specs.declared.error.ReadError.{ReadError}
use Rattle.erl_consult.specs.Faults.{IsRefused}
use Rattle.otp_files.specs.declared.error.FileError.{FileError}
use Rattle.otp_files.specs.declared.error.FileError.TheVariants.{Text, Memory}
use Rattle.otp_files.specs.Texts.{IsTextError, no_text}

pub told_one : (bytes : List ℕ) (error : ReadError) (e : FileError) → (error.kind ≡ no_memory) ⊎ IsRefused bytes error.kind error.at → ((error.kind ≡ no_memory) × (e ≡ Memory)) ⊎ ((error.kind ≡ no_memory → ⊥) × (e ≡ Text error)) → (e ≡ Memory) ⊎ IsTextError bytes e
told_one bytes error e read (inl memory) = inl memory.1
told_one bytes error e (inl memory) (inr told) = absurd (told.0 memory)
told_one bytes error e (inr refused) (inr told) = inr (no_text error refused told.1)
