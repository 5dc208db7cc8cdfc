-- What an application resource file is made of, with its defaults.
use Rattle.std.proofs.Common.{◌≡◌, ℕ, false, if◌then◌else◌, List, [], ◌∷◌, Option, Some, None, Result, Ok, Err, refl, ap, ◌∙◌}
use Rattle.std.specs.Option.{unwrap_or}
use Rattle.otp_files.specs.declared.app.AppSpec.{AppSpec}
use Rattle.otp_files.specs.declared.app.StartModule.{StartModule}
use Rattle.otp_files.specs.declared.app.used.Used.{Used}
use Rattle.otp_files.specs.declared.error.FileError.{FileError}
use Rattle.otp_files.specs.declared.error.FileError.TheVariants.{DuplicateKey}
use Rattle.otp_files.specs.Reading.{after, app_with, element, first_in, has_duplicate, only}

only_first : {A : Type 0} (default : A) (xs : List A) → only default xs ≡ unwrap_or (first_in xs) default
only_first default [] = refl
only_first default (x ∷ xs) = refl

abbrev app : List ℕ → List ℕ → List (List ℕ) → List (List ℕ) → Option StartModule → AppSpec
app name vsn modules applications start =
    record { name = name; vsn = vsn; modules = modules; applications = applications; start = start }

pub made : (name : List ℕ) (u : Used) (v : List ℕ) → first_in u.versions ≡ Some v → has_duplicate u ≡ false → app_with name u ≡ Ok (record { name = name; vsn = v; modules = unwrap_or (first_in u.modules) []; applications = unwrap_or (first_in u.applications) []; start = unwrap_or (first_in u.starts) None })
made name u v is once =
    let whole : List ℕ → AppSpec = λ vsn. app name vsn (only [] u.modules) (only [] u.applications) (only None u.starts) in
    let twice : Result AppSpec FileError = Err DuplicateKey in
    ap (λ o. after (element 3 o) (λ vsn. if has_duplicate u then twice else Ok (whole vsn))) is ∙ ap (λ b. if b then twice else Ok (whole v)) once ∙ ap (λ x. Ok (app name v x (only [] u.applications) (only None u.starts))) (only_first [] u.modules) ∙ ap (λ x. Ok (app name v (unwrap_or (first_in u.modules) []) x (only None u.starts))) (only_first [] u.applications) ∙ ap (λ x. Ok (app name v (unwrap_or (first_in u.modules) []) (unwrap_or (first_in u.applications) []) x)) (only_first None u.starts)
