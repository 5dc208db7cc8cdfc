-- What stands under a key of a row of properties, after what was read already.
use Rattle.std.proofs.Common.{ℕ, List, ◌++◌, Option, Some}
use Rattle.erl_term.specs.Accessors.{all_of}
use Rattle.erl_term.specs.Conversions.{given}
use Rattle.erl_term.specs.Tree.{Tree, Trees}
use Rattle.otp_files.specs.Apps.{values_of}
use Rattle.otp_files.specs.Reading.{property_of}

abbrev pub under : {A : Type 0} → (Tree → Option A) → List ℕ → Trees → List A → Option (List A)
under read key ts done = given (all_of property_of ts) (λ ps. given (all_of read (values_of key ps)) (λ rest. Some (done ++ rest)))
