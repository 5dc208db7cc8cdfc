-- What OTP does otherwise because of the names of modules, instruction by instruction.
use Rattle.std.proofs.Common.{◌≡◌, ℕ, List, Some, Contains, length, refl, sym}
use Rattle.std.proofs.lemmas.Option.{get_or_from_slice_get, slice_get_read, slice_get_within}
use Rattle.std.specs.List.{slice_get}
use Rattle.low_instructions.specs.declared.low.Low.{Low}
use Rattle.low_instructions.specs.declared.low.Low.TheVariants.{LoadObjectCode, PointOfNoReturn, Load, Remove, Purge, Suspend}
use Rattle.low_instructions.specs.declared.low.Low.TheVariants.{Resume, CodeChange, Stop, Start, Apply}
use Rattle.low_instructions.specs.declared.modules.Direction.{Direction}
use Rattle.upgrade_review.proofs.Adding.{adds_alike}
use Rattle.upgrade_review.specs.Gathering.{Adds, FromEach}
use Rattle.otp_review.specs.OnOtp.{DiffersAt, DiffersByName, changes_nobody, not_resumed, resumes_nobody, starts_nobody}
use Rattle.upgrade_review.specs.declared.finding.Finding.{Finding}

-- an item of a list, and the same at its index
at_index : {X : Type 0} (xs : List X) (k : ℕ) (x : X) → slice_get xs k ≡ Some x → Contains xs x
at_index xs k x is = (k, slice_get_within xs k x is, get_or_from_slice_get xs k x x is)

index_of : {X : Type 0} (xs : List X) (x : X) (there : Contains xs x) → slice_get xs there.0 ≡ Some x
index_of xs x there = slice_get_read xs (length xs) there.0 x refl there.1 (sym there.2)

module _ (way : Direction) (script : List Low) (f : Finding) where
  of_instruction : (i : ℕ) (low : Low) → slice_get script i ≡ Some low → DiffersAt way script i low f → DiffersByName way script f
  of_instruction i (LoadObjectCode application version modules) is w = absurd w
  of_instruction i PointOfNoReturn is w = absurd w
  of_instruction i (Load name pre post) is w = absurd w
  of_instruction i (Remove name pre post) is w = absurd w
  of_instruction i (Purge modules) is w = absurd w
  of_instruction i (Suspend modules) is w = not_resumed i modules w.1 is (at_index modules w.0 w.1 w.2) w.3.0 w.3.1
  of_instruction i (Resume modules) is w = resumes_nobody i modules w.1 is (at_index modules w.0 w.1 w.2) w.3.0 w.3.1
  of_instruction i (CodeChange direction changes) is w = changes_nobody i direction changes w.1 is (at_index changes w.0 w.1 w.2) w.3.0 w.3.1
  of_instruction i (Stop modules) is w = absurd w
  of_instruction i (Start modules) is w = starts_nobody i modules w.1 is (at_index modules w.0 w.1 w.2) w.3.0 w.3.1
  of_instruction i (Apply name function arguments) is w = absurd w

  in_parts : DiffersByName way script f → FromEach (DiffersAt way script) script f
  in_parts (not_resumed i modules s at among left is) =
      (i, Suspend modules, at, (among.0, s, index_of modules s among, (left, is)))
  in_parts (resumes_nobody i modules m at among none is) =
      (i, Resume modules, at, (among.0, m, index_of modules m among, (none, is)))
  in_parts (changes_nobody i direction changes change at among none is) =
      (i, CodeChange direction changes, at, (among.0, change, index_of changes change among, (none, is)))
  in_parts (starts_nobody i modules m at among none is) =
      (i, Start modules, at, (among.0, m, index_of modules m among, (none, is)))

-- the findings about the instructions are the findings by name
pub named_of_parts : (way : Direction) (script : List Low) (old new : List Finding) →
    Adds (FromEach (DiffersAt way script) script) old new → Adds (DiffersByName way script) old new
named_of_parts way script old new all = adds_alike (FromEach (DiffersAt way script) script) (DiffersByName way script) old new
    (λ f w. of_instruction way script f w.0 w.1 w.2 w.3) (λ f w. in_parts way script f w) all
