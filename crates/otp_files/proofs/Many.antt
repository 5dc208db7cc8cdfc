-- Texts of more terms than one.
use Rattle.std.proofs.Common.{ℕ, ◌<◌, List, [], ◌∷◌, length, arith}
use Rattle.erl_term.specs.declared.term.Term.{Term}
use Rattle.erl_consult.specs.Faults.{IsTextOf}
use Rattle.erl_term.specs.Term.{tree, trees}
use Rattle.otp_files.specs.Texts.{HasMany}

pub many : (bytes : List ℕ) (ts : List Term) → 1 < length ts → IsTextOf bytes (trees ts) → HasMany bytes
many bytes [] more text = absurd (omega arith)
many bytes (t ∷ []) more text = absurd (omega arith)
many bytes (t ∷ (u ∷ us)) more text = record { first = tree t; second = tree u; others = trees us; text = text }
