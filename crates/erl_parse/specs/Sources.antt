-- What the bytes of a source mean.
use Rattle.std.specs.Prelude.{◌≡◌, ℕ, List, [], None}
use Rattle.std.specs.Str.{chars, IsUtf8}
use Rattle.erl_scan.specs.declared.token.Spot.{Spot}
use Rattle.erl_scan.specs.Scan.{IsScanOf}
use Rattle.erl_ast.specs.declared.form.ModuleTree.{ModuleTree}
use Rattle.erl_ast.specs.Terminal.{terminals}
use Rattle.erl_ast.specs.Forms.{IsModule}
use Rattle.erl_lint.specs.Faults.{faults_of}
use Rattle.erl_ir.specs.Module.{Forms}
use Rattle.erl_lower.specs.Meaning.{meaning, IsMeaning}

-- Bytes are written as a module: they are UTF-8, and so are their tokens, up to the end.
pub record IsWritten (bytes : List ℕ) (tree : ModuleTree) : Type 0 where
  pub utf8 : IsUtf8 bytes
  pub tokens : List Spot
  pub scan : IsScanOf (chars bytes) tokens None
  pub is_module : IsModule (terminals tokens) tree

-- Bytes are a source of a module: they are written as one that has no static fault, and that means it.
pub record IsSource (bytes : List ℕ) (m : Forms) : Type 0 where
  pub tree : ModuleTree
  pub written : IsWritten bytes tree
  pub faultless : faults_of tree ≡ []
  pub means : IsMeaning tree m

abbrev pub IsNoSource : List ℕ → Type 0
IsNoSource bytes = (m : Forms) → IsSource bytes m → ⊥

-- The laws: bytes are a source of one module at most, and of one where they are written as a module without static fault.
abbrev pub OneModule : Type 0
OneModule = (bytes : List ℕ) → (m n : Forms) → IsSource bytes m → IsSource bytes n → m ≡ n

abbrev pub FaultlessMean : Type 0
FaultlessMean =
    (bytes : List ℕ) → (tree : ModuleTree) → IsWritten bytes tree → faults_of tree ≡ [] → IsSource bytes (meaning tree)
