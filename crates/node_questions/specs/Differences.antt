-- The differences of a node that was upgraded to a release from one on which the release has booted (release_handler(3);
-- supervisor(3); appup(4)).
use Rattle.std.specs.Prelude.{◌≡◌, ◌≢◌, ℕ, true, false, List, Contains, None, Some}
use Rattle.app_table.specs.Applications.{Application, child_of}
use Rattle.app_table.specs.declared.child.Child.{Child}
use Rattle.erl_ir.specs.Module.{Forms}
use Rattle.process.specs.Process.{ProcessState}
use Rattle.node_questions.specs.Running.{Running, code_of, is_awaited, process_in, process_of, runs}
use Rattle.node_questions.specs.Shapes.{is_alike}
use Rattle.node_questions.specs.declared.comparing.Difference.{Difference}
use Rattle.node_questions.specs.declared.comparing.Difference.TheVariants.{ApplicationMissing, ApplicationStays, ChildMissing}
use Rattle.node_questions.specs.declared.comparing.Difference.TheVariants.{ChildStays}
use Rattle.node_questions.specs.declared.comparing.Difference.TheVariants.{OtherSpecification, OtherName, OtherState}
use Rattle.node_questions.specs.declared.comparing.Difference.TheVariants.{CodeMissing, OtherCode, CodeStays}

-- An application of a node runs there, and on another node too; or it runs there alone.

pub record RunsOnBoth (here there : Running) (a : Application) : Type 0 where
  pub among : Contains here.apps a
  pub runs_here : a.is_started ≡ true
  pub runs_there : runs a.spec.name there.apps ≡ true

pub record RunsAlone (here there : Running) (a : Application) : Type 0 where
  pub among : Contains here.apps a
  pub runs_here : a.is_started ≡ true
  pub runs_there : runs a.spec.name there.apps ≡ false

-- A difference of the node that was upgraded, `u`, from the one on which the release has booted, `f`.
pub data Differs (u f : Running) (d : Difference) : Type 0 where
  -- An application runs after the boot, and not after the upgrade; or the other way round.
  application_missing : (a : Application) → RunsAlone f u a → d ≡ ApplicationMissing a.spec.name → Differs u f d
  application_stays : (a : Application) → RunsAlone u f a → d ≡ ApplicationStays a.spec.name → Differs u f d
  -- In an application that runs on both, a child has a process after the boot. After the upgrade it has none and isn't due.
  child_missing : (a : Application) (c : Child) (p : ProcessState) → RunsOnBoth f u a → Contains a.children c →
      process_of c f.processes ≡ Some p → process_in a.spec.name c.spec.id u ≡ None →
      is_awaited (child_of a.spec.name c.spec.id u.apps) ≡ false → d ≡ ChildMissing a.spec.name c.spec.id → Differs u f d
  -- A supervisor has a child after the upgrade that it lacks after the boot.
  child_stays : (a : Application) (c : Child) → RunsOnBoth u f a → Contains a.children c →
      child_of a.spec.name c.spec.id f.apps ≡ None → d ≡ ChildStays a.spec.name c.spec.id → Differs u f d
  -- A child has another specification.
  other_specification : (a : Application) (c other : Child) → RunsOnBoth f u a → Contains a.children c →
      child_of a.spec.name c.spec.id u.apps ≡ Some other → other.spec ≢ c.spec →
      d ≡ OtherSpecification a.spec.name c.spec.id → Differs u f d
  -- The process of a child has another registered name, or one of the two has none.
  other_name : (a : Application) (c : Child) (p q : ProcessState) → RunsOnBoth f u a → Contains a.children c →
      process_of c f.processes ≡ Some p → process_in a.spec.name c.spec.id u ≡ Some q → q.name ≢ p.name →
      d ≡ OtherName a.spec.name c.spec.id q.name p.name → Differs u f d
  -- The process of a child rests with a state of another shape, or at another place.
  other_state : (a : Application) (c : Child) (p q : ProcessState) → RunsOnBoth f u a → Contains a.children c →
      process_of c f.processes ≡ Some p → process_in a.spec.name c.spec.id u ≡ Some q → is_alike q.place p.place ≡ false →
      d ≡ OtherState a.spec.name c.spec.id q.place p.place → Differs u f d
  -- A module has current code after the boot, and none after the upgrade; or it has other code; or the other way round.
  code_missing : (m : List ℕ) (c : Forms) → code_of m f.modules ≡ Some c → code_of m u.modules ≡ None → d ≡ CodeMissing m →
      Differs u f d
  other_code : (m : List ℕ) (c other : Forms) → code_of m f.modules ≡ Some c → code_of m u.modules ≡ Some other → other ≢ c →
      d ≡ OtherCode m → Differs u f d
  code_stays : (m : List ℕ) (c : Forms) → code_of m u.modules ≡ Some c → code_of m f.modules ≡ None → d ≡ CodeStays m →
      Differs u f d
