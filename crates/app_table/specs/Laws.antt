-- Which children are started again once their processes have ended (supervisor(3), Restart).
use Rattle.std.specs.Prelude.{◌≡◌, ◌↔◌, true, false, [], ◌∷◌, codes}
use Rattle.erl_term.specs.Conversions.{row}
use Rattle.erl_term.specs.Term.{tree}
use Rattle.erl_term.specs.Tree.{Tree, atom, tuple}
use Rattle.erl_term.specs.declared.term.Term.{Term}
use Rattle.child_specs.specs.declared.child.Restart.TheVariants.{Permanent, Transient, Temporary}
use Rattle.app_table.specs.Children.{is_clean, is_due_after}

-- the reasons of ends that are no failures: `normal`, `shutdown` and `{shutdown,Term}`
pub data IsNormalEnd (reason : Tree) : Type 0 where
  normal : reason ≡ atom (codes "normal") → IsNormalEnd reason
  shutdown : reason ≡ atom (codes "shutdown") → IsNormalEnd reason
  shutdown_with : (term : Tree) → reason ≡ tuple (row (atom (codes "shutdown") ∷ term ∷ [])) → IsNormalEnd reason

-- The table of the manual: after which ends a child of which Restart is started again.
pub record RestartTable : Type 0 where
  -- an end that counts as no failure is for one of these reasons
  pub sound : (reason : Tree) → is_clean reason ≡ true → IsNormalEnd reason
  -- and each end for one of these reasons counts so
  pub complete : (reason : Tree) → IsNormalEnd reason → is_clean reason ≡ true
  -- a permanent child is always started again
  pub permanent : (reason : Term) → is_due_after reason Permanent ≡ true
  -- a transient child is started again exactly where it has ended for another reason
  pub transient : (reason : Term) → (is_due_after reason Transient ≡ true) ↔ ¬ (IsNormalEnd (tree reason))
  -- a temporary child is never started again
  pub temporary : (reason : Term) → is_due_after reason Temporary ≡ false
