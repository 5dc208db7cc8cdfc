-- A function is applied (appup(4), apply).
use Rattle.std.specs.Prelude.{◌≡◌, ℕ, List, map, Option, None, Some}
use Rattle.callback_lang.specs.Returns.{apply_return}
use Rattle.erl_semantics.specs.Jobs.{Evaluates}
use Rattle.erl_semantics.specs.State.{plain}
use Rattle.erl_semantics.specs.Views.{instance, outcome_of}
use Rattle.erl_semantics.specs.declared.instance.Instance.{Instance}
use Rattle.erl_semantics.specs.declared.outcome.Outcome.{Outcome}
use Rattle.erl_term.specs.Tree.{Tree, Trees}
use Rattle.erl_term.specs.Term.{tree}
use Rattle.erl_term.specs.declared.term.Term.{Term}
use Rattle.process_effects.specs.Begins.{acts_begun, begun_told}
use Rattle.process_effects.specs.declared.told.Reply.{Reply}
use Rattle.process_store.specs.Table.{Table}

-- What `M:F(Args)` gives in this code. It is evaluated outside of all processes.
abbrev pub Gives : List Instance → List ℕ → List ℕ → Trees → Outcome → Type 0
Gives code m f args o = Evaluates (record { code = map instance code; pid = 0; mode = plain }) m f args (outcome_of o)

abbrev pub fault_of : Outcome → Option Tree
fault_of o = apply_return ((outcome_of o).ended)

-- It succeeds: what it asked for is done, in order, and clients are told this.
pub record Applies (code : List Instance) (m f : List ℕ) (args : Trees) (t after : Table) (told : List Reply) : Type 0 where
  pub outcome : Outcome
  pub gives : Gives code m f args outcome
  pub good : fault_of outcome ≡ None
  pub done : after ≡ acts_begun None code outcome.acts t
  pub tells : told ≡ begun_told None code outcome.acts t

-- Or it fails, for a reason.
pub record FailsToApply (code : List Instance) (m f : List ℕ) (args : Trees) (reason : Term) : Type 0 where
  pub outcome : Outcome
  pub gives : Gives code m f args outcome
  pub fails : fault_of outcome ≡ Some (tree reason)
