-- An upgrade's calls have one outcome (gen_server(3), code_change/3; appup(4), apply).
use Rattle.std.specs.Prelude.{◌≡◌, ℕ, List}
use Rattle.erl_semantics.specs.declared.instance.Instance.{Instance}
use Rattle.erl_term.specs.Tree.{Trees}
use Rattle.erl_term.specs.declared.term.Term.{Term}
use Rattle.process_effects.specs.declared.told.Reply.{Reply}
use Rattle.process_store.specs.Table.{Table}
use Rattle.upgrade_calls.specs.Applying.{Applies, FailsToApply}
use Rattle.upgrade_calls.specs.Changing.{AllChange, FirstUnchanged}
use Rattle.upgrade_calls.specs.declared.changing.CodeChangeCall.{CodeChangeCall}
use Rattle.upgrade_calls.specs.declared.changing.ChangeFailed.{ChangeFailed}

-- Processes that all change leave one table of processes, and clients are told one thing; where they don't, one of them is the
-- first that fails, for one reason; and never both.
pub record ChangesOneWay : Type 0 where
  pub changes : (code : List Instance) (cs : List CodeChangeCall) (t after last : Table) (told said : List Reply) →
      AllChange code cs t after told → AllChange code cs t last said → (after ≡ last) × (told ≡ said)
  pub fails : (code : List Instance) (cs : List CodeChangeCall) (t : Table) (one other : ChangeFailed) →
      FirstUnchanged code cs t one → FirstUnchanged code cs t other → one ≡ other
  pub never_both : (code : List Instance) (cs : List CodeChangeCall) (t after : Table) (told : List Reply) (failed : ChangeFailed) →
      AllChange code cs t after told → FirstUnchanged code cs t failed → ⊥

-- A function that is applied does one thing and tells one thing, or fails for one reason, and never both.
pub record AppliesOneWay : Type 0 where
  pub applies : (code : List Instance) (m f : List ℕ) (args : Trees) (t after last : Table) (told said : List Reply) →
      Applies code m f args t after told → Applies code m f args t last said → (after ≡ last) × (told ≡ said)
  pub fails : (code : List Instance) (m f : List ℕ) (args : Trees) (r q : Term) →
      FailsToApply code m f args r → FailsToApply code m f args q → r ≡ q
  pub never_both : (code : List Instance) (m f : List ℕ) (args : Trees) (t after : Table) (told : List Reply) (r : Term) →
      Applies code m f args t after told → FailsToApply code m f args r → ⊥
