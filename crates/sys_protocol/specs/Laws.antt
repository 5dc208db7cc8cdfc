-- Children and applications start in one way, or fail for one reason (supervisor(3); application(3)); and what the value of a
-- start function comes to.
use Rattle.std.specs.Prelude.{◌≡◌, ◌≢◌, ℕ, Bool, true, List, [], ◌∷◌, codes, None, Some}
use Rattle.erl_term.specs.Conversions.{row}
use Rattle.erl_term.specs.Term.{tree}
use Rattle.erl_term.specs.Tree.{Tree, atom, pid}
use Rattle.erl_term.specs.declared.term.Term.{Term}
use Rattle.erl_term.specs.declared.term.Term.TheVariants.{Atom, Tuple}
use Rattle.erl_semantics.specs.declared.outcome.End.{End}
use Rattle.erl_semantics.specs.declared.outcome.End.TheVariants.{Value, Exit}
use Rattle.erl_semantics.specs.declared.outcome.Outcome.{Outcome}
use Rattle.erl_semantics.specs.declared.instance.Instance.{Instance}
use Rattle.sys_protocol.specs.AppStarts.{AppFails, AppStarts, InitGives}
use Rattle.sys_protocol.specs.declared.app_error.AppError.{AppError}
use Rattle.app_table.specs.declared.child.Child.{Child}
use Rattle.child_specs.specs.declared.child.ChildSpec.{ChildSpec}
use Rattle.sys_protocol.specs.ChildStarts.{AllStart, Gives}
use Rattle.sys_protocol.specs.ChildFaults.{StartFails}
use Rattle.sys_protocol.specs.StartResults.{end_fault}
use Rattle.sys_protocol.specs.declared.start_failed.StartFailed.{StartFailed}
use Rattle.otp_files.specs.declared.app.StartModule.{StartModule}
use Rattle.process_effects.specs.declared.told.Reply.{Reply}
use Rattle.process_store.specs.Table.{Table}

-- A start function gives one outcome. Children that all start have one list of pids, leave one table of processes, and
-- clients are told one thing; where they don't, one of them is the first that fails, for one reason; and never both.
pub record ChildrenStartOneWay : Type 0 where
  pub gives : (code : List Instance) (c : ChildSpec) (t : Table) (o p : Outcome) →
      Gives code c t o → Gives code c t p → o ≡ p
  pub starts : (code : List Instance) (cs : List ChildSpec) (t after last : Table) (pids others : List ℕ) →
      (told said : List Reply) → AllStart code cs t pids after told → AllStart code cs t others last said →
      (pids ≡ others) × (after ≡ last) × (told ≡ said)
  pub fails : (code : List Instance) (cs : List ChildSpec) (t : Table) (one other : StartFailed) →
      StartFails one code cs t → StartFails other code cs t → one ≡ other
  pub never_both : (code : List Instance) (cs : List ChildSpec) (t after : Table) (pids : List ℕ) (told : List Reply) →
      (failed : StartFailed) → AllStart code cs t pids after told → StartFails failed code cs t → ⊥

-- `init` gives one outcome. An application that starts has one list of children, leaves one table of processes, and clients
-- are told one thing; one that doesn't fails for one reason; and never both.
pub record ApplicationsStartOneWay : Type 0 where
  pub gives : (code : List Instance) (m : StartModule) (o p : Outcome) → InitGives code m o → InitGives code m p → o ≡ p
  pub starts : (code : List Instance) (m : StartModule) (t after last : Table) (children others : List Child) →
      (told said : List Reply) → AppStarts code m t children after told → AppStarts code m t others last said →
      (children ≡ others) × (after ≡ last) × (told ≡ said)
  pub fails : (code : List Instance) (m : StartModule) (t : Table) (e f : AppError) →
      AppFails code m t e → AppFails code m t f → e ≡ f
  pub never_both : (code : List Instance) (m : StartModule) (t after : Table) (children : List Child) (told : List Reply) →
      (e : AppError) → AppStarts code m t children after told → AppFails code m t e → ⊥

-- What a start function gives for a child that is to be a process (supervisor(3), start functions)

-- the child has started: `{ok,Pid}` or `{ok,Pid,Info}`
pub data IsStarted (process : ℕ) (value : Term) : Type 0 where
  alone : value ≡ Tuple (row (atom (codes "ok") ∷ pid process ∷ [])) → IsStarted process value
  with_info : (info : Tree) → value ≡ Tuple (row (atom (codes "ok") ∷ pid process ∷ info ∷ [])) → IsStarted process value

-- it hasn't: `{error,Reason}`, or `ignore`

abbrev pub error : Term → Term
error reason = Tuple (row (atom (codes "error") ∷ tree reason ∷ []))

abbrev pub ignore : Term
ignore = Atom (codes "ignore")

-- The table of the manual, by whether the start function has started a process. An exit is no value.
pub record StartTable : Type 0 where
  -- a child has started only where a process was started, and the value tells of it
  pub sound : (process : ℕ) (started : Bool) (end : End) → end_fault process started end ≡ None →
      (started ≡ true) × ((value : Term) × (end ≡ Value value) × IsStarted process value)
  -- and wherever that is so
  pub complete : (process : ℕ) (value : Term) → IsStarted process value → end_fault process true (Value value) ≡ None
  -- `{error,Reason}` and an exit fail with the reason
  pub failed : (process : ℕ) (started : Bool) (reason : Term) → end_fault process started (Value (error reason)) ≡ Some reason
  pub exited : (process : ℕ) (started : Bool) (reason : Term) → end_fault process started (Exit reason) ≡ Some reason
  -- `ignore` fails with itself (an own rule), and so does every other value
  pub ignored : (process : ℕ) (started : Bool) → end_fault process started (Value ignore) ≡ Some ignore
  pub other : (process : ℕ) (started : Bool) (value : Term) → (started ≡ true → ¬ (IsStarted process value)) →
      ((reason : Term) → value ≢ error reason) → end_fault process started (Value value) ≡ Some value
