-- Children start one after the other, each in the processes that the ones before it have left.
use Rattle.std.proofs.Common.{◌≡◌, inl, inr, ℕ, Bool, false, List, [], ◌∷◌, ◌++◌, map, Option, None, Some, option_map, refl, sym, ap, subst, ◌∙◌}
use Rattle.std.proofs.lemmas.List.{append-nil, append_assoc}
use Rattle.std.proofs.lemmas.Option.{none-some}
use Rattle.erl_term.specs.declared.term.Term.{Term}
use Rattle.erl_semantics.specs.declared.acts.Act.{Act}
use Rattle.erl_semantics.specs.Jobs.{Evaluates}
use Rattle.erl_semantics.specs.State.{start_mode}
use Rattle.erl_semantics.specs.Views.{outcome_of, instance}
use Rattle.erl_semantics.specs.declared.outcome.Outcome.{Outcome}
use Rattle.erl_semantics.specs.declared.instance.Instance.{Instance}
use Rattle.child_specs.specs.declared.child.ChildSpec.{ChildSpec}
use Rattle.process_effects.specs.Parted.{all_answered}
use Rattle.process_effects.specs.declared.answers.Answer.{Answer}
use Rattle.process_effects.specs.declared.told.Reply.{Reply}
use Rattle.process_store.specs.Table.{Table, is_taken, next_pid}
use Rattle.sys_protocol.proofs.Names.{fault_answered, free_name, pids_answered}
use Rattle.sys_protocol.specs.ChildStarts.{AllStart, FirstFails, StartsChild, after_start, start_told}
use Rattle.sys_protocol.specs.ChildFaults.{ChildFails, StartFails}
use Rattle.sys_protocol.specs.StartResults.{end_fault, first_of, name_fault, name_in, start_fault, starts}
use Rattle.sys_protocol.specs.declared.start_failed.StartFailed.{StartFailed}
use Rattle.values.specs.Failure.{Fails as FailsBy}
use Rattle.values.specs.declared.failure.Failure.{Failure}
use Rattle.values.specs.declared.failure.Failure.TheVariants.{Refused, Memory}
use Rattle.process_effects.specs.Begins.{IsUnderWay, acts_begun, begun_told}
use Rattle.process_effects.specs.declared.change.Addition.{Addition}

-- What comes of a child with replies that are left to give comes of it once they are given.
module _ (answers : List Answer) (now t : Table) (makes : t ≡ all_answered answers now) (code : List Instance) (c : ChildSpec) (o : Outcome) (pid : ℕ) (is : pid ≡ next_pid now) (gives : Evaluates (record { code = map instance code; pid = pid; mode = start_mode }) c.name c.function c.arguments (outcome_of o)) where
  same_pid : next_pid t ≡ pid
  same_pid = ap next_pid makes ∙ pids_answered answers now ∙ sym is

  same_fault : start_fault (next_pid t) o t ≡ start_fault pid o now
  same_fault =
      let names : name_fault (name_in o.acts) t ≡ name_fault (name_in o.acts) now = ap (name_fault (name_in o.acts)) makes ∙ fault_answered answers (name_in o.acts) now in
      λ i. first_of (end_fault (same_pid i) (starts o.acts) o.end) (names i)

  gives_there : Evaluates (record { code = map instance code; pid = next_pid t; mode = start_mode }) c.name c.function c.arguments (outcome_of o)
  gives_there = subst (λ p. Evaluates (record { code = map instance code; pid = p; mode = start_mode }) c.name c.function c.arguments (outcome_of o)) (sym same_pid) gives

  pub starts_there : start_fault pid o now ≡ None → StartsChild code c t o
  starts_there none = record { gives = gives_there; faultless = same_fault ∙ none }

  pub fails_there : (e : Failure StartFailed) → FailsBy (λ failed. (failed.child ≡ c.id) × (start_fault pid o now ≡ Some failed.reason)) (Unit {0}) e → FailsBy (λ failed. ChildFails failed code c t) (Unit {0}) e
  fails_there (Refused failed) tells = (tells.0, record { outcome = o; gives = gives_there; faulty = same_fault ∙ tells.1 })
  fails_there Memory tells = tt

-- what has started is under way
pub begun_there : (code : List Instance) (acts : List Act) (name : Option (List ℕ)) (changes : List Addition) (answers : List Answer) (before now t : Table) (told : List Reply) → name ≡ option_map (λ (asked : List ℕ × Bool). asked.0) (name_in acts) → IsUnderWay changes answers before now (acts_begun name code acts t) (told ++ begun_told name code acts t) → IsUnderWay changes answers before now (acts_begun (option_map (λ (asked : List ℕ × Bool). asked.0) (name_in acts)) code acts t) (told ++ begun_told (option_map (λ (asked : List ℕ × Bool). asked.0) (name_in acts)) code acts t)
begun_there code acts name changes answers before now t told is way =
    subst (λ (n : Option (List ℕ)). IsUnderWay changes answers before now (acts_begun n code acts t) (told ++ begun_told n code acts t)) is way

-- the name is free where there is no fault

second_none : (first second : Option Term) → first_of first second ≡ None → second ≡ None
second_none None second none = none
second_none (Some fault) second none = absurd (none-some fault (sym none))

pub free_there : (pid : ℕ) (o : Outcome) (now : Table) (name : Option (List ℕ)) → name ≡ option_map (λ (asked : List ℕ × Bool). asked.0) (name_in o.acts) → start_fault pid o now ≡ None → is_taken name now ≡ false
free_there pid o now name is none =
    ap (λ n. is_taken n now) is ∙ free_name (name_in o.acts) now (second_none (end_fault pid (starts o.acts) o.end) (name_fault (name_in o.acts) now) none)

-- How far the starts of children have come: what starts the rest from there starts all.
pub record Reached (code : List Instance) (cs : List ChildSpec) (t : Table) (rest : List ChildSpec) (pids : List ℕ) (now : Table) (told : List Reply) : Type 0 where
  pub all : (ps : List ℕ) (after : Table) (others : List Reply) → AllStart code rest now ps after others → AllStart code cs t (pids ++ ps) after (told ++ others)
  pub fails : (c : ChildSpec) (reason : Term) → FirstFails code rest now c reason → FirstFails code cs t c reason

pub none_reached : (code : List Instance) (cs : List ChildSpec) (t : Table) → Reached code cs t cs [] t []
none_reached code cs t = record { all = λ ps after others x. x; fails = λ c reason x. x }

pub more_reached : (code : List Instance) (cs : List ChildSpec) (t : Table) (c : ChildSpec) (rest left : List ChildSpec) (pids : List ℕ) (pid : ℕ) (now : Table) (told : List Reply) (o : Outcome) → Reached code cs t left pids now told → left ≡ c ∷ rest → StartsChild code c now o → pid ≡ next_pid now → Reached code cs t rest (pids ++ pid ∷ []) (after_start code o now) (told ++ start_told code o now)
more_reached code cs t c rest left pids pid now told o reached next begun is = record {
  all = λ ps after others x.
      let more = reached.all (pid ∷ ps) after (start_told code o now ++ others) (subst (λ xs. AllStart code xs now (pid ∷ ps) after (start_told code o now ++ others)) (sym next) (is, (o, others, begun, x, refl))) in
      subst (λ qs. AllStart code cs t qs after ((told ++ start_told code o now) ++ others)) (sym (append_assoc pids (pid ∷ []) ps)) (subst (AllStart code cs t (pids ++ pid ∷ ps) after) (sym (append_assoc told (start_told code o now) others)) more);
  fails = λ d reason x. reached.fails d reason (subst (λ xs. FirstFails code xs now d reason) (sym next) (inr (o, begun, x)));
}

-- all have started, or the first has failed

pub all_reached : (code : List Instance) (cs : List ChildSpec) (t : Table) (rest : List ChildSpec) (pids : List ℕ) (now : Table) (told : List Reply) → rest ≡ [] → Reached code cs t rest pids now told → AllStart code cs t pids now told
all_reached code cs t rest pids now told none reached =
    let last : AllStart code rest now [] now [] = subst (λ xs. AllStart code xs now [] now []) (sym none) (refl, refl) in
    subst (λ qs. AllStart code cs t qs now told) (append-nil pids) (subst (AllStart code cs t (pids ++ []) now) (append-nil told) (reached.all [] now [] last))

pub first_fails : (e : Failure StartFailed) (code : List Instance) (cs : List ChildSpec) (t : Table) (c : ChildSpec) (rest left : List ChildSpec) (pids : List ℕ) (now : Table) (told : List Reply) → left ≡ c ∷ rest → Reached code cs t left pids now told → FailsBy (λ failed. ChildFails failed code c now) (Unit {0}) e → FailsBy (λ failed. StartFails failed code cs t) (Unit {0}) e
first_fails (Refused failed) code cs t c rest left pids now told is reached fails =
    (c, fails.0, reached.fails c failed.reason (subst (λ xs. FirstFails code xs now c failed.reason) (sym is) (inl (refl, fails.1))))
first_fails Memory code cs t c rest left pids now told is reached fails = tt
