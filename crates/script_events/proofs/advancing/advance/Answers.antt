-- The script that runs goes on, or is halted.
use Rattle.std.proofs.Common.{◌≡◌, ◌∙◌, ℕ, List, Option, None, Some, option_map, refl, sym, ap, subst}
use Rattle.release_statuses.specs.Statuses.{listed}
use Rattle.release_statuses.specs.declared.listed.Listed.{Listed}
use Rattle.script_state.specs.Runner.{RunnerState, runner_of}
use Rattle.script_state.specs.declared.runner.Runner.{Runner}
use Rattle.script_steps.specs.Steps.{Stops, next_of}
use Rattle.script_events.proofs.Advances.{IsSame, advances, by_rule, can_halt, halts, memory_as, one_on, refused_as, script_in, stays}
use Rattle.script_events.proofs.Targets.{known_target}
use Rattle.node_parts.specs.Changes.{IsStepOf, state_of}
use Rattle.node_parts.specs.Node.{IsInstalling, NodeState, RunsScript}
use Rattle.node_parts.specs.Scripts.{Advances, CanHalt, HaltsAs, advance_refused, next_in, target_in}
use Rattle.script_events.proofs.advancing.advance.Goals as goal

-- the script that runs, as it was taken
ran : (o taken : Option Runner) (runner : Runner) → taken ≡ o → taken ≡ Some runner → option_map runner_of o ≡ Some (runner_of runner)
ran o taken runner value is = ap (option_map runner_of) (sym value ∙ is)

pub unreachable-requires : goal.unreachable-requires
unreachable-requires c =
    let none : c.args.parts.now.runner ≡ None = sym c.take.ensures.value ∙ c.in_default.is in
    let refused = ap (λ (o : Option Runner). advance_refused c.args.give_up (option_map runner_of o) (state_of c.args.parts.now)) (sym none) ∙ c.requires.wants in
    let never : ⊥ = cc in never

pub unreachable-requires-in_default-get : goal.unreachable-requires-in_default-get
unreachable-requires-in_default-get c =
    let n = state_of c.args.parts.now in
    let s = runner_of c.in-Some.runner in
    let runs = ran c.args.parts.now.runner c.take.result c.in-Some.runner c.take.ensures.value c.in-Some.is in
    let kept : IsInstalling s n.releases n.apps = subst (λ o. RunsScript o n.releases n.apps) runs c.requires.kept in
    let (r, at) = known_target s n kept.known in
    let none : listed s.target n.releases ≡ None = ap (λ (v : List ℕ). listed v n.releases) (sym c.as_str.ensures.chars) ∙ sym c.in_default-get.ensures in
    let unknown = ap (option_map (λ (it : Listed). it.release)) (sym none) ∙ at in
    let never : ⊥ = cc in never

pub halt-requires : goal.halt-requires
halt-requires c =
    let n = state_of c.args.parts.now in
    let s = runner_of c.in-Some.runner in
    let now = runner_of c.carry_on-carried.new.runner in
    let runs = ran c.args.parts.now.runner c.take.result c.in-Some.runner c.take.ensures.value c.in-Some.is in
    let mid : NodeState = record n { modules = c.carry_on-carried.new.modules; processes = c.carry_on-carried.new.processes; apps = c.carry_on-carried.new.apps; runner = Some now } in
    let kept : IsInstalling s n.releases n.apps = subst (λ o. RunsScript o n.releases n.apps) runs c.requires.kept in
    let (stops, same) = refused_as c.in-Err-Refused.field-0 c.in-Err-Refused.stop c.in-Some-get.target.now.release c.args.give_up (script_in s n) (script_in now mid) c.in-Err-Refused.field-0-is c.in-Err-Refused.ensures.goes_on in
    let is = stays s now n mid c.in-Err-Refused.ensures.runner same refl runs in
    let can = can_halt c.in-Err-Refused.stop (next_of (script_in s n)) c.in-Some-get.target.now.release c.args.give_up s n stops kept in
    (now, refl, subst (λ (m : NodeState). CanHalt c.in-Err-Refused.stop now m) (sym is.node) (subst (λ (x : RunnerState). CanHalt c.in-Err-Refused.stop x n) (sym is.runner) can))

pub returns-in-Ok : goal.returns-in-Ok
returns-in-Ok c =
    let n = state_of c.args.parts.now in
    let s = runner_of c.in-Some.runner in
    let now = runner_of c.carry_on-carried.new.runner in
    let runs = ran c.args.parts.now.runner c.take.result c.in-Some.runner c.take.ensures.value c.in-Some.is in
    let after : NodeState = record n { modules = c.carry_on-carried.new.modules; processes = c.carry_on-carried.new.processes; apps = c.carry_on-carried.new.apps; runner = Some now } in
    let found : listed s.target n.releases ≡ Some c.in-Some-get.target.now = ap (λ (v : List ℕ). listed v n.releases) (sym c.as_str.ensures.chars) ∙ sym c.in-Some-get.ensures in
    let target = ap (option_map (λ (it : Listed). it.release)) found in
    let it = one_on c.in-Some-get.target.now.release c.args.give_up c.args.n s now n after c.in-Ok.field-0 c.in-Ok.ensures.goes_on c.in-Ok.ensures.runner refl target runs in
    (it.accepted, (s, now, it.back))

pub returns-in-Err-Refused : goal.returns-in-Err-Refused
returns-in-Err-Refused c =
    let n = state_of c.args.parts.now in
    let s = runner_of c.in-Some.runner in
    let now = runner_of c.carry_on-carried.new.runner in
    let runs = ran c.args.parts.now.runner c.take.result c.in-Some.runner c.take.ensures.value c.in-Some.is in
    let mid : NodeState = record n { modules = c.carry_on-carried.new.modules; processes = c.carry_on-carried.new.processes; apps = c.carry_on-carried.new.apps; runner = Some now } in
    let final = state_of c.halt.new.parts in
    let stop = c.in-Err-Refused.stop in
    let (stops, same) = refused_as c.in-Err-Refused.field-0 c.in-Err-Refused.stop c.in-Some-get.target.now.release c.args.give_up (script_in s n) (script_in now mid) c.in-Err-Refused.field-0-is c.in-Err-Refused.ensures.goes_on in
    let is = stays s now n mid c.in-Err-Refused.ensures.runner same refl runs in
    let found : listed s.target n.releases ≡ Some c.in-Some-get.target.now = ap (λ (v : List ℕ). listed v n.releases) (sym c.as_str.ensures.chars) ∙ sym c.in-Some-get.ensures in
    let r = c.in-Some-get.target.now.release in
    let target = ap (option_map (λ (it : Listed). it.release)) found in
    let halted = subst (λ (x : RunnerState). IsStepOf (HaltsAs stop x n) (Unit {0}) c.args.n n final c.halt.result) is.runner
    (subst (λ (m : NodeState). IsStepOf (HaltsAs stop now m) (Unit {0}) c.args.n m final c.halt.result) is.node (c.halt.ensures now refl)) in
    by_rule (HaltsAs stop s n) (Advances c.args.give_up n.runner n) (Unit {0}) (advance_refused c.args.give_up n.runner n ≡ None) c.args.n n final c.halt.result
    (λ out halting. advances c.args.give_up r s n out runs target (halts stop (next_in s) r c.args.give_up s n out stops halting)) (λ u. c.requires.wants) halted

pub returns-in-Err-Memory : goal.returns-in-Err-Memory
returns-in-Err-Memory c =
    let n = state_of c.args.parts.now in
    let s = runner_of c.in-Some.runner in
    let now = runner_of c.carry_on-carried.new.runner in
    let runs = ran c.args.parts.now.runner c.take.result c.in-Some.runner c.take.ensures.value c.in-Some.is in
    let mid : NodeState = record n { modules = c.carry_on-carried.new.modules; processes = c.carry_on-carried.new.processes; apps = c.carry_on-carried.new.apps; runner = Some now } in
    let same = memory_as c.in-Err-Memory.field-0 c.in-Some-get.target.now.release c.args.give_up (script_in s n) (script_in now mid) c.in-Err-Memory.field-0-is c.in-Err-Memory.ensures.goes_on in
    (c.requires.wants, (stays s now n mid c.in-Err-Memory.ensures.runner same refl runs).node)
