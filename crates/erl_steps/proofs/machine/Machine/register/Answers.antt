-- What is asked for is a name, for the process that is started.
use Rattle.std.proofs.Common.{◌≡◌, ℕ, false, eqb, nat_le, ◌&&◌, IfOk, refl, sym, ap, subst, ◌∙◌, arith}
use Rattle.std.proofs.lemmas.Bool.Decides.{nat_tests}
use denote.Enum.Bare.{sameb}
use Rattle.erl_semantics.specs.Starting.{register_in, register_in_mode}
use Rattle.erl_semantics.specs.State as state
use Rattle.erl_term.specs.Term.{tree, trees}
use Rattle.erl_steps.specs.Machine.{given_by}
use Rattle.erl_steps.specs.Views.{control_of, machine_of, world_of}
use Rattle.erl_semantics.specs.Views.{mode_of}
use Rattle.erl_semantics.specs.contracts.instance.Mode.{the_type}
use Rattle.erl_semantics.specs.declared.instance.Mode.{Mode}
use Rattle.erl_semantics.specs.declared.instance.Mode.TheVariants.{Plain, Start}
use Rattle.erl_steps.proofs.Asking.{register_two}
use Rattle.erl_steps.proofs.machine.Machine.register.Goals as goal

-- of the two modes it is the other
started : (m : Mode) → false ≡ sameb the_type m Plain → mode_of m ≡ state.start_mode
started Plain e = absurd (let no : ⊥ = cc in no)
started Start e = refl

-- two numbers are the same where neither is the greater
same_number : (m n : ℕ) → eqb m n ≡ (nat_le m n && nat_le n m)
same_number m n = grind (arith, nat_tests)

pub returns : goal.returns
returns c =
    let w = world_of c.args.world.now in
    let ts = trees c.args.arguments.now in
    let m = machine_of c.args.self.now in
    let asked = register_two w m.state ts (tree c.in-Some.name.now) (tree c.in-Some.process.now) c.in-Some-as_atom.name.now c.in-Some-as_pid.process c.in-Some.ensures c.in-Some-as_atom.ensures c.in-Some-as_pid.ensures in
    let e = ap (λ (k : state.Mode). register_in_mode w k ts m.state) (started c.args.world.now.mode c.if-eq.ensures) ∙ asked in
    subst (λ r. IfOk c.register_as.result (λ it. (control_of it, machine_of c.register_as.new.self) ≡ given_by r m)) (sym e)
    (subst (λ b. IfOk c.register_as.result (λ it. (control_of it, machine_of c.register_as.new.self) ≡ given_by (register_in c.in-Some-as_atom.name.now b m.state.startup m.state) m)) (same_number c.in-Some-as_pid.process w.pid) c.register_as.ensures)
