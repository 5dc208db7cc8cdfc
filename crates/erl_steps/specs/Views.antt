-- The code's values, as contracts see them.
use Rattle.std.specs.Prelude.{List, [], ◌∷◌, map, Option, None, Some, option_map}
use Rattle.erl_term.specs.Term.{tree, trees}
use Rattle.erl_ir.specs.ExpressionForms.{expr, exprs, clauses}
use Rattle.erl_ir.specs.PatternForms.{pat}
use Rattle.erl_semantics.specs.Acts.{act_of, place}
use Rattle.erl_semantics.specs.Views.{end_of, instance, mode_of}
use Rattle.erl_semantics.specs.State as state
use Rattle.erl_ir.specs.declared.function.Function.{Function}
use Rattle.erl_steps.specs.declared.world.Callee.{Callee}
use Rattle.erl_steps.specs.declared.world.World.{World}
use Rattle.erl_steps.specs.declared.stack.Starter.{Starter}
use Rattle.erl_steps.specs.declared.stack.Starter.TheVariants as starters
use Rattle.erl_steps.specs.declared.machine.Startup.{Startup}
use Rattle.erl_semantics.specs.Given.{result_of}
use Rattle.erl_semantics.specs.Starting as starting
use Rattle.erl_steps.specs.declared.starts.Initialized.{Initialized}
use Rattle.erl_steps.specs.declared.starts.Initialized.TheVariants as initials
use Rattle.erl_steps.specs.declared.starts.Request.{Request}
use Rattle.erl_steps.specs.declared.starts.Request.TheVariants as requests
use Rattle.erl_steps.specs.declared.stack.Activation.{Activation}
use Rattle.erl_steps.specs.declared.stack.Frame.{Frame}
use Rattle.erl_steps.specs.declared.stack.Frame.TheVariants as frames
use Rattle.erl_steps.specs.declared.stack.Stack.{Stack}
use Rattle.erl_steps.specs.declared.machine.Control.{Control}
use Rattle.erl_steps.specs.declared.machine.Control.TheVariants as controls
use Rattle.erl_steps.specs.declared.machine.Machine.{Machine}
use Rattle.erl_steps.specs.Machine as machine

abbrev pub world_of : World → state.World
world_of w = record { code = map instance w.code.now; pid = w.setting.own; mode = mode_of w.mode }

abbrev pub activation_of : Activation → state.Activation
activation_of a = record { instance = instance a.instance.now; nesting = a.nesting; may_rest = a.may_rest }

abbrev pub starter_of : Starter → starting.Starter
starter_of starters.Spawn = starting.spawn
starter_of starters.StartLink = starting.start_link

abbrev pub frame_of : Frame → machine.Frame
frame_of (frames.Operands op values rest) = machine.operands op.now (trees values.items) (exprs rest.now)
frame_of (frames.Onward rest) = machine.onward (exprs rest.now)
frame_of (frames.Binding p) = machine.binding (pat p.now)
frame_of (frames.Cases cs) = machine.cases (clauses cs.now)
frame_of (frames.Deciding c right) = machine.deciding c (exprs right.now)
frame_of (frames.Scope n) = machine.scope n
frame_of (frames.Caller bindings a) = machine.caller (map tree bindings.items) (activation_of a)
frame_of (frames.Starter st bindings a m) =
    machine.starter (starter_of st) (map tree bindings.items) (activation_of a) m

-- what is to be done, the next first

abbrev pub onto : List machine.Frame → List Frame → List machine.Frame
onto below [] = below
onto below (f ∷ fs) = onto (frame_of f ∷ below) fs

unfoldable pub stack : Stack → List machine.Frame
stack s = onto [] s.frames.items

abbrev pub control_of : Control → machine.Control
control_of (controls.Evaluate e) = machine.evaluate (expr e.now)
control_of (controls.Run es) = machine.run (exprs es.now)
control_of (controls.Give t) = machine.give (tree t)
control_of (controls.Settle p) = machine.settle (place p)
control_of (controls.End end) = machine.end (end_of end)

-- what comes next, or a failure where there is nothing
abbrev pub control_or : state.Result → Option Control → machine.Control
control_or failure None = machine.end failure
control_or failure (Some c) = control_of c

abbrev pub startup_of : Startup → state.Startup
startup_of u = record { before = u.before; registered = u.registered; place = option_map place u.place }

abbrev pub machine_of : Machine → machine.Machine
machine_of m = record {
  activation = activation_of m.activation;
  frames = stack m.frames;
  state = record {
    bindings = map tree m.bindings.items;
    calls = m.calls;
    acts = map act_of m.acts.items;
    startup = option_map startup_of m.startup;
  };
}

abbrev pub callee_of : Option Callee → Option (state.Instance × Function)
callee_of None = None
callee_of (Some c) = Some (instance c.instance.now, c.function.now)

abbrev pub request_of : Request → starting.Request
request_of (requests.Refused given) = starting.refused (result_of given)
request_of (requests.Begin registered c name args) =
    starting.begin registered (instance c.instance.now) name c.function.now (trees args.items)

abbrev pub initialized_of : Initialized → starting.Initialized
initialized_of (initials.Begun t) = starting.begun (tree t)
initialized_of initials.Ignored = starting.ignored
initialized_of (initials.Failed t) = starting.failed (tree t)
