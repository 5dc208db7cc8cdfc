-- Evaluating ends, so that by the rules something comes of each call and of each job.
use Rattle.std.specs.Prelude.{◌<◌, ℕ, ◌+◌, zero, suc, true, false, List, [], Option, None, Some, refl}
use Rattle.std.proofs.Common.{arith}
use Rattle.erl_term.specs.Tree.{Tree, Trees, count}
use Rattle.erl_ir.specs.declared.function.Function.{Function}
use Rattle.erl_ir.specs.declared.function.Definition.{Definition}
use Rattle.erl_ir.specs.Expression.{Exprs}
use Rattle.erl_ir.specs.Module.{exported_of, function_of}
use Rattle.erl_semantics.specs.State.{Instance, Place, server, loop, Result, World, Activation, State, with_bindings, with_calls, all_acts}
use Rattle.erl_semantics.specs.Guards.{Selection}
use Rattle.erl_semantics.specs.Evaluation.{Body, Entered}
use Rattle.erl_semantics.specs.Jobs.{Outcome, FromOutside, undefined, called, Job, GivesAt, Callback, callback_of, name_of, arguments_of}
use Rattle.erl_semantics.specs.Jobs.{served, unexported, Handles, not_exported, handled, heard, looped, nowhere, Receives, unheard}
use Rattle.erl_semantics.specs.Jobs.{received, world_of, fresh, outermost}
use Rattle.erl_steps.specs.Machine as machine
use Rattle.erl_steps.specs.Machine.{Control, Machine, is_tail, entered, stepping}
use Rattle.erl_steps.specs.Leading.{Final, Comes}
use Rattle.erl_steps.specs.Work.{work_left}
use Rattle.erl_steps.proofs.Falls.{step_falls}
use Rattle.erl_steps.proofs.Leads.{step_leads, entered_leads}

module _ (w : World) where
  -- something comes of what is left to be done
  abbrev Ends : Control → Machine → Type 0
  Ends next m = (f : Final) × Comes w next m f

  step_ends : (next : Control) (m : Machine) → Ends (stepping w next m).0 (stepping w next m).1 → Ends next m
  step_ends next m (f, c) = (f, step_leads w next m f c)

  -- behind so many steps at most
  ends_within : (n : ℕ) (next : Control) (m : Machine) → work_left w next m < n → Ends next m
  ends_within zero next m less = absurd (omega arith)
  ends_within (suc n) (machine.evaluate e) m less = step_ends (machine.evaluate e) m
      (ends_within n (stepping w (machine.evaluate e) m).0 (stepping w (machine.evaluate e) m).1
      (omega (arith, step_falls w (machine.evaluate e) m (λ h. h), less)))
  ends_within (suc n) (machine.run es) m less = step_ends (machine.run es) m
      (ends_within n (stepping w (machine.run es) m).0 (stepping w (machine.run es) m).1
      (omega (arith, step_falls w (machine.run es) m (λ h. h), less)))
  ends_within (suc n) (machine.give t) m less = step_ends (machine.give t) m
      (ends_within n (stepping w (machine.give t) m).0 (stepping w (machine.give t) m).1
      (omega (arith, step_falls w (machine.give t) m (λ h. h), less)))
  ends_within (suc n) (machine.settle p) m less = step_ends (machine.settle p) m
      (ends_within n (stepping w (machine.settle p) m).0 (stepping w (machine.settle p) m).1
      (omega (arith, step_falls w (machine.settle p) m (λ h. h), less)))
  ends_within (suc n) (machine.end r) m less = ((r, with_bindings [] m.state), refl)

  ends : (next : Control) (m : Machine) → Ends next m
  ends next m = ends_within (work_left w next m + 1) next m (omega arith)

  entered_ends : (i : Instance) (name : List ℕ) (d : Definition) (ts : Trees) →
      (r : Result) × (s : State) × Entered w (outermost i false) true name d ts fresh r s
  entered_ends i name d ts =
      let m : Machine = record { activation = outermost i false; frames = []; state = fresh } in
      let e = ends (entered w name d ts m).0 (entered w name d ts m).1 in
      let c = entered_leads w name d ts m refl e.0 e.1 in (c.0, c.1, c.2)

  body_ends : (a : Activation) (es : Exprs) (s : State) → (r : Result) × (s1 : State) × Body w a true es s r s1
  body_ends a es s =
      let c = (ends (machine.run es) (record { activation = a; frames = []; state = s })).1 in (c.0, c.1, c.2)

  pub from_outside_ends : (name : List ℕ) (f : Option (Instance × Function)) (args : Trees) →
      (o : Outcome) × FromOutside w name f args o
  from_outside_ends name None args = (nowhere, undefined refl)
  from_outside_ends name (Some (i, f)) args =
      let c = entered_ends i name f.definition args in
      (record { acts = all_acts c.1.startup c.1.acts; ended = c.0 }, called c.2 refl)

module _ (j : Job) where
  handled_ends : (m : List ℕ) (s : Tree) (callback : Callback) (f : Option Function) (i : Instance) →
      (o : Outcome) × Handles j m s callback f i o
  handled_ends m s callback None i = (unexported m s callback, not_exported refl)
  handled_ends m s callback (Some f) i =
      let c = entered_ends (world_of j) i (name_of callback) f.definition (arguments_of callback s) in
      (served m callback c.1.acts c.0, handled c.2 refl)

  received_ends : (i : Instance) (found : Selection) → (o : Outcome) × Receives j i found o
  received_ends i (None, calls) = (nowhere, unheard refl)
  received_ends i (Some (env, body), calls) =
      let c = body_ends (world_of j) (outermost i true) body (with_calls calls (with_bindings env fresh)) in
      (looped c.1.acts c.0, received c.2 refl)

  pub gives_at_ends : (p : Place) (entered : Option Instance) → (o : Outcome) × GivesAt j p entered o
  gives_at_ends (server m s) None = (nowhere, refl)
  gives_at_ends (server m s) (Some i) = handled_ends m s (callback_of j.message)
      (exported_of (name_of (callback_of j.message)) (count (arguments_of (callback_of j.message) s)) i.forms) i
  gives_at_ends (loop m serial name args) None = (nowhere, refl)
  gives_at_ends (loop m serial name args) (Some i) =
      received_ends i (heard j.pid j.message args (function_of name (count args) i.forms))
