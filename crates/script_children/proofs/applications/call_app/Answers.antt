-- An unload leaves the processes as they are, and tells clients nothing.
use Rattle.std.proofs.Common.{◌≡◌, ℕ, List, [], IfOk, Result, Ok, Err, Some, replicate, subst, sym}
use Rattle.app_table.specs.Applications.{Application}
use Rattle.erl_semantics.specs.declared.instance.Instance.{Instance}
use Rattle.process_effects.specs.declared.told.Reply.{Reply}
use Rattle.process_store.specs.Pieces.{HoldsLost}
use Rattle.process_store.specs.Table.{Table}
use Rattle.script_children.specs.Applying.{AppUnloads, DoesAppCall}
use Rattle.script_children.specs.Children.{Supervised}
use Rattle.script_children.specs.Pieces.{held_processes}
use Rattle.script_children.specs.declared.applying.Applied.{Applied}
use Rattle.script_children.specs.declared.calls.AppCall.{AppCall}
use Rattle.script_children.specs.declared.calls.AppCall.TheVariants.{Unload}
use Rattle.sys_protocol.specs.declared.app_error.AppError.{AppError}
use Rattle.values.specs.declared.failure.Failure.{Failure}
use Rattle.script_children.proofs.applications.call_app.Goals as goal

-- The application of a name is unloaded, whatever the processes; or the function does what it does to it, and tells what is
-- handed out.

abbrev Goes : List ℕ → List Application → List Application → Applied → Type 0
Goes name before after it =
    (t : Table) → AppUnloads name (record { apps = before; processes = t }) (record { apps = after; processes = t }) []

abbrev Did : List Instance → AppCall → List ℕ → ℕ → Supervised → Supervised → Applied → Type 0
Did code call name n s after it =
    (told : List Reply) × DoesAppCall code call (Some name) s after told × (it.told.items ≡ replicate n told)

unloads : (t : Table) (code : List Instance) (call : AppCall) (name : List ℕ) (n : ℕ) (before after : List Application) →
    (r : Result Applied (Failure AppError)) → call ≡ Unload → IfOk r (Goes name before after) →
    IfOk r (λ it. it.told.items ≡ replicate n []) →
    IfOk r (Did code call name n (record { apps = before; processes = t }) (record { apps = after; processes = t }))
unloads t code call name n before after (Err failure) is goes tells = tt
unloads t code call name n before after (Ok it) is goes tells =
    let s : Supervised = record { apps = before; processes = t } in
    let now : Supervised = record { apps = after; processes = t } in
    ([], subst (λ (k : AppCall). DoesAppCall code k (Some name) s now []) (sym is) (goes t), tells)

holds : (t : Table) (r : Result Applied (Failure AppError)) →
    IfOk r (λ it. (u : Table) → HoldsLost (held_processes it.undo u) u u) →
    IfOk r (λ it. HoldsLost (held_processes it.undo t) t t)
holds t (Err failure) all = tt
holds t (Ok it) all = all t

pub returns-in-Unload-clause-applied : goal.returns-in-Unload-clause-applied
returns-in-Unload-clause-applied c =
    let before = c.args.apps.now in
    let after = c.unload.new.apps in
    let t = c.args.processes.now in
    let code = c.args.code.now in
    let name = c.args.name.now in
    let it = c.unload.ensures in
    unloads t code c.args.call name c.args.n before after c.unload.result c.in-Unload.is it.applied it.told

pub returns-in-Unload-clause-pieces : goal.returns-in-Unload-clause-pieces
returns-in-Unload-clause-pieces c = holds c.args.processes.now c.unload.result c.unload.ensures.pieces
