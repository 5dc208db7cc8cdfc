-- A function is applied, or fails: an application starts, stops or is unloaded, or something comes of the call.
use Rattle.std.specs.Prelude.{◌≡◌, ◌⊎◌, ℕ, List, [], map, Option, None, Some, refl}
use Rattle.std.proofs.Common.{inl, inr, ap, sym, ◌∙◌}
use Rattle.app_table.specs.Applications.{started}
use Rattle.erl_semantics.specs.State.{plain}
use Rattle.erl_semantics.specs.Views.{instance}
use Rattle.erl_semantics.specs.declared.instance.Instance.{Instance}
use Rattle.erl_semantics.specs.declared.outcome.Outcome.{Outcome}
use Rattle.erl_term.specs.Accessors.{atom_of}
use Rattle.erl_term.specs.Term.{term_of}
use Rattle.erl_term.specs.Tree.{Tree, Trees}
use Rattle.erl_term.specs.declared.term.Term.{Term}
use Rattle.node_laws.proofs.Evaluated.{evaluated, tree_back}
use Rattle.node_laws.proofs.Starting.{AppStartsOrNot, app_starts}
use Rattle.process_effects.specs.Begins.{acts_begun, begun_told}
use Rattle.process_effects.specs.Ends.{all_vacated}
use Rattle.process_effects.specs.Kills.{downs_of_each}
use Rattle.process_effects.specs.declared.told.Reply.{Reply}
use Rattle.process_store.specs.Table.{Table}
use Rattle.script_children.specs.Applying.{Applied, AppliedAs, NotApplied, NotAppliedAs}
use Rattle.script_children.specs.Calls.{call_of, reason_of}
use Rattle.script_children.specs.Children.{Supervised}
use Rattle.script_children.specs.declared.calls.AppCall.{AppCall}
use Rattle.script_children.specs.declared.calls.AppCall.TheVariants as calls
use Rattle.sys_protocol.specs.Stopping.{app_pids, shutdown, stop_refusal, stopped_app, unload_refusal, unloaded_app}
use Rattle.sys_protocol.specs.declared.app_error.AppError.{AppError}
use Rattle.sys_protocol.specs.declared.app_error.AppError.TheVariants as app_error
use Rattle.upgrade_calls.specs.Applying.{Applies, FailsToApply, Gives, fault_of}

-- Any function

abbrev IsApplied : List Instance → List ℕ → List ℕ → Trees → Table → Type 0
IsApplied code m f args t =
    ((after : Table) × (told : List Reply) × Applies code m f args t after told) ⊎
    ((reason : Term) × FailsToApply code m f args reason)

applied_by : (code : List Instance) (m f : List ℕ) (args : Trees) (t : Table) (o : Outcome) → Gives code m f args o →
    (fault : Option Tree) → fault_of o ≡ fault → IsApplied code m f args t
applied_by code m f args t o gives None is = inl (
  acts_begun None code o.acts t,
  begun_told None code o.acts t,
  record { outcome = o; gives = gives; good = is; done = refl; tells = refl },
)
applied_by code m f args t o gives (Some reason) is =
    inr (term_of reason, record { outcome = o; gives = gives; fails = is ∙ ap Some (sym (tree_back reason)) })

applies : (code : List Instance) (m f : List ℕ) (args : Trees) (t : Table) → IsApplied code m f args t
applies code m f args t =
    let e = evaluated (record { code = map instance code; pid = 0; mode = plain }) m f args in
    applied_by code m f args t e.0 e.1 (fault_of e.0) refl

-- One of `application`

abbrev AppliesAs : Option (AppCall × Tree) → List Instance → List ℕ → List ℕ → Trees → Supervised → Type 0
AppliesAs c code m f args s =
    ((after : Supervised) × (told : List Reply) × AppliedAs c code m f args s after told) ⊎
    ((reason : Term) × NotAppliedAs c code m f args s reason)

module _ (code : List Instance) (m f : List ℕ) (args : Trees) (s : Supervised) where
  starts_as : (named : Tree) (name : List ℕ) → atom_of named ≡ Some name → AppStartsOrNot code name s.apps s.processes →
      AppliesAs (Some (calls.Start, named)) code m f args s
  starts_as named name is (inl (unrefused, children, after, told, runs)) = inl (
    record { apps = started name children s.apps; processes = after },
    told,
    Prim.rw is (record { unrefused = unrefused; children = children; runs = runs; apps = refl }),
  )
  starts_as named name is (inr (e, refuses)) = inr (reason_of named e, (e, Prim.rw is refuses, refl))

  stops_as : (named : Tree) (name : List ℕ) → atom_of named ≡ Some name → (refusal : Option AppError) →
      stop_refusal name s.apps ≡ refusal → AppliesAs (Some (calls.Stop, named)) code m f args s
  stops_as named name is None unrefused = inl (
    record { apps = stopped_app name s.apps; processes = all_vacated (app_pids name s.apps) s.processes },
    downs_of_each shutdown (app_pids name s.apps) s.processes,
    Prim.rw is (record { unrefused = unrefused; apps = refl; processes = refl; tells = refl }),
  )
  stops_as named name is (Some e) refused = inr (reason_of named e, (e, Prim.rw is refused, refl))

  unloads_as : (named : Tree) (name : List ℕ) → atom_of named ≡ Some name → (refusal : Option AppError) →
      unload_refusal name s.apps ≡ refusal → AppliesAs (Some (calls.Unload, named)) code m f args s
  unloads_as named name is None unrefused = inl (
    record { apps = unloaded_app name s.apps; processes = s.processes },
    [],
    Prim.rw is (record { unrefused = unrefused; apps = refl; processes = refl; tells = refl }),
  )
  unloads_as named name is (Some e) refused = inr (reason_of named e, (e, Prim.rw is refused, refl))

  named_as : (call : AppCall) (named : Tree) (name : Option (List ℕ)) → atom_of named ≡ name →
      AppliesAs (Some (call, named)) code m f args s
  named_as calls.Start named None is = inr (reason_of named app_error.NotLoaded, (app_error.NotLoaded, Prim.rw is refl, refl))
  named_as calls.Stop named None is = inr (reason_of named app_error.NotStarted, (app_error.NotStarted, Prim.rw is refl, refl))
  named_as calls.Unload named None is = inr (reason_of named app_error.NotLoaded, (app_error.NotLoaded, Prim.rw is refl, refl))
  named_as calls.Start named (Some name) is = starts_as named name is (app_starts code name s.apps s.processes)
  named_as calls.Stop named (Some name) is = stops_as named name is (stop_refusal name s.apps) refl
  named_as calls.Unload named (Some name) is = unloads_as named name is (unload_refusal name s.apps) refl

  other_as : IsApplied code m f args s.processes → AppliesAs None code m f args s
  other_as (inl (after, told, is)) = inl (record { apps = s.apps; processes = after }, told, (is, refl))
  other_as (inr (reason, fails)) = inr (reason, fails)

  call_as : (c : Option (AppCall × Tree)) → AppliesAs c code m f args s
  call_as None = other_as (applies code m f args s.processes)
  call_as (Some c) = named_as c.0 c.1 (atom_of c.1) refl

pub applied_or_not : (code : List Instance) (m f : List ℕ) (args : Trees) (s : Supervised) →
    ((after : Supervised) × (told : List Reply) × Applied code m f args s after told) ⊎
    ((reason : Term) × NotApplied code m f args s reason)
applied_or_not code m f args s = call_as code m f args s (call_of m f args)
