-- A node keeps what every node keeps where code is loaded, deleted and purged, and where releases come, go and are made
-- permanent.
use Rattle.std.proofs.Common.{◌≡◌, ℕ, Bool, true, false, if◌then◌else◌, List, [], ◌∷◌, ◌++◌, None, Some, Ok, refl, sym, ap, subst, ◌∙◌}
use Rattle.std.proofs.lemmas.Bool.{true≢false}
use Rattle.std.proofs.lemmas.Option.{none-some}
use Rattle.code_loading.proofs.Consistency.{loading_keeps_code}
use Rattle.code_loading.proofs.ModuleByModule.{all_lingering_leave}
use Rattle.code_loading.specs.Consistent.{IsConsistent}
use Rattle.code_loading.specs.Loading.{is_any, is_lingered_in, lingering, downs_of_purge, spared}
use Rattle.code_replacement.specs.Replacing.{all_without, without_lingering}
use Rattle.code_server.specs.Modules.{Table as Loaded, delete_refusal, deleted, purged}
use Rattle.code_server.specs.declared.error.CodeError.TheVariants.{OldInUse}
use Rattle.erl_ir.specs.Module.{Forms}
use Rattle.node_rules.proofs.Accepting.{Acceptance, accepted, accepts, always, is_kept}
use Rattle.node_rules.proofs.Keeping.{IsSoundSystem, one_without, purges_keep}
use Rattle.node_rules.proofs.Listing.{known_more}
use Rattle.node_rules.proofs.Scripts.{more_known, no_script, same_specs}
use Rattle.node_rules.proofs.Specifications.{all_without-specs}
use Rattle.node_rules.specs.Node.{IsSoundNode, NodeState, with_modules, with_releases}
use Rattle.node_rules.specs.Scripts.{MakesPermanent, Sweeps, permanent_as, reporting, running_in, swept_as, with_running}
use Rattle.node_rules.specs.Step.{deletes, load_refused, loaded_as, loads, purges, release_removed, set_unpacked, soft_purge_refusal, soft_purges}
use Rattle.node_types.specs.declared.event.Answer.TheVariants as answer
use Rattle.node_types.specs.declared.event.Refusal.TheVariants.{OfModules, OfReleases}
use Rattle.process_effects.specs.Ends.{all_vacated}
use Rattle.process_store.specs.Table.{Table}
use Rattle.release_statuses.specs.Statuses.{made_permanent, remove_refusal, removed, unpack_refusal, unpacked}
use Rattle.release_statuses.specs.declared.listed.Listed.{Listed}
use Rattle.release_statuses.specs.declared.status.Status.TheVariants.{Unpacked}
use Rattle.release_table.specs.declared.table.Release.{Release}

runs_in : (n : NodeState) → IsSoundNode n → IsSoundSystem (running_in n)
runs_in n kept = record { consistent = kept.consistent; children = kept.children }

-- Code

pub load_keeps : (m : Forms) (n : NodeState) (a : Acceptance) → n.runner ≡ None → accepts a ≡ loads m n → IsSoundNode n → IsSoundNode a.node
load_keeps m n a none is kept =
    let runs = one_without m.name (running_in n) (runs_in n kept) in
    let made = loaded_as m n in
    let mid = purged m.name n.modules in
    let t = spared m.name n.modules n.processes in
    accepted (load_refused m n) OfModules made a is (λ unrefused. record {
      consistent = loading_keeps_code.loads m.name m None mid t runs.consistent unrefused;
      children = runs.children;
      script = no_script n.runner n.releases made.node.apps none;
    })

pub purge_keeps : (name : List ℕ) (n : NodeState) (a : Acceptance) → n.runner ≡ None → accepts a ≡ purges name n → IsSoundNode n →
    IsSoundNode a.node
purge_keeps name n a none is kept =
    let s = without_lingering name (running_in n) in
    let runs = one_without name (running_in n) (runs_in n kept) in
    let killed = answer.Killed (is_lingered_in name n.modules n.processes) in
    let told = reporting (downs_of_purge name n.modules n.processes) in
    always a (record { node = with_running s n; answer = killed; note = told }) is (record {
      consistent = runs.consistent;
      children = runs.children;
      script = no_script n.runner n.releases s.apps none;
    })

pub delete_keeps : (name : List ℕ) (n : NodeState) (a : Acceptance) → accepts a ≡ deletes name n → IsSoundNode n → IsSoundNode a.node
delete_keeps name n a is kept =
    let node = with_modules (deleted name None n.modules) n in
    let made : Acceptance = record { node = node; answer = answer.Unit; note = reporting [] } in
    accepted (delete_refusal name n.modules) OfModules made a is (λ unrefused. record {
      consistent = loading_keeps_code.deletes name None n.modules n.processes kept.consistent unrefused;
      children = kept.children;
      script = kept.script;
    })

-- where nobody lingers nobody is killed

none_of : (pids : List ℕ) → is_any pids ≡ false → pids ≡ []
none_of [] none = refl
none_of (pid ∷ pids) none = absurd (true≢false none)

nobody_lingers : (name : List ℕ) (m : Loaded Forms) (t : Table) → is_lingered_in name m t ≡ false → t ≡ spared name m t
nobody_lingers name m t none =
    let nobody = none_of (lingering name m t) none in
    ap (λ (pids : List ℕ). all_vacated (pids ++ []) t) (sym nobody) ∙ all_lingering_leave (name ∷ []) m t

unlingered : (b : Bool) → (if b then Some OldInUse else None) ≡ None → b ≡ false
unlingered true is = absurd (none-some OldInUse (sym is))
unlingered false is = refl

pub soft_purge_keeps : (name : List ℕ) (n : NodeState) (a : Acceptance) → accepts a ≡ soft_purges name n → IsSoundNode n →
    IsSoundNode a.node
soft_purge_keeps name n a is kept =
    let m = n.modules in
    let t = n.processes in
    let node = with_modules (purged name m) n in
    let made : Acceptance = record { node = node; answer = answer.Unit; note = reporting [] } in
    accepted (soft_purge_refusal name n) OfModules made a is (λ unrefused.
    let nobody = nobody_lingers name m t (unlingered (is_lingered_in name m t) unrefused) in
    let purges = loading_keeps_code.purges name m t kept.consistent in
    record {
      consistent = subst (λ (u : Table). IsConsistent (purged name m) u) (sym nobody) purges;
      children = kept.children;
      script = kept.script;
    })

-- Releases

pub unpack_keeps : (release : Release) (n : NodeState) (a : Acceptance) → accepts a ≡ set_unpacked release n → IsSoundNode n →
    IsSoundNode a.node
unpack_keeps release n a is kept =
    let it : Listed = record { release = release; status = Unpacked } in
    let after = unpacked release n.releases in
    let made : Acceptance = record { node = with_releases after n; answer = answer.Unit; note = reporting [] } in
    accepted (unpack_refusal release.rel.vsn n.releases) OfReleases made a is (λ unrefused. record {
      consistent = kept.consistent;
      children = kept.children;
      script = more_known n.runner n.releases after n.apps (λ vsn. known_more vsn n.releases (it ∷ [])) kept.script;
    })

pub remove_keeps : (vsn : List ℕ) (n : NodeState) (a : Acceptance) → n.runner ≡ None → accepts a ≡ release_removed vsn n →
    IsSoundNode n → IsSoundNode a.node
remove_keeps vsn n a none is kept =
    let after = removed vsn n.releases in
    let made : Acceptance = record { node = with_releases after n; answer = answer.Unit; note = reporting [] } in
    accepted (remove_refusal vsn n.releases) OfReleases made a is (λ unrefused. record {
      consistent = kept.consistent;
      children = kept.children;
      script = no_script n.runner after n.apps none;
    })

pub permanent_keeps : (vsn : List ℕ) (n : NodeState) (a : Acceptance) → n.runner ≡ None → MakesPermanent vsn n (Ok a) → IsSoundNode n →
    IsSoundNode a.node
permanent_keeps vsn n a none (unrefused, names, are, is) kept =
    let s = all_without names (running_in n) in
    let runs = purges_keep names (running_in n) (runs_in n kept) in
    is_kept a (permanent_as vsn names n) is (record {
      consistent = runs.consistent;
      children = runs.children;
      script = no_script n.runner (made_permanent vsn n.releases) s.apps none;
    })

pub sweep_keeps : (n : NodeState) (a : Acceptance) → Sweeps n (Ok a) → IsSoundNode n → IsSoundNode a.node
sweep_keeps n a (names, are, is) kept =
    let s = all_without names (running_in n) in
    let runs = purges_keep names (running_in n) (runs_in n kept) in
    is_kept a (swept_as names n) is (record {
      consistent = runs.consistent;
      children = runs.children;
      script = same_specs n.runner n.releases n.apps s.apps (all_without-specs names (running_in n)) kept.script;
    })
