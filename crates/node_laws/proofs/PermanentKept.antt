-- One release at least is permanent behind each event that is accepted.
use Rattle.std.specs.Prelude.{◌≡◌, ◌⊎◌, ◌||◌, ℕ, Bool, true, false, List, [], ◌∷◌, Option, None, Some, Ok, refl}
use Rattle.std.proofs.Common.{inl, inr, ap, sym, subst, ◌∙◌}
use Rattle.std.proofs.lemmas.List.Folds.{list_any-append}
use Rattle.erl_term.specs.declared.term.Term.{Term}
use Rattle.low_instructions.specs.declared.low.Low.{Low}
use Rattle.code_loading.specs.Loading.{is_lingered_in, downs_of_purge}
use Rattle.code_replacement.specs.Replacing.{without_lingering}
use Rattle.code_server.specs.Modules.{delete_refusal, deleted, purged}
use Rattle.node_laws.specs.Laws.{NodesKeepAPermanentRelease}
use Rattle.node_rules.proofs.Accepting.{Acceptance, accepted_or_not, accepts, no_runner}
use Rattle.node_rules.specs.Node.{NodeState, with_modules, with_processes, with_releases}
use Rattle.node_rules.specs.Scripts.{Advances, GivesUp, GoesOn, GoesOnBy, HasFailed, IsCarriedOut, finished_as, is_past, next_in}
use Rattle.node_rules.specs.Scripts.{reporting, running_in, target_in, with_running, Installs, MakesPermanent, RebootsOld}
use Rattle.node_rules.specs.Step.{Step, deletes, load_refused, loaded_as, loads, purges, release_removed, soft_purge_refusal, soft_purges, unless}
use Rattle.node_types.specs.Note.{Note}
use Rattle.node_types.specs.declared.event.Answer.TheVariants as answer
use Rattle.node_types.specs.declared.event.Event.{Event}
use Rattle.node_types.specs.declared.event.Event.TheVariants.{Arrive, Take, Commit, Revive, Load, Delete, Purge, SoftPurge, SetUnpacked, Remove, Install, Advance, MakePermanent, RebootOld, Sweep}
use Rattle.node_types.specs.declared.event.Refusal.{Refusal}
use Rattle.node_types.specs.declared.event.Refusal.TheVariants as refusal
use Rattle.process_table.specs.Messages.{arrival_of, message_of}
use Rattle.process_table.specs.Steps.{after_arrival, arrive_refusal, kind_of}
use Rattle.release_statuses.proofs.Permanent.{permanent-installed, permanent-made_permanent, permanent-rebooted, permanent-removed, permanent-restarted}
use Rattle.release_statuses.specs.Statuses.{HasPermanent, has_status, index_of, remove_refusal, removed, removed_at, unpack_refusal, unpacked}
use Rattle.release_statuses.specs.declared.listed.Listed.{Listed}
use Rattle.release_statuses.specs.declared.status.Status.TheVariants.{Permanent, Unpacked}
use Rattle.release_table.specs.declared.table.Release.{Release}
use Rattle.script_state.specs.Runner.{RunnerState}

abbrev Has : Acceptance → Type 0
Has a = HasPermanent a.node.releases

moved : (a b : Acceptance) → a ≡ b → Has b → Has a
moved a b is has = subst (λ (x : Acceptance). Has x) (sym is) has

same_ok : (a b : Acceptance) → accepts a ≡ accepts b → a ≡ b
same_ok a b is = cc

by_rule : {E : Type 0} (o : Option E) (of : E → Refusal) (b a : Acceptance) → accepts a ≡ unless o of b →
    (o ≡ None → Has b) → Has a
by_rule None of b a is has = moved a b (same_ok a b is) (has refl)
by_rule (Some e) of b a is has = absurd (accepted_or_not a (of e) is)

-- A release more, and one less

more_releases : (release : Release) (xs : List Listed) → HasPermanent xs → HasPermanent (unpacked release xs)
more_releases release xs has =
    let last : List Listed = (record { release = release; status = Unpacked }) ∷ [] in
    list_any-append (has_status Permanent) xs last ∙ ap (λ b. b || false) has

fewer_releases : (vsn : List ℕ) (xs : List Listed) (index : Option ℕ) → index_of vsn xs ≡ index → remove_refusal vsn xs ≡ None →
    HasPermanent xs → HasPermanent (removed_at index xs)
fewer_releases vsn xs None at unrefused has = has
fewer_releases vsn xs (Some index) at unrefused has = permanent-removed vsn xs index at unrefused has

-- A script goes on.

gives_up_keeps : (past : Bool) (reason : Term) (s : RunnerState) (n : NodeState) (a : Acceptance) → GivesUp past reason s n a →
    HasPermanent n.releases → Has a
gives_up_keeps false reason s n a is has = moved a _ is has
gives_up_keeps true reason s n a falls has =
    subst HasPermanent (sym (ap (λ (x : NodeState). x.releases) falls.restarts.is)) (permanent-restarted n.releases has)

goes_keep : (r : Release) (i : Low) (s : RunnerState) (n : NodeState) (a : Acceptance) → IsCarriedOut r i s n a ⊎
    HasFailed r i s n a →
    HasPermanent n.releases → Has a
goes_keep r i s n a (inl carried) has = moved a _ carried.is has
goes_keep r i s n a (inr failed) has = gives_up_keeps (is_past s) failed.reason s n a failed.gives_up has

next_keeps : (next : Option Low) (r : Release) (give_up : Bool) (s : RunnerState) (n : NodeState) (a : Acceptance) →
    GoesOnBy next r give_up s n (Ok a) → HasPermanent n.releases → Has a
next_keeps None r give_up s n a is has =
    moved a (finished_as s n) (same_ok a (finished_as s n) is) (permanent-installed s.target n.releases has)
next_keeps (Some i) r give_up s n a (waits, goes) has = goes_keep r i s n a goes has

target_keeps : (target : Option Release) (give_up : Bool) (s : RunnerState) (n : NodeState) (a : Acceptance) →
    GoesOn target give_up s n (Ok a) → HasPermanent n.releases → Has a
target_keeps None give_up s n a goes has = absurd goes
target_keeps (Some r) give_up s n a goes has = next_keeps (next_in s) r give_up s n a goes has

advance_keeps : (give_up : Bool) (o : Option RunnerState) (n : NodeState) (a : Acceptance) → Advances give_up o n (Ok a) →
    HasPermanent n.releases → Has a
advance_keeps give_up None n a is has = absurd (accepted_or_not a refusal.NotInstalling is)
advance_keeps give_up (Some s) n a goes has = target_keeps (target_in s n) give_up s n a goes has

keeps : (n : NodeState) (e : Event) (a : Acceptance) → Step n e (Ok a) → HasPermanent n.releases → Has a
keeps n (Arrive client name body) a is has =
    let note : Note = record { replies = []; arrival = arrival_of name (message_of body) } in
    let made : Acceptance = record {
      node = with_processes (after_arrival client name body n.processes) n;
      answer =
          answer.Unit;
      note = note;
    } in
    by_rule (arrive_refusal name (kind_of body) n.processes) refusal.OfProcesses made a is (λ unrefused. has)
keeps n (Take pid) a (job, unrefused, code, runs, is) has = moved a _ is has
keeps n (Commit done) a (can, is) has = moved a _ is has
keeps n (Revive app id) a it has = moved a _ it.is has
keeps n (Load m) a is has =
    by_rule (load_refused m n) refusal.OfModules (loaded_as m n) a (no_runner n.runner (λ it. it ≡ loads m n) a is).1
    (λ unrefused. has)
keeps n (Delete name) a is has =
    let made : Acceptance = record {
      node = with_modules (deleted name None n.modules) n;
      answer = answer.Unit;
      note =
          reporting [];
    } in
    by_rule (delete_refusal name n.modules) refusal.OfModules made a (no_runner n.runner (λ it. it ≡ deletes name n) a is).1
    (λ unrefused. has)
keeps n (Purge name) a is has =
    let made : Acceptance = record {
      node = with_running (without_lingering name (running_in n)) n;
      answer = answer.Killed (is_lingered_in name n.modules n.processes);
      note = reporting (downs_of_purge name n.modules n.processes);
    } in
    moved a made (same_ok a made (no_runner n.runner (λ it. it ≡ purges name n) a is).1) has
keeps n (SoftPurge name) a is has =
    let made : Acceptance = record {
      node = with_modules (purged name n.modules) n;
      answer = answer.Unit;
      note =
          reporting [];
    } in
    by_rule (soft_purge_refusal name n) refusal.OfModules made a (no_runner n.runner (λ it. it ≡ soft_purges name n) a is).1
    (λ unrefused. has)
keeps n (SetUnpacked release) a is has =
    let made : Acceptance = record {
      node = with_releases (unpacked release n.releases) n;
      answer = answer.Unit;
      note =
          reporting [];
    } in
    by_rule (unpack_refusal release.rel.vsn n.releases) refusal.OfReleases made a is
    (λ unrefused. more_releases release n.releases has)
keeps n (Remove vsn) a is has =
    let made : Acceptance = record {
      node = with_releases (removed vsn n.releases) n;
      answer = answer.Unit;
      note =
          reporting [];
    } in
    by_rule (remove_refusal vsn n.releases) refusal.OfReleases made a
    (no_runner n.runner (λ it. it ≡ release_removed vsn n) a is).1
    (λ unrefused. fewer_releases vsn n.releases (index_of vsn n.releases) refl unrefused has)
keeps n (Install vsn) a is has = moved a _ (no_runner n.runner (Installs vsn n) a is).1.is has
keeps n (Advance give_up) a goes has = advance_keeps give_up n.runner n a goes has
keeps n (MakePermanent vsn) a is has =
    let made = (no_runner n.runner (MakesPermanent vsn n) a is).1 in
    moved a _ made.3 (permanent-made_permanent vsn n.releases made.0 has)
keeps n (RebootOld vsn) a is has =
    let it = (no_runner n.runner (RebootsOld vsn n) a is).1 in
    subst HasPermanent (sym (ap (λ (x : NodeState). x.releases) it.restarts.is))
    (permanent-rebooted vsn n.releases it.unrefused)
keeps n Sweep a (names, are, is) has = moved a _ is has

pub nodes_keep_a_permanent_release : NodesKeepAPermanentRelease
nodes_keep_a_permanent_release = record { boots = λ r. refl; steps = keeps }
