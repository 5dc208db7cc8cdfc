-- Each event is refused, or nothing stands against it that is told without memory.
use Rattle.std.proofs.Common.{◌≡◌, ◌∙◌, ℕ, List, [], Err, MatchOption, None, Option, ap, option_map, sym, subst}
use Rattle.code_server.specs.Modules.{delete_refusal, deleted, purged}
use Rattle.install_checks.specs.Installing.{install_refusal}
use Rattle.process_table.specs.Messages.{arrival_of, message_of}
use Rattle.process_table.specs.Steps.{after_arrival, arrive_refusal, kind_of}
use Rattle.release_statuses.specs.Statuses.{permanent_refusal, remove_refusal, removed}
use Rattle.undo_journal.specs.Reversible.{Accepted}
use Rattle.script_events.proofs.Accepting.{told_or_not}
use Rattle.node_core.proofs.Refusals.{advance_told, idle_told, itself, one_of, only_idle, told_as}
use Rattle.script_events.specs.Changes.{state_of}
use Rattle.script_events.specs.Node.{NodeState, with_modules, with_processes, with_releases}
use Rattle.script_events.specs.Scripts.{Installs, MakesPermanent, Outcome, RebootsOld, UnlessInstalling, reboot_refused, reporting, unless_installing}
use Rattle.script_events.specs.Step.{MayRunOut, Step, arrived, deletes, load_refused, loaded_as, loads, purges, release_removed, soft_purge_refusal, soft_purges}
use Rattle.node_types.specs.declared.event.Answer.{Answer}
use Rattle.node_types.specs.declared.event.Answer.TheVariants as answer
use Rattle.node_types.specs.declared.event.Event.{Event}
use Rattle.node_types.specs.declared.event.Event.TheVariants as event
use Rattle.node_types.specs.Note.{Note}
use Rattle.node_types.specs.declared.event.Refusal.{Refusal}
use Rattle.node_types.specs.declared.event.Refusal.TheVariants.{OfInstall, OfModules, OfProcesses, OfReleases}
use Rattle.node_core.proofs.refusing.refusal_of.Goals.{in-Load, in-Delete, in-Purge, in-SoftPurge, in-Remove, in-Install, in-MakePermanent, in-RebootOld}
use Rattle.node_core.proofs.refusing.refusal_of.Goals as goal

-- what is told of one event is told of another that is the same
of_same : (n : NodeState) (e f : Event) (r : Option Refusal) → e ≡ f → MatchOption r (MayRunOut n f) (λ (it : Refusal). Step n f (Err it)) → MatchOption r (MayRunOut n e) (λ (it : Refusal). Step n e (Err it))
of_same n e f r is told = subst (λ (x : Event). MatchOption r (MayRunOut n x) (λ (it : Refusal). Step n x (Err it))) (sym is) told

pub returns-in-Arrive : goal.returns-in-Arrive
returns-in-Arrive c =
    let name = c.in-Arrive.name in
    let body = c.in-Arrive.body in
    let client = c.in-Arrive.client in
    let n = state_of c.args.parts.now in
    let a : Accepted NodeState Answer Note = record { node = with_processes (after_arrival client name body n.processes) n; answer = answer.Unit; note = record { replies = []; arrival = arrival_of name (message_of body) } } in
    let is = c.of_processes.ensures ∙ ap (option_map OfProcesses) (c.arrive_refusal-refusal.ensures ∙ (λ i. arrive_refusal (c.as_str.ensures.chars i) (c.kind.ensures i) n.processes)) in
    of_same n c.args.event.now (event.Arrive client name body) c.of_processes.result c.in-Arrive.is
    (told_as c.of_processes.result (option_map OfProcesses (arrive_refusal name (kind_of body) n.processes)) (arrive_refusal name (kind_of body) n.processes ≡ None) (λ (it : Refusal). Err it ≡ arrived client name body n) is (told_or_not OfProcesses (arrive_refusal name (kind_of body) n.processes) a))

pub returns-in-Advance : goal.returns-in-Advance
returns-in-Advance c =
    let n = state_of c.args.parts.now in
    let give_up = c.in-Advance.give_up in
    of_same n c.args.event.now (event.Advance give_up) c.advance_refusal.result c.in-Advance.is
    (told_as c.advance_refusal.result _ _ _ c.advance_refusal.ensures (advance_told give_up n n.runner c.requires))

-- what a script that runs refuses is told of it, and else what is told of itself
idle_same : (n : NodeState) (e f : Event) (r x o : Option Refusal) (Is : Outcome → Type 0) (W : Type 0) → e ≡ f → r ≡ unless_installing n.runner x → x ≡ o → MatchOption o W (λ (it : Refusal). Is (Err it)) →
    (MatchOption (unless_installing n.runner o) ((n.runner ≡ None) × W) (λ (it : Refusal). UnlessInstalling n.runner Is (Err it)) → MatchOption (unless_installing n.runner o) (MayRunOut n f) (λ (it : Refusal). Step n f (Err it))) →
    MatchOption r (MayRunOut n e) (λ (it : Refusal). Step n e (Err it))
idle_same n e f r x o Is W is told same own by_rule =
    of_same n e f r is (told_as r (unless_installing n.runner o) (MayRunOut n f) (λ (it : Refusal). Step n f (Err it)) (told ∙ ap (unless_installing n.runner) same) (by_rule (idle_told n.runner Is W o own)))

pub returns : goal.returns
returns c =
    let n = state_of c.args.parts.now in
    let r = c.unless_installing.result in
    let x = c.match-event.refusal in
    let e = c.args.event.now in
    let told = c.unless_installing.ensures in
    elim c.match-event.branch [
      | in-Load w ↦
          let m = w.in-Load.field-0 in
          let o = option_map OfModules (load_refused m n) in
          let same = w.refusal-is ∙ w.of_modules-refusal.ensures ∙ ap (option_map OfModules) (w.purge_and_load_refusal.ensures m.name) in
          idle_same n e (event.Load m) r x o (λ (it : Outcome). it ≡ loads m n) (load_refused m n ≡ None) w.in-Load.is told same (told_or_not OfModules (load_refused m n) (loaded_as m n)) (λ t. t)
      | in-Delete w ↦
          let name = w.in-Delete.name in
          let refused = delete_refusal name n.modules in
          let same = w.refusal-is ∙ w.of_modules-refusal-in-Delete.ensures ∙ ap (option_map OfModules) w.delete_refusal.ensures in
          idle_same n e (event.Delete name) r x (option_map OfModules refused) (λ (it : Outcome). it ≡ deletes name n) (refused ≡ None) w.in-Delete.is told same (told_or_not OfModules refused (record { node = with_modules (deleted name None n.modules) n; answer = answer.Unit; note = reporting [] })) (λ t. t)
      | in-Purge w ↦
          let name = w.in-Purge.field-0 in
          of_same n e (event.Purge name) r w.in-Purge.is (told_as r (unless_installing n.runner None) (n.runner ≡ None) (λ (it : Refusal). Step n (event.Purge name) (Err it)) (told ∙ ap (unless_installing n.runner) w.refusal-is) (only_idle n.runner (λ (it : Outcome). it ≡ purges name n)))
      | in-SoftPurge w ↦
          let name = w.in-SoftPurge.name in
          let refused = soft_purge_refusal name n in
          let same = w.refusal-is ∙ w.of_modules-refusal-in-SoftPurge.ensures ∙ ap (option_map OfModules) w.soft_purge_refusal.ensures in
          idle_same n e (event.SoftPurge name) r x (option_map OfModules refused) (λ (it : Outcome). it ≡ soft_purges name n) (refused ≡ None) w.in-SoftPurge.is told same (told_or_not OfModules refused (record { node = with_modules (purged name n.modules) n; answer = answer.Unit; note = reporting [] })) (λ t. t)
      | in-Remove w ↦
          let vsn = w.in-Remove.vsn in
          let refused = remove_refusal vsn n.releases in
          let same = w.refusal-is ∙ w.of_releases-refusal.ensures ∙ ap (option_map OfReleases) (w.remove_refusal.ensures ∙ ap (λ (v : List ℕ). remove_refusal v n.releases) w.as_str-in-Remove.ensures) in
          idle_same n e (event.Remove vsn) r x (option_map OfReleases refused) (λ (it : Outcome). it ≡ release_removed vsn n) (refused ≡ None) w.in-Remove.is told same (told_or_not OfReleases refused (record { node = with_releases (removed vsn n.releases) n; answer = answer.Unit; note = reporting [] })) (λ t. t)
      | in-Install w ↦
          let vsn = w.in-Install.vsn in
          let refused = install_refusal vsn n.releases n.modules n.processes in
          let same = w.refusal-is ∙ w.of_install-refusal.ensures ∙ ap (option_map OfInstall) (w.install_refusal.ensures ∙ ap (λ (v : List ℕ). install_refusal v n.releases n.modules n.processes) w.as_str-in-Install.ensures) in
          idle_same n e (event.Install vsn) r x (option_map OfInstall refused) (Installs vsn n) (refused ≡ None) w.in-Install.is told same (one_of OfInstall refused) (λ t. t)
      | in-MakePermanent w ↦
          let vsn = w.in-MakePermanent.vsn in
          let refused = permanent_refusal vsn n.releases in
          let same = w.refusal-is ∙ w.of_releases-refusal-in-MakePermanent.ensures ∙ ap (option_map OfReleases) (w.permanent_refusal.ensures ∙ ap (λ (v : List ℕ). permanent_refusal v n.releases) w.as_str-in-MakePermanent.ensures) in
          idle_same n e (event.MakePermanent vsn) r x (option_map OfReleases refused) (MakesPermanent vsn n) (refused ≡ None) w.in-MakePermanent.is told same (one_of OfReleases refused) (λ t. t)
      | in-RebootOld w ↦
          let vsn = w.in-RebootOld.vsn in
          let same = w.refusal-is ∙ w.reboot_refusal-refusal.ensures in
          idle_same n e (event.RebootOld vsn) r x (reboot_refused vsn n) (RebootsOld vsn n) (reboot_refused vsn n ≡ None) w.in-RebootOld.is told same (itself (reboot_refused vsn n)) (λ t. t)
    ]
