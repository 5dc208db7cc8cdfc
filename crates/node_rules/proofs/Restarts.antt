-- A restart makes one node of a node, and tells one thing; and a reboot of an old release has one outcome.
use Rattle.std.proofs.Common.{◌≡◌, ℕ, List, [], Option, None, Ok, Err, sym, ap, subst, ◌∙◌}
use Rattle.std.proofs.lemmas.Option.{none-some, same_Some}
use Rattle.app_table.specs.Applications.{Application}
use Rattle.code_server.specs.Modules as code
use Rattle.code_server.specs.Modules.{Table as Loaded}
use Rattle.erl_ir.specs.Module.{Forms}
use Rattle.node_restart.proofs.Telling.{restarts_tell_one_thing}
use Rattle.node_restart.specs.Restart.{restart_refusal}
use Rattle.node_rules.proofs.Accepting.{Acceptance}
use Rattle.node_rules.specs.Node.{NodeState}
use Rattle.node_rules.specs.Scripts.{IsRestarted, Outcome, Reboots, RebootsOld, reboot_refused, reboot_wants, reboots_refused, reporting}
use Rattle.node_types.specs.declared.event.Answer.{Answer}
use Rattle.node_types.specs.declared.event.Answer.TheVariants as answer
use Rattle.process_effects.specs.declared.told.Reply.{Reply}
use Rattle.process_store.specs.Table as processes
use Rattle.process_store.specs.Table.{Table}
use Rattle.release_boot.proofs.OneOutcome.{restarts_have_one_outcome}
use Rattle.release_statuses.specs.Statuses.{rebooted}
use Rattle.release_statuses.specs.declared.error.RelError.{RelError}
use Rattle.release_statuses.specs.declared.listed.Listed.{Listed}
use Rattle.release_table.specs.declared.table.Release.{Release}

-- A restart makes one node of a node, and tells one thing.

abbrev restarted_node : List Listed → Loaded Forms → Table → List Application → NodeState
restarted_node releases modules t apps = record {
  modules = modules;
  processes = t;
  apps = apps;
  releases = releases;
  runner = None;
}

restarted-once : (r : Release) (releases : List Listed) (n after last : NodeState) (told said : List Reply) →
    IsRestarted r releases n after told → IsRestarted r releases n last said → (after ≡ last) × (told ≡ said)
restarted-once r releases n after last told said first second =
    let m = code.emptied n.modules in
    let t = processes.emptied n.processes in
    let whole = restarts_have_one_outcome.whole r m after.modules last.modules t after.processes last.processes in
    let same = whole after.apps last.apps first.boots second.boots in (
      first.is ∙ (λ i. restarted_node releases (same.0 i) (same.1 i) (same.2 i)) ∙ sym second.is,
      restarts_tell_one_thing.tells n.processes told said first.tells second.tells,
    )

-- of one release, with one answer
pub restarts-once : (r z : Release) (releases : List Listed) (n : NodeState) (a b : Acceptance) (told said : List Reply) →
    (x : Answer) → r ≡ z → IsRestarted r releases n a.node told → IsRestarted z releases n b.node said →
    a.answer ≡ x → b.answer ≡ x → a.note ≡ reporting told → b.note ≡ reporting said → a ≡ b
restarts-once r z releases n a b told said x release first second answers also_answers notes also_notes =
    let here = subst (λ (it : Release). IsRestarted it releases n a.node told) release first in
    let same = restarted-once z releases n a.node b.node told said here second in
    let answered = answers ∙ sym also_answers in
    let noted = notes ∙ ap reporting same.1 ∙ sym also_notes in
    (λ i. record { node = same.0 i; answer = answered i; note = noted i })

-- Reboot old: the release of a version is one.

reboots_unrefused : (vsn : List ℕ) (n : NodeState) (a : Acceptance) → Reboots vsn n a → reboot_refused vsn n ≡ None
reboots_unrefused vsn n a it =
    let wants = restart_refusal it.old.release n.modules in
    let refused = λ (e : Option RelError) (old : Option Listed). reboots_refused e (reboot_wants old n) in
    let known : reboot_refused vsn n ≡ reboots_refused None wants = (λ j. refused (it.unrefused j) (it.found j)) in
    known ∙ ap (reboots_refused None) it.restarts.unrefused

pub one_reboot : (vsn : List ℕ) (n : NodeState) (r s : Outcome) → RebootsOld vsn n r → RebootsOld vsn n s → r ≡ s
one_reboot vsn n (Err e) (Err f) first second = ap Err (same_Some e f (sym first ∙ second))
one_reboot vsn n (Err e) (Ok b) first second = absurd (none-some e (sym (reboots_unrefused vsn n b second) ∙ first))
one_reboot vsn n (Ok a) (Err f) first second = absurd (none-some f (sym (reboots_unrefused vsn n a first) ∙ second))
one_reboot vsn n (Ok a) (Ok b) first second =
    let old = same_Some first.old second.old (sym first.found ∙ second.found) in
    let release = ap (λ (it : Listed). it.release) old in
    let both = restarts-once first.old.release second.old.release (rebooted vsn n.releases) n a b first.told second.told in
    let same = both answer.Unit release first.restarts second.restarts first.answers second.answers first.notes second.notes in
    ap Ok same
