-- Lemmas on changes of modules that are refused, by the rule of the node.
use Rattle.std.proofs.Common.{◌≡◌, ℕ, List, Bool, true, false, Option, None, Some, is_some, Err, refl, sym, ap}
use Rattle.code_server.specs.Modules.{delete_refusal}
use Rattle.code_server.specs.declared.error.CodeError.{CodeError}
use Rattle.undo_journal.specs.Reversible.{Accepted}
use Rattle.shell_upgrades.specs.Node.{NodeState}
use Rattle.shell_upgrades.specs.Step.{MayRunOut, Step, deletes, purges, soft_purge_refusal, soft_purges, unless}
use Rattle.node_types.specs.Note.{Note}
use Rattle.node_types.specs.declared.event.Answer.{Answer}
use Rattle.node_types.specs.declared.event.Refusal.TheVariants.{Installing, OfModules}
use Rattle.shell_requests.specs.declared.request.CodeOperation.{CodeOperation}
use Rattle.shell_requests.specs.declared.request.CodeOperation.TheVariants as changes
use Rattle.shell_upgrades.proofs.Performing.{judged_otherwise, no_script, refused_meanwhile}
use Rattle.shell_exec.specs.Execution.{change_event}
use Rattle.shell_exec.specs.Done.{refusal_of_change}

-- a refusal of the modules is one of the event
pub of_modules : (o : Option CodeError) (why : CodeError) (a : Accepted NodeState Answer Note) → Some why ≡ o → Err (OfModules why) ≡ unless o OfModules a
of_modules o why a is = ap (λ x. unless x OfModules a) is

pub change_refused : (kind : CodeOperation) (name : List ℕ) (n : NodeState) (why : CodeError) → is_some n.runner ≡ false → Some why ≡ refusal_of_change kind name n → Step n (change_event kind name) (Err (OfModules why))
change_refused changes.Delete name n why none is =
    judged_otherwise n.runner (λ it. it ≡ deletes name n) _ none (of_modules (delete_refusal name n.modules) why _ is)
change_refused changes.Purge name n why none is = absurd (let never : ⊥ = cc in never)
change_refused changes.SoftPurge name n why none is =
    judged_otherwise n.runner (λ it. it ≡ soft_purges name n) _ none (of_modules (soft_purge_refusal name n) why _ is)

pub change_meanwhile : (kind : CodeOperation) (name : List ℕ) (n : NodeState) → is_some n.runner ≡ true → Step n (change_event kind name) (Err Installing)
change_meanwhile changes.Delete name n runs = refused_meanwhile n.runner (λ it. it ≡ deletes name n) runs
change_meanwhile changes.Purge name n runs = refused_meanwhile n.runner (λ it. it ≡ purges name n) runs
change_meanwhile changes.SoftPurge name n runs = refused_meanwhile n.runner (λ it. it ≡ soft_purges name n) runs

-- memory may be wanting where nothing stands against it
pub change_may : (kind : CodeOperation) (name : List ℕ) (n : NodeState) → is_some n.runner ≡ false → None ≡ refusal_of_change kind name n → MayRunOut n (change_event kind name)
change_may changes.Delete name n none is = (no_script n.runner none, sym is)
change_may changes.Purge name n none is = no_script n.runner none
change_may changes.SoftPurge name n none is = (no_script n.runner none, sym is)
