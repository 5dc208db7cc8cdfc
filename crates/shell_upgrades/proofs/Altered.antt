-- Lemmas on changes of the releases: what refuses them, by the rule of the node, and what is done of them.
use Rattle.std.proofs.Common.{◌≡◌, ℕ, List, Bool, true, false, Option, None, Some, is_some, Err, refl, sym, ap}
use Rattle.std.specs.Prelude.{option_map}
use Rattle.std.proofs.lemmas.Option.{same_Some}
use Rattle.install_checks.specs.Installing.{install_refusal}
use Rattle.release_statuses.specs.Statuses.{permanent_refusal, remove_refusal}
use Rattle.release_statuses.specs.declared.error.RelError.{RelError}
use Rattle.undo_journal.specs.Reversible.{Accepted}
use Rattle.shell_state.specs.Node.{NodeState}
use Rattle.shell_state.specs.Scripts.{Installs, MakesPermanent, RebootsOld}
use Rattle.shell_state.specs.Step.{MayRunOut, Step, release_removed, unless}
use Rattle.node_types.specs.Note.{Note}
use Rattle.node_types.specs.declared.event.Answer.{Answer}
use Rattle.node_types.specs.declared.event.Refusal.{Refusal}
use Rattle.node_types.specs.declared.event.Refusal.TheVariants.{Installing, OfInstall, OfReleases}
use Rattle.shell_requests.specs.declared.request.ReleaseChange.{ReleaseChange}
use Rattle.shell_requests.specs.declared.request.ReleaseChange.TheVariants as releases
use Rattle.shell_state.proofs.Performing.{judged_otherwise, no_script, refused_meanwhile}
use Rattle.shell_state.specs.Performing.{done_by}
use Rattle.shell_state.specs.State.{Effect, ShellState, carried, stepped}
use Rattle.shell_upgrades.specs.Upgrades.{refusal_of_alteration, release_answer, release_event}

-- what is made of a refusal, if there is one

of_releases : (o : Option RelError) (why : Refusal) (a : Accepted NodeState Answer Note) → Some why ≡ option_map OfReleases o → Err why ≡ unless o OfReleases a
of_releases None why a is = absurd (let never : ⊥ = cc in never)
of_releases (Some e) why a is = ap Err (same_Some why (OfReleases e) is)

mapped : {A : Type 0} (of : A → Refusal) (o : Option A) (why : Refusal) → Some why ≡ option_map of o → (it : A) × (o ≡ Some it) × (why ≡ of it)
mapped of None why is = absurd (let never : ⊥ = cc in never)
mapped of (Some it) why is = (it, refl, same_Some why (of it) is)

unmapped : {A : Type 0} (of : A → Refusal) (o : Option A) → None ≡ option_map of o → o ≡ None
unmapped of None is = refl
unmapped of (Some it) is = absurd (let never : ⊥ = cc in never)

pub alteration_refused : (kind : ReleaseChange) (vsn : List ℕ) (n : NodeState) (why : Refusal) → is_some n.runner ≡ false → Some why ≡ refusal_of_alteration kind vsn n → Step n (release_event kind vsn) (Err why)
alteration_refused releases.Remove vsn n why none is =
    judged_otherwise n.runner (λ it. it ≡ release_removed vsn n) _ none (of_releases (remove_refusal vsn n.releases) why _ is)
alteration_refused releases.Install vsn n why none is =
    judged_otherwise n.runner (Installs vsn n) _ none (mapped OfInstall (install_refusal vsn n.releases n.modules n.processes) why is)
alteration_refused releases.MakePermanent vsn n why none is =
    judged_otherwise n.runner (MakesPermanent vsn n) _ none (mapped OfReleases (permanent_refusal vsn n.releases) why is)
alteration_refused releases.RebootOld vsn n why none is = judged_otherwise n.runner (RebootsOld vsn n) _ none (sym is)

pub alteration_meanwhile : (kind : ReleaseChange) (vsn : List ℕ) (n : NodeState) → is_some n.runner ≡ true → Step n (release_event kind vsn) (Err Installing)
alteration_meanwhile releases.Remove vsn n runs = refused_meanwhile n.runner (λ it. it ≡ release_removed vsn n) runs
alteration_meanwhile releases.Install vsn n runs = refused_meanwhile n.runner (Installs vsn n) runs
alteration_meanwhile releases.MakePermanent vsn n runs = refused_meanwhile n.runner (MakesPermanent vsn n) runs
alteration_meanwhile releases.RebootOld vsn n runs = refused_meanwhile n.runner (RebootsOld vsn n) runs

-- memory may be wanting where nothing stands against it
pub alteration_may : (kind : ReleaseChange) (vsn : List ℕ) (n : NodeState) → is_some n.runner ≡ false → None ≡ refusal_of_alteration kind vsn n → MayRunOut n (release_event kind vsn)
alteration_may releases.Remove vsn n none is = (no_script n.runner none, unmapped OfReleases (remove_refusal vsn n.releases) is)
alteration_may releases.Install vsn n none is =
    (no_script n.runner none, unmapped OfInstall (install_refusal vsn n.releases n.modules n.processes) is)
alteration_may releases.MakePermanent vsn n none is =
    (no_script n.runner none, unmapped OfReleases (permanent_refusal vsn n.releases) is)
alteration_may releases.RebootOld vsn n none is = (no_script n.runner none, sym is)

-- what is done of such an event is what its command says of it

abbrev pub of_alteration : ShellState → ReleaseChange → List ℕ → Accepted NodeState Answer Note → Effect
of_alteration s kind vsn a = carried (stepped a s) (release_event kind vsn) (release_answer kind a.answer)

pub alteration_done : (s : ShellState) (kind : ReleaseChange) (vsn : List ℕ) → of_alteration s kind vsn ≡ done_by s (release_event kind vsn)
alteration_done s releases.Remove vsn = refl
alteration_done s releases.Install vsn = refl
alteration_done s releases.MakePermanent vsn = refl
alteration_done s releases.RebootOld vsn = refl
