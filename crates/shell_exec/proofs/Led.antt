-- Whatever the shell does of a line, the line's command leads to the journal after it.
use Rattle.std.proofs.Common.{◌≡◌, ℕ, List, Option, None, Some, Ok, option_to_list, unwrap_or, refl, sym, ap, subst}
use Rattle.erl_term.specs.Tree.{Tree}
use Rattle.erl_term.specs.declared.term.Term.{Term}
use Rattle.erl_term.specs.declared.term.Term.TheVariants as term
use Rattle.erl_semantics.specs.declared.jobs.Job.{Job}
use Rattle.process_store.specs.Table.{living}
use Rattle.undo_journal.specs.History.{AreAfter}
use Rattle.undo_journal.specs.Reversible.{Accepted}
use Rattle.undo_journal.specs.Timeline.{appended}
use Rattle.undo_journal.specs.declared.history.Command.TheVariants as command
use Rattle.shell_upgrades.specs.Node.{NodeState}
use Rattle.shell_upgrades.specs.Step.{Step}
use Rattle.node_types.specs.declared.event.Answer.{Answer}
use Rattle.node_types.specs.declared.event.Answer.TheVariants as tells
use Rattle.node_types.specs.declared.event.Event.{Event}
use Rattle.node_types.specs.declared.event.Event.TheVariants as event
use Rattle.node_types.specs.Note.{Note}
use Rattle.shell_requests.specs.Request.{Request, Spoken, ask, change, load, undo, forget, commit, arrive, serve, revive, unpack, release, relup, advance, sweep, too_long, silent, unknown, asks}
use Rattle.shell_requests.specs.declared.request.ArrivalKind.{ArrivalKind}
use Rattle.shell_requests.specs.declared.request.ArrivalKind.TheVariants as arrivals
use Rattle.shell_requests.specs.declared.request.CodeOperation.{CodeOperation}
use Rattle.shell_requests.specs.declared.request.CodeOperation.TheVariants as changes
use Rattle.std.specs.Str.{chars}
use Rattle.shell_requests.specs.declared.request.Question.{Question}
use Rattle.shell_requests.specs.declared.request.ReleaseChange.{ReleaseChange}
use Rattle.shell_requests.specs.declared.request.ReleaseChange.TheVariants as releases
use Rattle.shell_requests.specs.declared.request.Service.{Service}
use Rattle.shell_requests.specs.declared.request.Service.TheVariants as services
use Rattle.shell_exec.specs.Execution as effects
use Rattle.shell_upgrades.specs.Performing as performing
use Rattle.shell_upgrades.specs.Serving as serving
use Rattle.shell_relups.specs.Relups as relups
use Rattle.shell_upgrades.specs.Upgrades as upgrades
use Rattle.shell_answers.specs.Answers.{fixed}
use Rattle.shell_answers.specs.Refusals.{Subject, naming, naming_nothing}
use Rattle.shell_answers.specs.declared.fixed.Fixed.TheVariants as words
use Rattle.shell_upgrades.specs.State as state
use Rattle.shell_upgrades.specs.State.{Effect, ShellState, answered, next_number, node_of, stepped}
use Rattle.shell_upgrades.specs.Fate.{Fate}

-- the command of a effect leads to the journal after it
abbrev pub IsLed : ShellState → Effect → Type 0
IsLed s d = AreAfter Step (option_to_list d.command) s.timeline d.after.timeline

module _ (s : ShellState) where
  performs : (tried : ShellState) (e : Event) (about : Subject) (done : Accepted NodeState Answer Note → Effect) (fate : Option Fate) (d : Effect) → tried.timeline ≡ s.timeline → ((a : Accepted NodeState Answer Note) → Step (node_of s) e (Ok a) → IsLed s (done a)) → performing.Performs s tried e about done fate d → IsLed s d
  performs tried e about done _ _ same each (performing.full is) = same
  performs tried e about done _ _ same each (performing.accepted room a rule) = each a rule
  performs tried e about done _ _ same each (performing.refused room why rule) = same
  performs tried e about done _ _ same each (performing.no_memory room may) = refl

  carried : (e : Event) (a : Accepted NodeState Answer Note) → Step (node_of s) e (Ok a) → AreAfter Step (option_to_list (Some (command.Perform e))) s.timeline (appended s.timeline a.node a.note)
  carried e a rule = (appended s.timeline a.node a.note, (Ok a, rule, refl), refl)

  took : (pid : ℕ) (a : Accepted NodeState Answer Note) (answer : Tree) (told : Answer) → Step (node_of s) (event.Take pid) (Ok a) → IsLed s (state.carried (performing.job_kept told (stepped a s)) (event.Take pid) answer)
  took pid a answer (tells.Job job) rule = carried (event.Take pid) a rule
  took pid a answer _ rule = carried (event.Take pid) a rule

  changed : (kind : CodeOperation) (name : List ℕ) (a : Accepted NodeState Answer Note) → Step (node_of s) (effects.change_event kind name) (Ok a) → IsLed s (performing.done_by s (effects.change_event kind name) a)
  changed changes.Delete name a rule = carried (event.Delete name) a rule
  changed changes.Purge name a rule = carried (event.Purge name) a rule
  changed changes.SoftPurge name a rule = carried (event.SoftPurge name) a rule

  loads : (name path : List ℕ) (fate : Option Fate) (d : Effect) → effects.Loads s name path fate d → IsLed s d
  loads name path _ _ (effects.missing is) = refl
  loads name path _ _ (effects.no_source bytes why found says none) = refl
  loads name path _ _ (effects.another bytes m found source other) = refl
  loads name path _ _ (effects.read bytes m fate d found source same does) =
      performs s (event.Load m) naming_nothing _ fate d refl (carried (event.Load m)) does
  loads name path _ _ (effects.unread bytes found) = refl

  tried_same : (kind : ArrivalKind) → (effects.tried kind s).timeline ≡ s.timeline
  tried_same arrivals.Call = refl
  tried_same arrivals.Cast = refl
  tried_same arrivals.Info = refl

  arrived : (kind : ArrivalKind) (number : ℕ) (name : List ℕ) (t : Term) (a : Accepted NodeState Answer Note) → Step (node_of s) (effects.event_of_arrival kind number name t) (Ok a) → IsLed s (performing.done_by (effects.tried kind s) (effects.event_of_arrival kind number name t) a)
  arrived arrivals.Call number name t a rule = carried (effects.event_of_arrival arrivals.Call number name t) a rule
  arrived arrivals.Cast number name t a rule = carried (effects.event_of_arrival arrivals.Cast number name t) a rule
  arrived arrivals.Info number name t a rule = carried (effects.event_of_arrival arrivals.Info number name t) a rule

  arrives : (kind : ArrivalKind) (name text : List ℕ) (fate : Option Fate) (d : Effect) → effects.Arrives s kind name text fate d → IsLed s d
  arrives kind name text _ _ (effects.no_text fault at is) = refl
  arrives kind name text _ _ (effects.several is) = refl
  arrives kind name text _ _ (effects.read t fate d is does) =
      let e = effects.arrival_event s kind name t in
      performs (effects.tried kind s) e naming_nothing (performing.done_by (effects.tried kind s) e) fate d (tried_same kind) (arrived kind (next_number s) name t) does
  arrives kind name text _ _ effects.unread = refl

  retakes : (pid : ℕ) (fate : Option Fate) (d : Effect) → serving.Retakes s pid fate d → IsLed s d
  retakes pid _ _ (serving.kept_again job is) = refl
  retakes pid _ _ (serving.not_running why is) = refl
  retakes pid _ _ (serving.no_memory_to_keep is) = refl

  told : (answer : Tree) (fate : Option Fate) (d : Effect) → (fate ≡ None) × (d ≡ answered s answer) → IsLed s d
  told answer fate d is = subst (λ e. IsLed s e) (sym is.1) refl

  serves : (service : Service) (pid : Option ℕ) (fate : Option Fate) (d : Effect) → serving.ServesAs s service pid fate d → IsLed s d
  serves services.Take None fate d does = told (fixed words.NoProc) fate d does
  serves services.Retake None fate d does = told (fixed words.NoProc) fate d does
  serves services.Show None fate d does = told (fixed words.NoProc) fate d does
  serves services.Take (Some pid) fate d does = performs s (event.Take pid) naming_nothing _ fate d refl (λ a rule. took pid a (performing.answer_to s (event.Take pid) a) a.answer rule) does
  serves services.Retake (Some pid) fate d does = retakes pid fate d does
  serves services.Show (Some pid) fate d does = told (serving.shown (living pid (node_of s).processes)) fate d does

  commits : (job : Option Job) (fate : Option Fate) (d : Effect) → serving.CommitsKept s job fate d → IsLed s d
  commits None fate d does = told (fixed words.NoJob) fate d does
  commits (Some job) _ _ (serving.ran done fate d is does) = performs s (event.Commit done) naming_nothing _ fate d refl (carried (event.Commit done)) does
  commits (Some job) _ _ (serving.not_run_full is) = refl
  commits (Some job) _ _ (serving.not_run room why refuses) = refl
  commits (Some job) _ _ (serving.no_memory_to_run room may) = refl

  undoes : (mark : ℕ) (fate : Option Fate) (d : Effect) → serving.Undoes s mark fate d → IsLed s d
  undoes mark _ _ (serving.forgotten is) = refl
  undoes mark _ _ (serving.dead is) = refl
  undoes mark _ _ (serving.cut end is) = (end, ap (λ o. unwrap_or o s.timeline) (sym is), refl)
  undoes mark _ _ (serving.stopped reached end alive behind is uncut) = (end, ap (λ o. unwrap_or o s.timeline) (sym is), refl)

  forgets : (mark : ℕ) (fate : Option Fate) (d : Effect) → serving.Forgets s mark fate d → IsLed s d
  forgets mark _ _ (serving.below is) = refl
  forgets mark _ _ (serving.nowhere is) = refl
  forgets mark _ _ (serving.floored end is) = (end, ap (λ o. unwrap_or o s.timeline) (sym is), refl)

  asks-nothing : (question : Question) (fate : Option Fate) (d : Effect) → serving.Asks s question fate d → IsLed s d
  asks-nothing question _ _ serving.is_told = refl
  asks-nothing question _ _ (serving.no_memory_to_tell may) = refl

  unpacks : (vsn : List ℕ) (fate : Option Fate) (d : Effect) → upgrades.Unpacks s vsn fate d → IsLed s d
  unpacks vsn _ _ (upgrades.no_release path why is) = refl
  unpacks vsn _ _ (upgrades.release_read r fate d is does) =
      performs s (event.SetUnpacked r) (naming (chars vsn)) _ fate d refl (carried (event.SetUnpacked r)) does
  unpacks vsn _ _ upgrades.release_unread = refl

  altered : (kind : ReleaseChange) (vsn : List ℕ) (a : Accepted NodeState Answer Note) → Step (node_of s) (upgrades.release_event kind vsn) (Ok a) → IsLed s (performing.done_by s (upgrades.release_event kind vsn) a)
  altered releases.Remove vsn a rule = carried (event.Remove vsn) a rule
  altered releases.Install vsn a rule = carried (event.Install vsn) a rule
  altered releases.MakePermanent vsn a rule = carried (event.MakePermanent vsn) a rule
  altered releases.RebootOld vsn a rule = carried (event.RebootOld vsn) a rule

  alters : (kind : ReleaseChange) (vsn : List ℕ) (fate : Option Fate) (d : Effect) → upgrades.AltersReleases s kind vsn fate d → IsLed s d
  alters kind vsn fate d does = performs s (upgrades.release_event kind (chars vsn)) _ _ fate d refl (altered kind (chars vsn)) does

  tells-relup : (from to : List ℕ) (fate : Option Fate) (d : Effect) → relups.TellsRelup s from to fate d → IsLed s d
  tells-relup from to fate d does = subst (λ e. IsLed s e) (sym does.2) refl

  executes : (fate : Option Fate) (request : Request) (d : Effect) → effects.Executes fate s request d → IsLed s d
  executes fate (ask question) d does = asks-nothing question fate d does
  executes fate (change kind name) d does = performs s (effects.change_event kind name) naming_nothing _ fate d refl (changed kind name) does
  executes fate (load name path) d does = loads name path fate d does
  executes fate (undo mark) d does = undoes mark fate d does
  executes fate (forget mark) d does = forgets mark fate d does
  executes fate (commit job) d does = commits (serving.kept_job job s.jobs) fate d does
  executes fate (arrive kind name text) d does = arrives kind name text fate d does
  executes fate (serve service who) d does = serves service (effects.pid_meant who (node_of s)) fate d does
  executes fate (revive app id) d does = performs s (event.Revive app (term.Atom id)) naming_nothing _ fate d refl (carried (event.Revive app (term.Atom id))) does
  executes fate (unpack vsn) d does = unpacks vsn fate d does
  executes fate (release kind vsn) d does = alters kind vsn fate d does
  executes fate (relup from to) d does = tells-relup from to fate d does
  executes fate (advance give_up) d does = performs s (event.Advance give_up) naming_nothing _ fate d refl (carried (event.Advance give_up)) does
  executes fate sweep d does = performs s event.Sweep naming_nothing _ fate d refl (carried event.Sweep) does

-- what may be done of what is said in a line
pub Does-led : (fate : Option Fate) (s : ShellState) (line : Spoken) (d : Effect) → effects.ExecutesLine fate s line d → IsLed s d
Does-led fate s too_long d does = told s (fixed words.LineTooLong) fate d does
Does-led fate s silent d does = subst (λ e. IsLed s e) (sym does.1) refl
Does-led fate s unknown d does = told s (fixed words.BadCommand) fate d does
Does-led fate s (asks request) d does = executes s fate request d does
