-- What the shell does of an undo and of a forget.
use Rattle.std.proofs.Common.{◌≡◌, ◌<◌, ℕ, inl, inr, Option, None, Some, IsSome, option_map, refl, ap, subst, arith}
use Rattle.undo_journal.specs.Timeline.{IsDead, IsOrdered, cut_stations, cut_to, forgotten_to, here, report_of}
use Rattle.undo_journal.proofs.Forgets.{cut_to-below, forgotten_to-uncut}
use Rattle.shell_requests.specs.Request.{Spoken, undo, forget, asks}
use Rattle.shell_exec.specs.Execution as effects
use Rattle.shell_exec.specs.Serving as serving
use Rattle.shell_answers.specs.Answers.{fixed, stopped_undo, undone_steps}
use Rattle.shell_answers.specs.declared.fixed.Fixed.TheVariants as words
use Rattle.shell_exec.specs.State.{Effect, NodeTimeline, ShellState, answered}
use Rattle.shell_exec.specs.Fate.{Fate}
use Rattle.shell_exec.specs.Fate.TheVariants.{StoppedAt}
use Rattle.node_shell.specs.Replay.{NamesMark, Stops}

-- An undo at which no memory was refused cuts what it should.

undo-cuts : (s : ShellState) (mark : ℕ) (end : NodeTimeline) (fate : Option Fate) (d : Effect) → fate ≡ None → cut_to mark s.timeline ≡ Some end → serving.Undoes s mark fate d → d ≡ serving.undone_to s mark end (undone_steps (report_of (cut_stations s.timeline end)))
undo-cuts s mark end _ _ whole is (serving.forgotten none) = absurd (let gone = none.1 in let never : ⊥ = cc in never)
undo-cuts s mark end _ _ whole is (serving.dead none) = absurd (let gone = none.1 in let never : ⊥ = cc in never)
undo-cuts s mark end _ _ whole is (serving.cut at stands) =
    let same : at ≡ end = cc in ap (λ t. serving.undone_to s mark t (undone_steps (report_of (cut_stations s.timeline t)))) same
undo-cuts s mark end _ _ whole is (serving.stopped reached at alive behind stands uncut) = absurd (let never : ⊥ = cc in never)

pub Does-cuts : (s : ShellState) (mark : ℕ) (end : NodeTimeline) (fate : Option Fate) (line : Spoken) (d : Effect) → fate ≡ None → line ≡ asks (undo mark) → cut_to mark s.timeline ≡ Some end → effects.ExecutesLine fate s line d → d ≡ serving.undone_to s mark end (undone_steps (report_of (cut_stations s.timeline end)))
Does-cuts s mark end fate line d whole says is does = undo-cuts s mark end fate d whole is (subst (λ l. effects.ExecutesLine fate s l d) says does)

undo-stops : (s : ShellState) (mark reached : ℕ) (fate : Option Fate) (d : Effect) → fate ≡ Some (StoppedAt reached) → serving.Undoes s mark fate d → Stops s.timeline d mark reached
undo-stops s mark reached _ _ is (serving.forgotten none) = absurd (let never : ⊥ = cc in never)
undo-stops s mark reached _ _ is (serving.dead none) = absurd (let never : ⊥ = cc in never)
undo-stops s mark reached _ _ is (serving.cut end stands) = absurd (let never : ⊥ = cc in never)
undo-stops s mark reached _ _ is (serving.stopped at end alive behind stands uncut) =
    let same : at ≡ reached = cc in
    subst (λ k. Stops s.timeline (serving.undone_to s at end (stopped_undo at (report_of (cut_stations s.timeline end)))) mark k) same record {
      behind = behind;
      leads = stands;
      node = ap (λ t. option_map (λ (u : NodeTimeline). (here u).node) t) stands;
      answer = refl;
    }

pub Does-stops : (s : ShellState) (mark reached : ℕ) (fate : Option Fate) (line : Spoken) (d : Effect) → fate ≡ Some (StoppedAt reached) → line ≡ asks (undo mark) → effects.ExecutesLine fate s line d → Stops s.timeline d mark reached
Does-stops s mark reached fate line d is says does = undo-stops s mark reached fate d is (subst (λ l. effects.ExecutesLine fate s l d) says does)

-- A forget up to a mark with a station has that as the floor.

forget-floors : (s : ShellState) (mark : ℕ) (end : NodeTimeline) (fate : Option Fate) (d : Effect) → forgotten_to mark s.timeline ≡ Some end → serving.Forgets s mark fate d → d ≡ serving.floored_at s mark end
forget-floors s mark end _ _ is (serving.below dropped) = absurd (let gone = forgotten_to-uncut mark s.timeline dropped.1 in let never : ⊥ = cc in never)
forget-floors s mark end _ _ is (serving.nowhere dropped) = absurd (let gone = forgotten_to-uncut mark s.timeline dropped.1 in let never : ⊥ = cc in never)
forget-floors s mark end _ _ is (serving.floored at stands) =
    let same : at ≡ end = cc in ap (λ t. serving.floored_at s mark t) same

pub Does-floors : (s : ShellState) (mark : ℕ) (end : NodeTimeline) (fate : Option Fate) (line : Spoken) (d : Effect) → line ≡ asks (forget mark) → forgotten_to mark s.timeline ≡ Some end → effects.ExecutesLine fate s line d → d ≡ serving.floored_at s mark end
Does-floors s mark end fate line d says is does = forget-floors s mark end fate d is (subst (λ l. effects.ExecutesLine fate s l d) says does)

-- What has no station is answered so: below the floor it is forgotten, and else dead.

module _ (s : ShellState) (mark : ℕ) (gone : cut_to mark s.timeline ≡ None) where
  cut-nowhere : (end : NodeTimeline) → cut_to mark s.timeline ≡ Some end → ⊥
  cut-nowhere end is = let never : ⊥ = cc in never

  kept-nowhere : (end : NodeTimeline) → forgotten_to mark s.timeline ≡ Some end → ⊥
  kept-nowhere end is = let kept = forgotten_to-uncut mark s.timeline gone in let never : ⊥ = cc in never

  undo-forgotten : (fate : Option Fate) (d : Effect) → mark < s.timeline.first.serial → serving.Undoes s mark fate d → d ≡ answered s (fixed words.Forgotten)
  undo-forgotten _ _ below (serving.forgotten is) = refl
  undo-forgotten _ _ below (serving.dead is) = absurd (omega (arith, below, is.0))
  undo-forgotten _ _ below (serving.cut end is) = absurd (cut-nowhere end is)
  undo-forgotten _ _ below (serving.stopped reached end alive behind is uncut) = absurd (let no = subst IsSome gone alive in let never : ⊥ = cc in never)

  undo-dead : (fate : Option Fate) (d : Effect) → IsDead mark s.timeline → serving.Undoes s mark fate d → d ≡ answered s (fixed words.DeadMark)
  undo-dead _ _ dead (serving.forgotten is) = absurd (let below = is.0 in let from = dead.0 in omega (arith, below, from))
  undo-dead _ _ dead (serving.dead is) = refl
  undo-dead _ _ dead (serving.cut end is) = absurd (cut-nowhere end is)
  undo-dead _ _ dead (serving.stopped reached end alive behind is uncut) = absurd (let no = subst IsSome gone alive in let never : ⊥ = cc in never)

  forget-forgotten : (fate : Option Fate) (d : Effect) → mark < s.timeline.first.serial → serving.Forgets s mark fate d → d ≡ answered s (fixed words.Forgotten)
  forget-forgotten _ _ below (serving.below is) = refl
  forget-forgotten _ _ below (serving.nowhere is) = absurd (omega (arith, below, is.0))
  forget-forgotten _ _ below (serving.floored end is) = absurd (kept-nowhere end is)

  forget-dead : (fate : Option Fate) (d : Effect) → IsDead mark s.timeline → serving.Forgets s mark fate d → d ≡ answered s (fixed words.DeadMark)
  forget-dead _ _ dead (serving.below is) = absurd (let below = is.0 in let from = dead.0 in omega (arith, below, from))
  forget-dead _ _ dead (serving.nowhere is) = refl
  forget-dead _ _ dead (serving.floored end is) = absurd (kept-nowhere end is)

pub Does-forgotten : (s : ShellState) (mark : ℕ) (fate : Option Fate) (line : Spoken) (d : Effect) → IsOrdered s.timeline → NamesMark mark line → mark < s.timeline.first.serial → effects.ExecutesLine fate s line d → d ≡ answered s (fixed words.Forgotten)
Does-forgotten s mark fate line d ordered (inl says) below does =
    undo-forgotten s mark (cut_to-below mark s.timeline ordered below) fate d below (subst (λ l. effects.ExecutesLine fate s l d) says does)
Does-forgotten s mark fate line d ordered (inr says) below does =
    forget-forgotten s mark (cut_to-below mark s.timeline ordered below) fate d below (subst (λ l. effects.ExecutesLine fate s l d) says does)

pub Does-dead : (s : ShellState) (mark : ℕ) (fate : Option Fate) (line : Spoken) (d : Effect) → NamesMark mark line → IsDead mark s.timeline → effects.ExecutesLine fate s line d → d ≡ answered s (fixed words.DeadMark)
Does-dead s mark fate line d (inl says) dead does = undo-dead s mark dead.1 fate d dead (subst (λ l. effects.ExecutesLine fate s l d) says does)
Does-dead s mark fate line d (inr says) dead does = forget-dead s mark dead.1 fate d dead (subst (λ l. effects.ExecutesLine fate s l d) says does)
