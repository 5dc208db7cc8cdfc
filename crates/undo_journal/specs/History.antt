-- Whole lists of commands: what they leave of a timeline, and which of their steps are live.
use Rattle.std.specs.Prelude.{◌≡◌, ℕ, ◌+◌, nat_le, List, [], ◌∷◌, ◌++◌, filter, is_some, if◌then◌else◌, Some, Result}
use Rattle.std.specs.Prelude.{Ok, Err, unwrap_or}
use Prim.Native.Nat.{suc}
use Rattle.undo_journal.specs.declared.history.Command.{Command}
use Rattle.undo_journal.specs.declared.history.Command.TheVariants.{Perform, Undo, Forget}
use Rattle.undo_journal.specs.Journal.{Stopped}
use Rattle.undo_journal.specs.Reversible.{Accepted}
use Rattle.undo_journal.specs.Timeline.{Station, Timeline, here, opened, appended, cut_to, forgotten_to, IsOrdered}

-- A rule says what an event does to a node, or why it is refused: it relates them with the outcome.
-- That of a reversible machine gives one outcome at most.
abbrev pub Rule : Type 0 → Type 0 → Type 0 → Type 0 → Type 0 → Type 1
Rule S E A N F = S → E → Result (Accepted S A N) F → Type 0

-- an accepted event appends its station, a refused one changes nothing
abbrev pub after_event : {S A N F : Type 0} → Timeline S N → Result (Accepted S A N) F → Timeline S N
after_event t (Ok a) = appended t a.node a.note
after_event t (Err f) = t

-- an undo to a mark; one to a mark without a station changes nothing
abbrev pub after_undo : {S N : Type 0} → ℕ → Timeline S N → Timeline S N
after_undo m t = unwrap_or (cut_to m t) t

-- a forget up to a mark; one up to a mark without a station changes nothing
abbrev pub after_forget : {S N : Type 0} → ℕ → Timeline S N → Timeline S N
after_forget m t = unwrap_or (forgotten_to m t) t

-- One command, from the one timeline to the other. No list of commands in a memory is so long that a
-- journal that begins with that list runs out of serials.
abbrev pub IsAfter : {S E A N F : Type 0} → Rule S E A N F → Timeline S N → Command E → Timeline S N → Type 0
IsAfter {S} {E} {A} {N} {F} rule old (Perform e) new =
    (r : Result (Accepted S A N) F) × rule (here old).node e r × (new ≡ after_event old r)
IsAfter {S} {E} {A} {N} {F} rule old (Undo m) new = new ≡ after_undo m old
IsAfter {S} {E} {A} {N} {F} rule old (Forget m) new = new ≡ after_forget m old

-- a list of commands, in order
abbrev pub AreAfter : {S E A N F : Type 0} → Rule S E A N F → List (Command E) → Timeline S N → Timeline S N → Type 0
AreAfter {S} {E} {A} {N} {F} rule [] old new = new ≡ old
AreAfter {S} {E} {A} {N} {F} rule (c ∷ cs) old new =
    (mid : Timeline S N) × IsAfter rule old c mid × AreAfter rule cs mid new

-- A command that ran out of memory. An event met it where memory may run out, and changed nothing; an
-- undo has a mark with a station, and stopped there or at a station after it, as `Stopped` says of one
-- that is to report nothing. A forget never meets it.
abbrev pub IsMissed : {S E N : Type 0} → (S → E → Type 0) → Timeline S N → Command E → Timeline S N → Type 0
IsMissed may_run_out old (Perform e) new = may_run_out (here old).node e × (new ≡ old)
IsMissed may_run_out old (Undo m) new = (reached : ℕ) × Stopped m 0 old new reached []
IsMissed may_run_out old (Forget m) new = ⊥

-- an accepted event with the serial of its step
pub record Live (E : Type 0) : Type 0 where
  pub serial : ℕ
  pub event : E

-- The live steps after one command: an accepted event is added under the next serial, an undo takes away
-- those with a serial above its mark, unless the mark has no station, and a forget takes none away.
abbrev pub live_after_event : {S E A N F : Type 0} → Timeline S N → E → Result (Accepted S A N) F → List (Live E) → List (Live E)
live_after_event t e (Ok a) steps = steps ++ record { serial = t.last + 1; event = e } ∷ []
live_after_event t e (Err f) steps = steps

abbrev pub live_after_undo : {S E N : Type 0} → ℕ → Timeline S N → List (Live E) → List (Live E)
live_after_undo m t steps = if is_some (cut_to m t) then filter (λ step. nat_le step.serial m) steps else steps

-- one command with its live steps: those before it are `steps`, and those after it are `live`
abbrev pub IsLiveAfter : {S E A N F : Type 0} → Rule S E A N F → Timeline S N → List (Live E) → Command E → Timeline S N →
    List (Live E) → Type 0
IsLiveAfter {S} {E} {A} {N} {F} rule old steps (Perform e) new live =
    (r : Result (Accepted S A N) F) × rule (here old).node e r × (new ≡ after_event old r)
    × (live ≡ live_after_event old e r steps)
IsLiveAfter {S} {E} {A} {N} {F} rule old steps (Undo m) new live =
    (new ≡ after_undo m old) × (live ≡ live_after_undo m old steps)
IsLiveAfter {S} {E} {A} {N} {F} rule old steps (Forget m) new live = (new ≡ after_forget m old) × (live ≡ steps)

-- a list of commands, in order, with its live steps
abbrev pub RunsCommands : {S E A N F : Type 0} → Rule S E A N F → List (Command E) → Timeline S N → List (Live E) → Timeline S N →
    List (Live E) → Type 0
RunsCommands {S} {E} {A} {N} {F} rule [] old steps new live = (new ≡ old) × (live ≡ steps)
RunsCommands {S} {E} {A} {N} {F} rule (c ∷ cs) old steps new live =
    (mid : Timeline S N) × (between : List (Live E)) × IsLiveAfter rule old steps c mid between
    × RunsCommands rule cs mid between new live

-- from the node the rule accepts the event of each step, in turn, and they lead to the end
abbrev pub FoldsTo : {S E A N F : Type 0} → Rule S E A N F → S → List (Live E) → S → Type 0
FoldsTo {S} {E} {A} {N} {F} rule node [] end = end ≡ node
FoldsTo {S} {E} {A} {N} {F} rule node (x ∷ xs) end =
    (a : Accepted S A N) × rule node x.event (Ok a) × FoldsTo rule a.node xs end

-- the station is the one that the rule makes of an event that it accepts
abbrev pub IsMadeBy : {S A N F : Type 0} → (Result (Accepted S A N) F → Type 0) → Station S N → Type 0
IsMadeBy {S} {A} {N} {F} IsRuled s =
    (a : Accepted S A N) × IsRuled (Ok a) × (s.node ≡ a.node) × (s.note ≡ Some a.note)

-- The steps, in turn from a node, are all accepted, and they make these stations, each under the
-- serial of its step.
abbrev pub Makes : {S E A N F : Type 0} → Rule S E A N F → S → List (Live E) → List (Station S N) → Type 0
Makes rule node [] [] = Unit {0}
Makes rule node [] (s ∷ ss) = ⊥
Makes rule node (x ∷ xs) [] = ⊥
Makes rule node (x ∷ xs) (s ∷ ss) =
    (s.serial ≡ x.serial) × IsMadeBy (rule node x.event) s × Makes rule s.node xs ss

-- The live steps make the stations of a whole timeline, in turn from the node that it begins with, and
-- the timeline `t` is that one from its first station on: the stations before are forgotten, and where
-- `t` begins with serial 0 there are none.
pub record MakesKept {S E A N F : Type 0} (rule : Rule S E A N F) (node : S) (live : List (Live E))
    (t : Timeline S N) : Type 0 where
  pub whole : Timeline S N
  pub ordered : IsOrdered whole
  pub begun : whole.first ≡ (opened node).first
  pub makes : Makes rule node live whole.later
  pub kept : forgotten_to t.first.serial whole ≡ Some t

-- none of the commands is a forget
abbrev pub HasNoForget : {E : Type 0} → List (Command E) → Type 0
HasNoForget [] = Unit {0}
HasNoForget (Perform e ∷ cs) = HasNoForget cs
HasNoForget (Undo m ∷ cs) = HasNoForget cs
HasNoForget (Forget m ∷ cs) = ⊥

-- The commands that were asked, as a journal carries them out from one timeline to another, of which
-- `missed` run out of memory in the timeline that they find (`IsMissed`): such an event is left out, and
-- such an undo is one to the mark where it stopped. A forget is never missed.
pub data CarriedOut {S E A N F : Type 0} (rule : Rule S E A N F) (may_run_out : S → E → Type 0) :
    ℕ → List (Command E) → List (Command E) → Timeline S N → Timeline S N → Type 0 where
  none : {t : Timeline S N} → CarriedOut rule may_run_out 0 [] [] t t
  done : {missed : ℕ} {asked carried : List (Command E)} {old mid new : Timeline S N} (c : Command E) →
      IsAfter rule old c mid → CarriedOut rule may_run_out missed asked carried mid new →
      CarriedOut rule may_run_out missed (c ∷ asked) (c ∷ carried) old new
  left_out : {missed : ℕ} {asked carried : List (Command E)} {old new : Timeline S N} (e : E) →
      may_run_out (here old).node e → CarriedOut rule may_run_out missed asked carried old new →
      CarriedOut rule may_run_out (suc missed) (Perform e ∷ asked) carried old new
  stopped : {missed : ℕ} {asked carried : List (Command E)} {old mid new : Timeline S N} (m reached : ℕ) →
      Stopped m 0 old mid reached [] → CarriedOut rule may_run_out missed asked carried mid new →
      CarriedOut rule may_run_out (suc missed) (Undo m ∷ asked) (Undo reached ∷ carried) old new

-- A journal that began at a node and was given commands: what it carried out leads to its timeline,
-- the live steps of that make its stations and those that are forgotten, and the fold of the rule over
-- the live steps is its node.
pub record IsReplayOf {S E A N F : Type 0} (rule : Rule S E A N F) (may_run_out : S → E → Type 0) (node : S)
    (commands : List (Command E)) (missed : ℕ) (t : Timeline S N) : Type 0 where
  pub carried : List (Command E)
  pub carried_out : CarriedOut rule may_run_out missed commands carried (opened node) t
  pub live : List (Live E)
  pub runs : RunsCommands rule carried (opened node) [] t live
  pub stations : MakesKept rule node live t
  pub fold : FoldsTo rule node live (here t).node
