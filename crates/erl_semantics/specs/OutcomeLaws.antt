-- What the outcome of a call from outside, and of a job, can be: how it ends, what it starts, and in which code a process rests.
use Rattle.std.specs.Prelude.{◌≡◌, ℕ, Bool, List, ◌++◌, Option, All, Contains}
use Rattle.erl_term.specs.Tree.{Trees}
use Rattle.erl_semantics.specs.State.{Instance, Place, server, loop, Act, send, reply, start, name, rest, World, plain}
use Rattle.erl_semantics.specs.State.{started_at}
use Rattle.erl_semantics.specs.Jobs.{Outcome, Evaluates, Job, GivesJob}

-- A call from outside of all modules ends in a value or an exit: nothing rests there.
abbrev pub CallsNeverRest : Type 0
CallsNeverRest = (w : World) (m f : List ℕ) (args : Trees) (o : Outcome) → Evaluates w m f args o →
    (p : Place) → ¬ (o.ended ≡ rest p)

-- an act that sends a message or a reply: it starts no process, and names none
abbrev pub IsMessage : Act → Type 0
IsMessage (send to message) = Unit {0}
IsMessage (reply number answer) = Unit {0}
IsMessage (start p) = ⊥
IsMessage (name registered by_register) = ⊥

-- In mode `plain` a call from outside starts no process, and names none.
abbrev pub PlainCallsStartNothing : Type 0
PlainCallsStartNothing = (w : World) (m f : List ℕ) (args : Trees) (o : Outcome) → w.mode ≡ plain → Evaluates w m f args o →
    All IsMessage o.acts

-- Nor does a job.
abbrev pub JobsStartNothing : Type 0
JobsStartNothing = (j : Job) (o : Outcome) → GivesJob j o → All IsMessage o.acts

-- At most one of these acts starts a process, and at most one names it, right behind its start.
pub record StartsAtMostOne (acts : List Act) : Type 0 where
  pub before : List Act
  pub place : Option Place
  pub registered : Option (List ℕ × Bool)
  pub behind : List Act
  pub acts_are : acts ≡ before ++ started_at place registered ++ behind
  pub messages_before : All IsMessage before
  pub messages_behind : All IsMessage behind

-- A call from outside starts at most one process.
abbrev pub CallsStartAtMostOne : Type 0
CallsStartAtMostOne = (w : World) (m f : List ℕ) (args : Trees) (o : Outcome) → Evaluates w m f args o → StartsAtMostOne o.acts

-- An instance of this code has the name and serial of the place; of a place in a callback module, which has no serial, the name.
abbrev pub IsPlaceIn : List Instance → Place → Type 0
IsPlaceIn code (server m s) = (i : Instance) × Contains code i × (i.name ≡ m)
IsPlaceIn code (loop m serial f args) = (i : Instance) × Contains code i × (i.name ≡ m) × (i.serial ≡ serial)

-- Where a process rests in a loop function behind a job, it is one of the job's code.
abbrev pub JobsRestInTheirCode : Type 0
JobsRestInTheirCode = (j : Job) (o : Outcome) (m : List ℕ) (serial : ℕ) (f : List ℕ) (args : Trees) → GivesJob j o →
    o.ended ≡ rest (loop m serial f args) → IsPlaceIn j.code (loop m serial f args)

-- Where a process is started by a call from outside, it rests in the code that the call was given.
abbrev pub CallsStartInTheirCode : Type 0
CallsStartInTheirCode = (w : World) (m f : List ℕ) (args : Trees) (o : Outcome) (p : Place) → Evaluates w m f args o →
    Contains o.acts (start p) → IsPlaceIn w.code p
