-- What the outcomes of calls from outside and of jobs are: how they end, what they start, and in which code.
use Rattle.std.specs.Prelude.{◌≡◌, ℕ, zero, suc, Bool, true, false, if◌then◌else◌, List, [], ◌∷◌, ◌++◌, take, drop, codes, All}
use Rattle.std.specs.Prelude.{Contains, Option, None, Some, refl}
use Rattle.std.specs.Str.{bytes_eq}
use Rattle.std.proofs.Common.{sym, subst, true≢false}
use Rattle.std.proofs.lemmas.List.Elements.{All-nil, All-cons, All-append, All-take, All-drop, All-weaker, All-contains}
use Rattle.erl_term.specs.Tree as term
use Rattle.erl_term.specs.Tree.{Tree, Trees, count}
use Rattle.erl_ir.specs.declared.function.Function.{Function}
use Rattle.erl_ir.specs.declared.function.Definition.{Definition}
use Rattle.erl_semantics.specs.State.{Instance, Place, server, loop, Act, send, reply, start, name, Result, value, rest, exit, World}
use Rattle.erl_semantics.specs.State.{plain, Startup, State, all_acts, started_at, named_by}
use Rattle.erl_semantics.specs.BuiltIns.{reply_to}
use Rattle.erl_semantics.specs.Guards.{Selection}
use Rattle.erl_semantics.specs.Evaluation.{Entered}
use Rattle.erl_semantics.specs.Jobs.{Outcome, FromOutside, undefined, called, Evaluates, Job, GivesJob, entered_in, reached_in}
use Rattle.erl_semantics.specs.Jobs.{world_of, Callback}
use Rattle.erl_semantics.specs.Jobs.{handle_call, handle_cast, handle_info, Answer, bad_return_value, plain_answer, call_answer}
use Rattle.erl_semantics.specs.Jobs.{answer_of, one_act, replied, served, unexported, Handles, not_exported, handled, looped, nowhere}
use Rattle.erl_semantics.specs.Jobs.{Receives, unheard, received, GivesAt, fresh, outermost}
use Rattle.erl_semantics.specs.OutcomeLaws.{IsMessage, StartsAtMostOne, IsPlaceIn}
use Rattle.erl_semantics.proofs.Options.{some_none, some_injective}
use Rattle.erl_semantics.proofs.Returns.{IsNoStart, reply_is_no_start}
use Rattle.erl_semantics.proofs.Kept.{RestsIn, BeginsIn, MayBeIn, IsFoundIn, contains_first, contains_more, remote_in, fresh_sound}
use Rattle.erl_semantics.proofs.Kept.{entered_keeps, body_keeps}

-- All acts, where those that were done are messages and replies.

at_most_one : (startup : Option Startup) (acts : List Act) → All IsMessage acts → StartsAtMostOne (all_acts startup acts)
at_most_one None acts messages = record {
  before = [];
  place = None;
  registered = None;
  behind = acts;
  acts_are = refl;
  messages_before = All-nil IsMessage;
  messages_behind = messages;
}
at_most_one (Some u) acts messages = record {
  before = take u.before acts;
  place = u.place;
  registered = u.registered;
  behind = drop u.before acts;
  acts_are = refl;
  messages_before = All-take IsMessage u.before acts messages;
  messages_behind = All-drop IsMessage u.before acts messages;
}

-- an act that starts a process does so in this code
abbrev StartsIn : List Instance → Act → Type 0
StartsIn code (send to t) = Unit {0}
StartsIn code (reply number t) = Unit {0}
StartsIn code (start p) = IsPlaceIn code p
StartsIn code (name registered by_register) = Unit {0}

message_starts_in : (code : List Instance) (act : Act) → IsMessage act → StartsIn code act
message_starts_in code (send to t) message = tt
message_starts_in code (reply number t) message = tt
message_starts_in code (start p) message = absurd message
message_starts_in code (name registered by_register) message = tt

named_starts_in : (code : List Instance) (registered : Option (List ℕ × Bool)) → All (StartsIn code) (named_by registered)
named_starts_in code None = All-nil (StartsIn code)
named_starts_in code (Some n) = All-cons (StartsIn code) (name n.0 n.1) [] tt (All-nil (StartsIn code))

started_in : (code : List Instance) (place : Option Place) (registered : Option (List ℕ × Bool)) → MayBeIn code place →
    All (StartsIn code) (started_at place registered)
started_in code None registered there = All-nil (StartsIn code)
started_in code (Some p) registered there =
    All-cons (StartsIn code) (start p) (named_by registered) there (named_starts_in code registered)

all_start_in : (code : List Instance) (startup : Option Startup) (acts : List Act) → All IsMessage acts →
    BeginsIn code startup → All (StartsIn code) (all_acts startup acts)
all_start_in code None acts messages there =
    All-weaker IsMessage (StartsIn code) (message_starts_in code) acts messages
all_start_in code (Some u) acts messages there =
    let front = All-weaker IsMessage (StartsIn code) (message_starts_in code) (take u.before acts)
    (All-take IsMessage u.before acts messages) in
    let back = All-weaker IsMessage (StartsIn code) (message_starts_in code) (drop u.before acts)
    (All-drop IsMessage u.before acts messages) in
    All-append (StartsIn code) (take u.before acts ++ started_at u.place u.registered) (drop u.before acts)
    (All-append (StartsIn code) (take u.before acts) (started_at u.place u.registered) front
    (started_in code u.place u.registered there)) back

-- A call from outside.

-- what a result rests at, if it rests, is of this code
abbrev PlaceIn : List Instance → Result → Type 0
PlaceIn code (value t) = Unit {0}
PlaceIn code (rest p) = IsPlaceIn code p
PlaceIn code (exit t) = Unit {0}

never_rests : (code : List Instance) (r : Result) → RestsIn code false r → (p : Place) → ¬ (r ≡ rest p)
never_rests code r there p is =
    absurd (true≢false (sym (subst (λ x. RestsIn code false x) is there).0))

-- what is true of its outcome
pub record CallKept (w : World) (o : Outcome) : Type 0 where
  pub returns : (p : Place) → ¬ (o.ended ≡ rest p)
  pub messages : w.mode ≡ plain → All IsMessage o.acts
  pub one : StartsAtMostOne o.acts
  pub starts_in : All (StartsIn w.code) o.acts

nothing_kept : {w : World} → CallKept w nowhere
nothing_kept {w = w} = record {
  returns = λ p is. never_rests w.code (exit (term.atom (codes "undef"))) tt p is;
  messages = λ is_plain. All-nil IsMessage;
  one = at_most_one None [] (All-nil IsMessage);
  starts_in = All-nil (StartsIn w.code);
}

module _ (w : World) where
  itself : (i : Instance) → Contains w.code i → Contains w.code i
  itself i there = there

  call_keeps : {i : Instance} {f : Definition} {args : Trees} {registered : List ℕ} {r : Result} {s : State} → Contains w.code i →
      Entered w (outermost i false) true registered f args fresh r s →
      CallKept w (record { acts = all_acts s.startup s.acts; ended = r })
  call_keeps {r = r} {s = s} there d =
      let kept = entered_keeps w w.code itself there (fresh_sound w w.code itself) d in
      record {
        returns = λ p is. never_rests w.code r kept.rests_in p is;
        messages = λ is_plain.
            subst (λ x. All IsMessage (all_acts x s.acts)) (sym (kept.sound.no_start is_plain)) kept.sound.messages;
        one = at_most_one s.startup s.acts kept.sound.messages;
        starts_in = all_start_in w.code s.startup s.acts kept.sound.messages kept.sound.begins;
      }

  from_outside_keeps : {called_name : List ℕ} {f : Option (Instance × Function)} {args : Trees} {o : Outcome} →
      IsFoundIn w.code f → FromOutside w called_name f args o → CallKept w o
  from_outside_keeps there (undefined is) = subst (λ x. CallKept w x) (sym is) nothing_kept
  from_outside_keeps there (called d is) = subst (λ x. CallKept w x) (sym is) (call_keeps there d)

  pub evaluates_keeps : (m f : List ℕ) (args : Trees) (o : Outcome) → Evaluates w m f args o → CallKept w o
  evaluates_keeps m f args o d = from_outside_keeps (remote_in w m f (count args)) d

pub start_in : (w : World) (o : Outcome) (p : Place) → CallKept w o → Contains o.acts (start p) → IsPlaceIn w.code p
start_in w o p kept starts = All-contains (StartsIn w.code) o.acts (start p) kept.starts_in starts

-- A job.

-- no loop function
abbrev IsNoLoop : Result → Type 0
IsNoLoop (value t) = Unit {0}
IsNoLoop (rest (server m s)) = Unit {0}
IsNoLoop (rest (loop m serial f args)) = ⊥
IsNoLoop (exit t) = Unit {0}

-- where a loop function rests, it is of this code
abbrev LoopsIn : List Instance → Result → Type 0
LoopsIn code r = (m : List ℕ) (serial : ℕ) (f : List ℕ) (args : Trees) → r ≡ rest (loop m serial f args) →
    IsPlaceIn code (loop m serial f args)

no_loop_in : (code : List Instance) (r : Result) → IsNoLoop r → LoopsIn code r
no_loop_in code r no_loop m serial f args is = absurd (subst (λ x. IsNoLoop x) is no_loop)

either_no_loop : (b : Bool) (x y : Answer) → IsNoLoop x.ended → IsNoLoop y.ended → IsNoLoop (if b then x else y).ended
either_no_loop true x y one other = one
either_no_loop false x y one other = other

plain_no_loop : (m : List ℕ) (t : Tree) → IsNoLoop (plain_answer m t).ended
plain_no_loop m (term.tuple (term.more (term.atom cs) (term.more x term.none))) =
    either_no_loop (bytes_eq cs (codes "noreply")) (record { answered = None; ended = rest (server m x) })
    (bad_return_value (term.tuple (term.more (term.atom cs) (term.more x term.none)))) tt tt
plain_no_loop m (term.tuple (term.more (term.atom cs) (term.more x (term.more y term.none)))) =
    either_no_loop (bytes_eq cs (codes "stop")) (record { answered = None; ended = exit x })
    (bad_return_value (term.tuple (term.more (term.atom cs) (term.more x (term.more y term.none))))) tt tt
plain_no_loop m _ = tt

call_no_loop : (m : List ℕ) (t : Tree) → IsNoLoop (call_answer m t).ended
call_no_loop m (term.tuple (term.more (term.atom cs) (term.more x (term.more y term.none)))) =
    let t = term.tuple (term.more (term.atom cs) (term.more x (term.more y term.none))) in
    either_no_loop (bytes_eq cs (codes "reply")) (record { answered = Some x; ended = rest (server m y) })
    (plain_answer m t) tt (plain_no_loop m t)
call_no_loop m (term.tuple (term.more (term.atom cs) (term.more x (term.more y (term.more z term.none))))) =
    either_no_loop (bytes_eq cs (codes "stop")) (record { answered = Some y; ended = exit x })
    (bad_return_value (term.tuple (term.more (term.atom cs) (term.more x (term.more y (term.more z term.none)))))) tt tt
call_no_loop m t = plain_no_loop m t

answer_no_loop : (m : List ℕ) (callback : Callback) (v : Tree) → IsNoLoop (answer_of m callback v).ended
answer_no_loop m (handle_call from t) v = call_no_loop m v
answer_no_loop m (handle_cast t) v = plain_no_loop m v
answer_no_loop m (handle_info t) v = plain_no_loop m v

one_act_message : (act : Option Act) → IsNoStart act → All IsMessage (one_act act)
one_act_message None message = All-nil IsMessage
one_act_message (Some act) message = All-cons IsMessage act [] message (All-nil IsMessage)

replied_messages : (callback : Callback) (answer : Option Tree) → All IsMessage (replied callback answer)
replied_messages (handle_call from t) (Some answer) = one_act_message (reply_to from answer) (reply_is_no_start from answer)
replied_messages (handle_call from t) None = All-nil IsMessage
replied_messages (handle_cast t) answer = All-nil IsMessage
replied_messages (handle_info t) answer = All-nil IsMessage

-- what is true of the outcome of a job with this code
pub record JobKept (code : List Instance) (o : Outcome) : Type 0 where
  pub messages : All IsMessage o.acts
  pub rests_in : LoopsIn code o.ended

served_keeps : (code : List Instance) (m : List ℕ) (callback : Callback) (acts : List Act) (r : Result) → All IsMessage acts →
    RestsIn code false r → JobKept code (served m callback acts r)
served_keeps code m callback acts (value v) messages there = record {
  messages = All-append IsMessage acts (replied callback (answer_of m callback v).answered) messages
      (replied_messages callback (answer_of m callback v).answered);
  rests_in = no_loop_in code (answer_of m callback v).ended (answer_no_loop m callback v);
}
served_keeps code m callback acts (rest p) messages there = absurd (true≢false (sym there.0))
served_keeps code m callback acts (exit t) messages there =
    record { messages = messages; rests_in = no_loop_in code (exit t) tt }

looped_keeps : (code : List Instance) (acts : List Act) (r : Result) → All IsMessage acts → RestsIn code true r →
    JobKept code (looped acts r)
looped_keeps code acts (value v) messages there =
    record { messages = messages; rests_in = no_loop_in code (exit (term.atom (codes "normal"))) tt }
looped_keeps code acts (rest p) messages there = record {
  messages = messages;
  rests_in = λ m serial f args is. subst (λ x. PlaceIn code x) is there.1;
}
looped_keeps code acts (exit t) messages there =
    record { messages = messages; rests_in = no_loop_in code (exit t) tt }

-- an outcome with no act, that ends in no loop function
idle_keeps : (code : List Instance) (r : Result) → IsNoLoop r → JobKept code (record { acts = []; ended = r })
idle_keeps code r no_loop = record { messages = All-nil IsMessage; rests_in = no_loop_in code r no_loop }

unexported_keeps : (code : List Instance) (m : List ℕ) (s : Tree) (callback : Callback) → JobKept code (unexported m s callback)
unexported_keeps code m s (handle_call from t) = idle_keeps code (exit (term.atom (codes "undef"))) tt
unexported_keeps code m s (handle_cast t) = idle_keeps code (exit (term.atom (codes "undef"))) tt
unexported_keeps code m s (handle_info t) = idle_keeps code (rest (server m s)) tt

module _ (j : Job) (within : (i : Instance) → Contains (world_of j).code i → Contains j.code i) where
  handles_keeps : {m : List ℕ} {s : Tree} {callback : Callback} {f : Option Function} {i : Instance} {o : Outcome} →
      Contains j.code i → Handles j m s callback f i o → JobKept j.code o
  handles_keeps there (not_exported {m = m} {s = s} {callback = callback} is) =
      subst (λ x. JobKept j.code x) (sym is) (unexported_keeps j.code m s callback)
  handles_keeps there (handled {m = m} {callback = callback} {r = r} {s1 = s1} d is) =
      let kept = entered_keeps (world_of j) j.code within there (fresh_sound (world_of j) j.code within) d in
      subst (λ x. JobKept j.code x) (sym is) (served_keeps j.code m callback s1.acts r kept.sound.messages kept.rests_in)

  receives_keeps : {i : Instance} {found : Selection} {o : Outcome} → Contains j.code i → Receives j i found o → JobKept j.code o
  receives_keeps there (unheard is) =
      subst (λ x. JobKept j.code x) (sym is) (idle_keeps j.code (exit (term.atom (codes "undef"))) tt)
  receives_keeps there (received {r = r} {s = s} d is) =
      let kept = body_keeps (world_of j) j.code within there (fresh_sound (world_of j) j.code within) d in
      subst (λ x. JobKept j.code x) (sym is) (looped_keeps j.code s.acts r kept.sound.messages kept.rests_in)

  nowhere_keeps : {o : Outcome} → o ≡ nowhere → JobKept j.code o
  nowhere_keeps is = subst (λ x. JobKept j.code x) (sym is) (idle_keeps j.code (exit (term.atom (codes "undef"))) tt)

  gives_keeps : (p : Place) (entered : Option Instance) (o : Outcome) → ((i : Instance) → entered ≡ Some i → Contains j.code i) →
      GivesAt j p entered o → JobKept j.code o
  gives_keeps (server m s) None o there d = nowhere_keeps d
  gives_keeps (server m s) (Some i) o there d = handles_keeps (there i refl) d
  gives_keeps (loop m serial f args) None o there d = nowhere_keeps d
  gives_keeps (loop m serial f args) (Some i) o there d = receives_keeps (there i refl) d

-- the instance that is entered, and what remote calls look among, are of the job's code

entered_in_code : (serial : ℕ) (code : List Instance) (i : Instance) → entered_in serial code ≡ Some i → Contains code i
entered_in_code zero code i is = absurd (some_none (sym is))
entered_in_code (suc serial) [] i is = absurd (some_none (sym is))
entered_in_code (suc serial) (j ∷ code) i is =
    subst (λ x. Contains (j ∷ code) x) (some_injective is) (contains_first j code)

reached_in_code : (serial : ℕ) (code : List Instance) (i : Instance) → Contains (reached_in serial code) i → Contains code i
reached_in_code zero code i there = there
reached_in_code (suc serial) [] i there = there
reached_in_code (suc serial) (j ∷ code) i there = contains_more i j code there

pub job_keeps : (j : Job) (o : Outcome) → GivesJob j o → JobKept j.code o
job_keeps j o d = gives_keeps j (reached_in_code j.entry_serial j.code) j.place (entered_in j.entry_serial j.code) o
    (entered_in_code j.entry_serial j.code) d
