-- What a record of a commit holds is lost: the place and the message of a job, whose turn is over, or a process that has ended.
use Rattle.std.proofs.Common.{◌≡◌, ℕ, ◌+◌, ◌-◌, Bool, true, false, cond, inl, inr, List, [], ◌∷◌, ◌++◌, Option, None, Some, option_map, refl, sym, ap, subst, ◌∙◌, arith}
use Rattle.std.proofs.lemmas.Bool.{eq-eqb}
use Rattle.std.proofs.lemmas.Bool.Decides.{eqb_tells}
use Rattle.std.proofs.lemmas.List.{append-nil}
use Rattle.std.proofs.lemmas.Option.{none-some, same_Some}
use Rattle.erl_term.specs.declared.term.Term.{Term}
use Rattle.erl_semantics.specs.declared.acts.Act.{Act}
use Rattle.erl_semantics.specs.declared.acts.Act.TheVariants as act
use Rattle.erl_semantics.specs.declared.acts.Place.{Place}
use Rattle.erl_semantics.specs.declared.jobs.Job.{Job}
use Rattle.erl_semantics.specs.declared.instance.Instance.{Instance}
use Rattle.process.specs.declared.named.CodeRef.{CodeRef}
use Rattle.process.specs.Rerun.{ran_with}
use Rattle.process.specs.declared.process.Ran.{Ran}
use Rattle.process_index.specs.declared.calls.Call.{Call}
use Rattle.process_store.specs.declared.living.ProcessEntry.{ProcessEntry}
use Rattle.process_store.specs.Changes.{closed_living, owner_of, rest_living, unrest_living}
use Rattle.process_store.specs.Living.{arrived}
use Rattle.process_store.specs.Pieces.{AreLost, AreNotAmong, HoldsLost, IsNotAmong, Piece, at_place, in_job, in_mailbox, living_pieces, pieces_at, pieces_of, waiting}
use Rattle.process_store.specs.Table.{Table, changed, living}
use Rattle.process_store.specs.Vacating.{vacated}
use Rattle.process_store.proofs.Slots.{living_changed}
use Rattle.process_store.proofs.Vacating.{living_vacated}
use Rattle.process_effects.proofs.EndedPieces.{not_among_none, same_pieces}
use Rattle.process_effects.specs.Ends.{ended_as}
use Rattle.process_effects.specs.EndedPieces.{ended_pieces, held_by}
use Rattle.process_effects.specs.declared.ending.EndedProcess.{EndedProcess}
use Rattle.process_effects.proofs.Commuting.{read_kept}
use Rattle.process_effects.proofs.Leaving.{process_of}
use Rattle.process_effects.specs.Acts.{acts_done, answered, closed_at, receiver_of, sent}
use Rattle.process_effects.specs.Commits.{job_at}
use Rattle.process_effects.specs.CommitPieces.{held_of, ran_at, turn_of}
use Rattle.process_effects.specs.declared.resting.Rested.{Rested}

-- nothing is lost easily
none_lost : (held before after : List Piece) → held ≡ [] → AreLost held before after
none_lost held before after none = subst (λ h. AreLost h before after) (sym none) ((before, refl), tt)

-- acts leave the turn of a process as it is

abbrev turn_read : Option ProcessEntry → Option ℕ
turn_read None = None
turn_read (Some l) = Some l.process.turn

turn_sent : (message : Term) (r : Option ℕ) (t : Table) (pid : ℕ) → turn_read (living pid (sent message r t)) ≡ turn_read (living pid t)
turn_sent message None t pid = refl
turn_sent message (Some p) t pid = read_kept turn_read (arrived message None) (λ l. refl) t.slots p pid

turn_closed : (o : Option (ℕ × Call)) (t : Table) (pid : ℕ) → turn_read (living pid (closed_at o t)) ≡ turn_read (living pid t)
turn_closed None t pid = refl
turn_closed (Some it) t pid = read_kept turn_read (closed_living it.1) (λ l. refl) t.slots it.0 pid

turn_kept : (acts : List Act) (t : Table) (pid : ℕ) → turn_read (living pid (acts_done acts t)) ≡ turn_read (living pid t)
turn_kept [] t pid = refl
turn_kept (act.Send to message ∷ rest) t pid = turn_kept rest (sent message (receiver_of to t) t) pid ∙ turn_sent message (receiver_of to t) t pid
turn_kept (act.Reply number reply ∷ rest) t pid = turn_kept rest (answered number t) pid ∙ turn_closed (owner_of number t) t pid
turn_kept (act.Start place ∷ rest) t pid = turn_kept rest t pid
turn_kept (act.Name name by_register ∷ rest) t pid = turn_kept rest t pid

-- what a process has that has come to rest is not of an earlier turn

abbrev piece_turn : Piece → ℕ
piece_turn (at_place turn place) = turn
piece_turn (in_job turn message) = turn
piece_turn (in_mailbox message) = 0

abbrev waits : Piece → Bool
waits (at_place turn place) = false
waits (in_job turn message) = false
waits (in_mailbox message) = true

abbrev stands : Piece → Bool
stands (at_place turn place) = true
stands (in_job turn message) = false
stands (in_mailbox message) = false

none_waiting : (piece : Piece) → waits piece ≡ false → (messages : List Term) → IsNotAmong (waiting messages) piece
none_waiting piece not [] = tt
none_waiting piece not (m ∷ messages) = (λ is. let clash : true ≡ false = ap waits is ∙ not in absurd (grind (arith, clash)), none_waiting piece not messages)

later_pieces : (turn : ℕ) (at place : Place) (message : Term) (messages : List Term) → AreNotAmong (at_place (turn + 1) at ∷ waiting messages) (at_place turn place ∷ in_job turn message ∷ [])
later_pieces turn at place message messages = (
  (λ is. let clash : turn + 1 ≡ turn = ap piece_turn is in omega (arith, clash), none_waiting (at_place turn place) refl messages),
  ((λ is. let clash : true ≡ false = ap stands is in absurd (grind (arith, clash)), none_waiting (in_job turn message) refl messages), tt),
)

-- A job is committed, and its process rests.

-- a process that runs a job lives
pub running_lives : (o : Option ProcessEntry) (job : Job) → job_at o ≡ Some job → (l : ProcessEntry) × (o ≡ Some l)
running_lives None job runs = absurd (none-some job runs)
running_lives (Some l) job runs = (l, refl)

-- the process before, as what ran tells it
ran_before : (ran : Ran) (o : Option ProcessEntry) (l : ProcessEntry) → option_map (unrest_living ran) o ≡ Some l →
    (others : List Piece) × (pieces_of l.process ≡ (at_place l.process.turn ran.place ∷ in_job l.process.turn ran.running.message ∷ []) ++ others)
ran_before ran None l is = absurd (none-some l is)
ran_before ran (Some x) l is =
    let same : unrest_living ran x ≡ l = same_Some (unrest_living ran x) l is in
    subst (λ (k : ProcessEntry). (others : List Piece) × (pieces_of k.process ≡ (at_place k.process.turn ran.place ∷ in_job k.process.turn ran.running.message ∷ []) ++ others)) same (waiting x.process.mailbox, refl)

-- the process after
rested_pieces : (at : Place) (r : Option Instance) (turn : ℕ) (ran : Ran) (o : Option ProcessEntry) → turn_read o ≡ Some turn →
    (turn_of (option_map (rest_living at r) o) - 1 ≡ turn) × AreNotAmong (living_pieces (option_map (rest_living at r) o)) (at_place turn ran.place ∷ in_job turn ran.running.message ∷ [])
rested_pieces at r turn ran None told = absurd (none-some turn told)
rested_pieces at r turn ran (Some m) told =
    let same : m.process.turn ≡ turn = same_Some m.process.turn turn told in
    let long : m.process.turn + 1 - 1 ≡ m.process.turn = omega arith in
    (long ∙ same, subst (λ n. AreNotAmong (at_place (m.process.turn + 1) at ∷ waiting m.process.mailbox) (at_place n ran.place ∷ in_job n ran.running.message ∷ [])) same (later_pieces m.process.turn at ran.place ran.running.message m.process.mailbox))

rested_here : (at : Place) (r : Option Instance) (rests_in : Option CodeRef) (code : List CodeRef) (ran : Ran) (acts : List Act) (t mid final : Table) (pid : ℕ) (l : ProcessEntry) → living pid t ≡ Some l → changed (unrest_living ran) pid mid ≡ t → final ≡ changed (rest_living at r) pid (acts_done acts t) → AreLost (ran_at (turn_of (living pid final) - 1) (ran_with rests_in code ran)) (pieces_at pid t) (pieces_at pid final)
rested_here at r rests_in code ran acts t mid final pid l lives back done =
    let f = rest_living at r in
    let o = living pid (acts_done acts t) in
    let before : option_map (unrest_living ran) (living pid mid) ≡ Some l = sym (living_changed (unrest_living ran) mid.slots pid) ∙ ap (living pid) back ∙ lives in
    let (others, is) = ran_before ran (living pid mid) l before in
    let now : living pid final ≡ option_map f o = ap (living pid) done ∙ living_changed f (acts_done acts t).slots pid in
    let (turn, apart) = rested_pieces at r l.process.turn ran o (turn_kept acts t pid ∙ ap turn_read lives) in
    subst (λ (x : Option ProcessEntry). AreLost (ran_at (turn_of x - 1) (ran_with rests_in code ran)) (pieces_at pid t) (living_pieces x)) (sym now)
    (subst (λ n. AreLost (ran_at n (ran_with rests_in code ran)) (pieces_at pid t) (living_pieces (option_map f o))) (sym turn) ((others, ap living_pieces lives ∙ is), apart))

pub rested_lost : (u : Rested) (at : Place) (r : Option Instance) (rests_in : Option CodeRef) (code : List CodeRef) (ran : Ran) (acts : List Act) (t mid final : Table) (pid : ℕ) (l : ProcessEntry) → living pid t ≡ Some l → changed (unrest_living ran) pid mid ≡ t → final ≡ changed (rest_living at r) pid (acts_done acts t) → u.pid ≡ pid → u.ran ≡ ran_with rests_in code ran → HoldsLost (held_of u final) t final
rested_lost u at r rests_in code ran acts t mid final pid l lives back done same_pid same_ran q = elim (eqb_tells u.pid q) [
  | inl here ↦
      let held : held_of u final pid ≡ ran_at (turn_of (living pid final) - 1) (ran_with rests_in code ran) =
      ap (λ b. cond b (ran_at (turn_of (living u.pid final) - 1) u.ran) []) (eq-eqb u.pid pid same_pid) ∙ (λ i. ran_at (turn_of (living (same_pid i) final) - 1) (same_ran i)) in
      subst (λ k. AreLost (held_of u final k) (pieces_at k t) (pieces_at k final)) (sym same_pid ∙ here.1)
      (subst (λ h. AreLost h (pieces_at pid t) (pieces_at pid final)) (sym held) (rested_here at r rests_in code ran acts t mid final pid l lives back done))
  | inr apart ↦ none_lost (held_of u final q) (pieces_at q t) (pieces_at q final) (ap (λ b. cond b (ran_at (turn_of (living u.pid final) - 1) u.ran) []) apart.0)
]

-- A job is committed, and its process ends.

same_living : (o p : Option ProcessEntry) → process_of o ≡ process_of p → living_pieces o ≡ living_pieces p
same_living None None is = refl
same_living None (Some l) is = absurd (none-some l.process is)
same_living (Some k) None is = absurd (none-some k.process (sym is))
same_living (Some k) (Some l) is = ap pieces_of (same_Some k.process l.process is)

pub exited_lost : (e : EndedProcess) (rests_in : Option CodeRef) (code : List CodeRef) (t mid after : Table) (pid : ℕ) (l : ProcessEntry) → e ≡ ended_as pid rests_in code l → living pid mid ≡ Some l → process_of (living pid mid) ≡ process_of (living pid t) → after ≡ vacated pid mid → HoldsLost (held_by e) t after
exited_lost e rests_in code t mid after pid l is lives same gone q = elim (eqb_tells e.pid q) [
  | inl here ↦
      let own : e.pid ≡ pid = ap (λ x. x.pid) is in
      let whole : ended_pieces e.process ≡ pieces_at pid t = ap (λ x. ended_pieces x.process) is ∙ same_pieces rests_in code l.process ∙ ap living_pieces (sym lives) ∙ same_living (living pid mid) (living pid t) same in
      let held : held_by e pid ≡ pieces_at pid t = ap (λ b. cond b (ended_pieces e.process) []) (eq-eqb e.pid pid own) ∙ whole in
      let left : living pid after ≡ None = ap (living pid) gone ∙ living_vacated mid.slots pid in
      subst (λ k. AreLost (held_by e k) (pieces_at k t) (pieces_at k after)) (sym own ∙ here.1)
      (subst (λ h. AreLost h (pieces_at pid t) (pieces_at pid after)) (sym held)
      (([], sym (append-nil (pieces_at pid t))), subst (λ o. AreNotAmong (living_pieces o) (pieces_at pid t)) (sym left) (not_among_none (pieces_at pid t))))
  | inr apart ↦ none_lost (held_by e q) (pieces_at q t) (pieces_at q after) (ap (λ b. cond b (ended_pieces e.process) []) apart.0)
]
