-- One more round of a worker.
use Rattle.std.proofs.Common.{◌≡◌, ℕ, ◌+◌, Bool, true, false, List, [], ◌∷◌, ◌++◌, filter, length, None, Some, Ok, Err, refl, sym, ap, subst, ◌∙◌, append-nil, append_assoc, length-append, arith}
use Rattle.std.proofs.lemmas.List.Elements.{All-nil, All-push, filter-append}
use Rattle.erl_semantics.specs.declared.jobs.Done.{Done}
use Rattle.erl_semantics.specs.declared.jobs.Job.{Job}
use Rattle.process_table.specs.declared.error.ProcError.TheVariants.{Stale}
use Rattle.node_types.specs.declared.event.Event.TheVariants.{Commit}
use Rattle.node_types.specs.declared.event.Refusal.TheVariants.{OfProcesses}
use Rattle.node_history.specs.declared.command.Command.TheVariants.{Perform, TakeAny}
use Rattle.node_history.specs.declared.command.Fault.TheVariants.{Refused}
use Rattle.node_history.specs.declared.command.Said.TheVariants.{Performed, Taken}
use Rattle.node_history.specs.declared.entry.Line.{Line}
use Rattle.node_lock.specs.Core.{SeatState}
use Rattle.node_lock.specs.Seats.{Lists}
use Rattle.workers.specs.Lines.{line, with_lines}
use Rattle.workers.specs.Serving.{Commits, HasServed, IsResult, IsRound, Round, Works, idle, commits, late, above_after, above_round_end, counted, is_commit, is_idle, is_late, lines_of_round, lines_of_rounds, next_above, told_as, total}
use Rattle.workers.specs.declared.serving.Served.{Served}
use Rattle.workers.specs.declared.serving.RoundEnd.{RoundEnd}
use Rattle.workers.specs.declared.serving.RoundEnd.TheVariants as round_end
use Rattle.workers.proofs.Behind.{behind}

lines-push : (above : ℕ) (rounds : List Round) (t : Round) → lines_of_rounds above (rounds ++ t ∷ []) ≡ lines_of_rounds above rounds ++ lines_of_round (above_after above rounds) t
lines-push above [] t = append-nil (lines_of_round above t)
lines-push above (u ∷ rounds) t =
    ap (λ ls. lines_of_round above u ++ ls) (lines-push (next_above above u) rounds t) ∙
    sym (append_assoc (lines_of_round above u) (lines_of_rounds (next_above above u) rounds) (lines_of_round (above_after (next_above above u) rounds) t))

above-push : (above : ℕ) (rounds : List Round) (t : Round) → above_after above (rounds ++ t ∷ []) ≡ next_above (above_after above rounds) t
above-push above [] t = refl
above-push above (u ∷ rounds) t = above-push (next_above above u) rounds t

-- what a round commits is a result, by the type of what it commits
is_result : (t : Round) → IsResult t
is_result idle = tt
is_result (commits d answer) = d.gives
is_result (late d) = d.gives

above_told : (above : ℕ) (t : Round) → above_round_end above (told_as t) ≡ next_above above t
above_told above idle = refl
above_told above (commits d answer) = refl
above_told above (late d) = refl

pub serves_nothing : (old : SeatState) (none : Served) → none ≡ record { committed = 0; stale = 0; idle = 0 } → HasServed 0 0 old old none
serves_nothing old none is = record {
  serves = record {
    did = [];
    all = refl;
    results = All-nil IsResult;
    lines = ap (λ (ls : List Line). let s : SeatState = record { number = old.number; lines = ls } in s) (sym (append-nil old.lines));
    committed = ap (λ s. s.committed) is;
    stale = ap (λ s. s.stale) is;
    idle = ap (λ s. s.idle) is;
  };
  next = refl;
  total = ap total is;
}

-- the counters count one more round

counts_committed : (s : Served) (rounds : List Round) (t : Round) → s.committed ≡ length (filter is_commit rounds) → (counted (told_as t) s).committed ≡ length (filter is_commit (rounds ++ t ∷ []))
counts_committed s rounds idle is = is ∙ ap length (sym (filter-append is_commit rounds (idle ∷ []) ∙ append-nil (filter is_commit rounds)))
counts_committed s rounds (commits d answer) is =
    ap (λ n. n + 1) is ∙ sym (ap length (filter-append is_commit rounds (commits d answer ∷ [])) ∙ length-append (filter is_commit rounds) (commits d answer ∷ []))
counts_committed s rounds (late d) is = is ∙ ap length (sym (filter-append is_commit rounds (late d ∷ []) ∙ append-nil (filter is_commit rounds)))

counts_stale : (s : Served) (rounds : List Round) (t : Round) → s.stale ≡ length (filter is_late rounds) → (counted (told_as t) s).stale ≡ length (filter is_late (rounds ++ t ∷ []))
counts_stale s rounds idle is = is ∙ ap length (sym (filter-append is_late rounds (idle ∷ []) ∙ append-nil (filter is_late rounds)))
counts_stale s rounds (commits d answer) is = is ∙ ap length (sym (filter-append is_late rounds (commits d answer ∷ []) ∙ append-nil (filter is_late rounds)))
counts_stale s rounds (late d) is =
    ap (λ n. n + 1) is ∙ sym (ap length (filter-append is_late rounds (late d ∷ [])) ∙ length-append (filter is_late rounds) (late d ∷ []))

counts_idle : (s : Served) (rounds : List Round) (t : Round) → s.idle ≡ length (filter is_idle rounds) → (counted (told_as t) s).idle ≡ length (filter is_idle (rounds ++ t ∷ []))
counts_idle s rounds idle is =
    ap (λ n. n + 1) is ∙ sym (ap length (filter-append is_idle rounds (idle ∷ [])) ∙ length-append (filter is_idle rounds) (idle ∷ []))
counts_idle s rounds (commits d answer) is = is ∙ ap length (sym (filter-append is_idle rounds (commits d answer ∷ []) ∙ append-nil (filter is_idle rounds)))
counts_idle s rounds (late d) is = is ∙ ap length (sym (filter-append is_idle rounds (late d ∷ []) ∙ append-nil (filter is_idle rounds)))

counts_total : (s : Served) (t : Round) → total (counted (told_as t) s) ≡ total s + 1
counts_total s idle = omega arith
counts_total s (commits d answer) = omega arith
counts_total s (late d) = omega arith

-- a round behind others, as it's told
serves_round : (n above : ℕ) (t : Round) (old mid new : SeatState) (s : Served) → HasServed n above old mid s → new ≡ with_lines mid (lines_of_round above t) → HasServed (n + 1) (above_round_end above (told_as t)) old new (counted (told_as t) s)
serves_round n above t old mid new s has line =
    let did = has.serves.did in record {
      serves = record {
        did = did ++ t ∷ [];
        all = length-append did (t ∷ []) ∙ ap (λ k. k + 1) has.serves.all;
        results = All-push IsResult did t has.serves.results (is_result t);
        lines = behind old mid new (lines_of_rounds 0 did) (lines_of_round (above_after 0 did) t) has.serves.lines
            (line ∙ ap (λ (k : ℕ). with_lines mid (lines_of_round k t)) has.next) ∙
            ap (λ (ls : List Line). with_lines old ls) (sym (lines-push 0 did t));
        committed = counts_committed s did t has.serves.committed;
        stale = counts_stale s did t has.serves.stale;
        idle = counts_idle s did t has.serves.idle;
      };
      next = above_told above t ∙ ap (λ k. next_above k t) has.next ∙ sym (above-push 0 did t);
      total = counts_total s t ∙ ap (λ k. k + 1) has.total;
    }

pub serves_more : (n above next : ℕ) (it : RoundEnd) (old mid new : SeatState) (s more : Served) → HasServed n above old mid s → IsRound above it mid new → next ≡ above_round_end above it → more ≡ counted it s → HasServed (n + 1) next old new more
serves_more n above next it old mid new s more has round at counts =
    let done = serves_round n above round.round old mid new s has round.lines in
    let told = subst (λ (u : RoundEnd). HasServed (n + 1) (above_round_end above u) old new (counted u s)) (sym round.told) done in
    let there = subst (λ (k : ℕ). HasServed (n + 1) k old new (counted it s)) (sym at) told in
    subst (λ (c : Served). HasServed (n + 1) next old new c) (sym counts) there

pub rounds_idle : (above : ℕ) (old new : SeatState) → Lists (TakeAny above) (Ok (Taken None)) old new → IsRound above round_end.Idle old new
rounds_idle above old new lists = record { round = idle; told = refl; lines = lists.1 }

-- a job was taken, and its result put behind
taken_lines : (above : ℕ) (d : Done) (job : Job) (old mid new : SeatState) (l : Line) → d.job ≡ job → Lists (TakeAny above) (Ok (Taken (Some job))) old mid → new ≡ with_lines mid (l ∷ []) → new ≡ with_lines old (line (TakeAny above) (Ok (Taken (Some d.job))) ∷ l ∷ [])
taken_lines above d job old mid new l of lists is =
    behind old mid new (line (TakeAny above) (Ok (Taken (Some job))) ∷ []) (l ∷ []) lists.1 is ∙
    ap (λ (j : Job). with_lines old (line (TakeAny above) (Ok (Taken (Some j))) ∷ l ∷ [])) (sym of)

pub rounds_worked : (above : ℕ) (job : Job) (it : RoundEnd) (old mid new : SeatState) → Lists (TakeAny above) (Ok (Taken (Some job))) old mid → Works job it mid new → IsRound above it old new
rounds_worked above job round_end.Idle old mid new lists works = absurd works
rounds_worked above job (round_end.Committed pid) old mid new lists (at, (d, of, (answer, is))) = record {
  round = commits d answer;
  told = ap round_end.Committed (at ∙ ap (λ (j : Job). j.pid) (sym of));
  lines = taken_lines above d job old mid new (line (Perform (Commit d)) (Ok (Performed answer))) of lists is;
}
rounds_worked above job (round_end.Late pid) old mid new lists (at, (d, of, is)) = record {
  round = late d;
  told = ap round_end.Late (at ∙ ap (λ (j : Job). j.pid) (sym of));
  lines = taken_lines above d job old mid new (line (Perform (Commit d)) (Err (Refused (OfProcesses Stale)))) of lists is;
}

pub works_late : (job : Job) (d : Done) (accepted : Bool) (old new : SeatState) → d.job ≡ job → accepted ≡ false → Commits d accepted old new → Works job (round_end.Late job.pid) old new
works_late job d accepted old new of it put = (refl, (d, of, subst (λ (b : Bool). Commits d b old new) it put))

pub works_in_time : (job : Job) (d : Done) (accepted : Bool) (old new : SeatState) → d.job ≡ job → accepted ≡ true → Commits d accepted old new → Works job (round_end.Committed job.pid) old new
works_in_time job d accepted old new of it put = (refl, (d, of, subst (λ (b : Bool). Commits d b old new) it put))
