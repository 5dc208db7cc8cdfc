-- What the rules tell clients is told by answers, and then by reasons.
use Rattle.std.proofs.Common.{◌≡◌, ℕ, ◌≤◌, Result, Ok, Err, IfOk, All, List, [], ◌++◌, length, map, Option, None, Some, IfSome, IsSome, refl, sym, ap, ◌∙◌, arith}
use Rattle.std.proofs.lemmas.Bool.{true≢false}
use Rattle.std.proofs.lemmas.List.{append-nil}
use Rattle.erl_term.specs.declared.term.Term.{Term}
use Rattle.erl_semantics.specs.declared.acts.Act.{Act}
use Rattle.process_effects.proofs.Leaving.{count_of, fewer_calls}
use Rattle.process_effects.proofs.OwnMessages.{calls_at, ended_calls}
use Rattle.process_effects.proofs.Parting.{parted_told}
use Rattle.process_effects.specs.Acts.{acts_done, acts_told}
use Rattle.process_effects.specs.Exits.{exit_told}
use Rattle.process_effects.specs.Parted.{acts_sent, all_answered, answers_of, answers_told}
use Rattle.process_effects.specs.declared.answers.Answer.{Answer}
use Rattle.process_effects.specs.Told.{down, downs, killed}
use Rattle.process_index.specs.declared.calls.Call.{Call}
use Rattle.process_store.specs.declared.living.ProcessEntry.{ProcessEntry}
use Rattle.process_store.specs.Table.{Table, living}
use Rattle.process_effects.specs.Telling.{IsToldBy}

-- Answers alone.

pub by_answers : (answers : List Answer) (t : Table) → IsToldBy answers [] (answers_told answers t)
by_answers answers t = record {
  table = t;
  calls = [];
  reason = killed;
  tells = sym (append-nil (answers_told answers t));
  enough = omega arith;
  same = λ i d within. absurd (omega (arith, within));
}

pub by_rest : (acts : List Act) (t : Table) → IsToldBy (answers_of acts) [] (acts_told acts t)
by_rest acts t = record {
  table = acts_sent None acts t;
  calls = [];
  reason = killed;
  tells = parted_told acts t ∙ sym (append-nil (answers_told (answers_of acts) (acts_sent None acts t)));
  enough = omega arith;
  same = λ i d within. absurd (omega (arith, within));
}

-- Answers, and then a reason for each open call.

abbrev calls_in : Option ProcessEntry → List Call
calls_in None = []
calls_in (Some l) = l.calls

downs_are : (reason : Term) (o : Option ProcessEntry) → downs reason o ≡ map (down reason) (calls_in o)
downs_are reason None = refl
downs_are reason (Some l) = refl

abbrev many_in : Option (List Call) → ℕ
many_in None = 0
many_in (Some cs) = length cs

many_at : (o : Option ProcessEntry) → many_in (calls_at o) ≡ length (calls_in o)
many_at None = refl
many_at (Some l) = refl

counted : (o : Option ProcessEntry) → count_of o ≡ many_in (calls_at o)
counted None = refl
counted (Some l) = refl

as_many : (o : Option ProcessEntry) (n : ℕ) → IsSome o → IfSome o (λ l. length l.calls ≡ n) → count_of o ≡ n
as_many None n some all = absurd (true≢false (sym some))
as_many (Some l) n some all = all

pub by_exit : (pid : ℕ) (reason : Term) (acts : List Act) (t : Table) (reasons : List Term) (n : ℕ) → IsSome (living pid t) → All (λ r. r ≡ reason) reasons → IfSome (living pid t) (λ l. length l.calls ≡ n) → length reasons ≡ n → IsToldBy (answers_of acts) reasons (exit_told pid reason acts t)
by_exit pid reason acts t reasons n lives same all long =
    let mid = living pid (all_answered (answers_of acts) (acts_sent (Some pid) acts t)) in
    let end = living pid (acts_done acts t) in
    let fewer : count_of mid ≤ count_of (living pid t) = fewer_calls pid acts (answers_of acts) t in
    let there : count_of mid ≡ length (calls_in end) = counted mid ∙ ap many_in (ended_calls pid acts t) ∙ many_at end in
    let many = as_many (living pid t) n lives all in
    record {
      table = acts_sent None acts t;
      calls = calls_in end;
      reason = reason;
      tells = λ i. parted_told acts t i ++ downs_are reason end i;
      enough = omega (arith, fewer, there, many, long);
      same = same;
    }

-- What holds of what is handed out.
pub if_ok : {A E : Type 0} (P Q : A → Type 0) (r : Result A E) → ((x : A) → P x → Q x) → IfOk r P → IfOk r Q
if_ok P Q (Ok a) then holds = then a holds
if_ok P Q (Err e) then holds = tt
