-- A process that ends: it is others it was, but for calls that are closed, and its open calls are told.
use Rattle.std.proofs.Common.{◌≡◌, ℕ, zero, suc, ◌+◌, ◌≤◌, true, false, cond, nat_eq, All, List, [], ◌∷◌, ◌++◌, get_or, length, map, Option, None, Some, IfSome, IsSome, refl, sym, ap, subst, ◌∙◌, arith}
use Rattle.std.proofs.lemmas.Bool.{eq-eqb, true≢false}
use Rattle.std.proofs.lemmas.Option.{none-some, same_Some}
use Rattle.std.proofs.lemmas.List.{append_assoc, get_or_push, length_push}
use Rattle.erl_ir.specs.Module.{Forms}
use Rattle.code_server.specs.Modules.{IsModuleTable, Table as Loaded}
use Rattle.erl_term.specs.declared.term.Term.{Term}
use Rattle.erl_semantics.specs.declared.acts.Act.{Act}
use Rattle.erl_semantics.specs.declared.acts.Act.TheVariants as act
use Rattle.process.proofs.Living.{ended_processes_live}
use Rattle.process.specs.Ended.{ended, ended_with, lives}
use Rattle.process.specs.Process.{ProcessState}
use Rattle.process.specs.declared.process.ending.CodeRefs.{CodeRefs}
use Rattle.process_effects.proofs.Commuting.{read_kept}
use Rattle.process_effects.proofs.OwnMessages.{calls_at}
use Rattle.process_effects.proofs.Reopening.{returned_reopens}
use Rattle.process_effects.proofs.Ends.{ended_fits}
use Rattle.process_effects.specs.Acts.{answered, closed_at, receiver_of, sent}
use Rattle.process_effects.specs.Exits.{CanUnexit, unexited}
use Rattle.process_effects.specs.Parted.{AllReopen, acts_sent, all_answered, all_reopened, all_unsent, other_than}
use Rattle.process_effects.specs.declared.answers.Closed.{Closed}
use Rattle.process_effects.specs.Ends.{AllStand, Stands, ended_as, returned, with_returned}
use Rattle.process_store.specs.Vacating.{CanReturn, occupied}
use Rattle.process_effects.specs.declared.answers.Answer.{Answer}
use Rattle.process_effects.specs.Told.{down, downs}
use Rattle.process_effects.specs.declared.told.Reply.{Reply}
use Rattle.process_index.specs.Calls.{is_same, without}
use Rattle.process_index.specs.declared.calls.Call.{Call}
use Rattle.process_store.proofs.Slots.{living_elsewhere}
use Rattle.process_store.specs.Changes.{closed_living, owner_of}
use Rattle.process_store.specs.Living.{arrived}
use Rattle.process_store.specs.Table.{Table, changed_slots, living, living_at}
use Rattle.process_store.specs.declared.living.ProcessEntry.{ProcessEntry}

-- what is told of open calls depends on them alone
pub downs_by_calls : (reason : Term) (o p : Option ProcessEntry) → calls_at o ≡ calls_at p → downs reason o ≡ downs reason p
downs_by_calls reason None None same = refl
downs_by_calls reason None (Some l) same = absurd (none-some l.calls same)
downs_by_calls reason (Some k) None same = absurd (none-some k.calls (sym same))
downs_by_calls reason (Some k) (Some l) same = ap (map (down reason)) (same_Some k.calls l.calls same)

-- The process itself is others it was.

abbrev pub process_of : Option ProcessEntry → Option ProcessState
process_of None = None
process_of (Some l) = Some l.process

closed_process : (o : Option (ℕ × Call)) (t : Table) (p : ℕ) → process_of (living p (closed_at o t)) ≡ process_of (living p t)
closed_process None t p = refl
closed_process (Some it) t p = read_kept process_of (closed_living it.1) (λ l. refl) t.slots it.0 p

answered_process : (others : List Answer) (t : Table) (p : ℕ) → process_of (living p (all_answered others t)) ≡ process_of (living p t)
answered_process [] t p = refl
answered_process (a ∷ others) t p =
    answered_process others (answered a.number t) p ∙ closed_process (owner_of a.number t) t p

others_living : (pid : ℕ) (message : Term) (r : Option ℕ) (t : Table) → living pid (sent message (other_than (Some pid) r) t) ≡ living pid t
others_living pid message None t = refl
others_living pid message (Some q) t =
    elim (nat_eq q pid) as (λ b. nat_eq q pid ≡ b → living pid (sent message (cond b None (Some q)) t) ≡ living pid t) [
      | true ↦ λ e. refl
      | false ↦ λ e. living_elsewhere (arrived message None) t.slots q pid (λ same. true≢false (sym (eq-eqb q pid same) ∙ e))
    ] refl

pub spared_living : (pid : ℕ) (acts : List Act) (t : Table) → living pid (acts_sent (Some pid) acts t) ≡ living pid t
spared_living pid [] t = refl
spared_living pid (act.Send to message ∷ others) t =
    let r = receiver_of to t in
    spared_living pid others (sent message (other_than (Some pid) r) t) ∙ others_living pid message r t
spared_living pid (act.Reply n reply ∷ others) t = spared_living pid others t
spared_living pid (act.Start place ∷ others) t = spared_living pid others t
spared_living pid (act.Name name by_register ∷ others) t = spared_living pid others t

pub same_process : (pid : ℕ) (acts : List Act) (others : List Answer) (t : Table) → process_of (living pid (all_answered others (acts_sent (Some pid) acts t))) ≡ process_of (living pid t)
same_process pid acts others t =
    answered_process others (acts_sent (Some pid) acts t) pid ∙ ap process_of (spared_living pid acts t)

-- No call comes to it.

abbrev pub count_of : Option ProcessEntry → ℕ
count_of None = 0
count_of (Some l) = length l.calls

without_fewer : (c : Call) (cs : List Call) → length (without c cs) ≤ length cs
without_fewer c [] = omega arith
without_fewer c (d ∷ ds) =
    elim (is_same c d) as (λ b. length (cond b ds (d ∷ without c ds)) ≤ length (d ∷ ds)) [
      | true ↦ omega arith
      | false ↦ let fewer = without_fewer c ds in omega (arith, fewer)
    ]

closed_fewer_at : (c : Call) (slots : List (Option ProcessEntry)) (q p : ℕ) → count_of (living_at (changed_slots (closed_living c) q slots) p) ≤ count_of (living_at slots p)
closed_fewer_at c [] q p = omega arith
closed_fewer_at c (None ∷ ss) zero zero = omega arith
closed_fewer_at c (Some l ∷ ss) zero zero = without_fewer c l.calls
closed_fewer_at c (s ∷ ss) zero (suc p) = omega arith
closed_fewer_at c (s ∷ ss) (suc q) zero = omega arith
closed_fewer_at c (s ∷ ss) (suc q) (suc p) = closed_fewer_at c ss q p

closed_fewer : (o : Option (ℕ × Call)) (t : Table) (p : ℕ) → count_of (living p (closed_at o t)) ≤ count_of (living p t)
closed_fewer None t p = omega arith
closed_fewer (Some it) t p = closed_fewer_at it.1 t.slots it.0 p

answered_fewer : (others : List Answer) (t : Table) (p : ℕ) → count_of (living p (all_answered others t)) ≤ count_of (living p t)
answered_fewer [] t p = omega arith
answered_fewer (a ∷ others) t p =
    let first = closed_fewer (owner_of a.number t) t p in
    let others = answered_fewer others (answered a.number t) p in
    omega (arith, first, others)

pub fewer_calls : (pid : ℕ) (acts : List Act) (others : List Answer) (t : Table) → count_of (living pid (all_answered others (acts_sent (Some pid) acts t))) ≤ count_of (living pid t)
fewer_calls pid acts others t =
    let fewer = answered_fewer others (acts_sent (Some pid) acts t) pid in
    let same = ap count_of (spared_living pid acts t) in
    omega (arith, fewer, same)

-- The process lives until it leaves, and there are reasons for its calls.
module _ (pid : ℕ) (acts : List Act) (answers : List Answer) (t mid : Table) (is : mid ≡ all_answered answers (acts_sent (Some pid) acts t)) where
  process_here : process_of (living pid mid) ≡ process_of (living pid t)
  process_here = ap (λ x. process_of (living pid x)) is ∙ same_process pid acts answers t

  pub still_lives : IsSome (living pid t) → None ≡ living pid mid → ⊥
  still_lives lives gone =
      elim (living pid t) as (λ o. IsSome o → process_of (living pid mid) ≡ process_of o → ⊥) [
        | None ↦ λ some same. true≢false (sym some)
        | Some l ↦ λ some same. none-some l.process (ap process_of gone ∙ same)
      ] lives process_here

  pub enough_reasons : (l : ProcessEntry) (calls : List Call) (n : ℕ) → Some l ≡ living pid mid → calls ≡ l.calls → IsSome (living pid t) → IfSome (living pid t) (λ k. length k.calls ≡ n) → length calls ≤ n
  enough_reasons l calls n there same_calls lives counted =
      let fewer = fewer_calls pid acts answers t in
      let here : count_of (living pid (all_answered answers (acts_sent (Some pid) acts t))) ≡ length l.calls = ap (λ x. count_of (living pid x)) (sym is) ∙ ap count_of (sym there) in
      let counts : count_of (living pid t) ≡ n = elim (living pid t) as (λ o. IsSome o → IfSome o (λ k. length k.calls ≡ n) → count_of o ≡ n) [
        | None ↦ λ some all. absurd (true≢false (sym some))
        | Some k ↦ λ some all. all
      ] lives counted in
      let long = ap length same_calls in
      omega (arith, fewer, here, counts, long)

  -- and lives again where the instances that it used stand in the table of modules
  pub leaver_lives : (modules : Loaded Forms) (l : ProcessEntry) (told : CodeRefs) → Some l ≡ living pid mid → IsSome (living pid t) → IfSome (living pid t) (λ k. ended_with told.rests_in told.code k.process ≡ ended k.process) → IsModuleTable modules → AllStand modules t → lives modules (ended_with told.rests_in told.code l.process) ≡ Some l.process
  leaver_lives modules l told there some telling sound stand =
      elim (living pid t) as (λ o. IsSome o → IfSome o (λ k. ended_with told.rests_in told.code k.process ≡ ended k.process) → IfSome o (λ k. Stands modules k.process) → Some l.process ≡ process_of o → lives modules (ended_with told.rests_in told.code l.process) ≡ Some l.process) [
        | None ↦ λ here tells stands same. absurd (true≢false (sym here))
        | Some k ↦ λ here tells stands same.
            let one : l.process ≡ k.process = same_Some l.process k.process same in
            subst (λ p. lives modules (ended_with told.rests_in told.code p) ≡ Some p) (sym one) (ap (lives modules) tells ∙ ended_processes_live modules k.process sound stands.0 stands.1)
      ] some telling (stand pid) (ap process_of there ∙ process_here)

-- what takes it back
pub exited_back : (modules : Loaded Forms) (pid : ℕ) (t mid after : Table) (l : ProcessEntry) (told : CodeRefs) (receivers : List ℕ) (closed : List Closed) → lives modules (ended_with told.rests_in told.code l.process) ≡ Some l.process → occupied pid l after ≡ mid → all_unsent receivers (all_reopened closed mid) ≡ t → unexited modules (record { ended = ended_as pid told.rests_in told.code l; receivers = receivers; closed = closed }) after ≡ t
exited_back modules pid t mid after l told receivers closed alive back acted =
    let again : returned modules (ended_as pid told.rests_in told.code l) after ≡ mid = ap (λ o. with_returned o pid l.calls after) alive ∙ back in
    ap (λ x. all_unsent receivers (all_reopened closed x)) again ∙ acted

-- and that it can be asked for, over whatever table of modules
pub exited_fits : (modules : Loaded Forms) (pid : ℕ) (mid after : Table) (l : ProcessEntry) (told : CodeRefs) (receivers : List ℕ) (closed : List Closed) → CanReturn pid l after → occupied pid l after ≡ mid → AllReopen closed mid → CanUnexit modules (record { ended = ended_as pid told.rests_in told.code l; receivers = receivers; closed = closed }) after
exited_fits modules pid mid after l told receivers closed can back fits = (
  ended_fits modules after l (ended_with told.rests_in told.code l.process) pid refl refl can,
  returned_reopens modules pid told.rests_in told.code l after mid closed back fits,
)

-- What is told.

pub last_is : (xs ys : List Term) (x reason : Term) → ys ≡ xs ++ x ∷ [] → All (λ r. r ≡ reason) ys → x ≡ reason
last_is xs ys x reason is all =
    let long : length ys ≡ length xs + 1 = ap length is ∙ length_push xs x in
    sym (get_or_push xs x x (length xs) refl) ∙ ap (λ zs. get_or zs (length xs) x) (sym is) ∙ all (length xs) x (omega (arith, long))

pub told_next : (reasons rest : List Term) (before now told : List Reply) (c : Call) (cs : List Call) (x reason : Term) → reasons ≡ rest ++ x ∷ [] → All (λ r. r ≡ reason) reasons → now ≡ before ++ down x c ∷ [] → before ++ map (down reason) (c ∷ cs) ≡ told → now ++ map (down reason) cs ≡ told
told_next reasons rest before now told c cs x reason popped all pushed is =
    let same : x ≡ reason = last_is rest reasons x reason popped all in
    ap (λ ys. ys ++ map (down reason) cs) (pushed ∙ ap (λ r. before ++ down r c ∷ []) same) ∙ append_assoc before (down reason c ∷ []) (map (down reason) cs) ∙ is
