-- Children start in one way, or the first that fails does so for one reason.
use Rattle.std.proofs.Common.{◌≡◌, ℕ, List, [], ◌∷◌, ◌++◌, inl, inr, refl, sym, ap, subst, ◌∙◌, map}
use Rattle.std.proofs.lemmas.Option.{none-some, same_Some}
use Rattle.child_specs.specs.declared.child.ChildSpec.{ChildSpec}
use Rattle.callback_lang.proofs.Evaluated.{evaluates-once}
use Rattle.sys_protocol.specs.ChildStarts.{AllStart, Fails, FirstFails, Gives, StartsChild, after_start, start_told}
use Rattle.sys_protocol.specs.ChildFaults.{StartFails}
use Rattle.sys_protocol.specs.Laws.{ChildrenStartOneWay}
use Rattle.sys_protocol.specs.StartResults.{start_fault}
use Rattle.sys_protocol.specs.declared.start_failed.StartFailed.{StartFailed}
use Rattle.erl_semantics.specs.State.{start_mode}
use Rattle.erl_semantics.specs.declared.outcome.Outcome.{Outcome}
use Rattle.erl_semantics.specs.Views.{instance}
use Rattle.erl_semantics.specs.declared.instance.Instance.{Instance}
use Rattle.erl_term.specs.declared.term.Term.{Term}
use Rattle.process_effects.specs.declared.told.Reply.{Reply}
use Rattle.process_store.specs.Table.{Table, next_pid}

-- one child

pub gives-once : (code : List Instance) (c : ChildSpec) (t : Table) (o p : Outcome) → Gives code c t o → Gives code c t p → o ≡ p
gives-once code c t o p first second =
    evaluates-once (record { code = map instance code; pid = next_pid t; mode = start_mode }) c.name c.function c.arguments o p first second

pub fails-once : (code : List Instance) (c : ChildSpec) (t : Table) (one other : Term) → Fails code c t one → Fails code c t other → one ≡ other
fails-once code c t one other first second =
    same_Some one other (sym first.faulty ∙ ap (λ o. start_fault (next_pid t) o t) (gives-once code c t first.outcome second.outcome first.gives second.gives) ∙ second.faulty)

pub never_starts : (code : List Instance) (c : ChildSpec) (t : Table) (o : Outcome) (reason : Term) → StartsChild code c t o → Fails code c t reason → ⊥
never_starts code c t o reason starts fails =
    none-some reason (sym starts.faultless ∙ ap (λ p. start_fault (next_pid t) p t) (gives-once code c t o fails.outcome starts.gives fails.gives) ∙ fails.faulty)

-- several

all_start-once : (code : List Instance) (cs : List ChildSpec) (t after last : Table) (pids others : List ℕ) (told said : List Reply) → AllStart code cs t pids after told → AllStart code cs t others last said → (pids ≡ others) × (after ≡ last) × (told ≡ said)
all_start-once code [] t after last [] [] told said first second = (refl, first.0 ∙ sym second.0, first.1 ∙ sym second.1)
all_start-once code [] t after last [] (q ∷ others) told said first second = absurd second
all_start-once code [] t after last (p ∷ pids) others told said first second = absurd first
all_start-once code (c ∷ cs) t after last [] others told said first second = absurd first
all_start-once code (c ∷ cs) t after last (p ∷ pids) [] told said first second = absurd second
all_start-once code (c ∷ cs) t after last (p ∷ pids) (q ∷ others) told said (is, (o, more, starts, rest, tells)) (also, (u, fewer, begins, end, says)) =
    let same = gives-once code c t o u starts.gives begins.gives in
    let here = is ∙ sym also in
    let behind = all_start-once code cs (after_start code u t) after last pids others more fewer (subst (λ (x : Outcome). AllStart code cs (after_start code x t) pids after more) same rest) end in
    ((λ i. here i ∷ behind.0 i), behind.1, tells ∙ (λ i. start_told code (same i) t ++ behind.2 i) ∙ sym says)

first_fails-once : (code : List Instance) (cs : List ChildSpec) (t : Table) (one other : ChildSpec) (reason why : Term) → FirstFails code cs t one reason → FirstFails code cs t other why → (one ≡ other) × (reason ≡ why)
first_fails-once code [] t one other reason why first second = absurd first
first_fails-once code (c ∷ cs) t one other reason why (inl x) (inl y) = (x.0 ∙ sym y.0, fails-once code c t reason why x.1 y.1)
first_fails-once code (c ∷ cs) t one other reason why (inl x) (inr (u, begins, end)) = absurd (never_starts code c t u reason begins x.1)
first_fails-once code (c ∷ cs) t one other reason why (inr (o, starts, rest)) (inl y) = absurd (never_starts code c t o why starts y.1)
first_fails-once code (c ∷ cs) t one other reason why (inr (o, starts, rest)) (inr (u, begins, end)) =
    let same = gives-once code c t o u starts.gives begins.gives in
    first_fails-once code cs (after_start code u t) one other reason why (subst (λ (x : Outcome). FirstFails code cs (after_start code x t) one reason) same rest) end

never_both : (code : List Instance) (cs : List ChildSpec) (t : Table) (pids : List ℕ) (after : Table) (told : List Reply) (failed : ChildSpec) (reason : Term) → AllStart code cs t pids after told → FirstFails code cs t failed reason → ⊥
never_both code [] t pids after told failed reason all fails = fails
never_both code (c ∷ cs) t [] after told failed reason all fails = all
never_both code (c ∷ cs) t (p ∷ pids) after told failed reason (is, (o, others, starts, rest, tells)) (inl here) = never_starts code c t o reason starts here.1
never_both code (c ∷ cs) t (p ∷ pids) after told failed reason (is, (o, others, starts, rest, tells)) (inr (u, begins, end)) =
    let same = gives-once code c t u o begins.gives starts.gives in
    never_both code cs (after_start code o t) pids after others failed reason rest (subst (λ (x : Outcome). FirstFails code cs (after_start code x t) failed reason) same end)

one_error : (code : List Instance) (cs : List ChildSpec) (t : Table) (one other : StartFailed) → StartFails one code cs t → StartFails other code cs t → one ≡ other
one_error code cs t one other (c, is, fails) (d, also, fails_too) =
    let same = first_fails-once code cs t c d one.reason other.reason fails fails_too in
    let child = is ∙ ap (λ (x : ChildSpec). x.id) same.0 ∙ sym also in
    (λ i. record { child = child i; reason = same.1 i })

pub children_start_one_way : ChildrenStartOneWay
children_start_one_way = record {
  gives = gives-once;
  starts = all_start-once;
  fails = one_error;
  never_both = λ code cs t after pids told failed all fails. never_both code cs t pids after told fails.0 failed.reason all fails.2;
}
