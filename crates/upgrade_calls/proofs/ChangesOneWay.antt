-- Processes change in one way, or don't for one reason.
use Rattle.std.proofs.Common.{◌≡◌, inl, inr, List, [], ◌∷◌, ◌++◌, codes, map, Option, None, Some, sym, ap, subst, ◌∙◌}
use Rattle.callback_lang.proofs.Evaluated.{evaluates-once}
use Rattle.callback_lang.specs.Returns.{ChangeReturn, new_state, unchanged}
use Rattle.erl_semantics.specs.State.{plain}
use Rattle.erl_semantics.specs.Views.{instance}
use Rattle.erl_semantics.specs.declared.acts.Place.{Place}
use Rattle.erl_semantics.specs.declared.acts.Place.TheVariants.{Server, Loop}
use Rattle.erl_semantics.specs.declared.instance.Instance.{Instance}
use Rattle.erl_semantics.specs.declared.outcome.Outcome.{Outcome}
use Rattle.erl_term.specs.Term.{term_of, term_of-tree, tree}
use Rattle.erl_term.specs.Tree.{none, more}
use Rattle.erl_term.specs.declared.term.Term.{Term}
use Rattle.process_effects.specs.declared.told.Reply.{Reply}
use Rattle.process_store.specs.Table.{Table, living}
use Rattle.process_store.specs.declared.living.ProcessEntry.{ProcessEntry}
use Rattle.upgrade_calls.specs.Changing.{AllChange, Changes, FailsToChange, FirstUnchanged, Gives, GivesAt, after_change, change_told, return_of}
use Rattle.upgrade_calls.specs.Laws.{ChangesOneWay}
use Rattle.upgrade_calls.specs.declared.changing.CodeChangeCall.{CodeChangeCall}
use Rattle.upgrade_calls.specs.declared.changing.ChangeFailed.{ChangeFailed}

same_tree : (a b : Term) → tree a ≡ tree b → a ≡ b
same_tree a b same = sym (term_of-tree a) ∙ ap term_of same ∙ term_of-tree b

-- one process

gives_at-once : (code : List Instance) (c : CodeChangeCall) (at : Place) (o p : Outcome) → GivesAt code c at o → GivesAt code c at p → o ≡ p
gives_at-once code c (Server m s) o p first second =
    evaluates-once (record { code = map instance code; pid = c.pid; mode = plain }) m (codes "code_change") (more (tree c.vsn) (more (tree s) (more (tree c.extra) none))) o p first second
gives_at-once code c (Loop m serial f args) o p first second = absurd first

gives-once : (code : List Instance) (c : CodeChangeCall) (l : Option ProcessEntry) (o p : Outcome) → Gives code c l o → Gives code c l p → o ≡ p
gives-once code c None o p first second = absurd first
gives-once code c (Some l) o p first second = gives_at-once code c l.process.place o p first second

one_state : (r : ChangeReturn) (a b : Term) → r ≡ new_state (tree a) → r ≡ new_state (tree b) → a ≡ b
one_state r a b first second =
    let both : new_state (tree a) ≡ new_state (tree b) = sym first ∙ second in
    let same : tree a ≡ tree b = cc in
    same_tree a b same

one_reason : (r : ChangeReturn) (a b : Term) → r ≡ unchanged (tree a) → r ≡ unchanged (tree b) → a ≡ b
one_reason r a b first second =
    let both : unchanged (tree a) ≡ unchanged (tree b) = sym first ∙ second in
    let same : tree a ≡ tree b = cc in
    same_tree a b same

no_reason : (r : ChangeReturn) (a b : Term) → r ≡ new_state (tree a) → r ≡ unchanged (tree b) → ⊥
no_reason r a b first second =
    let both : new_state (tree a) ≡ unchanged (tree b) = sym first ∙ second in
    cc

module _ (code : List Instance) (c : CodeChangeCall) (t : Table) where
  one_outcome : (o p : Outcome) (state other : Term) → Changes code c t o state → Changes code c t p other → (o ≡ p) × (state ≡ other)
  one_outcome o p state other first second =
      let same = gives-once code c (living c.pid t) o p first.gives second.gives in
      (same, one_state (return_of p) state other (subst (λ (x : Outcome). return_of x ≡ new_state (tree state)) same first.returns) second.returns)

  one_failure : (reason other : Term) → FailsToChange code c t reason → FailsToChange code c t other → reason ≡ other
  one_failure reason other first second =
      let same = gives-once code c (living c.pid t) first.outcome second.outcome first.gives second.gives in
      one_reason (return_of second.outcome) reason other (subst (λ (x : Outcome). return_of x ≡ unchanged (tree reason)) same first.returns) second.returns

  not_both : (o : Outcome) (state reason : Term) → Changes code c t o state → FailsToChange code c t reason → ⊥
  not_both o state reason changes fails =
      let same = gives-once code c (living c.pid t) o fails.outcome changes.gives fails.gives in
      no_reason (return_of fails.outcome) state reason (subst (λ (x : Outcome). return_of x ≡ new_state (tree state)) same changes.returns) fails.returns

-- several

changes-once : (code : List Instance) (cs : List CodeChangeCall) (t after last : Table) (told said : List Reply) → AllChange code cs t after told → AllChange code cs t last said → (after ≡ last) × (told ≡ said)
changes-once code [] t after last told said first second = (first.0 ∙ sym second.0, first.1 ∙ sym second.1)
changes-once code (c ∷ cs) t after last told said (o, state, others, changes, rest, tells) (p, other, fewer, changes_too, rest_too, says) =
    let same = one_outcome code c t o p state other changes changes_too in
    let there : AllChange code cs (after_change code c p other t) after others = subst (λ (x : Outcome). AllChange code cs (after_change code c x other t) after others) same.0 (subst (λ (s : Term). AllChange code cs (after_change code c o s t) after others) same.1 rest) in
    let behind = changes-once code cs (after_change code c p other t) after last others fewer there rest_too in
    (behind.0, tells ∙ (λ i. change_told code c (same.0 i) (same.1 i) t ++ behind.1 i) ∙ sym says)

same_failed : (one other : ChangeFailed) → one.pid ≡ other.pid → one.reason ≡ other.reason → one ≡ other
same_failed one other pid reason = λ i. record { pid = pid i; reason = reason i }

fails-once : (code : List Instance) (cs : List CodeChangeCall) (t : Table) (one other : ChangeFailed) → FirstUnchanged code cs t one → FirstUnchanged code cs t other → one ≡ other
fails-once code [] t one other first second = absurd first
fails-once code (c ∷ cs) t one other (inl first) (inl second) =
    same_failed one other (first.0 ∙ sym second.0) (one_failure code c t one.reason other.reason first.1 second.1)
fails-once code (c ∷ cs) t one other (inl first) (inr (p, state, changes, later)) = absurd (not_both code c t p state one.reason changes first.1)
fails-once code (c ∷ cs) t one other (inr (o, state, changes, later)) (inl second) = absurd (not_both code c t o state other.reason changes second.1)
fails-once code (c ∷ cs) t one other (inr (o, state, changes, later)) (inr (p, next, changes_too, later_too)) =
    let same = one_outcome code c t o p state next changes changes_too in
    let there : FirstUnchanged code cs (after_change code c p next t) one = subst (λ (x : Outcome). FirstUnchanged code cs (after_change code c x next t) one) same.0 (subst (λ (s : Term). FirstUnchanged code cs (after_change code c o s t) one) same.1 later) in
    fails-once code cs (after_change code c p next t) one other there later_too

changes_or_fails : (code : List Instance) (cs : List CodeChangeCall) (t after : Table) (told : List Reply) (failed : ChangeFailed) → AllChange code cs t after told → FirstUnchanged code cs t failed → ⊥
changes_or_fails code [] t after told failed all fails = fails
changes_or_fails code (c ∷ cs) t after told failed (o, state, others, changes, rest, tells) (inl first) = not_both code c t o state failed.reason changes first.1
changes_or_fails code (c ∷ cs) t after told failed (o, state, others, changes, rest, tells) (inr (p, next, changes_too, later)) =
    let same = one_outcome code c t o p state next changes changes_too in
    let there : AllChange code cs (after_change code c p next t) after others = subst (λ (x : Outcome). AllChange code cs (after_change code c x next t) after others) same.0 (subst (λ (s : Term). AllChange code cs (after_change code c o s t) after others) same.1 rest) in
    changes_or_fails code cs (after_change code c p next t) after others failed there later

pub changes_one_way : ChangesOneWay
changes_one_way = record { changes = changes-once; fails = fails-once; never_both = changes_or_fails }
