use Rattle.std.proofs.Common.{◌≡◌, ◌<◌, ◌+◌, ◌++◌, ◌∷◌, [], ℕ, List, length, take, get_or, set, arith, sym, ap, ◌∙◌, subst}
use Rattle.std.proofs.lemmas.List.{take_more}
use Rattle.dependency_order.specs.Lists.{IsEntered, ends_with, row}
use Rattle.dependency_order.proofs.Entering.{enter_left, enter_pushed}
use Rattle.dependency_order.proofs.relation.enter.Goals as goal
use Rattle.dependency_order.proofs.relation.enter.Goals.{else-not-ends_with, then-not-ends_with+in_ok-push}

pub loop-number-preserved : goal.loop-number-preserved
loop-number-preserved c =
    let old = c.args.lists.now in
    let now = c.loop-number.lists in
    let ks = c.args.numbers.now in
    let i = c.loop-number.number-index in
    let x = get_or ks i 0 in
    let item = c.args.item in
    let below : i < length ks = omega arith in
    let known = c.requires.known i 0 below in
    let is = c.loop-number.invariant in
    let ends : c.ends_with.result ≡ ends_with (row now x) item = c.ends_with.ensures ∙ ap (λ xs. ends_with xs item) c.at.ensures in
    let P : List ℕ → List (List ℕ) → Type 0 = λ ys new. IsEntered old new ys item in
    elim c.if-not-ends_with.branch [
      | then-not-ends_with+in_ok-push w ↦
          let done = enter_pushed old now (take i ks) x item known is (sym ends ∙ w.if-not-ends_with.true) in
          subst (λ (new : List (List ℕ)). P (take (i + 1) ks) new) (sym (w.lists-is ∙ w.in_ok-push.ensures)) (subst (λ (ys : List ℕ). P ys (set now x (row now x ++ item ∷ []))) (sym (take_more ks i 0 below)) done)
      | else-not-ends_with w ↦
          let done = enter_left old now (take i ks) x item known c.requires.new is (sym ends ∙ w.if-not-ends_with.false) in
          subst (λ (new : List (List ℕ)). P (take (i + 1) ks) new) (sym w.lists-is) (subst (λ (ys : List ℕ). P ys now) (sym (take_more ks i 0 below)) done)
    ]
