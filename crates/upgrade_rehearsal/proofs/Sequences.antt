-- What happens one more time.
use Rattle.std.proofs.Common.{◌≡◌, ◌∙◌, List, [], ◌∷◌, ◌++◌, refl, sym, ap, subst}
use Rattle.std.proofs.lemmas.List.{append-nil, append_assoc}
use Rattle.upgrade_rehearsal.specs.Sequences.{Goes, InTurn}

module _ {S M X : Type 0} (R : X → Goes S M) where
  -- once more after nothing
  alone : (x : X) (old between new : S) (sent more : List M) → (between ≡ old) × (sent ≡ []) → R x between more new →
      InTurn R (x ∷ []) old (sent ++ more) new
  alone x old between new sent more none one = record {
    between = new;
    before = more;
    first = subst (λ s. R x s more new) none.0 one;
    behind = [];
    second = (refl, refl);
    all = ap (λ ms. ms ++ more) none.1 ∙ sym (append-nil more);
  }

  pub once_more : (xs : List X) (x : X) (old between new : S) (sent more : List M) → InTurn R xs old sent between →
      R x between more new → InTurn R (xs ++ x ∷ []) old (sent ++ more) new
  once_more [] x old between new sent more so_far one = alone x old between new sent more so_far one
  once_more (y ∷ ys) x old between new sent more so_far one = record {
    between = so_far.between;
    before = so_far.before;
    first = so_far.first;
    behind = so_far.behind ++ more;
    second = once_more ys x so_far.between between new so_far.behind more so_far.second one;
    all = ap (λ ms. ms ++ more) so_far.all ∙ append_assoc so_far.before so_far.behind more;
  }
