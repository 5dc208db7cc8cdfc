-- A walk over a list from its end: it lends the items in reverse.
use Rattle.std.proofs.Common.{[], ◌∷◌, reverse, ap, ◌∙◌}
use Rattle.std.specs.Iterator.Adapters.{rev_source, rev_steps}
use Rattle.std.specs.Iterator.Runs.{EveryRun, ItemsMapTo}
use Rattle.std.specs.Slice.Iter.{iter_rest, iter_steps_back}
use Rattle.std.proofs.iter.runs.Sources.{from_front}
use Rattle.std.proofs.lemmas.List.{length-reverse, reverse-append}

pub lends_reversed : {X : Type 0} →
    EveryRun (rev_steps (iter_steps_back {A = X}))
    (λ run. ItemsMapTo run (λ it. it.now) (reverse (iter_rest (rev_source run.from))))
lends_reversed =
    from_front (rev_steps iter_steps_back) (λ it. it.now) (λ s. reverse (iter_rest (rev_source s)))
    (λ s t step. length-reverse (iter_rest (rev_source s)) ∙ step.0)
    (λ s it t step. ap reverse step ∙ reverse-append (iter_rest (rev_source t)) (it.now ∷ []))
