-- First the traffic before the way up, then both ways, then the states after both, and then the boot.
use Rattle.std.proofs.Common.{◌⊎◌, List, [], sym, subst}
use Rattle.upgrade_review.proofs.Adding.{adds_both, from_nothing, none_twice}
use Rattle.upgrade_review.specs.Findings.{AreDifferent}
use Rattle.upgrade_review.specs.Gathering.{Adds}
use Rattle.rehearsals.specs.Observing.{IsObserved, IsOnBoot, IsOnReturn, IsOnWays, IsServedBadly}
use Rattle.rehearsals.specs.declared.happening.Happening.{Happening}
use Rattle.rehearsals.specs.declared.observing.Moment.TheVariants.{Before}
use Rattle.rehearsals.specs.declared.observing.Observation.{Observation}
use Rattle.rehearsals.proofs.observing.observe.Goals as goal

pub returns-clause-observed : goal.returns-clause-observed
returns-clause-observed c =
    let r = c.args.rehearsal.now in
    let none = c.new-found.result.items in
    let served = c.note_served.new.found.items in
    let gone = c.note_ways.new.found.items in
    let back = c.note_return.new.found.items in
    let new = c.note_boot.new.found.items in
    let first : Adds (IsServedBadly Before [] r.happened) none served =
    subst (λ (hs : List Happening). Adds (IsServedBadly Before [] hs) none served) c.as_slice-first.ensures c.in_ok-note_served.ensures in
    let ways : Adds (IsOnWays r.happened r) served gone =
    subst (λ (hs : List Happening). Adds (IsOnWays hs r) served gone) c.as_slice-first.ensures c.in_ok-note_ways.ensures in
    let last = adds_both (IsOnReturn r.before r.returned) (IsOnBoot r.boot) gone back new c.in_ok-note_return.ensures
    c.in_ok-note_boot.ensures in
    let rest = adds_both (IsOnWays r.happened r) (λ o. IsOnReturn r.before r.returned o ⊎ IsOnBoot r.boot o) served gone new ways last in
    let all : Adds (IsObserved r) none new =
    adds_both (IsServedBadly Before [] r.happened) (λ o. IsOnWays r.happened r o ⊎ (IsOnReturn r.before r.returned o ⊎ IsOnBoot r.boot o))
    none served new first rest in
    from_nothing (IsObserved r) new (subst (λ (old : List Observation). Adds (IsObserved r) old new) c.new-found.ensures.items all)

pub returns-clause-once : goal.returns-clause-once
returns-clause-once c =
    c.in_ok-note_boot.ensures.once (c.in_ok-note_return.ensures.once (c.in_ok-note_ways.ensures.once (c.in_ok-note_served.ensures.once
    (subst (λ (old : List Observation). AreDifferent old) (sym c.new-found.ensures.items) none_twice))))
