-- One more entry is given: of the first run, or the last one of it.
use Rattle.std.proofs.Common.{◌+◌, ◌∷◌, ◌∙◌, List, drop, arith, subst, sym, ap}
use Rattle.entry_lists.specs.Entries.{HasLeft, written_out}
use Rattle.entry_lists.specs.declared.entries.Run.{Run}
use Rattle.entry_lists.proofs.Left.{last-of, next-of, rest-begun}
use Rattle.entry_lists.proofs.written_out.WrittenOut.next.Goals as goal
use Rattle.entry_lists.proofs.written_out.WrittenOut.next.Goals.{then-self-count, else-self-count}

pub overflow_add-self : goal.overflow_add-self
overflow_add-self g c =
    let has = subst (λ (rs : List (Run g.row.E.Denot)). HasLeft c.self.inside.given rs) c.in_ok-first.ensures.cases.0 c.self.invariant in
    record { fits = omega (arith, has.0) }

pub invariant_of-self : goal.invariant_of-self
invariant_of-self g c =
    let has = subst (λ (rs : List (Run g.row.E.Denot)). HasLeft c.self.inside.given rs) c.in_ok-first.ensures.cases.0 c.self.invariant in
    rest-begun c.self.inside.given c.in_ok-first.first.now c.in_ok-first.rest.now has

pub returns : goal.returns
returns g c =
    let first = c.in_ok-first.first.now in
    let rest = c.in_ok-first.rest.now in
    let given = c.self.inside.given in
    let has = subst (λ (rs : List (Run g.row.E.Denot)). HasLeft given rs) c.in_ok-first.ensures.cases.0 c.self.invariant in
    let at = sym c.self.view_is ∙ ap (λ rs. drop given (written_out rs)) c.in_ok-first.ensures.cases.0 in
    elim c.if-self-count.branch [
      | then-self-count w ↦ at ∙ last-of given first rest w.if-self-count.true ∙ ap (λ es. first.entry ∷ es) (sym w.self-is)
      | else-self-count w ↦ at ∙ next-of given first rest has.0 ∙ ap (λ es. first.entry ∷ es) (sym (w.self-is ∙ ap (λ rs. drop (given + 1) (written_out rs)) c.in_ok-first.ensures.cases.0))
    ]
