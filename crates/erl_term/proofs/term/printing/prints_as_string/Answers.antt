-- Two rows are a string where one at least has terms, and all are printable.
use Rattle.std.proofs.Common.{is_some, ◌&&◌, ap, sym, ◌∙◌}
use Rattle.std.proofs.lemmas.Bool.{eqb-true}
use Rattle.erl_term.specs.Term.{trees}
use Rattle.erl_term.specs.Text.{printable}
use Rattle.erl_term.proofs.StringTexts.{front-string, back-string, some-terms}
use Rattle.erl_term.proofs.term.printing.prints_as_string.Goals as goal

pub returns-then-not-is_empty : goal.returns-then-not-is_empty
returns-then-not-is_empty c =
    let back = c.args.back.now in
    c.is_printable.ensures ∙ back-string c.args.front.now back (eqb-true _ _ (sym c.is_empty.ensures ∙ c.if-is_empty.true)) (some-terms back (sym c.is_empty-then-is_empty.ensures ∙ c.if-not-is_empty.true))

pub returns-then-is_printable : goal.returns-then-is_printable
returns-then-is_printable c =
    let front = c.args.front.now in
    let back = c.args.back.now in
    c.is_printable-then-is_printable.ensures ∙ ap (λ b. b && is_some (printable (trees back))) (sym c.if-is_printable.true ∙ c.is_printable-2.ensures) ∙ front-string front back (some-terms front (sym c.is_empty.ensures ∙ c.if-is_empty.false))

pub returns-else-is_printable : goal.returns-else-is_printable
returns-else-is_printable c =
    let front = c.args.front.now in
    let back = c.args.back.now in
    c.if-is_printable.false ∙ ap (λ b. b && is_some (printable (trees back))) (sym c.if-is_printable.false ∙ c.is_printable-2.ensures) ∙ front-string front back (some-terms front (sym c.is_empty.ensures ∙ c.if-is_empty.false))
