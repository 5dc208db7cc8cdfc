-- What is told of both rows is told of them together.
use Rattle.std.proofs.Common.{◌≡◌, ◌-◌, ◌++◌, IfOk, drop, refl, sym, ap, ◌∙◌, subst}
use Rattle.erl_term.specs.Parts.{IsPart, HasExtent}
use Rattle.erl_term.specs.Rows.{append_trees}
use Rattle.erl_term.specs.Stored.{listed}
use Rattle.erl_term.specs.Term.{trees}
use Rattle.erl_term.proofs.Parts.{told_part, trees_append}
use Rattle.erl_term.proofs.term.Terms.joined.Goals as goal

pub row_of-requires : goal.row_of-requires
row_of-requires c =
    let row = c.deref-row.result.now in
    let from = c.back.inside.from in
    let front = c.args.front.now in
    let part = subst (λ r. IsPart (listed r.items) r.depth r.last r.size from c.back.inside.hidden) (sym c.deref-row.ensures) c.back.invariant in
    let behind = told_part (listed row.items) row.depth row.last row.size from c.back.inside.hidden part in
    let hidden = subst (λ n. HasExtent (drop from (listed row.items)) row.depth (row.last - from) (row.size - n)) (sym c.from-2.ensures) behind in
    let all_told = subst (λ d. HasExtent (drop from (listed row.items)) d (row.last - from) (row.size - c.from-2.result)) (sym c.from.ensures) hidden in
    let told = c.then-told.ensures front (drop from (listed row.items)) refl c.told_of.ensures all_told in
    let items : c.in_ok-copies.field-0.items ≡ front ++ drop from (listed row.items) = c.in_ok-copies.ensures ∙ ap (λ ys. front ++ ys) (c.seen-back_terms.ensures ∙ ap (λ ys. drop from ys) c.as_slice.ensures.value) in
    subst (λ it. HasExtent it c.then-told.result.depth c.then-told.result.last c.then-told.result.size) (sym items) told

pub returns : goal.returns
returns c =
    let row = c.deref-row.result.now in
    let from = c.back.inside.from in
    let front = c.args.front.now in
    let items : c.in_ok-copies.field-0.items ≡ front ++ drop from (listed row.items) = c.in_ok-copies.ensures ∙ ap (λ ys. front ++ ys) (c.seen-back_terms.ensures ∙ ap (λ ys. drop from ys) c.as_slice.ensures.value) in
    let seen : trees (drop from (listed row.items)) ≡ c.args.back.now = ap (λ r. trees (drop from (listed r.items))) c.deref-row.ensures ∙ c.back.view_is in
    let all = ap trees items ∙ trees_append front (drop from (listed row.items)) ∙ ap (λ ts. append_trees (trees front) ts) seen in
    subst (λ ts. IfOk c.row_of.result (λ it. it ≡ ts)) all c.row_of.ensures
