-- Each turn writes one item more.
use Rattle.std.proofs.Common.{ap, subst, ◌∙◌}
use Rattle.std.proofs.lemmas.List.Elements.{All-more}
use Rattle.erl_term.specs.Term.{trees}
use Rattle.erl_term.proofs.Written.{rows_more}
use Rattle.erl_term.proofs.conversions.RowToTerm.to_term.Goals as goal

pub loop-item-preserved : goal.loop-item-preserved
loop-item-preserved g c =
    let items = c.as_slice-items.result.now in
    let i = c.loop-item.item-index in
    let item = c.item-item.result in
    let holds = g.T.ToTerm.holds in
    let so_far = c.loop-item.invariant in
    let here = c.in_ok-to_term.ensures in
    record {
      written = ap trees c.in_ok-push.ensures.items ∙ rows_more g.T.ToTerm.writing items i item c.loop-item.terms.items _ c.loop-item-test.true c.item-item.is so_far.written here.written;
      kept = All-more holds items i item c.loop-item-test.true so_far.kept (subst holds c.item-item.is here.kept);
    }
