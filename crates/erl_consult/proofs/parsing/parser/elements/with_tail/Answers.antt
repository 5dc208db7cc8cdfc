-- The tail's elements stand behind the others, and the other way round before them.
use Rattle.std.proofs.Common.{Some, ap, ◌∙◌}
use Rattle.std.specs.Option.{option_map}
use Rattle.erl_term.specs.Rows.{append_trees}
use Rattle.erl_term.specs.Term.{trees}
use Rattle.erl_consult.proofs.Stepping.{trees-backwards}
use Rattle.erl_consult.proofs.parsing.parser.elements.with_tail.Goals as goal

pub returns-in-Ok : goal.returns-in-Ok
returns-in-Ok c =
    ap (λ o. option_map (append_trees (trees c.args.items.items)) o) c.in_ok-backwards.ensures ∙ ap Some (trees-backwards c.args.items.items c.in_ok-backwards.backwards.items c.turned.result.items c.in-Ok.all.items c.turned.ensures c.in-Ok.ensures)
