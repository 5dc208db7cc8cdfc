-- It is the next element.
use Rattle.std.proofs.Common.{◌++◌, ap, false, refl, sym, ◌∙◌}
use Rattle.std.specs.Option.{option_copied}
use Rattle.erl_term.specs.Term.{tree}
use Rattle.erl_term.specs.Text.{utf8}
use Rattle.erl_term.specs.Tree.{atom, more, none}
use Rattle.shell_answers.specs.Answers.{arrival_of, listed, pair}
use Rattle.shell_answers.proofs.Pieces.{element, listed-none}
use Rattle.shell_answers.proofs.replies.put_next_arrival.Goals as goal

pub returns-in_ok-put_arrival-in-Some-clause-written : goal.returns-in_ok-put_arrival-in-Some-clause-written
returns-in_ok-put_arrival-in-Some-clause-written c =
    let first = c.args.is_first in
    let (name, message) = c.in-Some.arrival.now in
    let t = pair (atom name) (tree message) in
    let old = c.args.out.now.items in
    let new = c.put_arrival.new.out.items in
    let whole = utf8 (listed first (more t none)) in
    sym (element first t none old old c.put_separator.new.out.items new whole refl c.in_ok-put_separator-in-Some.ensures c.in_ok-put_arrival-in-Some.ensures ∙ listed-none false new) ∙ ap (λ o. old ++ utf8 (listed first (arrival_of (option_copied o)))) (sym c.in-Some.is)

pub returns-in-None-clause-written : goal.returns-in-None-clause-written
returns-in-None-clause-written c =
    let old = c.args.out.now.items in
    sym (listed-none c.args.is_first old) ∙ ap (λ o. old ++ utf8 (listed c.args.is_first (arrival_of (option_copied o)))) (sym c.in-None.is)
