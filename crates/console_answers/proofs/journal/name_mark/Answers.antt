-- The others stay, and the mark goes last.
use Rattle.std.proofs.Common.{rules, List, ◌++◌, ◌∷◌, [], ap, not, ◌∙◌}
use Rattle.std.proofs.lemmas.Fn.{filter_same}
use Rattle.std.specs.List.{filter}
use Rattle.std.specs.Str.{bytes_eq}
use Rattle.console_answers.specs.declared.journal.NamedMark.{NamedMark}
use Rattle.console_answers.proofs.journal.name_mark.Goals as goal

pub returns-clause-named : goal.returns-clause-named
returns-clause-named c =
    let kept = filter_same _ (λ m. not (bytes_eq m.name c.args.name)) _ (λ x b f' k. search rules) _ _ c.retain.ensures.filtered in
    c.push_reserved.ensures.items
    ∙ ap (λ (ms : List NamedMark). ms ++ record { mark = c.args.mark; name = c.args.name } ∷ [])
    (kept ∙ ap (λ (ms : List NamedMark). filter (λ m. not (bytes_eq m.name c.args.name)) ms) c.in_ok-reserve.ensures.items)
