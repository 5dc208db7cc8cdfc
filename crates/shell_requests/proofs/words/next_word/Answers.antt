-- The text is cut at its first space, or is the word.
use Rattle.std.proofs.Common.{◌<◌, ◌∷◌, eqb, length, lit<, sym, ap, ◌∙◌, Some, None, rules}
use Rattle.std.specs.List.{after_first}
use Rattle.std.proofs.lemmas.Str.Pattern.{split_parts, split_once_first}
use Rattle.shell_requests.specs.Words.{after_spaces}
use Rattle.shell_requests.proofs.Spaces.{none_behind, words-split, words-only}
use Rattle.shell_requests.proofs.words.next_word.Goals as goal

pub returns-in-Some-clause-words : goal.returns-in-Some-clause-words
returns-in-Some-clause-words c =
    let text = c.after_spaces-text.result.now in
    let parts = split_parts 32 text (Some (c.in-Some.word, c.in-Some.rest)) c.in-Some.ensures.cases (lit< tt) in
    sym c.after_spaces-text.ensures.words ∙ words-split text c.in-Some.word.now c.in-Some.rest.now parts.0 parts.1 c.after_spaces-text.ensures.begins ∙ ap (λ ws. c.in-Some.word.now ∷ ws) (sym c.after_spaces-behind.ensures.words)

pub returns-in-Some-clause-behind : goal.returns-in-Some-clause-behind
returns-in-Some-clause-behind c =
    let text = c.after_spaces-text.result.now in
    let parts = split_once_first 32 text (Some (c.in-Some.word, c.in-Some.rest)) c.in-Some.ensures.cases (lit< tt) in
    c.after_spaces-behind.ensures.is ∙ ap after_spaces parts.2 ∙ ap (λ t. after_spaces (after_first (λ b. eqb b 32) t)) c.after_spaces-text.ensures.is

pub returns-in-None-clause-words : goal.returns-in-None-clause-words
returns-in-None-clause-words c =
    let text = c.after_spaces-text.result.now in
    let some : 0 < length text = search rules in
    sym c.after_spaces-text.ensures.words ∙ words-only text some (split_parts 32 text None c.in-None.ensures.cases (lit< tt))

pub returns-in-None-clause-behind : goal.returns-in-None-clause-behind
returns-in-None-clause-behind c =
    let text = c.after_spaces-text.result.now in
    sym (ap after_spaces (none_behind text (split_once_first 32 text None c.in-None.ensures.cases (lit< tt)))) ∙ ap (λ t. after_spaces (after_first (λ b. eqb b 32) t)) c.after_spaces-text.ensures.is
