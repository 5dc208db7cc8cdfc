-- What is left to be written is the text of those that are left: the first, backwards.
use Rattle.std.proofs.Common.{◌≡◌, ◌++◌, ◌-◌, eqb, length, reverse, take}
use Rattle.erl_term.specs.Text.{elements_text, utf8}
use Rattle.shell_answers.specs.Answers.{listed, releases_in}
use Rattle.shell_answers.proofs.releases.put_releases.Given as goal

abbrev pub invariant-loop-index : goal.invariant-loop-index
invariant-loop-index l =
    l.initial.out.items ++ utf8 (elements_text (releases_in (reverse l.releases))) ≡ l.out.items ++ utf8 (listed (eqb l.index 0) (releases_in (reverse (take (length l.releases - l.index) l.releases))))
