-- The pieces are the line's.
use Rattle.std.proofs.Common.{◌++◌, codes}
use Rattle.erl_term.specs.Text.{utf8, elements_text}
use Rattle.release_statuses.specs.Statuses.{which_releases}
use Rattle.shell_answers.specs.Answers.{releases_in}
use Rattle.shell_answers.proofs.Pieces.{before, on_ok, same}
use Rattle.shell_answers.proofs.Texts.{list-line, releases-tuples}
use Rattle.shell_answers.proofs.releases.write_releases.Goals as goal

pub returns : goal.returns
returns c =
    let old = c.args.out.now.items in
    let new = c.put-2.new.out.items in
    on_ok c.put-2.result _ _ c.put-2.ensures (λ last. same old new ((codes "[") ++ ((utf8 (elements_text (releases_in (which_releases c.args.releases.now)))) ++ (codes "]\n"))) _ (before (old) (c.put.new.out.items) new (codes "[") ((utf8 (elements_text (releases_in (which_releases c.args.releases.now)))) ++ (codes "]\n")) c.in_ok-put.ensures (before (c.put.new.out.items) (c.put_releases.new.out.items) new (utf8 (elements_text (releases_in (which_releases c.args.releases.now)))) (codes "]\n") c.in_ok-put_releases.ensures last)) (list-line (releases_in (which_releases c.args.releases.now)) (releases-tuples (which_releases c.args.releases.now))))
