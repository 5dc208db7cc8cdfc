-- Each has no process again, and is due or stopped as it was.
use Rattle.std.proofs.Common.{◌∙◌, List, ap, map}
use Rattle.app_table.proofs.Restoring.{run_back}
use Rattle.app_table.specs.Applications.{Application}
use Rattle.app_table.specs.Changes.{all_run, at_spots}
use Rattle.app_table.specs.Undo.{all_unrun}
use Rattle.app_table.specs.declared.undo.Rerun.{Rerun}
use Rattle.app_table.proofs.table.AppTable.run.Goals as goal

pub returns-clause-inverse : goal.returns-clause-inverse
returns-clause-inverse c =
    let now = c.args.self.now in
    let reruns = c.args.reruns in
    let pids = c.args.pids.now in
    ap (λ (v : List Application). all_unrun reruns v) (c.run_each.ensures ∙ ap (λ (rs : List Rerun). all_run (at_spots (map (λ (r : Rerun). r.spot) rs) pids) now) c.as_slice.ensures) ∙ run_back reruns pids now c.requires.noted
