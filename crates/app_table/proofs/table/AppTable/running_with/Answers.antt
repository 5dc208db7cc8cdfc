-- Each that is found runs.
use Rattle.std.proofs.Common.{◌≡◌, ◌≤◌, ◌++◌, ◌∙◌, List, ℕ, sym, arith, append-nil, length, take}
use Rattle.std.proofs.lemmas.List.{at_drop_all}
use Rattle.std.proofs.lemmas.List.Elements.{All-same}
use Rattle.app_table.proofs.Walks.{all_found_run}
use Rattle.app_table.specs.Changes.{RunsAs}
use Rattle.app_table.specs.Modules.{running_for, running_with}
use Rattle.app_table.specs.declared.undo.ChildProcess.{ChildProcess}
use Rattle.app_table.proofs.table.AppTable.running_with.Goals as goal

pub returns-clause-run : goal.returns-clause-run
returns-clause-run c =
    let ms = c.args.modules.now in
    let apps = c.args.self.now in
    let found = c.loop-at.found.items in
    let over : length ms ≤ c.loop-at.at = omega (arith, c.loop-at-test.false) in
    let is : found ≡ running_with ms apps = sym (append-nil found) ∙ sym (at_drop_all (λ (t : List (List ℕ)). found ++ running_for (take c.loop-at.at ms) t apps) ms c.loop-at.at over) ∙ c.loop-at.invariant in
    All-same (λ (it : ChildProcess). RunsAs it apps) found (running_with ms apps) is (all_found_run ms apps)
