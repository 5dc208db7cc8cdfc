-- Each that is found has no process.
use Rattle.std.proofs.Common.{◌≡◌, ◌≤◌, ◌++◌, ◌∙◌, List, ℕ, sym, subst, arith, append-nil, length, take}
use Rattle.std.proofs.lemmas.List.{at_drop_all}
use Rattle.std.proofs.lemmas.List.Elements.{All-same}
use Rattle.std.specs.List.{AllPairs}
use Rattle.app_table.proofs.Once.{Differ, all_found_once}
use Rattle.app_table.proofs.Walks.{all_found_idle}
use Rattle.app_table.specs.Changes.{IsIdleAt}
use Rattle.app_table.specs.Modules.{startable, startable_for}
use Rattle.app_table.specs.declared.spot.Spot.{Spot}
use Rattle.app_table.proofs.table.AppTable.startable.Goals as goal

pub returns-clause-idle : goal.returns-clause-idle
returns-clause-idle c =
    let ms = c.args.modules.now in
    let names = c.args.names.now in
    let apps = c.args.self.now in
    let found = c.loop-at.found.items in
    let over : length ms ≤ c.loop-at.at = omega (arith, c.loop-at-test.false) in
    let is : found ≡ startable names ms apps = sym (append-nil found) ∙ sym (at_drop_all (λ (t : List (List ℕ)). found ++ startable_for names (take c.loop-at.at ms) t apps) ms c.loop-at.at over) ∙ c.loop-at.invariant in
    All-same (λ (it : Spot). IsIdleAt it apps) found (startable names ms apps) is (all_found_idle names ms apps)

pub returns-clause-apart : goal.returns-clause-apart
returns-clause-apart c =
    let ms = c.args.modules.now in
    let names = c.args.names.now in
    let apps = c.args.self.now in
    let found = c.loop-at.found.items in
    let over : length ms ≤ c.loop-at.at = omega (arith, c.loop-at-test.false) in
    let is : found ≡ startable names ms apps = sym (append-nil found) ∙ sym (at_drop_all (λ (t : List (List ℕ)). found ++ startable_for names (take c.loop-at.at ms) t apps) ms c.loop-at.at over) ∙ c.loop-at.invariant in
    subst (λ (l : List Spot). AllPairs Differ l) (sym is) (all_found_once names ms apps)
