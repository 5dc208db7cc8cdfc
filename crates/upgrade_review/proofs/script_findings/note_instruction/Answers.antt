-- The instruction is one of three.
use Rattle.std.proofs.Common.{ℕ, List, Option, OnOk, ◌⊎◌, sym, subst}
use Rattle.low_instructions.specs.declared.low.Low.{Low}
use Rattle.low_instructions.specs.declared.modules.ModuleChange.{ModuleChange}
use Rattle.upgrade_review.proofs.Noting.{noted_both}
use Rattle.upgrade_review.specs.Gathering.{Adds, IsFoundAt, IsStart, IsStop, IsUnchangedOf, OfApp}
use Rattle.upgrade_review.specs.Scripts.{started_by, stopped_by}
use Rattle.upgrade_review.specs.declared.finding.Finding.{Finding}
use Rattle.upgrade_review.proofs.script_findings.note_instruction.Goals as goal

pub returns-in-Load : goal.returns-in-Load
returns-in-Load c =
    let here = IsFoundAt c.args.left.now c.args.installed.now c.args.script.now c.args.index in
    let old = c.args.found.now.items in
    let new = c.note_load.new.found.items in
    subst (λ (low : Low). OnOk c.note_load.result (Adds (here low) old new)) (sym c.in-Load.is) c.note_load.ensures

pub returns-in-CodeChange : goal.returns-in-CodeChange
returns-in-CodeChange c =
    let left = c.args.left.now in
    let installed = c.args.installed.now in
    let script = c.args.script.now in
    let index = c.args.index in
    let Noted : (Finding → Type 0) → Type 0 =
    λ P. OnOk c.note_changes.result (Adds P c.args.found.now.items c.note_changes.new.found.items) in
    let changes = subst (λ (changes : List ModuleChange). Noted (IsUnchangedOf left installed script index changes))
    c.as_slice-changes.ensures c.note_changes.ensures in
    subst (λ (low : Low). Noted (IsFoundAt left installed script index low)) (sym c.in-CodeChange.is) changes

pub returns-in_ok-note_started-in-Apply : goal.returns-in_ok-note_started-in-Apply
returns-in_ok-note_started-in-Apply c =
    let script = c.args.script.now in
    let index = c.args.index in
    let old = c.args.found.now.items in
    let between = c.note_started.new.found.items in
    let new = c.note_stopped.new.found.items in
    let Starts : Option (List ℕ) → Finding → Type 0 = OfApp (IsStart script index) in
    let Stops : Option (List ℕ) → Finding → Type 0 = OfApp (IsStop script index) in
    let Noted : (Finding → Type 0) → List Finding → Type 0 = λ P from. OnOk c.note_stopped.result (Adds P from new) in
    let first = subst (λ (app : Option (List ℕ)). Adds (Starts app) old between) c.started_by.ensures
    c.in_ok-note_started-in-Apply.ensures in
    let second = subst (λ (app : Option (List ℕ)). Noted (Stops app) between) c.stopped_by.ensures c.note_stopped.ensures in
    let low = c.args.low.now in
    let both : Noted (λ f. Starts (started_by low) f ⊎ Stops (stopped_by low) f) old =
    noted_both c.note_stopped.result (Starts (started_by low)) (Stops (stopped_by low)) old between new first second in
    let there = subst (λ (it : Low). Noted (λ f. Starts (started_by it) f ⊎ Stops (stopped_by it) f) old) c.in-Apply.is both in
    subst (λ (it : Low). Noted (IsFoundAt c.args.left.now c.args.installed.now script index it) old) (sym c.in-Apply.is) there
