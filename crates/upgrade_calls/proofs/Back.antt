-- What takes changes back: what was done goes, and then each process has its former state again.
use Rattle.std.proofs.Common.{◌≡◌, ℕ, List, ◌++◌, length, take, drop, sym, ap, subst, ◌∙◌}
use Rattle.std.proofs.Math.Seq.{take-append_seam}
use Rattle.process_store.specs.Table.{Table}
use Rattle.process_table.specs.States.{CanUnrestateAll, all_unrestated}
use Rattle.process_table.specs.Undo.{TakesBack}
use Rattle.process_table.specs.declared.states.StateChange.{StateChange}
use Rattle.process_table.specs.declared.undo.ProcessesUndo.{ProcessesUndo}
use Rattle.upgrade_calls.specs.Changing.{ChangesBack}

-- a list that was lent is what was last written
pub written : {A : Type 0} (now before : List A) (len : ℕ) → len ≡ length before → length now ≡ length before → take len (now ++ drop (length now) before) ≡ now
written now before len long same =
    ap (λ n. take n (now ++ drop (length now) before)) (long ∙ sym same) ∙ take-append_seam now (drop (length now) before)

pub changes_back : (states : List StateChange) (done : ProcessesUndo) (before t after : Table) → TakesBack done t after → CanUnrestateAll states t → all_unrestated states t ≡ before → ChangesBack (record { states = states; done = done }) before after
changes_back states done before t after takes can back = λ modules.
    let first = takes modules in
    ((first.0, subst (CanUnrestateAll states) (sym first.1) can), ap (all_unrestated states) first.1 ∙ back)
