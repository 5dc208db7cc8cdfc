-- The process lives again, with its name and its open calls, and its record holds what nobody has any more.
use Rattle.std.proofs.Common.{◌≡◌, Some, refl, sym, ap, subst, ◌∙◌}
use Rattle.process.specs.Ended.{ended_with}
use Rattle.process_store.specs.declared.living.ProcessEntry.{ProcessEntry}
use Rattle.process_store.specs.Table.{living}
use Rattle.process_effects.specs.Ends.{EndsBack, HasCodeRefs, ended_of}
use Rattle.process_effects.specs.declared.ending.EndedProcess.{EndedProcess}
use Rattle.process_effects.proofs.Ends.{ended_back, ended_fits}
use Rattle.process_effects.proofs.EndedPieces.{one_left}
use Rattle.process_effects.proofs.ending.take_out.Goals as goal

pub returns-in-Some-clause-back : goal.returns-in-Some-clause-back
returns-in-Some-clause-back c = λ told.
    let l : ProcessEntry = c.in-Some.living in
    let before = c.args.store.now in
    let pid = c.args.leaves.pid in
    let there : living pid before ≡ Some l = sym c.in-Some.ensures.process in
    let e = ended_with c.args.leaves.told.rests_in c.args.leaves.told.code l.process in
    let is = sym c.ended_process.ensures in
    subst (λ (x : EndedProcess). EndsBack x before c.remove.new.self) is (λ modules. (
      ended_fits modules c.remove.new.self l e pid refl refl c.in-Some.ensures.returns,
      λ sound stands. ended_back modules before c.remove.new.self l e pid sound stands there (subst (HasCodeRefs c.args.leaves.told) there told) c.in-Some.ensures.back,
    ))

pub returns-in-Some-clause-pieces : goal.returns-in-Some-clause-pieces
returns-in-Some-clause-pieces c =
    one_left c.ended_process.result c.args.leaves c.args.store.now c.remove.new.self
    (ap (λ x. Some x) c.ended_process.ensures ∙ sym (ap (ended_of c.args.leaves) (sym c.in-Some.ensures.process))) c.remove.ensures.table
