-- A process that lives is told, and another pid passed over.
use Rattle.std.proofs.Common.{◌≡◌, ◌+◌, ◌<◌, All, [], ◌++◌, ◌∷◌, drop, get_or, length, map, Option, None, Some, ap, sym, subst, ◌∙◌, arith}
use Rattle.std.proofs.lemmas.List.{drop_more}
use Rattle.std.specs.Option.{option_copied}
use Rattle.process_store.specs.declared.living.ProcessEntry.{ProcessEntry}
use Rattle.process_store.specs.Table.{living}
use Rattle.process_effects.specs.Ends.{HasCodeRefs, all_vacated}
use Rattle.process_effects.specs.declared.ending.ToldProcess.{ToldProcess}
use Rattle.process_effects.proofs.Several.{passed_over, pids_next, told_next}
use Rattle.process_effects.proofs.killing.told_processes.Goals as goal
use Rattle.process_effects.proofs.killing.told_processes.Goals.{in-Some+in_ok-told+in_ok-push, in_default}

pub loop-pid-preserved : goal.loop-pid-preserved
loop-pid-preserved c =
    let t = c.args.store.now in
    let pids = c.args.pids.now in
    let i = c.loop-pid.pid-index in
    let ps = c.loop-pid.leaving.items in
    let told = map (λ (p : ToldProcess). p.pid) ps in
    let pid = get_or pids i 0 in
    let others = drop (i + 1) pids in
    let within : i < length pids = omega arith in
    let next : drop i pids ≡ pid ∷ others = drop_more pids i 0 within in
    elim c.match-get.branch [
      | in-Some+in_ok-told+in_ok-push w ↦
          let l : ProcessEntry = w.in-Some.living.now in
          let p : ToldProcess = record { pid = pid; told = w.in_ok-told.told } in
          let there : living pid t ≡ Some l = sym c.get.ensures ∙ ap option_copied w.in-Some.is in
          let now : c.match-get.leaving.items ≡ ps ++ p ∷ [] = ap (λ v. v.items) w.leaving-is ∙ w.in_ok-push.ensures.items in
          record {
            leave = ap (λ xs. all_vacated xs t) (pids_next ps c.match-get.leaving.items p others now) ∙ ap (λ xs. all_vacated (told ++ xs) t) (sym next) ∙ c.loop-pid.invariant.leave;
            told = told_next t ps c.match-get.leaving.items p c.loop-pid.invariant.told (subst (λ (o : Option ProcessEntry). HasCodeRefs p.told o) (sym there) w.in_ok-told.ensures) now;
          }
      | in_default w ↦
          let nobody : living pid t ≡ None = sym c.get.ensures ∙ ap option_copied w.in_default.is in
          let same = w.leaving-is in
          record {
            leave = ap (λ v. all_vacated (map (λ (p : ToldProcess). p.pid) v.items ++ others) t) same ∙ passed_over told pid others t nobody ∙ ap (λ xs. all_vacated (told ++ xs) t) (sym next) ∙ c.loop-pid.invariant.leave;
            told = subst (λ v. All (λ (p : ToldProcess). HasCodeRefs p.told (living p.pid t)) v.items) (sym same) c.loop-pid.invariant.told;
          }
    ]
