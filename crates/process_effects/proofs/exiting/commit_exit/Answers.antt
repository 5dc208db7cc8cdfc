-- What the process sends to itself goes with it, and all else of it is as it was: its record holds that, which nobody has any more.
use Rattle.std.proofs.Common.{◌≡◌, ◌++◌, arith, refl, sym, ap, subst, ◌∙◌}
use Rattle.process_effects.proofs.Leaving.{downs_by_calls, enough_reasons, exited_back, exited_fits, leaver_lives, process_of, same_process, still_lives}
use Rattle.process_effects.proofs.OwnMessages.{calls_at, ended_calls, ended_the_same, ended_told}
use Rattle.process_effects.proofs.CommitPieces.{exited_lost}
use Rattle.process_effects.specs.Acts.{acts_done}
use Rattle.process_effects.specs.Exits.{ExitsBack}
use Rattle.process_effects.specs.Parted.{answers_of}
use Rattle.process_effects.specs.declared.exiting.Exited.{Exited}
use Rattle.process_effects.specs.Ends.{ended_as}
use Rattle.process_effects.specs.Told.{downs}
use Rattle.process_store.specs.Table.{living}
use Rattle.process_store.specs.Vacating.{vacated}
use Rattle.process_effects.proofs.exiting.commit_exit.Goals as goal

pub tell_downs-requires-clause-enough : goal.tell_downs-requires-clause-enough
tell_downs-requires-clause-enough c =
    enough_reasons c.args.pid c.args.acts.now (answers_of c.args.acts.now) c.args.store.now c.act_all.new.store c.in_ok-acted.ensures.table c.in-Some.living c.in-Some.living.calls _ c.in-Some.ensures.process refl c.requires c.in_ok-reasons.ensures.enough

pub tell_downs-requires-clause-room : goal.tell_downs-requires-clause-room
tell_downs-requires-clause-room c =
    let enough = enough_reasons c.args.pid c.args.acts.now (answers_of c.args.acts.now) c.args.store.now c.act_all.new.store c.in_ok-acted.ensures.table c.in-Some.living c.in-Some.living.calls _ c.in-Some.ensures.process refl c.requires c.in_ok-reasons.ensures.enough in
    omega (arith, enough, c.in_ok-acted.ensures.room, c.len.ensures)

pub unreachable-requires : goal.unreachable-requires
unreachable-requires c =
    still_lives c.args.pid c.args.acts.now (answers_of c.args.acts.now) c.args.store.now c.act_all.new.store c.in_ok-acted.ensures.table c.requires c.in-None.ensures.process

pub returns-clause-exited : goal.returns-clause-exited
returns-clause-exited c =
    c.in-Some.ensures.table ∙ ap (vacated c.args.pid) c.in_ok-acted.ensures.table ∙ ended_the_same c.args.pid c.args.acts.now c.args.store.now

pub returns-clause-told : goal.returns-clause-told
returns-clause-told c =
    let pid = c.args.pid in
    let acts = c.args.acts.now in
    let t = c.args.store.now in
    let replies = c.in_ok-acted.ensures.told ∙ ended_told pid acts t in
    let calls : calls_at (living pid c.act_all.new.store) ≡ calls_at (living pid (acts_done acts t)) = ap (λ x. calls_at (living pid x)) c.in_ok-acted.ensures.table ∙ ended_calls pid acts t in
    let down_there = ap (downs c.args.reason.now) c.in-Some.ensures.process ∙ downs_by_calls c.args.reason.now (living pid c.act_all.new.store) (living pid (acts_done acts t)) calls in
    c.tell_downs.ensures c.args.reason.now c.in_ok-reasons.ensures.same ∙ (λ i. replies i ++ down_there i)

pub returns-clause-inverse : goal.returns-clause-inverse
returns-clause-inverse c =
    let pid = c.args.pid in
    let t = c.args.store.now in
    let l = c.in-Some.living in
    let told = c.in_ok-told.told in
    let acted = c.in_ok-acted.acted in
    let is : ◌≡◌ {A = Exited} (record { ended = c.ended_process.result; receivers = c.new.result; closed = acted.closed }) (record { ended = ended_as pid told.rests_in told.code l; receivers = acted.receivers.items; closed = acted.closed }) = λ i. record { ended = c.ended_process.ensures i; receivers = c.new.ensures i; closed = acted.closed } in
    subst (λ (u : Exited). ExitsBack u t c.remove.new.self) (sym is) (λ modules. (
      exited_fits modules pid c.act_all.new.store c.remove.new.self l told acted.receivers.items acted.closed c.in-Some.ensures.returns c.in-Some.ensures.back c.in_ok-acted.ensures.fits,
      λ sound stand.
          let alive = leaver_lives pid c.args.acts.now (answers_of c.args.acts.now) t c.act_all.new.store c.in_ok-acted.ensures.table modules l told c.in-Some.ensures.process c.requires c.in_ok-told.ensures sound stand in
          exited_back modules pid t c.act_all.new.store c.remove.new.self l told acted.receivers.items acted.closed alive c.in-Some.ensures.back c.in_ok-acted.ensures.back,
    ))

pub returns-clause-pieces : goal.returns-clause-pieces
returns-clause-pieces c =
    let pid = c.args.pid in
    let t = c.args.store.now in
    let told = c.in_ok-told.told in
    let same = ap (λ x. process_of (living pid x)) c.in_ok-acted.ensures.table ∙ same_process pid c.args.acts.now (answers_of c.args.acts.now) t in
    exited_lost c.ended_process.result told.rests_in told.code t c.act_all.new.store c.remove.new.self pid c.in-Some.living c.ended_process.ensures (sym c.in-Some.ensures.process) same c.in-Some.ensures.table
