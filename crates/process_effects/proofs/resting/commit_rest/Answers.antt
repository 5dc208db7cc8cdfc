-- The process rests before its acts are done, which is the same; its record holds its job's place and message, which nobody has any more.
use Rattle.std.proofs.Common.{◌≡◌, ◌∙◌, ap, sym, subst}
use Rattle.process.specs.Rerun.{ran_with}
use Rattle.process_effects.proofs.CommitPieces.{rested_lost, running_lives}
use Rattle.process_effects.proofs.Rests.{rested_back, rested_is, rested_told}
use Rattle.process_effects.specs.Commits.{RestsBack, rests_in}
use Rattle.process_effects.specs.declared.resting.Rested.{Rested}
use Rattle.process_store.specs.Changes.{HasTurned}
use Rattle.process_store.specs.Table.{living}
use Rattle.process_effects.proofs.resting.commit_rest.Goals as goal

pub returns-in-Ok-clause-rested : goal.returns-in-Ok-clause-rested
returns-in-Ok-clause-rested c =
    rested_is c.args.job.now c.args.place.now c.in_ok-at.at c.in_ok-rests_in.rests_in c.as_slice.result.now c.args.acts.now c.args.store.now c.rest_next-ran.new.self c.act_all.new.store c.in_ok-at.ensures c.as_slice.ensures c.in_ok-rests_in.ensures c.rest_next-ran.ensures.rested c.in-Ok.ensures.table

pub returns-in-Ok-clause-told : goal.returns-in-Ok-clause-told
returns-in-Ok-clause-told c =
    rested_told c.args.job.now c.args.place.now c.in_ok-at.at c.in_ok-rests_in.rests_in c.as_slice.result.now c.args.acts.now c.args.store.now c.rest_next-ran.new.self c.act_all.new.store c.in_ok-at.ensures c.as_slice.ensures c.in_ok-rests_in.ensures c.rest_next-ran.ensures.rested c.in-Ok.acted.replies.items c.in-Ok.ensures.told

pub returns-in-Ok-clause-inverse : goal.returns-in-Ok-clause-inverse
returns-in-Ok-clause-inverse c =
    let acted = c.in-Ok.acted in
    let told = c.in_ok-told.told in
    let ran = c.rest_next-ran.result in
    let told_so : c.named.result ≡ ran_with told.rests_in told.code ran = c.named.ensures in
    let is : ◌≡◌ {A = Rested} c.fill-rested.result (record { pid = c.args.job.now.pid; ran = ran_with told.rests_in told.code ran; receivers = acted.receivers.items; closed = acted.closed }) = c.fill-rested.ensures ∙ (λ i. record { pid = c.args.job.now.pid; ran = told_so i; receivers = c.new-in-Ok.ensures i; closed = acted.closed }) in
    subst (λ (u : Rested). RestsBack u c.args.store.now c.act_all.new.store) (sym is) (λ modules. (
      (c.in-Ok.ensures.fits, subst (HasTurned c.args.job.now.pid) (sym c.in-Ok.ensures.back) c.rest_next-ran.ensures.fits),
      λ sound stand. rested_back modules c.args.job.now c.args.store.now c.rest_next-ran.new.self c.act_all.new.store told ran acted.receivers.items acted.closed sound stand c.requires.running c.in_ok-told.ensures c.rest_next-ran.ensures.back c.in-Ok.ensures.back,
    ))

pub returns-in-Ok-clause-pieces : goal.returns-in-Ok-clause-pieces
returns-in-Ok-clause-pieces c =
    let job = c.args.job.now in
    let told = c.in_ok-told.told in
    let u : Rested = c.fill-rested.result in
    let (l, lives) = running_lives (living job.pid c.args.store.now) job c.requires.running in
    let done = rested_is job c.args.place.now c.in_ok-at.at c.in_ok-rests_in.rests_in c.as_slice.result.now c.args.acts.now c.args.store.now c.rest_next-ran.new.self c.act_all.new.store c.in_ok-at.ensures c.as_slice.ensures c.in_ok-rests_in.ensures c.rest_next-ran.ensures.rested c.in-Ok.ensures.table in
    rested_lost u c.args.place.now (rests_in c.args.place.now job.code) told.rests_in told.code c.rest_next-ran.result c.args.acts.now c.args.store.now c.rest_next-ran.new.self c.act_all.new.store job.pid l lives c.rest_next-ran.ensures.back done (ap (λ (x : Rested). x.pid) c.fill-rested.ensures) (ap (λ (x : Rested). x.ran) c.fill-rested.ensures ∙ c.named.ensures)
