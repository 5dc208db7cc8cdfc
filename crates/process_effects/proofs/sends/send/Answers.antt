-- What was sent is taken back first.
use Rattle.std.proofs.Common.{sym, ap, ◌∙◌}
use Rattle.process_effects.specs.Acts.{sent}
use Rattle.process_effects.specs.Parted.{act_sent, all_unsent, other_than}
use Rattle.process_effects.proofs.Unsending.{unsent_push}
use Rattle.process_effects.proofs.sends.send.Goals as goal

pub returns-in_ok-send_to-in-Some-clause-ok : goal.returns-in_ok-send_to-in-Some-clause-ok
returns-in_ok-send_to-in-Some-clause-ok c =
    c.in_ok-send_to-in-Some.ensures.ok ∙ ap (λ o. sent c.in-Send.term o c.args.store.now) (sym c.in-Some.is ∙ c.other_than.ensures ∙ ap (other_than c.args.spared) c.receiver_of.ensures) ∙ ap (λ a. act_sent c.args.spared a c.args.store.now) (sym c.in-Send.is)

pub returns-in_ok-send_to-in-Some-clause-back : goal.returns-in_ok-send_to-in-Some-clause-back
returns-in_ok-send_to-in-Some-clause-back c =
    let old = c.args.receivers.now.items in
    ap (λ ps. all_unsent ps c.send_to.new.store) c.in_ok-send_to-in-Some.ensures.noted ∙ unsent_push old c.in-Some.pid c.send_to.new.store ∙ ap (all_unsent old) c.in_ok-send_to-in-Some.ensures.back
