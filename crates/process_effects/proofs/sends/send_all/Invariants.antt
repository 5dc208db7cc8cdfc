-- The acts that are left give what all of them give, and what was sent can be taken back.
use Rattle.std.proofs.Common.{◌≡◌, drop}
use Rattle.process_effects.specs.Parted.{acts_sent, all_unsent}
use Rattle.process_effects.proofs.sends.send_all.Given as goal

abbrev pub invariant-loop-act : goal.invariant-loop-act
invariant-loop-act l = record {
  sent : acts_sent l.spared (drop l.act-index l.acts) l.store ≡ acts_sent l.spared l.acts l.fn.store;
  back : all_unsent l.receivers.items l.store ≡ l.fn.store;
}
