-- One module more; and all of them.
use Rattle.std.proofs.Common.{subst, arith}
use Rattle.std.proofs.lemmas.List.{take_all}
use Rattle.unpurged_code.proofs.Gathering.{Gathered, all_gathered, gathered_next}
use Rattle.unpurged_code.proofs.listing.noted.Goals as goal

pub loop-index-preserved : goal.loop-index-preserved
loop-index-preserved c =
    gathered_next c.args.kind c.args.modules.now.entries c.loop-index.index c.loop-index.names.items
    c.put_entry.new.names.items c.in_ok-put_entry.ensures c.loop-index.invariant

pub returns : goal.returns
returns c =
    let entries = c.args.modules.now.entries in
    all_gathered c.args.kind c.args.modules.now c.loop-index.names.items c.len-count.ensures.sound
    (subst (λ es. Gathered c.args.kind es c.loop-index.names.items)
    (take_all c.loop-index.index entries (omega (arith, c.len-count.ensures.len))) c.loop-index.invariant)
