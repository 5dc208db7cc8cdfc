-- `last` gives the last entry, whose station is the newest, or there is none.
use Rattle.std.proofs.Common.{ap, sym, ◌∙◌, arith}
use Rattle.std.proofs.lemmas.List.{nil_from_length}
use Rattle.undo_journal.proofs.Stations.{newest-stations}
use Rattle.undo_journal.proofs.past.newest_serial.Goals as goal

pub returns-in-Some : goal.returns-in-Some
returns-in-Some g c = λ s at_floor.
    let item = c.in-Some.ensures.item in
    ap (λ p. p.serial) item.1 ∙ sym (ap (λ t. t.serial) (newest-stations s c.args.past.now c.in-Some.entry.now item.3.0))

pub returns-in-None : goal.returns-in-None
returns-in-None g c = λ s at_floor.
    rw (nil_from_length c.args.past.now (omega (arith, c.in-None.ensures.item.3))) (sym at_floor)
