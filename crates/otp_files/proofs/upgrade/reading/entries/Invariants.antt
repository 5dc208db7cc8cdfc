-- The entries so far, and those that are left, are those of the whole.
use Rattle.std.proofs.Common.{◌≡◌, ◌++◌, Ok}
use Rattle.std.specs.Vec.Iter.{into_iter_items}
use Rattle.otp_files.specs.Reading.{after, entries_from}
use Rattle.otp_files.proofs.upgrade.reading.entries.Given as goal

abbrev pub invariant-loop-draft : goal.invariant-loop-draft
invariant-loop-draft g l =
    let read = g.I.FromInstruction.reading in
    entries_from read l.fn.first (into_iter_items l.initial.draft-iterator) ≡ after (entries_from read l.number (into_iter_items l.draft-iterator)) (λ rest. Ok (l.entries.items ++ rest))
