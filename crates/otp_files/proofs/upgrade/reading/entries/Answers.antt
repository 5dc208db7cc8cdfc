-- Each turn reads one entry more.
use Rattle.std.proofs.Common.{◌≡◌, ◌+◌, ◌∷◌, ◌++◌, Ok, sym, ap, ◌∙◌}
use Rattle.std.specs.Vec.Iter.{into_iter_items}
use Rattle.erl_term.specs.Tree.{count}
use Rattle.otp_files.specs.Reading.{after, entries_from, entry_of}
use Rattle.otp_files.specs.Upgrades.{saturated}
use Rattle.otp_files.proofs.Numbers.{counted, entries_more}
use Rattle.otp_files.proofs.upgrade.reading.entries.Goals as goal

pub loop-draft-preserved : goal.loop-draft-preserved
loop-draft-preserved g c =
    let read = g.I.FromInstruction.reading in
    let d = c.in-Some.draft in
    let n = c.loop-draft.number in
    let here : Ok c.in-Ok.entry ≡ entry_of read n d = sym c.in-Ok.is ∙ c.in_ok-entry.ensures in
    let step : c.saturating_add-next.result ≡ saturated (n + count d.instructions) = c.saturating_add-next.ensures ∙ ap (λ m. saturated (n + m)) (sym (counted d.instructions c.as_slice.result.now c.as_slice.ensures)) in
    let left : into_iter_items c.loop-draft.draft-iterator ≡ d ∷ into_iter_items c.next.new.self = c.in-Some.ensures.steps.0 in
    rw c.in_ok-push-in-Ok.ensures.items (entries_more read d (into_iter_items c.next.new.self) n c.saturating_add-next.result c.in-Ok.entry c.loop-draft.entries.items _ here step (c.loop-draft.invariant ∙ ap (λ ds. after (entries_from read n ds) (λ rest. Ok (c.loop-draft.entries.items ++ rest))) left))
