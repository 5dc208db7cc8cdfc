-- The search parts the entries at the mark, so that the mark is the newest of the front or nowhere.
use Rattle.std.proofs.Common.{◌≡◌, leb, Some, take, subst, sym, ap, ◌∙◌, arith, rules}
use Rattle.std.proofs.lemmas.Bool.{leb-true, leb-false, le-leb}
use Rattle.std.proofs.lemmas.List.{take-map}
use Rattle.std.proofs.lemmas.Fn.{always_returns_same}
use Rattle.undo_journal.specs.Past.{station_of, stations}
use Rattle.undo_journal.specs.Timeline.{newest, kept_to, Rises}
use Rattle.undo_journal.proofs.Stations.{kept_to-newest, kept_to-absent, Rises-ordered}
use Rattle.undo_journal.proofs.past.kept_entries.Goals as goal

pub returns-then-reached-mark-clause-kept : goal.returns-then-reached-mark-clause-kept
returns-then-reached-mark-clause-kept g c = λ s at_floor.
    let keep = c.partition_point-keep.result in
    let all = stations c.args.past.now in
    let rising = subst (λ n. Rises n all) (sym at_floor) c.requires in
    let front = take-map station_of keep c.args.past.now in
    let reached : (newest s (take keep all)).serial ≡ c.args.mark = ap (λ ss. (newest s ss).serial) front ∙ sym (c.newest_serial-reached.ensures s at_floor) ∙ c.if-reached-mark.true in
    subst (λ m. kept_to m s all ≡ Some (take keep all)) reached (kept_to-newest keep s all rising)

pub returns-else-reached-mark-clause-kept : goal.returns-else-reached-mark-clause-kept
returns-else-reached-mark-clause-kept g c = λ s at_floor.
    let past = c.args.past.now in
    let mark = c.args.mark in
    let keep = c.partition_point-keep.result in
    let rising = subst (λ n. Rises n (stations past)) (sym at_floor) c.requires in
    let parted = c.partition_point-keep.ensures.partitioned (λ p. leb p.serial mark) (always_returns_same _ _ _ (λ a r f k. search rules)) (λ i j d order within passes. le-leb _ mark (let later = Rises-ordered s.serial past rising i j d order within in let below = leb-true _ mark passes in omega (arith, later.1, below))) in
    kept_to-absent mark keep s past rising (λ k d below within. leb-true _ mark (parted.0 k d (omega arith) below)) (λ k d from within. leb-false _ mark (parted.1 k d from within)) (λ e. c.if-reached-mark.false (c.newest_serial-reached.ensures s at_floor ∙ sym e))
