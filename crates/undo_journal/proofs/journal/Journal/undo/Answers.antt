-- What stays is a front of the entries: up to the mark, or to where memory was refused.
use Rattle.std.proofs.Common.{◌≡◌, ℕ, ◌≤◌, ◌-◌, vec_len, length, take, replicate, Some, Result, Ok, Err, IfOk, IfErr, refl, subst, sym, ap, ◌∙◌, arith}
use Rattle.std.specs.Result.{IsErr, IsErrAnd}
use Rattle.std.proofs.lemmas.List.{drop_all}
use Rattle.undo_journal.specs.declared.error.JournalError.{JournalError}
use Rattle.undo_journal.specs.declared.error.JournalError.TheVariants.{Step, Forgotten, DeadMark, SerialEnd, Memory}
use Rattle.undo_journal.specs.Past.{timeline_of}
use Rattle.undo_journal.specs.Journal.{HasNoStation, Stopped, UndoFails}
use Rattle.undo_journal.specs.Timeline.{Timeline, here, cut_stations, kept_to, cut_to, notes_of, report_of}
use Rattle.undo_journal.proofs.Timelines.{UndoFails-from_want, kept-front, undone-front, reported-front, reported-stopped, stopped-front, told-behind, kept-within, stopped-before, IsFront-front, IsFront-same, at_mark-front, noted-front}
use Rattle.undo_journal.proofs.journal.Journal.undo.Goals as goal

-- what failed has no result, and says why
module _ {T E : Type 0} where
  no_result : (r : Result T E) (e : E) (P : T → Type 0) → IsErr r × IsErrAnd r (λ y. y ≡ e) → IfOk r P
  no_result (Ok x) e P is = absurd is.1
  no_result (Err y) e P is = tt

  said : (r : Result T E) (e : E) (P : E → Type 0) → IsErr r × IsErrAnd r (λ y. y ≡ e) → P e → IfErr r P
  said (Ok x) e P is holds = absurd is.1
  said (Err y) e P is holds = subst P (sym is.1) holds

-- where there is no station, nothing was undone
fails_by_none : {S N F : Type 0} (mark n : ℕ) (t : Timeline S N) (e : JournalError F N) → HasNoStation mark t e → UndoFails mark n t t e
fails_by_none mark n t (Step refusal) none = none
fails_by_none mark n t Forgotten none = (none, refl)
fails_by_none mark n t DeadMark none = (none, refl)
fails_by_none mark n t SerialEnd none = none
fails_by_none mark n t (Memory reached reports) none = absurd none

-- and no notes are told of what was cut
noted_same : {S N : Type 0} (t : Timeline S N) → length (notes_of (cut_stations t t)) ≡ length (cut_stations t t)
noted_same t =
    let none = drop_all (length t.later) t.later (omega arith) in
    ap (λ ss. length (notes_of ss)) none ∙ sym (ap length none)

pub returns-in_default-clause-err : goal.returns-in_default-clause-err
returns-in_default-clause-err g c =
    let j = c.self.inside in
    let t = c.args.self.now in
    let past = j.past.items in
    let kept = subst (λ u. kept_to c.args.mark u.first u.later ≡ Some (take c.in_ok-keep.keep u.later)) (sym c.self.view_is) c.in_ok-keep.ensures.kept in
    let within = kept-within past c.in_ok-keep.keep c.args.self.now j.floor j.first.value j.first_note j.last c.self.view_is c.in_ok-keep.ensures.within in
    UndoFails-from_want c.args.mark c.args.n t c.out_of_memory.result (stopped-before j.floor j.first.value j.first_note past j.last c.args.mark c.args.n c.in_ok-keep.keep t c.self.invariant.1 kept within c.self.view_is) c.out_of_memory.ensures

pub invariant_of-self : goal.invariant_of-self
invariant_of-self g c =
    let j = c.self.inside in
    kept-front g.S.Reversible.undoes j.floor j.first.value j.first_note j.past.items c.take_back_to.new.past.items j.last _ j.state c.take_back_to.new.state c.take_back_to.ensures.front c.take_back_to.ensures.chain c.self.invariant.0 c.self.invariant.1

pub returns-then-len-keep-clause-undone : goal.returns-then-len-keep-clause-undone
returns-then-len-keep-clause-undone g c =
    let j = c.self.inside in
    let past = j.past.items in
    let kept = subst (λ u. kept_to c.args.mark u.first u.later ≡ Some (take c.in_ok-keep.keep u.later)) (sym c.self.view_is) c.in_ok-keep.ensures.kept in
    let front = c.take_back_to.ensures.front ∙ ap (λ k. take k past) (sym c.len.ensures ∙ c.if-len-keep.true) in
    ap (λ t. cut_to c.args.mark t) (sym c.self.view_is) ∙ undone-front j.floor j.first.value j.first_note past c.take_back_to.new.past.items j.last c.args.mark c.in_ok-keep.keep kept front

pub returns-then-len-keep-clause-reported : goal.returns-then-len-keep-clause-reported
returns-then-len-keep-clause-reported g c =
    let j = c.self.inside in
    let past = j.past.items in
    let items = c.take_back_to.new.past.items in
    let within = kept-within past c.in_ok-keep.keep c.args.self.now j.floor j.first.value j.first_note j.last c.self.view_is c.in_ok-keep.ensures.within in
    let front = c.take_back_to.ensures.front ∙ ap (λ k. take k past) (sym c.len.ensures ∙ c.if-len-keep.true) in
    let told = told-behind past c.deref.result.now c.in_ok-keep.keep c.args.n c.in-Ok.reports.items c.deref.ensures.value c.in-Ok.ensures in
    reported-front j.floor j.first.value j.first_note past items j.last c.in_ok-keep.keep c.args.n c.in-Ok.reports.items within front told ∙ ap (λ t. replicate c.args.n (report_of (cut_stations t (timeline_of j.floor j.first.value j.first_note items j.last)))) c.self.view_is

pub invariant_of-self-2 : goal.invariant_of-self-2
invariant_of-self-2 g c =
    let j = c.self.inside in
    kept-front g.S.Reversible.undoes j.floor j.first.value j.first_note j.past.items c.take_back_to.new.past.items j.last _ j.state c.take_back_to.new.state c.take_back_to.ensures.front c.take_back_to.ensures.chain c.self.invariant.0 c.self.invariant.1

pub returns-clause-err : goal.returns-clause-err
returns-clause-err g c =
    let j = c.self.inside in
    let past = j.past.items in
    let items = c.take_back_to.new.past.items in
    let kept = subst (λ u. kept_to c.args.mark u.first u.later ≡ Some (take c.in_ok-keep.keep u.later)) (sym c.self.view_is) c.in_ok-keep.ensures.kept in
    let told = told-behind past c.deref.result.now c.in_ok-keep.keep c.args.n c.in-Ok.reports.items c.deref.ensures.value c.in-Ok.ensures in
    let new = timeline_of j.floor j.first.value j.first_note items j.last in
    let k = vec_len c.take_back_to.new.past in
    let shorter : k ≤ length past = omega (arith, c.take_back_to.ensures.shorter, j.past.ok.0) in
    let cut : c.len-stood.result - c.len-2.result ≡ length past - k = omega (arith, c.len-stood.ensures, c.len-2.ensures, j.past.ok.0) in
    let reports = reported-stopped past c.in_ok-keep.keep k c.args.n _ c.in-Ok.reports.items c.keep_newest.new.reports.items c.take_back_to.ensures.kept shorter cut told c.keep_newest.ensures.none c.keep_newest.ensures.some in
    let uncut = λ (is : k ≡ c.in_ok-keep.keep). absurd (c.if-len-keep.false (c.len.ensures ∙ is)) in
    let stopped = stopped-front j.floor j.first.value j.first_note past items j.last c.args.mark c.args.n c.in_ok-keep.keep k c.keep_newest.new.reports.items c.self.invariant.1 kept c.take_back_to.ensures.kept shorter uncut c.take_back_to.ensures.front reports in
    subst (λ m. Stopped c.args.mark c.args.n c.args.self.now new m c.keep_newest.new.reports.items) (sym c.mark.ensures.serial) (subst (λ t. Stopped c.args.mark c.args.n t new (here new).serial c.keep_newest.new.reports.items) c.self.view_is stopped)

pub returns-then-len-keep-clause-at_mark : goal.returns-then-len-keep-clause-at_mark
returns-then-len-keep-clause-at_mark g c =
    let j = c.self.inside in
    let past = j.past.items in
    let kept = subst (λ u. kept_to c.args.mark u.first u.later ≡ Some (take c.in_ok-keep.keep u.later)) (sym c.self.view_is) c.in_ok-keep.ensures.kept in
    let front = c.take_back_to.ensures.front ∙ ap (λ k. take k past) (sym c.len.ensures ∙ c.if-len-keep.true) in
    at_mark-front j.floor j.first.value j.first_note past c.take_back_to.new.past.items j.last c.args.mark c.in_ok-keep.keep kept front

pub returns-then-len-keep-clause-front : goal.returns-then-len-keep-clause-front
returns-then-len-keep-clause-front g c =
    let j = c.self.inside in
    let k = vec_len c.take_back_to.new.past in
    let shorter : k ≤ length j.past.items = omega (arith, c.take_back_to.ensures.shorter, j.past.ok.0) in
    IsFront-front j.floor j.first.value j.first_note j.past.items c.take_back_to.new.past.items j.last k c.args.self.now shorter c.take_back_to.ensures.front c.self.view_is

pub returns-clause-front : goal.returns-clause-front
returns-clause-front g c =
    let j = c.self.inside in
    let k = vec_len c.take_back_to.new.past in
    let shorter : k ≤ length j.past.items = omega (arith, c.take_back_to.ensures.shorter, j.past.ok.0) in
    IsFront-front j.floor j.first.value j.first_note j.past.items c.take_back_to.new.past.items j.last k c.args.self.now shorter c.take_back_to.ensures.front c.self.view_is

pub returns-then-len-keep-clause-noted : goal.returns-then-len-keep-clause-noted
returns-then-len-keep-clause-noted g c =
    let j = c.self.inside in
    let k = vec_len c.take_back_to.new.past in
    let shorter : k ≤ length j.past.items = omega (arith, c.take_back_to.ensures.shorter, j.past.ok.0) in
    noted-front j.floor j.first.value j.first_note j.past.items c.take_back_to.new.past.items j.last k c.args.self.now shorter c.take_back_to.ensures.front c.self.view_is

pub returns-clause-noted : goal.returns-clause-noted
returns-clause-noted g c =
    let j = c.self.inside in
    let k = vec_len c.take_back_to.new.past in
    let shorter : k ≤ length j.past.items = omega (arith, c.take_back_to.ensures.shorter, j.past.ok.0) in
    noted-front j.floor j.first.value j.first_note j.past.items c.take_back_to.new.past.items j.last k c.args.self.now shorter c.take_back_to.ensures.front c.self.view_is

pub same-self : goal.same-self
same-self g c = refl

pub returns-in_err-keep-clause-undone : goal.returns-in_err-keep-clause-undone
returns-in_err-keep-clause-undone g c = no_result c.from_residual.result c.in_err-keep.field-0.0 _ c.from_residual.ensures

pub returns-in_err-keep-clause-at_mark : goal.returns-in_err-keep-clause-at_mark
returns-in_err-keep-clause-at_mark g c = no_result c.from_residual.result c.in_err-keep.field-0.0 _ c.from_residual.ensures

pub returns-in_err-keep-clause-reported : goal.returns-in_err-keep-clause-reported
returns-in_err-keep-clause-reported g c = no_result c.from_residual.result c.in_err-keep.field-0.0 _ c.from_residual.ensures

pub returns-in_err-keep-clause-err : goal.returns-in_err-keep-clause-err
returns-in_err-keep-clause-err g c =
    said c.from_residual.result c.in_err-keep.field-0.0 (UndoFails c.args.mark c.args.n c.args.self.now c.args.self.now) c.from_residual.ensures
    (fails_by_none c.args.mark c.args.n c.args.self.now c.in_err-keep.field-0.0 c.in_err-keep.ensures.err)

pub returns-in_err-keep-clause-front : goal.returns-in_err-keep-clause-front
returns-in_err-keep-clause-front g c = IsFront-same c.args.self.now

pub returns-in_err-keep-clause-noted : goal.returns-in_err-keep-clause-noted
returns-in_err-keep-clause-noted g c = noted_same c.args.self.now

pub offset_bounds-deref-keep : goal.offset_bounds-deref-keep
offset_bounds-deref-keep g c =
    let j = c.self.inside in
    let within = kept-within j.past.items c.in_ok-keep.keep c.args.self.now j.floor j.first.value j.first_note j.last c.self.view_is c.in_ok-keep.ensures.within in
    omega (arith, within, ap length c.deref.ensures.value)

pub slice_bounds-reports_on-count : goal.slice_bounds-reports_on-count
slice_bounds-reports_on-count g c =
    let j = c.self.inside in
    let within = kept-within j.past.items c.in_ok-keep.keep c.args.self.now j.floor j.first.value j.first_note j.last c.self.view_is c.in_ok-keep.ensures.within in
    omega (arith, within, ap length c.deref.ensures.value)

pub same-self-in_default : goal.same-self-in_default
same-self-in_default g c = refl

pub returns-in_default-clause-front : goal.returns-in_default-clause-front
returns-in_default-clause-front g c = IsFront-same c.args.self.now

pub returns-in_default-clause-noted : goal.returns-in_default-clause-noted
returns-in_default-clause-noted g c = noted_same c.args.self.now

pub take_back_to-requires-clause-within : goal.take_back_to-requires-clause-within
take_back_to-requires-clause-within g c =
    let j = c.self.inside in
    let within = kept-within j.past.items c.in_ok-keep.keep c.args.self.now j.floor j.first.value j.first_note j.last c.self.view_is c.in_ok-keep.ensures.within in
    omega (arith, within, j.past.ok.0)

pub take_back_to-requires-clause-chained : goal.take_back_to-requires-clause-chained
take_back_to-requires-clause-chained g c = (c.self.inside.first.value, c.self.invariant.0)

pub overflow_sub-stood : goal.overflow_sub-stood
overflow_sub-stood g c = omega (arith, c.len-2.ensures, c.len-stood.ensures, c.take_back_to.ensures.shorter)
