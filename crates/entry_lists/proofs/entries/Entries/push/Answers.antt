-- An entry behind the others is in a run of its own, or is counted with the last.
use Rattle.std.proofs.Common.{◌≡◌, ◌++◌, ◌∷◌, [], List, All, drop, length, replicate, sym, take, ap, ◌∙◌, subst, arith}
use Rattle.std.proofs.lemmas.List.{append-nil, length-append, map-append, take_at}
use Rattle.std.proofs.lemmas.List.Concat.{flat_map-append}
use Rattle.std.proofs.lemmas.List.Elements.{All-push}
use Rattle.entry_lists.specs.Entries.{EntryList, IsRun, RepeatsLast, entries_of, written_out}
use Rattle.entry_lists.specs.declared.entries.Run.{Run}
use Rattle.entry_lists.proofs.entries.Entries.push.Goals as goal

pub returns-then-not-counted-clause-runs : goal.returns-then-not-counted-clause-runs
returns-then-not-counted-clause-runs g c =
    let runs = c.count_repeat-counted.new.runs in
    let past = drop (length runs) c.self.inside.runs.items in
    let at : length runs ≡ c.self.inside.runs.len = omega arith in
    let entries : entries_of (take c.self.inside.runs.len (runs ++ past)) ≡ entries_of c.args.self.now.runs =
    ap entries_of (take_at runs past c.self.inside.runs.len at) ∙ c.count_repeat-counted.ensures.entries ∙ ap entries_of c.deref_mut.ensures.value ∙ ap (λ (v : EntryList g.row.E.Denot). entries_of v.runs) c.self.view_is in
    let last : Run g.row.E.Denot = record { entry = c.args.entry; count = 1 } in (
      c.args.entry ∷ [],
      ap entries_of {x = c.push_reserved.new.self.items} c.push_reserved.ensures.items ∙ map-append (λ (run : Run g.row.E.Denot). run.entry) (take c.self.inside.runs.len (runs ++ past)) (last ∷ []) ∙ ap (λ es. es ++ c.args.entry ∷ []) entries,
    )

pub returns-else-not-counted-clause-runs : goal.returns-else-not-counted-clause-runs
returns-else-not-counted-clause-runs g c =
    let runs = c.count_repeat-counted.new.runs in
    let past = drop (length runs) c.self.inside.runs.items in
    let at : length runs ≡ c.self.inside.runs.len = omega arith in (
      [],
      ap entries_of (take_at runs past c.self.inside.runs.len at) ∙ c.count_repeat-counted.ensures.entries ∙ ap entries_of c.deref_mut.ensures.value ∙ ap (λ (v : EntryList g.row.E.Denot). entries_of v.runs) c.self.view_is ∙ sym (append-nil (entries_of c.args.self.now.runs)),
    )

pub invariant_of-self : goal.invariant_of-self
invariant_of-self g c =
    let kept = c.self.inside.runs.items in
    let runs = c.count_repeat-counted.new.runs in
    let past = drop (length runs) kept in
    let last : Run g.row.E.Denot = record { entry = c.args.entry; count = 1 } in
    let at : length runs ≡ c.self.inside.runs.len = omega arith in
    let same : runs ≡ kept = c.if-not-counted.ensures.unchanged ∙ c.deref_mut.ensures.value in
    let items : c.push_reserved.new.self.items ≡ kept ++ last ∷ [] = c.push_reserved.ensures.items ∙ ap (λ rs. rs ++ last ∷ []) (take_at runs past c.self.inside.runs.len at ∙ same) in
    let out = ap (λ rs. length (written_out rs)) items ∙ ap (λ es. length es) (flat_map-append (λ (run : Run g.row.E.Denot). replicate run.count run.entry) kept (last ∷ [])) ∙ length-append (written_out kept) (c.args.entry ∷ []) in (
      omega (arith, out, c.self.invariant.0),
      subst (All (IsRun g.E.Repeats.IsIdle)) (sym items) (All-push (IsRun g.E.Repeats.IsIdle) kept last c.self.invariant.1 (record { some = omega arith; idle = λ more. absurd (omega (arith, more)) })),
    )

pub returns-then-not-counted-clause-counted : goal.returns-then-not-counted-clause-counted
returns-then-not-counted-clause-counted g c repeats =
    let is = c.deref_mut.ensures.value ∙ ap (λ (v : EntryList g.row.E.Denot). v.runs) c.self.view_is in
    absurd (c.if-not-counted.ensures.other (subst (λ (rs : List (Run g.row.E.Denot)). RepeatsLast g.E.Repeats.IsIdle rs c.args.entry) (sym is) repeats))
