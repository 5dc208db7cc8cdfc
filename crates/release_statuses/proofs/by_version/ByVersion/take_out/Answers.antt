-- The release at the index goes, with its text, under which none stands then.
use Rattle.std.proofs.Common.{remove, slice_get, option_map, sym, ap, subst, ◌∙◌}
use Rattle.std.specs.Map.{values_of}
use Rattle.std.specs.Prelude.{string_bytes}
use Rattle.std.proofs.lemmas.Option.{slice_get-map}
use Rattle.std.proofs.lemmas.Str.{IsUtf8-string_bytes}
use Rattle.values.proofs.Edits.{All-remove, All-slice_get, map-remove}
use Rattle.release_statuses.specs.Spelling.{AreSpelled, IsSpelled}
use Rattle.release_statuses.specs.Statuses.{index_of}
use Rattle.release_statuses.proofs.Spelled.{index-absent_text}
use Rattle.release_statuses.proofs.by_version.ByVersion.take_out.Goals as goal

pub invariant_of-self : goal.invariant_of-self
invariant_of-self c =
    let es = c.self.inside.table.entries in
    subst AreSpelled (sym c.in-Some.ensures.entries) (All-remove IsSpelled es c.args.index c.self.invariant)

pub invariant_of-result : goal.invariant_of-result
invariant_of-result c =
    let es = c.self.inside.table.entries in
    All-slice_get IsSpelled es c.args.index (c.in-Some.vsn, c.in-Some.it) c.self.invariant (sym c.in-Some.ensures.entry)

pub returns-clause-taken : goal.returns-clause-taken
returns-clause-taken c =
    let es = c.self.inside.table.entries in
    let at = sym c.in-Some.ensures.entry in
    ap (λ its. slice_get its c.args.index) (sym c.self.view_is) ∙ slice_get-map (λ e. e.1) es c.args.index ∙
    ap (option_map (λ e. e.1)) at

pub returns-clause-rest : goal.returns-clause-rest
returns-clause-rest c =
    ap values_of c.in-Some.ensures.entries ∙ map-remove (λ e. e.1) c.self.inside.table.entries c.args.index ∙
    ap (λ its. remove its c.args.index) c.self.view_is

pub returns-clause-absent : goal.returns-clause-absent
returns-clause-absent c =
    let es = c.self.inside.table.entries in
    let rest = c.shift_remove_index.new.self.entries in
    let key = c.in-Some.vsn in
    let it = c.in-Some.it in
    let spells = All-slice_get IsSpelled es c.args.index (key, it) c.self.invariant (sym c.in-Some.ensures.entry) in
    let spelled = subst AreSpelled (sym c.in-Some.ensures.entries) (All-remove IsSpelled es c.args.index c.self.invariant) in
    let gone = index-absent_text (string_bytes key) rest (IsUtf8-string_bytes key) spelled c.in-Some.ensures.updates.1 in
    sym (ap (λ v. index_of v (values_of rest)) spells) ∙ gone
