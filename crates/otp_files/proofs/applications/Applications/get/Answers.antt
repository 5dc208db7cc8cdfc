-- The index of a name is that of the first application of that name.
use Rattle.std.proofs.Common.{sym, ap, ◌∙◌}
use Rattle.std.specs.Prelude.{slice_get}
use Rattle.std.specs.Option.{option_copied}
use Rattle.std.specs.Str.{chars}
use Rattle.otp_files.specs.Distinct.{app_named, index_of}
use Rattle.otp_files.proofs.Distinct.{found_first, found_nowhere, lent_at}
use Rattle.otp_files.proofs.applications.Applications.get.Goals as goal

pub returns-in-Some : goal.returns-in-Some
returns-in-Some c =
    let text = c.as_str.result.now in
    let apps = c.args.self.now in
    let index = ap (index_of 0 (chars text)) (sym c.self.view_is) ∙ sym (c.self.invariant.1 text c.as_str.utf8) ∙ sym c.get.ensures.value ∙ ap option_copied c.in-Some.is in
    let found = found_first c.in-Some.index.now (chars text) apps index in
    lent_at c.as_slice.result.now c.in-Some.index.now c.get-in-Some.result c.get-in-Some.ensures.lookup ∙ ap (λ items. slice_get items c.in-Some.index.now) c.as_slice.ensures.items ∙ found ∙ ap (λ cs. app_named cs apps) c.as_str.ensures.chars

pub returns-in-None : goal.returns-in-None
returns-in-None c =
    let text = c.as_str.result.now in
    let none = sym (c.self.invariant.1 text c.as_str.utf8) ∙ sym c.get.ensures.value ∙ ap option_copied c.in-None.is in
    sym (found_nowhere 0 c.args.name.now c.args.self.now (ap (λ cs. index_of 0 cs c.args.self.now) (sym c.as_str.ensures.chars) ∙ ap (index_of 0 (chars text)) (sym c.self.view_is) ∙ none))
