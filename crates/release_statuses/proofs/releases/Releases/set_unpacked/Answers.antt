-- Memory is told where there is no refusal.
use Rattle.std.proofs.Common.{ap, sym, ◌∙◌}
use Rattle.std.proofs.lemmas.Result.{err_from_is_err_and}
use Rattle.release_statuses.specs.Statuses.{unpack_refusal}
use Rattle.release_statuses.proofs.Standing.{none_unless}
use Rattle.release_statuses.proofs.releases.Releases.set_unpacked.Goals as goal

pub returns-in_err-push-clause-refused : goal.returns-in_err-push-clause-refused
returns-in_err-push-clause-refused c =
    let p = err_from_is_err_and c.from_residual.result c.from_residual.ensures.1 in
    let named = ap (λ vsn. unpack_refusal vsn c.args.self.now) (sym c.as_str.ensures.chars) in
    let unrefused = sym c.unpack_refusal.ensures ∙ none_unless c.unpack_refusal.result c.in_default.not-Some in
    rw (p.1, p.2) (named ∙ unrefused)
