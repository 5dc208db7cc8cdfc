-- One form more.
use Rattle.std.proofs.Common.{ap, ◌∙◌}
use Rattle.erl_lint.specs.First.{soonest}
use Rattle.erl_lint.specs.Keys.{with_heading, heading_faults}
use Rattle.erl_lint.proofs.Rows.{form_found, form_noted}
use Rattle.erl_lint.proofs.functions.note_functions.Goals as goal

pub loop-form-preserved : goal.loop-form-preserved
loop-form-preserved c = (
  form_found c.args.forms.now c.loop-form.form-index c.form-item.result c.args.functions.now.keys c.loop-form.functions.keys
      c.args.first c.loop-form.found c.in_ok-found.found c.loop-form-test.true c.form-item.is c.loop-form.invariant.1 c.loop-form.invariant.0
      (c.in_ok-found.ensures.found ∙ ap (λ h. soonest c.loop-form.found (heading_faults c.loop-form.functions.keys h)) c.in_ok-heading.ensures),
  form_noted c.args.forms.now c.loop-form.form-index c.form-item.result c.args.functions.now.keys c.loop-form.functions.keys
      c.note_heading.new.functions.keys c.loop-form-test.true c.form-item.is c.loop-form.invariant.1
      (c.in_ok-found.ensures.noted ∙ ap (with_heading c.loop-form.functions.keys) c.in_ok-heading.ensures),
)
