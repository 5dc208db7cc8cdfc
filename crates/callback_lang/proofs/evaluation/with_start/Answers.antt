-- The acts before the start, the start with its name, and the acts behind it.
use Rattle.std.proofs.Common.{◌∙◌, ap}
use Rattle.std.specs.Prelude.{min}
use Rattle.callback_lang.proofs.Finishing.{told_start}
use Rattle.callback_lang.proofs.evaluation.with_start.Goals as goal

pub returns : goal.returns
returns c = told_start c.args.acts.items c.split_off.new.self.items c.in_ok-rest.rest.items c.push.new.self.items
    c.push_name.new.acts.items c.append.new.self.items c.min-count.result c.args.before c.args.place c.args.registered
    (c.min-count.ensures ∙ ap (λ m. min m c.args.before) (c.len.ensures ∙ c.args.acts.ok.0))
    c.in_ok-rest.ensures.items c.in_ok-rest.ensures.tail c.in_ok-push.ensures.items c.in_ok-push_name.ensures c.in_ok-append.ensures.items
