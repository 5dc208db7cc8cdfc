-- The name is asked for by its text.
use Rattle.std.proofs.Common.{ap, sym, ◌∙◌}
use Rattle.process_store.specs.Table.{pid_of}
use Rattle.process_effects.specs.Acts.{receiver_of}
use Rattle.process_effects.proofs.sends.receiver_of.Goals as goal

pub returns-in-Named : goal.returns-in-Named
returns-in-Named c =
    c.pid_of.ensures ∙ ap (λ name. pid_of name c.args.store.now) c.as_str.ensures.chars ∙ ap (λ to. receiver_of to c.args.store.now) (sym c.in-Named.is)
