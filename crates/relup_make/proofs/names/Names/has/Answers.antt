-- A name is one of those that have an index.
use Rattle.std.proofs.Common.{ap, ◌∙◌}
use Rattle.std.specs.Option.{is_some}
use Rattle.relup_make.proofs.Indices.{is_placed}
use Rattle.relup_make.proofs.names.Names.has.Goals as goal

pub returns : goal.returns
returns c = c.is_some.ensures ∙ ap is_some c.index_of.ensures ∙ is_placed 0 c.args.name.now c.args.self.now
