-- What is not among the names has the index behind all.
use Rattle.std.proofs.Common.{◌∙◌, ap, sym}
use Rattle.std.specs.List.{position_or_len}
use Rattle.std.specs.Str.{bytes_eq}
use Rattle.erl_lint.proofs.Indices.{none_found}
use Rattle.erl_lint.proofs.scope.Scope.index_of.Goals as goal

pub returns-in-None : goal.returns-in-None
returns-in-None c =
    let names = c.self.inside.names.keys in
    c.len.ensures.len ∙ none_found (bytes_eq c.of.result) names (sym c.get_index_of.ensures.index ∙ c.in-None.is)
    ∙ ap (λ k. position_or_len (bytes_eq k) names) c.of.ensures ∙ ap (position_or_len (bytes_eq c.args.name.now)) c.self.view_is
