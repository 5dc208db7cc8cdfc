-- The release goes last, under a text of its version.
use Rattle.std.proofs.Common.{◌∷◌, [], ◌++◌, sym, ap, subst, ◌∙◌}
use Rattle.std.specs.Map.{values_of}
use Rattle.std.specs.Str.{chars}
use Rattle.std.proofs.lemmas.List.{map-append}
use Rattle.std.proofs.lemmas.List.Elements.{All-push}
use Rattle.release_statuses.specs.Spelling.{AreSpelled, IsSpelled}
use Rattle.release_statuses.specs.Statuses.{index_of, vsn_of}
use Rattle.release_statuses.proofs.Spelled.{entries-pushed, unlisted}
use Rattle.release_statuses.proofs.by_version.ByVersion.push.Goals as goal

pub invariant_of-self-2 : goal.invariant_of-self-2
invariant_of-self-2 c =
    let es = c.self.inside.table.entries in
    let key = c.in_ok-vsn.vsn in
    let spells = ap chars c.in_ok-vsn.ensures.ok ∙ c.as_str.ensures.chars in
    let none = ap (index_of (vsn_of c.args.it)) c.self.view_is ∙ c.requires in
    let absent = unlisted es key c.args.it c.self.invariant spells none in
    let entries = c.in_ok-insert.ensures.entries ∙ entries-pushed c.self.inside.table key c.args.it absent in
    subst AreSpelled (sym entries) (All-push IsSpelled es (key, c.args.it) c.self.invariant spells)

pub returns-clause-pushed : goal.returns-clause-pushed
returns-clause-pushed c =
    let es = c.self.inside.table.entries in
    let key = c.in_ok-vsn.vsn in
    let spells = ap chars c.in_ok-vsn.ensures.ok ∙ c.as_str.ensures.chars in
    let none = ap (index_of (vsn_of c.args.it)) c.self.view_is ∙ c.requires in
    let absent = unlisted es key c.args.it c.self.invariant spells none in
    let entries = c.in_ok-insert.ensures.entries ∙ entries-pushed c.self.inside.table key c.args.it absent in
    ap values_of entries ∙ map-append (λ e. e.1) es ((key, c.args.it) ∷ []) ∙ ap (λ its. its ++ c.args.it ∷ []) c.self.view_is
