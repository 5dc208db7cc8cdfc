-- The others stand under their texts.
use Rattle.std.proofs.Common.{length, subst}
use Rattle.std.specs.Option.{option_to_list}
use Rattle.std.proofs.Math.Seq.{take-append_seam}
use Rattle.std.proofs.lemmas.List.Elements.{All-take}
use Rattle.release_statuses.specs.Spelling.{AreSpelled, IsSpelled}
use Rattle.release_statuses.proofs.by_version.ByVersion.pop.Goals as goal

pub invariant_of-self : goal.invariant_of-self
invariant_of-self c =
    let rest = c.pop.new.self.entries in
    let last = option_to_list c.pop.result in
    let spelled = subst AreSpelled c.pop.ensures.entries c.self.invariant in
    subst AreSpelled (take-append_seam rest last) (All-take IsSpelled (length rest) _ spelled)
