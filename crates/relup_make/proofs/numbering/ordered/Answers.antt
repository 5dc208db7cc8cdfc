-- Indices are linked as their instructions depend on one another.
use Rattle.std.proofs.Common.{◌≡◌, length, map, sym, ap, subst, ◌∙◌}
use Rattle.std.specs.List.{filter_map}
use Rattle.std.proofs.lemmas.List.{length-map}
use Rattle.std.proofs.lemmas.Result.{IfOk-weaker}
use mathlib.Core.Path.{fun_ext}
use Rattle.dependency_order.specs.Links.{AreNumbered, linked}
use Rattle.dependency_order.specs.Orders.{AreOrderedGroups}
use Rattle.relup_make.specs.Dependencies.{depends, module_of}
use Rattle.relup_make.specs.Numbers.{numbered}
use Rattle.relup_make.proofs.Linked.{low_numbers, linked_same}
use Rattle.relup_make.proofs.numbering.ordered.Goals as goal

pub groups-requires : goal.groups-requires
groups-requires c =
    let is = c.args.instructions.now in
    let seen = c.as_slice.ensures.value ∙ c.in_ok-vertices.ensures in
    subst (λ vertices. AreNumbered (length vertices) vertices) (sym seen) (low_numbers is)

pub returns : goal.returns
returns c =
    let is = c.args.instructions.now in
    let seen : c.as_slice.result.now ≡ map (numbered (filter_map module_of is)) is = c.as_slice.ensures.value ∙ c.in_ok-vertices.ensures in
    let many : length c.as_slice.result.now ≡ length is = ap length seen ∙ length-map is (numbered (filter_map module_of is)) in
    let links : linked c.as_slice.result.now ≡ depends is = ap linked seen ∙ fun_ext (λ p. fun_ext (λ q. linked_same is p q)) in
    IfOk-weaker c.groups.result _ _ (λ groups are. subst (λ n. AreOrderedGroups (depends is) n groups) many (subst (λ links. AreOrderedGroups links (length c.as_slice.result.now) groups) links are)) c.groups.ensures
