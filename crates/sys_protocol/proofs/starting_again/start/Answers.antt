-- As many pids as spots.
use Rattle.std.proofs.Common.{length, List, sym, ap, ◌∙◌}
use Rattle.std.proofs.lemmas.List.{length-map}
use Rattle.app_table.specs.declared.spot.Spot.{Spot}
use Rattle.app_table.specs.declared.undo.Rerun.{Rerun}
use Rattle.sys_protocol.proofs.Lengths.{specs_at_length}
use Rattle.sys_protocol.specs.Stopping.{specs_at}
use Rattle.sys_protocol.proofs.starting_again.start.Goals as goal

pub run-requires-clause-enough : goal.run-requires-clause-enough
run-requires-clause-enough c =
    let spots = c.in_ok-spots.spots.items in
    let apps = c.args.apps.now in
    let many = ap (λ (ss : List Spot). length (specs_at ss apps)) c.as_slice.ensures.value ∙ specs_at_length spots apps c.in_ok-spots.ensures.idle in
    let as_many = sym (length-map c.in_ok-reruns.reruns (λ (r : Rerun). r.spot)) ∙ ap length (c.in_ok-reruns.ensures.spots ∙ c.as_slice-2.ensures.value) in
    ap length c.as_slice-4.ensures.value ∙ c.in_ok-pids.ensures.enough ∙ ap length (c.as_slice-3.ensures.value ∙ c.in_ok-specs.ensures) ∙ many ∙ sym as_many
