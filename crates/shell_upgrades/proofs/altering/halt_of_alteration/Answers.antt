-- A refusal that is told without memory, or none.
use Rattle.std.proofs.Common.{false, true, ap, ◌∙◌}
use Rattle.std.specs.Str.{chars}
use Rattle.shell_state.proofs.Performing.{runner_told, unfull}
use Rattle.shell_state.specs.State.{node_of}
use Rattle.shell_upgrades.proofs.Altered.{alteration_may, alteration_meanwhile, alteration_refused}
use Rattle.shell_upgrades.specs.Upgrades.{refusal_of_alteration}
use Rattle.shell_upgrades.proofs.altering.halt_of_alteration.Goals as goal

pub returns-then-is_installing : goal.returns-then-is_installing
returns-then-is_installing c =
    let n = node_of c.args.held.now in (
      unfull _ _ c.is_full.ensures c.if-is_full.false,
      alteration_meanwhile c.args.kind (chars c.args.vsn.now) n (runner_told _ n _ true c.node.ensures c.is_installing.ensures c.if-is_installing.true),
    )

pub returns-in-Some : goal.returns-in-Some
returns-in-Some c =
    let n = node_of c.args.held.now in
    let vsn = chars c.args.vsn.now in
    let none = runner_told _ n _ false c.node.ensures c.is_installing.ensures c.if-is_installing.false in (
      unfull _ _ c.is_full.ensures c.if-is_full.false,
      alteration_refused c.args.kind vsn n c.in-Some.why none (c.in-Some.ensures ∙ ap (refusal_of_alteration c.args.kind vsn) c.node-2.ensures),
    )

pub returns-in-None : goal.returns-in-None
returns-in-None c =
    let n = node_of c.args.held.now in
    let vsn = chars c.args.vsn.now in
    let none = runner_told _ n _ false c.node.ensures c.is_installing.ensures c.if-is_installing.false in (
      unfull _ _ c.is_full.ensures c.if-is_full.false,
      alteration_may c.args.kind vsn n none (c.in-None.ensures ∙ ap (refusal_of_alteration c.args.kind vsn) c.node-2.ensures),
    )
