-- A refusal that is told without memory, or none.
use Rattle.std.proofs.Common.{◌≡◌, ◌∙◌, false, true, is_some, None, Some, ap}
use Rattle.std.specs.Str.{chars}
use Rattle.shell_upgrades.specs.Node.{NodeState}
use Rattle.shell_upgrades.proofs.Performing.{runner_told, unfull}
use Rattle.shell_upgrades.specs.State.{node_of}
use Rattle.shell_exec.proofs.Refusing.{change_may, change_meanwhile, change_refused}
use Rattle.shell_exec.specs.Done.{refusal_of_change}
use Rattle.shell_exec.proofs.changing.halt_of_change.Goals as goal

pub returns-then-is_installing : goal.returns-then-is_installing
returns-then-is_installing c =
    let n = node_of c.args.held.now in (
      unfull _ _ c.is_full.ensures c.if-is_full.false,
      change_meanwhile c.args.kind (chars c.args.name.text.now) n (runner_told _ n _ true c.node.ensures c.is_installing.ensures c.if-is_installing.true),
    )

pub returns-in-Some : goal.returns-in-Some
returns-in-Some c =
    let n = node_of c.args.held.now in
    let name = chars c.args.name.text.now in
    let none = runner_told _ n _ false c.node.ensures c.is_installing.ensures c.if-is_installing.false in (
      unfull _ _ c.is_full.ensures c.if-is_full.false,
      change_refused c.args.kind name n c.in-Some.why none (c.in-Some.ensures ∙ ap (refusal_of_change c.args.kind name) c.node-2.ensures),
    )

pub returns-in-None : goal.returns-in-None
returns-in-None c =
    let n = node_of c.args.held.now in
    let name = chars c.args.name.text.now in
    let none = runner_told _ n _ false c.node.ensures c.is_installing.ensures c.if-is_installing.false in (
      unfull _ _ c.is_full.ensures c.if-is_full.false,
      change_may c.args.kind name n none (c.in-None.ensures ∙ ap (refusal_of_change c.args.kind name) c.node-2.ensures),
    )
