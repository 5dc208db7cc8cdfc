-- The step is refused so, or it would go.
use Rattle.std.proofs.Common.{ℕ, Option, subst, sym}
use Rattle.node_console.specs.Console.{Awaits, goes, is_refused}
use Rattle.node_console.proofs.showing.awaited.Goals as goal

pub returns-in-Some : goal.returns-in-Some
returns-in-Some c =
    subst (λ (o : Option ℕ). Awaits c.args.node.now o) (sym c.busy_in.ensures) (is_refused c.in-Some.refusal c.in-Some.ensures)

pub returns : goal.returns
returns c = goes c.in-None.ensures
