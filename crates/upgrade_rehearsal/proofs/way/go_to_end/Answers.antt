-- The script was run to its end, and the node in the player's present state is asked.
use Rattle.std.proofs.Common.{◌∙◌, ap, refl}
use Rattle.code_server.specs.Modules.{Table as Loaded}
use Rattle.erl_ir.specs.Module.{Forms}
use Rattle.node_core.specs.Node.{NodeState}
use Rattle.node_questions.specs.Lingering.{lingerers}
use Rattle.process_store.specs.Table.{Table}
use Rattle.upgrade_rehearsal.proofs.way.go_to_end.Goals as goal

pub go_through-requires : goal.go_through-requires
go_through-requires g c = c.in_ok-begun.ensures

pub returns-clause-way : goal.returns-clause-way
returns-clause-way g c =
    let node = c.node-node.result.now in
    record {
      refusal = refl;
      seen = c.in_ok-begun.ensures;
      stations = c.in_ok-stations.ensures.seen;
      through = c.in_ok-stations.ensures.through;
      lingering =
          c.in_ok-lingering.ensures ∙ ap (λ (t : Table). lingerers t c.modules.result.now.entries) c.processes.ensures
          ∙ ap (λ (m : Loaded Forms). lingerers node.processes m.entries) c.modules.ensures.modules
          ∙ ap (λ (n : NodeState). lingerers n.processes n.modules.entries) c.node-node.ensures;
    }
