-- What has booted is in place of what ran.
use Rattle.std.proofs.Common.{◌≡◌, ◌∙◌, List, [], None, sym, subst}
use Rattle.app_table.specs.Applications.{Application}
use Rattle.code_server.specs.Modules.{Table as Loaded}
use Rattle.erl_ir.specs.Module.{Forms}
use Rattle.node_restart.specs.Restart.{RestartsAs, TellsRestart, restart_refusal}
use Rattle.process_effects.specs.declared.told.Reply.{Reply}
use Rattle.process_store.specs.Table.{Table}
use Rattle.release_statuses.specs.declared.listed.Listed.{Listed}
use Rattle.release_table.specs.declared.table.Release.{Release}
use Rattle.node_parts.specs.Node.{NodeState}
use Rattle.node_parts.specs.Scripts.{IsRestarted}

pub is_restarted : (r : Release) (releases : List Listed) (n after : NodeState) (told : List Reply) (modules : Loaded Forms) (t : Table) (apps : List Application) →
    restart_refusal r n.modules ≡ None → TellsRestart n.processes told → RestartsAs r n.modules n.processes modules t apps →
    after ≡ record { modules = modules; processes = t; apps = apps; releases = releases; runner = None } → IsRestarted r releases n after told
is_restarted r releases n after told modules t apps unrefused tells boots is = record {
  unrefused = unrefused;
  tells = tells;
  boots = subst (λ (s : NodeState). RestartsAs r n.modules n.processes s.modules s.processes s.apps) (sym is) boots;
  is = is ∙ (λ i. record {
    modules = (sym is i).modules;
    processes = (sym is i).processes;
    apps = (sym is i).apps;
    releases = releases;
    runner = None;
  });
}
