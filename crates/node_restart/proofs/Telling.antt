-- What clients are told of a restart is one thing.
use Rattle.std.proofs.Common.{map, sym, ap, ◌∙◌}
use Rattle.node_restart.specs.Laws.{RestartsTellOneThing}
use Rattle.node_restart.specs.Restart.{restart}
use Rattle.process_effects.specs.Told.{down}
use Rattle.process_index.proofs.OpenCalls.{calls_one}

pub restarts_tell_one_thing : RestartsTellOneThing
restarts_tell_one_thing = record {
  tells = λ t told said (calls, open_now, is) (others, all, are). is
      ∙ ap (map (down restart)) (calls_one calls others open_now.ordered all.ordered (λ c. open_now.all c ∙ sym (all.all c)))
      ∙ sym are;
}
