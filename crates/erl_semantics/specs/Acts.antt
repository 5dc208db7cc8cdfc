-- Acts and places, as contracts see them.
use Rattle.erl_term.specs.Term.{tree}
use Rattle.erl_semantics.specs.declared.acts.Act.{Act}
use Rattle.erl_semantics.specs.declared.acts.Act.TheVariants as acts
use Rattle.erl_semantics.specs.declared.acts.Place.{Place}
use Rattle.erl_semantics.specs.declared.acts.Place.TheVariants as places
use Rattle.erl_semantics.specs.declared.acts.Receiver.{Receiver}
use Rattle.erl_semantics.specs.declared.acts.Receiver.TheVariants as receivers
use Rattle.erl_semantics.specs.State as state

abbrev pub place : Place → state.Place
place (places.Server m s) = state.server m (tree s)
place (places.Loop m serial name args) = state.loop m serial name args

abbrev pub receiver : Receiver → state.Receiver
receiver (receivers.Named name) = state.named name
receiver (receivers.Process n) = state.process n

abbrev pub act_of : Act → state.Act
act_of (acts.Send to t) = state.send (receiver to) (tree t)
act_of (acts.Reply number t) = state.reply number (tree t)
act_of (acts.Start p) = state.start (place p)
act_of (acts.Name name by_register) = state.name name by_register
