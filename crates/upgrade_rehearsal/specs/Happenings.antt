-- What an event causes that clients and supervisors see: the replies that are sent with it; the exit of the process whose job is
-- committed, if the process ends because of it; and, if the node refuses a message, the name that it was sent to (Erlang
-- Reference Manual, Processes; gen_server(3)).
use Rattle.std.specs.Prelude.{ℕ, List, [], Option, None, Some}
use Rattle.erl_semantics.specs.declared.acts.Place.{Place}
use Rattle.erl_semantics.specs.declared.acts.Place.TheVariants.{Server, Loop}
use Rattle.erl_semantics.specs.declared.jobs.Job.{Job}
use Rattle.erl_semantics.specs.declared.outcome.End.{End}
use Rattle.erl_semantics.specs.declared.outcome.End.TheVariants as ends
use Rattle.node_types.specs.declared.event.Event.{Event}
use Rattle.node_types.specs.declared.event.Event.TheVariants as event
use Rattle.process_effects.specs.declared.told.Reply.{Reply}
use Rattle.rehearsals.specs.declared.happening.Exit.{Exit}
use Rattle.rehearsals.specs.declared.happening.Happening.{Happening}

abbrev pub module_at : Place → List ℕ
module_at (Server m state) = m
module_at (Loop m serial function args) = m

abbrev pub exit_by : Job → End → Option Exit
exit_by job (ends.Rest place) = None
exit_by job (ends.Value term) = None
exit_by job (ends.Exit reason) = Some (record { pid = job.pid; «module» = module_at job.place; message = job.message; reason = reason })

abbrev pub exit_of : Event → Option Exit
exit_of (event.Arrive client name body) = None
exit_of (event.Take pid) = None
exit_of (event.Commit done) = exit_by done.job done.outcome.end
exit_of (event.Revive app id) = None
exit_of (event.Load code) = None
exit_of (event.Delete name) = None
exit_of (event.Purge name) = None
exit_of (event.SoftPurge name) = None
exit_of (event.SetUnpacked release) = None
exit_of (event.Remove vsn) = None
exit_of (event.Install vsn) = None
exit_of (event.Advance give_up) = None
exit_of (event.MakePermanent vsn) = None
exit_of (event.RebootOld vsn) = None
exit_of event.Sweep = None

abbrev pub receiver_of : Event → Option (List ℕ)
receiver_of (event.Arrive client name body) = Some name
receiver_of (event.Take pid) = None
receiver_of (event.Commit done) = None
receiver_of (event.Revive app id) = None
receiver_of (event.Load code) = None
receiver_of (event.Delete name) = None
receiver_of (event.Purge name) = None
receiver_of (event.SoftPurge name) = None
receiver_of (event.SetUnpacked release) = None
receiver_of (event.Remove vsn) = None
receiver_of (event.Install vsn) = None
receiver_of (event.Advance give_up) = None
receiver_of (event.MakePermanent vsn) = None
receiver_of (event.RebootOld vsn) = None
receiver_of event.Sweep = None

-- What an event causes if the node accepts it, with these replies, or refuses it.

abbrev pub accepted : Event → List Reply → Happening
accepted e replies = record { replies = replies; exit = exit_of e; unheard = None }

abbrev pub refused : Event → Happening
refused e = record { replies = []; exit = None; unheard = receiver_of e }
