-- What was evaluated, and what is given to it, as contracts see them.
use Rattle.std.specs.Prelude.{map}
use Rattle.erl_term.specs.Term.{tree}
use Rattle.erl_semantics.specs.Acts.{act_of, place}
use Rattle.erl_semantics.specs.Jobs as jobs
use Rattle.erl_semantics.specs.State as state
use Rattle.erl_semantics.specs.declared.instance.Instance.{Instance}
use Rattle.erl_semantics.specs.declared.instance.Mode.{Mode}
use Rattle.erl_semantics.specs.declared.instance.Mode.TheVariants as modes
use Rattle.erl_semantics.specs.declared.jobs.Job.{Job}
use Rattle.erl_semantics.specs.declared.outcome.End.{End}
use Rattle.erl_semantics.specs.declared.outcome.End.TheVariants as ends
use Rattle.erl_semantics.specs.declared.outcome.Outcome.{Outcome}

abbrev pub instance : Instance → state.Instance
instance i = record { name = i.name; serial = i.serial; forms = i.module }

abbrev pub mode_of : Mode → state.Mode
mode_of modes.Plain = state.plain
mode_of modes.Start = state.start_mode

abbrev pub end_of : End → state.Result
end_of (ends.Rest p) = state.rest (place p)
end_of (ends.Value t) = state.value (tree t)
end_of (ends.Exit t) = state.exit (tree t)

abbrev pub outcome_of : Outcome → jobs.Outcome
outcome_of o = record { acts = map act_of o.acts; ended = end_of o.end }

abbrev pub job_of : Job → jobs.Job
job_of j = record {
  pid = j.pid;
  turn = j.turn;
  place = place j.place;
  entry_serial = j.entry_serial;
  message = tree j.message;
  code = map instance j.code;
}
