use Rattle.source_laws.proofs.Outcomes.{calls_are_regular, jobs_are_regular}
use Rattle.source_laws.proofs.evaluation_of_sources_is_regular.Goals as goal

pub returns : goal.returns
returns c = record { calls = calls_are_regular; jobs = jobs_are_regular }
