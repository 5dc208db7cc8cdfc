use Rattle.erl_steps.proofs.Leads.{step_leads}
use Rattle.erl_steps.proofs.each_step_keeps_to_the_rules.Goals as goal

pub returns : goal.returns
returns c = λ w next m f d. step_leads w next m f d
