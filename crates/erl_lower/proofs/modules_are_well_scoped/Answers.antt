use Rattle.erl_lower.proofs.modules_are_well_scoped.Goals as goal
use Rattle.erl_lower.proofs.WellScoped.{have_arities, well_scoped}

pub returns : goal.returns
returns c = record { scopes = well_scoped; arities = have_arities }
