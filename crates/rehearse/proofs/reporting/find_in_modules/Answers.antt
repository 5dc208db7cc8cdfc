-- Both lists are as required.
use Rattle.rehearse.proofs.Found.{found_in_both}
use Rattle.rehearse.proofs.reporting.find_in_modules.Goals as goal

pub returns : goal.returns
returns c = found_in_both _ _ _ _ _ c.in_ok-append.ensures.items c.in_ok-found.ensures.found c.in_ok-asking.ensures.found
