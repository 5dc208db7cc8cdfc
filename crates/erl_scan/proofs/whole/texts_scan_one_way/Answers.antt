-- From quotes being read in one way.
use Rattle.erl_scan.proofs.WholeTexts.{one_scan}
use Rattle.erl_scan.proofs.whole.texts_scan_one_way.Goals as goal

pub returns : goal.returns
returns c = one_scan c.quotes_read_one_way.ensures
