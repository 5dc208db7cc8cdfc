-- Names that rise with the same among them are the same.
use Rattle.unpurged_code.proofs.Gathering.{one_noted, one_swept}
use Rattle.unpurged_code.proofs.laws.one_list.Goals as goal

pub returns : goal.returns
returns c = record { noted = one_noted; swept = one_swept }
