use Rattle.source_laws.proofs.Forming as forming
use Rattle.source_laws.proofs.sources_are_sound.Goals as goal

pub returns : goal.returns
returns c = forming.sources_are_sound
