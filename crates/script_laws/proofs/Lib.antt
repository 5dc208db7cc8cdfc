pub mod Applying
pub mod Children
pub mod CurrentCode
pub mod OneOutcome
pub mod AtHand
