pub mod AtHand
pub mod Laws
