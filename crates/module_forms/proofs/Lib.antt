pub mod Rows
pub mod Terms
pub mod Sound
pub mod ReadBack
pub mod Modules
pub mod FirstFault
pub mod TokenIndices
