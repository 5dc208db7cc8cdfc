pub mod Apart
pub mod Children
pub mod Distinct
pub mod Forms
