pub mod Forms
pub mod ModuleParts
