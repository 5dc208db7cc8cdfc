pub mod ExpressionRows
pub mod Keys
pub mod ModuleBytes
pub mod Noting
pub mod PatternRows
pub mod Written
