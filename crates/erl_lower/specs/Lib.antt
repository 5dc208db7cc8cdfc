pub mod Literals
pub mod BuiltIns
pub mod Patterns
pub mod Expressions
pub mod Meaning
pub mod Lowering
pub mod WellScoped
pub mod Laws
