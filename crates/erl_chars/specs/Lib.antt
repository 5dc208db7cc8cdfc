pub mod Chars
pub mod Cursor
pub mod Digits
pub mod Gaps
pub mod QuoteErrors
pub mod QuoteSteps
pub mod Quotes
