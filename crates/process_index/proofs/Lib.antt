pub mod Index
pub mod OpenCalls
pub mod Standing
