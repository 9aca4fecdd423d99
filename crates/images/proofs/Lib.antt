pub mod Formatting
pub mod Recovering
pub mod Converting
