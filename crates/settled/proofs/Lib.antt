pub mod Suffixes
pub mod Held
pub mod Settled
pub mod SettledSteps
pub mod SettledGroups
