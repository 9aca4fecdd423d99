pub mod Claiming
pub mod ClaimingEndings
