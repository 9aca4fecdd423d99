pub mod Ended
pub mod Laws
