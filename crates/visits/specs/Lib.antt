pub mod Walk
pub mod Places
pub mod Marked
pub mod Laws
