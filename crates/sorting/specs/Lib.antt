pub mod Sorted
pub mod Laws
pub mod Stretches
