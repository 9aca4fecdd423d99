pub mod Sorts
pub mod Rising
pub mod Search
pub mod Stretches
pub mod Fronts
