pub mod AllSlots
pub mod MarkedNodesMend
pub mod Sounds
pub mod Laws
