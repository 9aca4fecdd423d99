pub mod IdleReels
pub mod Listing
pub mod Opening
pub mod Retiring
pub mod Tidying
pub mod SlotReads
