pub mod NodeCode
pub mod ClearPlaces
pub mod Ranges
pub mod Places
pub mod ReelCode
