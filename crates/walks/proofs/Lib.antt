pub mod Listings
pub mod ListingsPlaces
pub mod ListingsStops
pub mod ListingsGroups
pub mod Checked
