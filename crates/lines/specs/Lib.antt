pub mod Decimal
pub mod Line
pub mod Reading
pub mod Found
pub mod Input
pub mod Laws
