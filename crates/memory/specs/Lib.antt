pub mod Words
pub mod Search
pub mod Script
pub mod Crash
pub mod Apply
pub mod Laws
