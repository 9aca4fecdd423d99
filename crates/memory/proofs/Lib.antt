mod Cases
mod Lists
mod Fields
mod Masks
mod First
mod Bitmap
mod Trailing
mod Bytes
mod Written
mod Pairs
mod Passes
mod Stores
mod Fences
mod Possible
mod Crash
mod StoreLists
mod Segments
pub mod Laws
