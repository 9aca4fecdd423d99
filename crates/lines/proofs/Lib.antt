pub mod Digits
mod Numbers
mod Places
mod Fields
mod Collect
mod Pieces
mod Format
pub mod Laws
