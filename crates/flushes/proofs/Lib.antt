mod Flushes
mod Next
mod Translated
mod Translator
mod Possible
mod Modules
mod Passes
mod Progress
mod Decoded
pub mod Laws
