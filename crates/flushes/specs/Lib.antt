pub mod Crash
pub mod Translate
pub mod Module
pub mod Passes
pub mod Laws
