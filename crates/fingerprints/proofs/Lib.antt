pub mod Folds
pub mod Filled
pub mod Flags
pub mod Packing
