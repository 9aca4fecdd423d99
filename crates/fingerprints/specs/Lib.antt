pub mod Tables
pub mod Filled
