pub mod AllSlots
pub mod Mended
pub mod Laws
