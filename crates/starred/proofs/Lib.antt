pub mod Starred
pub mod FullReel
pub mod TwoInTree
pub mod CutClaim
pub mod TidyRoom
pub mod HighNode
