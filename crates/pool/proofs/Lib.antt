pub mod PoolLoops
pub mod UsedNodes
