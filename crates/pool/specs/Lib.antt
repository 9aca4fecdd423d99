pub mod UsedNodes
