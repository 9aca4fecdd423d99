pub mod PathSteps
pub mod ClearSteps
pub mod RoomSteps
pub mod Trails
