pub mod FrameLookups
