pub mod TargetsEndings
