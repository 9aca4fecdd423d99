pub mod Answers
pub mod HeadLists
pub mod Ends
pub mod Checked
pub mod Chain
pub mod Driver
