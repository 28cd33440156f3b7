pub mod Answering
pub mod Saying
pub mod Serving
pub mod States
