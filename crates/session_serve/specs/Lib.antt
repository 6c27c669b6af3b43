pub mod Holding
pub mod Siding
pub mod Answering
pub mod Saying
pub mod Standing
