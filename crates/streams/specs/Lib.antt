pub mod Count
pub mod Failure
pub mod Words
