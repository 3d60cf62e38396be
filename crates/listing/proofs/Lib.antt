pub mod Tellings
pub mod Rows
pub mod Wholes
pub mod Writing
