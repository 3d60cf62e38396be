pub mod Falls
pub mod Inserts
