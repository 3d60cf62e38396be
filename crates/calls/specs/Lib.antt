pub mod Answers
pub mod Places
pub mod Refusals
pub mod Strides
pub mod Sums
