pub mod Answers
pub mod Caps
pub mod Continues
pub mod CapsLemmas
