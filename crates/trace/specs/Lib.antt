pub mod Cuts
pub mod Faults
pub mod Fields
pub mod Laws
pub mod Lines
pub mod Numbers
pub mod Streams
pub mod Texts
