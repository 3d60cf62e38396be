pub mod Chunks
pub mod Digits
pub mod FirstFault
pub mod Lanes
pub mod OneText
pub mod Parts
pub mod ReadBack
pub mod Streaming
