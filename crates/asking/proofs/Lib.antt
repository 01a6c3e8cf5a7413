pub mod Frames
mod Onward
