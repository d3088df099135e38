pub mod FrameValues
