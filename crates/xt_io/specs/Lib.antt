pub mod Files
pub mod Sink
pub mod MemFiles
pub mod MemSink
pub mod Disk
pub mod Loads
