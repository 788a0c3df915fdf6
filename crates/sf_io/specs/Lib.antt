pub mod FaultPlan
pub mod MemShelf
pub mod MemSink
pub mod Increased
pub mod Shelf
pub mod Sink
pub mod TurnGate
