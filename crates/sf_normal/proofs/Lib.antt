pub mod AbsurdStates
pub mod Dropping
pub mod Forcing
pub mod Splitting
pub mod Unrolling
pub mod UnrollingBack
