pub mod Order
pub mod FirstBad
pub mod Replays
pub mod ScheduleText
pub mod Checked
