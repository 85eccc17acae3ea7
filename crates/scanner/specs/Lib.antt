pub mod Commands
pub mod Legal
pub mod Leading
