pub mod Answered
pub mod Asked
pub mod AskedTalk
pub mod Dialog
pub mod InNumbers
pub mod Progress
pub mod RecordSteps
