pub mod Asking
pub mod AskingCalls
