pub mod Asks
pub mod Begins
pub mod Growths
pub mod Puts
