pub mod Claimed
pub mod FilePages
pub mod Holds
pub mod Inside
pub mod Most
pub mod Next
pub mod Texts
