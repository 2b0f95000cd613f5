pub mod Copies
pub mod Inside
pub mod Made
pub mod Restored
pub mod SumFiles
