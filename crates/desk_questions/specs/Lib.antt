pub mod Conditions
pub mod Dumps
pub mod Inside
pub mod SameTunes
pub mod Told
