pub mod Limits
pub mod Incipits
pub mod Scales
pub mod ScaleAndIncipitKeys
pub mod Inside
