pub mod BackupFiles
pub mod Backups
pub mod CheckedCopies
pub mod CopyNames
pub mod Inside
pub mod NextCopies
pub mod OldCopies
