pub mod Starred
pub mod Added
pub mod Rows
pub mod RecordRows
pub mod NoteRows
pub mod ScoreRows
pub mod Instances
