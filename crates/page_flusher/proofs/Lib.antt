pub mod CommitLaws
pub mod RecordLaws
pub mod LayoutLaws
pub mod Laying
pub mod FreeLaws
