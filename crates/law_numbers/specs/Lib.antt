pub mod ShortReports
pub mod WritableLaws
