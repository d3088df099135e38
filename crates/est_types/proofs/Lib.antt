pub mod PartRows
pub mod SizeRows
