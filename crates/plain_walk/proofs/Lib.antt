pub mod SentItems
pub mod TakenItems
