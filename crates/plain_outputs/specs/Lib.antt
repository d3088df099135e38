pub mod SentItems
pub use Rattle.plain_queues.specs.plain_systems
