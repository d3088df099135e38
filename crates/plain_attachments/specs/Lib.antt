pub mod LinksOfPoints
pub mod LostLinks
