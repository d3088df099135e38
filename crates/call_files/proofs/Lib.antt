pub mod CountLaws
pub mod PieceLaws
pub mod PlaceLaws
pub mod ReadLaws
pub mod RequestLaws
pub mod SetLaws
pub mod WordLaws
