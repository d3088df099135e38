pub mod PointsOfHeaders
