pub mod DeliveryLaws
pub mod OutsideLaws
