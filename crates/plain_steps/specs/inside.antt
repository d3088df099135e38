-- What only the private functions say.
pub mod FiredChoices
pub mod StampLists
