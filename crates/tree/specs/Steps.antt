-- Steps of the code and needs of its stores, which only contracts inside cite.
pub mod Descend
