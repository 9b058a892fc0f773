pub mod Bits
pub mod Lines
pub mod Noting
pub mod Tops
pub mod Visits
pub mod Alike
pub mod Numbering
