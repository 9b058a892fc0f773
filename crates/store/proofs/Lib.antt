pub mod LeLaws
pub mod PartLaws
pub mod PutLaws
pub mod SeamLaws
pub mod Tests
pub mod LeBytesLaws
