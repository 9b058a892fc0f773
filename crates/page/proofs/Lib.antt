pub mod PageLaws
pub mod PoolLaws
pub mod KeyLaws
