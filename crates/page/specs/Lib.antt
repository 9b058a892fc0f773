-- What a reader of the contracts of `page` has to believe.
pub mod Page
pub mod Header
pub mod Pool
pub mod Key
pub mod Keys
