pub mod Sweeping
pub mod VacuumFacts
