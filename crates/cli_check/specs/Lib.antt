pub mod DatabaseCheck
pub mod FileCheck
pub mod AdoptionRun
pub mod Renamings
