pub mod Asked
pub mod Change
pub mod FaultCode
pub mod Listed
pub mod Standing
pub mod Tables
