pub mod OneLine
pub mod TextPosition
pub mod TimeValues
