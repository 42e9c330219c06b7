pub mod Memory
pub mod Held
pub mod Items
pub mod RowSlots
pub mod Slots
