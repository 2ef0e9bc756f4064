pub mod Operands
pub mod Bits
pub mod Parts
pub mod RowsApart
pub mod OneWord
pub mod Found
