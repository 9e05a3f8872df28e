-- Laws of rounding, of the arithmetic and of the order, over the format. Assumes nothing.
pub mod Rings
pub mod Goods
pub mod Plus
pub mod Ranks
pub mod Cmp
pub mod Within
pub mod Narrows
pub mod Self
pub mod Grows
pub mod Keys
pub mod Order
pub mod Mono
pub mod NonNeg
pub mod Bounds
pub mod Total
