-- The tests of a command in their order.
pub mod Order
