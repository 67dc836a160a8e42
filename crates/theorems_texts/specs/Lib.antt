-- How the texts are read, in statements: each enum by its bytes, where reading stops, what the widths say.
pub mod Enums
pub mod Stops
pub mod Reach
