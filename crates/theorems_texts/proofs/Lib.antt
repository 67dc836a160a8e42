-- Texts: each enum by its bytes, the widths, where reading stops.
pub mod Enums
pub mod Widths
pub mod Stopped
