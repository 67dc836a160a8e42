-- What the emitter of code writes.
pub mod Code
pub mod Shape
