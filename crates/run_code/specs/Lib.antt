-- What the leaves of a code push.
pub mod Leaf
