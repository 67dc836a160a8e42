-- Whether any bytes are an image: what the tests of its areas stand for.
pub mod Lends
pub mod Walk
