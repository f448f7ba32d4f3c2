-- What a call that prints a piece of a line promises.
pub mod Lines
