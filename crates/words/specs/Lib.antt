-- Document 01's words on one word and its places; then the laws on the promises. Each file opens with its notions.
pub mod Places
pub mod WordLaws
pub mod ReduceLaws
