-- Lemmas on written texts that the proofs of the crates above cite: what is written in lines of
-- words is read back.
-- Ordinary: what is written is read back, as of any printer and its parser.
pub mod Tokens
pub mod Written
