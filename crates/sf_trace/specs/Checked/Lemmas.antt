-- Lemmas on traces, logs and weights that the proofs of the crates above cite, too.
-- None is a definition: each states what it says.
pub mod Traces
pub mod Logs
pub mod Weights
