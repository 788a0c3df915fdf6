-- Lemmas on orders, which the proofs of crates above cite. Each states what it says; none is a definition.
-- Ordinary: by the cases of conjuncts, and what is ready first is decided.
pub mod Agree
pub mod Annotated
pub mod Branches
pub mod Greedy
pub mod NeverTaken
pub mod OrderMeaning
pub mod OrdersExist
pub mod Picked
pub mod Ready
pub mod TakenDecided
