-- What the code computes with words, and which sums it is.
pub mod WordSums
