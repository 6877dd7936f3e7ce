pub mod Divisors
pub mod LowestTerms
mod Quotients
