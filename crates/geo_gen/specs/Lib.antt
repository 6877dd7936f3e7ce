pub mod Comb
