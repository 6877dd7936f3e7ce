mod NextRecord
mod Combs
mod NoFault
mod Refusals
