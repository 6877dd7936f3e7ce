mod Bends
mod Fans
mod Fillings
mod Outlines
mod Stages
mod Sums
mod Turns
