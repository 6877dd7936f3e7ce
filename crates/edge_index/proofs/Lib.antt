mod EdgeRuns
mod LineNumbers
mod LineSides
mod Multiples
mod ProbeNumbers
mod SlabNumbers
mod SlabSides
