mod AllNumbers
mod FoundPaths
mod KeptFronts
mod ShortPaths
