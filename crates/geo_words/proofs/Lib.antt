mod Dashes
mod Turns
mod Parsed
mod Teeth
mod Taken
mod Value
