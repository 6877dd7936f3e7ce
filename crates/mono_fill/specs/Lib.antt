pub mod Cursors
pub mod Fillable
pub mod Filled
pub mod Monotone
pub mod Sides
pub mod Stacks
