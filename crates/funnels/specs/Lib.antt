pub mod Corner
pub mod Fan
pub mod Fanned
pub mod Funnel
pub mod OneChain
pub mod OpenFunnel
pub mod Passing
pub mod Touched
