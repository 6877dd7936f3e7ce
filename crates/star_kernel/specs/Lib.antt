pub mod HalfPlanes
