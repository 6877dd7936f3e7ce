mod EdgeOrders
mod HalfPlanes
