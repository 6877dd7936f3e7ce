mod EdgesMore
mod EdgesTold
mod FirstParts
mod ReachedMore
mod SidesBeyond
mod TurnTests
mod WaysHome
