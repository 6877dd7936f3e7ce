-- Three free points: to which side of each other two are, seen from the third, is the same from each.

-- A path with a point before it, from which the way over its first point is straight or has a bend there.
-- Paths read backward, as lists that begin with their first step, and from a point on them to their end.
mod Cuts
pub use Rattle.hulls.proofs.Third.Cuts.{with_point, with_point_ends, list_of_step, on_path_back, path_back, same_step, step_of_list}
-- Points farther along a ray: a point between the nearer one and a third is between the farther one and that, and so are joined points joined.
mod Rays
pub use Rattle.hulls.proofs.Third.Rays.{joined_nearer, joined_on_ray, ray_of_on}
mod TurnsOver
mod Ways
-- Of three free points, where c is to a side of b, seen from a, b is to that side of a, seen from c.
mod AlongTowards
pub use Rattle.hulls.proofs.Third.AlongTowards.{from_third, from_third_right}
mod SplitSteps
