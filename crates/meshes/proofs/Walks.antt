-- Paths and trees of numbers, and walks over triangles.

-- Paths that visit no number twice, in a graph whose vertices are numbers, and graphs with one path between each two.
mod Paths
pub use Rattle.meshes.proofs.Walks.Paths.{IsNew, IsPath, IsTreeOn, OnePath, Renames, new_append, new_front, new_or_not, tree_of_same}
pub use Rattle.meshes.proofs.Walks.Paths.{tree_renamed}
-- Walks over the triangles of a list, and the paths in the graph of the triangles that share sides.
mod Walks
pub use Rattle.meshes.proofs.Walks.Walks.{IsPlace, Touch, between_of_path, last_place, new_at_place, new_from_places, path_of_walk}
pub use Rattle.meshes.proofs.Walks.Walks.{share_back, tree_of_paths, tree_of_walks}
