-- Triangles whose sides cancel to the boundary of a simple piece fit it.
use Rattle.meshes.proofs.Boundaries.TiledTrees.{fits_tiled}
use Rattle.meshes.proofs.Boundaries.Covered.{tiling}
use Rattle.meshes.specs.Boundary.{BoundaryLaw}

pub fits_bounded : BoundaryLaw
fits_bounded corners piece tris polygon triangles bounded =
    fits_tiled corners piece tris polygon (tiling corners piece tris polygon triangles bounded)
