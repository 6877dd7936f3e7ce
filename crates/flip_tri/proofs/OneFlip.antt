-- A flip of a shared side in triangles that fit a ring: its corners are vertices, and what it makes fits.
use Rattle.std.proofs.Common.{◌≤◌, List, length}
use Rattle.plane.specs.Point.{Point}
use Rattle.rings.specs.Orientation.{IsCounterclockwise}
use Rattle.rings.specs.Simple.{IsSimple}
use Rattle.meshes.proofs.Triangulations.{ring_is_piece}
use Rattle.meshes.specs.Fits.{Fits}
use Rattle.meshes.specs.declared.tri.Tri.{Tri}
use Rattle.flip_tri.proofs.FlippedFits.{fits_after}
use Rattle.flip_tri.proofs.FlippedRanks.{ranks_grow}
use Rattle.flip_tri.proofs.Rounds.{quad_below}
use Rattle.flip_tri.proofs.SharedQuads.{quad_of_shared}
use Rattle.flip_tri.proofs.TwoReplaced.{replaced_length, replaced_others}
use Rattle.flip_tri.specs.Flips.{IsQuadBelow, IsFlipped, IsQuadToFlip}
use Rattle.flip_tri.specs.Shared.{IsShared, flipped, quad_of}
use Rattle.flip_tri.specs.declared.flips.Shared.{Shared}
use Rattle.flip_tri.specs.declared.quad.Quad.{Quad}

module _ (corners : List Point) (tris : List Tri) (fits : Fits corners tris) (shared : Shared) (is : IsShared tris shared) where
  abbrev quad : Quad
  quad = quad_of tris shared

  -- its corners are vertices
  pub corners_below : IsQuadBelow (length corners) quad
  corners_below = quad_below corners tris fits shared.near shared.far quad is.near is.far (quad_of_shared tris shared is)

  module _ (to_flip : IsQuadToFlip corners quad) where
    abbrev after : List Tri
    after = flipped tris shared.near shared.far quad

    -- in a simple ring the triangles fit it afterwards,
    pub flip_fits : 3 ≤ length corners → IsSimple corners → IsCounterclockwise corners → Fits corners after
    flip_fits some simple way = fits_after corners tris fits shared.near shared.far quad is.near is.far is.different (quad_of_shared tris shared is) to_flip
        (ring_is_piece corners some simple way)

    -- and the sum of the ranks is greater
    pub flip_flips : IsFlipped corners tris after shared.near shared.far
    flip_flips = record {
      count = replaced_length tris shared.near shared.far (record { a = quad.from; b = quad.right; c = quad.left })
          (record { a = quad.right; b = quad.to; c = quad.left }) (record { a = 0; b = 0; c = 0 }) is.near is.far is.different;
      within = is.far;
      others = replaced_others tris shared.near shared.far (record { a = quad.from; b = quad.right; c = quad.left })
          (record { a = quad.right; b = quad.to; c = quad.left }) (record { a = 0; b = 0; c = 0 }) is.near is.far is.different;
      ranks = ranks_grow corners tris fits shared.near shared.far quad is.near is.far is.different (quad_of_shared tris shared is) to_flip;
    }
