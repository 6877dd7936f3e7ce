-- The numbers of slabs as a function computes them.
use Rattle.std.proofs.Common.{◌≡◌, ◌<◌, ◌≤◌, ◌^◌, ℤ, ◌-ℤ◌, ◌*ℤ◌, ◌≤ℤ◌, arith}
use Rattle.std.proofs.lemmas.Int.{ints}
use Rattle.std.specs.Prelude.{unsigned_abs}
use Rattle.plane.specs.Point.{IsInLimit, Point}
use Rattle.exact_plane.proofs.CrossProduct.{difference_read}
use Rattle.exact_plane.proofs.Registers.{read}
use Rattle.exact_plane.proofs.WideProducts.{product_size}
use Rattle.edge_index.specs.Probes.{offset}
use Rattle.edge_index.specs.Slabs.{IsInSlab, slab_offset}
use Rattle.edge_index.specs.declared.slab.Slab.{Slab}

module _ (across up x y : ℤ) (small_across : unsigned_abs across < 2 ^ 12) (small_up : unsigned_abs up < 2 ^ 12) (small_x : IsInLimit x) (small_y : IsInLimit y) where
  -- an offset as it is computed
  pub offset_read : read (read (read up *ℤ read x) -ℤ read (read across *ℤ read y)) ≡ offset across up x y
  offset_read =
      difference_read up x across y (omega (arith, ints, small_up)) (omega (arith, ints, small_x)) (omega (arith, ints, small_across)) (omega (arith, ints, small_y))

  -- is small
  pub offset_small : unsigned_abs (offset across up x y) ≤ 2 ^ 37
  offset_small =
      let first : unsigned_abs (up *ℤ x) < 2 ^ 36 = product_size up x (2 ^ 12) (2 ^ 24) small_up (omega (arith, ints, small_x)) in
      let second : unsigned_abs (across *ℤ y) < 2 ^ 36 = product_size across y (2 ^ 12) (2 ^ 24) small_across (omega (arith, ints, small_y)) in
      omega (arith, ints, first, second)

-- a point is in a slab of the same way between these offsets
pub in_between : (s r : Slab) (v : Point) → r.across ≡ s.across → r.up ≡ s.up → r.least ≤ℤ slab_offset s v → slab_offset s v ≤ℤ r.greatest → IsInSlab r v
in_between s r v across up h k =
    let same : slab_offset r v ≡ slab_offset s v = λ i. offset (across i) (up i) v.x v.y in
    record { from = rw same h; to = rw same k }
