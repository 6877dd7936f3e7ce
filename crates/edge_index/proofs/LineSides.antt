-- A cover on one side of a line, where that is told by a coordinate and an offset: a segment on the line meets none in the cover.
use Rattle.std.proofs.Common.{◌≡◌, refl, [], ◌∷◌, inl, inr, ℤ, pos, ◌+ℤ◌, ◌-ℤ◌, ◌*ℤ◌, ◌<ℤ◌, ◌≤ℤ◌, arith}
use Rattle.std.proofs.lemmas.Int.{ints}
use Rattle.integer_algebra.proofs.Polynomial.{var, lit, ◌⊕◌, ◌⊖◌, ◌⊗◌, same_value}
use Rattle.plane.proofs.Nearness.{no_meet_across}
use Rattle.plane.proofs.Points.{whole_is_point}
use Rattle.plane.specs.Point.{IsInLimit, Point, whole}
use Rattle.edge_index.specs.Covers.{AreDisjoint, IsInCover, KeepSide, side_from_line}
use Rattle.edge_index.specs.Probes.{offset}
use Rattle.edge_index.specs.declared.cover.Cover.{Cover}
use Rattle.edge_index.specs.declared.place.Probe.{Probe}

-- how far a point is to the left of a line that goes (a, b), times a number
abbrev left_of : ℤ → ℤ → ℤ → ℤ → ℤ → ℤ → ℤ
left_of m a b here x y = (pos 0 -ℤ m *ℤ b) *ℤ x +ℤ (m *ℤ a) *ℤ y +ℤ (m *ℤ here) *ℤ pos 1

-- is nothing on the line
none_on : (m a b x y : ℤ) → left_of m a b (offset a b x y) x y ≡ pos 0
none_on m a b x y =
    same_value ((lit (pos 0) ⊖ var 0 ⊗ var 2) ⊗ var 3 ⊕ (var 0 ⊗ var 1) ⊗ var 4 ⊕ (var 0 ⊗ (var 2 ⊗ var 3 ⊖ var 1 ⊗ var 4)) ⊗ lit (pos 1)) (lit (pos 0))
    (m ∷ a ∷ b ∷ x ∷ y ∷ []) refl

none_there : (m a b here x y : ℤ) → offset a b x y ≡ here → left_of m a b here x y ≡ pos 0
none_there m a b here x y is = rw is at (none_on m a b x y)

module _ (a b c d here x y : ℤ) where
  -- and is told by the first coordinate and the offset from another way,
  by_first : left_of c a b here x y ≡ side_from_line (a *ℤ d -ℤ b *ℤ c) a (c *ℤ here) x (offset c d x y)
  by_first =
      same_value ((lit (pos 0) ⊖ var 2 ⊗ var 1) ⊗ var 5 ⊕ (var 2 ⊗ var 0) ⊗ var 6 ⊕ (var 2 ⊗ var 4) ⊗ lit (pos 1))
      ((var 0 ⊗ var 3 ⊖ var 1 ⊗ var 2) ⊗ var 5 ⊖ var 0 ⊗ (var 3 ⊗ var 5 ⊖ var 2 ⊗ var 6) ⊕ var 2 ⊗ var 4)
      (a ∷ b ∷ c ∷ d ∷ here ∷ x ∷ y ∷ []) refl

  back_by_first : left_of (pos 0 -ℤ c) a b here x y ≡ pos 0 -ℤ side_from_line (a *ℤ d -ℤ b *ℤ c) a (c *ℤ here) x (offset c d x y)
  back_by_first =
      same_value ((lit (pos 0) ⊖ (lit (pos 0) ⊖ var 2) ⊗ var 1) ⊗ var 5 ⊕ ((lit (pos 0) ⊖ var 2) ⊗ var 0) ⊗ var 6 ⊕ ((lit (pos 0) ⊖ var 2) ⊗ var 4) ⊗ lit (pos 1))
      (lit (pos 0) ⊖ ((var 0 ⊗ var 3 ⊖ var 1 ⊗ var 2) ⊗ var 5 ⊖ var 0 ⊗ (var 3 ⊗ var 5 ⊖ var 2 ⊗ var 6) ⊕ var 2 ⊗ var 4))
      (a ∷ b ∷ c ∷ d ∷ here ∷ x ∷ y ∷ []) refl

  -- or by the second
  by_second : left_of d a b here x y ≡ side_from_line (a *ℤ d -ℤ b *ℤ c) b (d *ℤ here) y (offset c d x y)
  by_second =
      same_value ((lit (pos 0) ⊖ var 3 ⊗ var 1) ⊗ var 5 ⊕ (var 3 ⊗ var 0) ⊗ var 6 ⊕ (var 3 ⊗ var 4) ⊗ lit (pos 1))
      ((var 0 ⊗ var 3 ⊖ var 1 ⊗ var 2) ⊗ var 6 ⊖ var 1 ⊗ (var 3 ⊗ var 5 ⊖ var 2 ⊗ var 6) ⊕ var 3 ⊗ var 4)
      (a ∷ b ∷ c ∷ d ∷ here ∷ x ∷ y ∷ []) refl

  back_by_second : left_of (pos 0 -ℤ d) a b here x y ≡ pos 0 -ℤ side_from_line (a *ℤ d -ℤ b *ℤ c) b (d *ℤ here) y (offset c d x y)
  back_by_second =
      same_value ((lit (pos 0) ⊖ (lit (pos 0) ⊖ var 3) ⊗ var 1) ⊗ var 5 ⊕ ((lit (pos 0) ⊖ var 3) ⊗ var 0) ⊗ var 6 ⊕ ((lit (pos 0) ⊖ var 3) ⊗ var 4) ⊗ lit (pos 1))
      (lit (pos 0) ⊖ ((var 0 ⊗ var 3 ⊖ var 1 ⊗ var 2) ⊗ var 6 ⊖ var 1 ⊗ (var 3 ⊗ var 5 ⊖ var 2 ⊗ var 6) ⊕ var 3 ⊗ var 4))
      (a ∷ b ∷ c ∷ d ∷ here ∷ x ∷ y ∷ []) refl

opposite : (z : ℤ) → z <ℤ pos 0 → pos 0 <ℤ (pos 0 -ℤ z)
opposite z h = omega (arith, ints, h)

module _ (cover : Cover) (edge : Probe) where
  -- the way of the slab, and that of the edge
  abbrev c : ℤ
  c = cover.slab.across

  abbrev d : ℤ
  d = cover.slab.up

  abbrev a : ℤ
  a = edge.way.across

  abbrev b : ℤ
  b = edge.way.up

  abbrev here : ℤ
  here = edge.here

  -- where that is positive in the cover, the edge is apart
  apart_if : (m : ℤ) → ((v : Point) → IsInCover cover v → pos 0 <ℤ left_of m a b here v.x v.y) → AreDisjoint cover edge
  apart_if m positive p q is u v in_u in_v meet =
      no_meet_across (whole u) (whole v) (whole p) (whole q) (whole_is_point u) (whole_is_point v) (whole_is_point p) (whole_is_point q)
      (pos 0 -ℤ m *ℤ b) (m *ℤ a) (m *ℤ here)
      (positive u in_u) (positive v in_v)
      (omega (arith, ints, none_there m a b here p.x p.y is.from_on_line)) (omega (arith, ints, none_there m a b here q.x q.y is.to_on_line))
      (record { point = meet.point; rational = meet.rational; on_first = meet.on_second; on_second = meet.on_first })

  pub apart_by_first : (low high : ℤ) → ((x : ℤ) → IsInLimit x → cover.bounds.west ≤ℤ x → low ≤ℤ x) → ((x : ℤ) → IsInLimit x → x ≤ℤ cover.bounds.east → x ≤ℤ high)
      → KeepSide (a *ℤ d -ℤ b *ℤ c) a (c *ℤ here) low high cover.slab.least cover.slab.greatest → AreDisjoint cover edge
  apart_by_first low high from to (inl left) =
      apart_if c
      (λ v within. rw (by_first a b c d here v.x v.y)
      (left v.x _ (from v.x within.in_bounds.x_in_limit within.in_box.west) (to v.x within.in_bounds.x_in_limit within.in_box.east) within.in_slab.from within.in_slab.to))
  apart_by_first low high from to (inr right) =
      apart_if (pos 0 -ℤ c)
      (λ v within. rw (back_by_first a b c d here v.x v.y) (opposite _
      (right v.x _ (from v.x within.in_bounds.x_in_limit within.in_box.west) (to v.x within.in_bounds.x_in_limit within.in_box.east) within.in_slab.from within.in_slab.to)))

  pub apart_by_second : (low high : ℤ) → ((y : ℤ) → IsInLimit y → cover.bounds.south ≤ℤ y → low ≤ℤ y) → ((y : ℤ) → IsInLimit y → y ≤ℤ cover.bounds.north → y ≤ℤ high)
      → KeepSide (a *ℤ d -ℤ b *ℤ c) b (d *ℤ here) low high cover.slab.least cover.slab.greatest → AreDisjoint cover edge
  apart_by_second low high from to (inl left) =
      apart_if d
      (λ v within. rw (by_second a b c d here v.x v.y)
      (left v.y _ (from v.y within.in_bounds.y_in_limit within.in_box.south) (to v.y within.in_bounds.y_in_limit within.in_box.north) within.in_slab.from within.in_slab.to))
  apart_by_second low high from to (inr right) =
      apart_if (pos 0 -ℤ d)
      (λ v within. rw (back_by_second a b c d here v.x v.y) (opposite _
      (right v.y _ (from v.y within.in_bounds.y_in_limit within.in_box.south) (to v.y within.in_bounds.y_in_limit within.in_box.north) within.in_slab.from within.in_slab.to)))
