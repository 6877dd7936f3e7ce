-- Trails of triangles from one that has a point b: each is entered over a side, where b has a funnel, and the gate of a point beyond the side
-- is the point of the funnel from which it is reached.
-- The funnel of a point at a side of the triangle that has it: from which place a point of the side is reached.
use Rattle.std.proofs.Common.{◌≡◌, ◌⊎◌, ℕ, ◌<◌, List, [], ◌∷◌, ◌++◌, length, inl, inr, refl, ◌∙◌, zero, suc, arith}
use Rattle.std.proofs.lemmas.Int.{ints}
use Rattle.integer_algebra.proofs.SignSteps.{at_least_unless, not_both, not_both_positive, zero_not_negative, zero_not_positive}
use Rattle.plane.proofs.Order.{point_or_other}
use Rattle.plane.proofs.Points.{whole_is_point}
use Rattle.plane.proofs.Segments.{on_reversed}
use Rattle.plane.proofs.Turns.{determinant_same_last, determinant_shift, determinant_swap_ends}
use Rattle.plane.specs.Prelude.{IsLeft, IsPoint, IsRight, IsSame, On, Point, Triple, whole}
use Rattle.rings.specs.Prelude.{point_at, vertex}
use Rattle.ring_laws.proofs.Triangles.{not_right_between}
use Rattle.meshes.proofs.Cones.{not_left_between}
use Rattle.meshes.proofs.Sides.{ends_below}
use Rattle.meshes.proofs.Sight.{not_right_of_side}
use Rattle.meshes.proofs.TreeLeaves.{next_corner}
use Rattle.meshes.specs.Prelude.{Fits, HasSide, IsInTri, IsSideOfTwo, tri_at}
use Rattle.meshes.specs.declared.tri.Tri.{Tri}
use Rattle.funnels.proofs.Chains.{start_at_left, start_at_right, start_between}
use Rattle.funnels.specs.Funnel.{IsReachedFrom}
use Rattle.funnels.specs.OpenFunnel.{IsOpenFunnel}

-- ---- points

-- a point is b or a vertex of the ring,
abbrev pub IsNamed : List Point → Point → Point → Type 0
IsNamed corners b p = (p ≡ b) ⊎ ((v : ℕ) × (v < length corners) × (vertex corners v ≡ p))

-- and so are all of these
abbrev pub AreNamed : List Point → Point → List Point → Type 0
AreNamed corners b points = (n : ℕ) → n < length points → IsNamed corners b (point_at points n)

-- z is between l and r, and neither of them
pub record IsBetween (l r : Point) (z : Triple) : Type 0 where
  pub rational : IsPoint z
  pub on : On z (whole l) (whole r)
  pub not_first : ¬ IsSame z (whole l)
  pub not_last : ¬ IsSame z (whole r)

-- it is so from either one
pub between_back : (l r : Point) (z : Triple) → IsBetween l r z → IsBetween r l z
between_back l r z between = record {
  rational = between.rational;
  on = on_reversed z (whole l) (whole r) between.on;
  not_first = between.not_last;
  not_last = between.not_first;
}

-- ---- entrances

-- a triangle with the corners of the side over which it is entered, on the left and on the right, and the third one; and the points of a
-- funnel there, with the place of its apex
pub record Entrance : Type 0 where
  pub triangle : ℕ
  pub left : ℕ
  pub right : ℕ
  pub third : ℕ
  pub points : List Point
  pub apex : ℕ

-- the triangle is entered from triangle m with the funnel of b
pub record IsEntered (corners : List Point) (tris : List Tri) (b : Point) (m : ℕ) (e : Entrance) : Type 0 where
  pub shared : IsSideOfTwo tris e.right e.left m e.triangle
  pub to_third : HasSide (tri_at tris e.triangle) e.right e.third
  pub from_third : HasSide (tri_at tris e.triangle) e.third e.left
  pub before : List Point
  pub funnel : IsOpenFunnel corners before e.points e.apex e.left e.right
  pub begins : point_at (before ++ point_at e.points e.apex ∷ []) 0 ≡ b
  pub named : AreNamed corners b e.points

-- g is the gate of z: the point of the funnel from which z is reached
abbrev pub IsGateAt : Entrance → Triple → Point → Type 0
IsGateAt e z g = (h : ℕ) × IsReachedFrom e.points e.apex h z × (point_at e.points h ≡ g)

-- ---- trails, with the last triangle first

-- the triangle to which a trail leads from home
abbrev pub last_of : ℕ → List Entrance → ℕ
last_of home [] = home
last_of home (e ∷ trail) = e.triangle

-- the gate of a point in the last triangle: at home b itself
abbrev pub IsGate : Point → List Entrance → Triple → Point → Type 0
IsGate b [] z g = b ≡ g
IsGate b (e ∷ trail) z g = IsGateAt e z g

-- a point of the side over which a triangle is entered has there the gate that it had in the triangle before
abbrev pub KeepsGates : List Point → Point → List Entrance → Entrance → Type 0
KeepsGates corners b trail e = (z : Triple) (g : Point) → IsBetween (vertex corners e.left) (vertex corners e.right) z → IsGate b trail z g
    → IsGateAt e z g

-- each triangle is entered from the one before it
abbrev pub IsTrail : List Point → List Tri → Point → ℕ → List Entrance → Type 0
IsTrail corners tris b home [] = Unit {0}
IsTrail corners tris b home (e ∷ trail) =
    IsEntered corners tris b (last_of home trail) e × KeepsGates corners b trail e × IsTrail corners tris b home trail

-- over the side from l to r triangle k is entered from the last triangle of a trail
pub record HasEntrance (corners : List Point) (tris : List Tri) (b : Point) (home : ℕ) (trail : List Entrance) (k l r : ℕ) : Type 0 where
  pub entrance : Entrance
  pub triangle : entrance.triangle ≡ k
  pub left : entrance.left ≡ l
  pub right : entrance.right ≡ r
  pub entered : IsEntered corners tris b (last_of home trail) entrance
  pub keeps : KeepsGates corners b trail entrance

-- ---- names

-- one more named point before some
pub more_named : (corners : List Point) (b p : Point) (points : List Point) → IsNamed corners b p → AreNamed corners b points
    → AreNamed corners b (p ∷ points)
more_named corners b p points first rest zero within = first
more_named corners b p points first rest (suc n) within = rest n (omega (arith, within))

-- no points are
none_named : (corners : List Point) (b : Point) → AreNamed corners b []
none_named corners b n within = absurd (omega (arith, within))

-- ---- a source s, and a side from l to r of which it is not on the far side

module _ (l s r : Point) (turn : ¬ IsRight (whole r) (whole l) (whole s)) (z : Triple) (at_z : IsPoint z) (on : On z (whole l) (whole r)) where
  -- no point of the side is left of the way to its left end,
  not_left : ¬ IsLeft (whole s) (whole l) z
  not_left left =
      not_both_positive left
      (not_left_between (whole s) (whole l) z (whole l) (whole r) at_z (whole_is_point l) (whole_is_point r)
      (zero_not_positive (determinant_same_last (whole s) (whole l)))
      (omega (arith, ints, at_least_unless turn, determinant_swap_ends (whole s) (whole l) (whole r))) on)

  -- nor right of that to its right end
  not_right : ¬ IsRight (whole s) (whole r) z
  not_right right =
      not_both right
      (not_right_between (whole s) (whole r) z (whole l) (whole r) at_z (whole_is_point l) (whole_is_point r)
      (omega (arith, ints, at_least_unless turn, determinant_shift (whole s) (whole r) (whole l)))
      (zero_not_negative (determinant_same_last (whole s) (whole r))) on)

  -- so it is reached from the source: between the ends,
  from_between : IsReachedFrom (l ∷ s ∷ r ∷ []) 1 1 z
  from_between = record {
    within = omega arith;
    passed = λ some. inl (omega arith, not_left);
    not_passed = λ more passed. elim passed [ inl k ↦ omega (arith, k.0) | inr k ↦ not_right k.1 ];
  }

  -- at the left one,
  from_left : IsReachedFrom (s ∷ r ∷ []) 0 0 z
  from_left = record {
    within = omega arith;
    passed = λ some. absurd (omega (arith, some));
    not_passed = λ more passed. elim passed [ inl k ↦ omega (arith, k.0) | inr k ↦ not_right k.1 ];
  }

  -- and at the right one
  from_right : IsReachedFrom (l ∷ s ∷ []) 1 1 z
  from_right = record {
    within = omega arith;
    passed = λ some. inl (omega arith, not_left);
    not_passed = λ more. absurd (omega (arith, more));
  }

-- ---- the triangle of b, and a neighbour

module _ (corners : List Point) (tris : List Tri) (fits : Fits corners tris) (b : Point) (home k l r : ℕ)
    (in_b : IsInTri corners (tri_at tris home) (whole b)) (shared : IsSideOfTwo tris r l home k) where
  -- the point is not on the far side,
  turn : ¬ IsRight (whole (vertex corners r)) (whole (vertex corners l)) (whole b)
  turn = not_right_of_side corners (tri_at tris home) (whole b) in_b r l shared.has

  -- there is a third corner on its own side,
  third : (m : ℕ) × HasSide (tri_at tris home) l m × HasSide (tri_at tris home) m r
  third = next_corner (tri_at tris home) r l shared.has

  -- and one on the other,
  beyond : (m : ℕ) × HasSide (tri_at tris k) r m × HasSide (tri_at tris k) m l
  beyond = next_corner (tri_at tris k) l r shared.other_has

  -- where points of the side are reached from b, the neighbour is entered with a funnel of such points
  first_of : (points : List Point) (a : ℕ) → IsOpenFunnel corners [] points a l r → point_at points a ≡ b → AreNamed corners b points
      → ((z : Triple) → IsPoint z → On z (whole (vertex corners l)) (whole (vertex corners r)) → IsReachedFrom points a a z)
      → HasEntrance corners tris b home [] k l r
  first_of points a funnel source named reached = record {
    entrance = record { triangle = k; left = l; right = r; third = beyond.0; points = points; apex = a };
    triangle = refl;
    left = refl;
    right = refl;
    entered = record {
      shared = shared;
      to_third = beyond.1;
      from_third = beyond.2;
      before = [];
      funnel = funnel;
      begins = source;
      named = named;
    };
    keeps = λ z g between gate. (a, reached z between.rational between.on, source ∙ gate);
  }

  -- the left end is a vertex,
  left_named : IsNamed corners b (vertex corners l)
  left_named = inr (l, (ends_below corners tris fits home r l shared.in_list shared.has).1, refl)

  -- and so is the right one;
  right_named : IsNamed corners b (vertex corners r)
  right_named = inr (r, (ends_below corners tris fits home r l shared.in_list shared.has).0, refl)

  -- it is entered with such a funnel
  pub first_entrance : HasEntrance corners tris b home [] k l r
  first_entrance =
      let L = vertex corners l in
      let R = vertex corners r in
      let to_right = more_named corners b b (R ∷ []) (inl refl) (more_named corners b R [] right_named (none_named corners b)) in
      elim (point_or_other b L) [
        | inl at_left ↦
            first_of (b ∷ R ∷ []) 0
            (start_at_left corners tris fits home l r third.0 shared.in_list shared.has third.1 third.2 (home, k, inr shared) b in_b at_left)
            refl to_right (from_left L b R turn)
        | inr not_left ↦ elim (point_or_other b R) [
          | inl at_right ↦
              first_of (L ∷ b ∷ []) 1
              (start_at_right corners tris fits home l r third.0 shared.in_list shared.has third.1 third.2 (home, k, inr shared) b in_b at_right)
              refl
              (more_named corners b L (b ∷ []) left_named (more_named corners b b [] (inl refl) (none_named corners b)))
              (from_right L b R turn)
          | inr not_right ↦
              first_of (L ∷ b ∷ R ∷ []) 1
              (start_between corners tris fits home l r third.0 shared.in_list shared.has third.1 third.2 (home, k, inr shared) b in_b
              not_left not_right)
              refl (more_named corners b L (b ∷ R ∷ []) left_named to_right) (from_between L b R turn)
        ]
      ]
