-- A triangle of a list at one of its sides: the corner opposite to the side, and the points near the side.
use Rattle.std.proofs.Common.{◌≡◌, inl, inr, subst, List, [], ◌∷◌, ℕ, ◌+◌, ℤ, pos, ◌+ℤ◌, ◌*ℤ◌, ◌<ℤ◌, ◌≤ℤ◌, arith}
use Rattle.std.proofs.lemmas.Int.{ints}
use Rattle.integer_algebra.proofs.SignSteps.{at_least_unless}
use Rattle.integer_algebra.proofs.Signs.{lt_or_le, mul_nonnegative}
use Rattle.plane.proofs.Nearness.{left_toward, side_toward, Eventually, left_eventually, toward, toward_is_point}
use Rattle.plane.proofs.Points.{whole_is_point}
use Rattle.plane.proofs.Segments.{on_is_straight, on_reversed, first_end_on_line}
use Rattle.plane.proofs.Turns.{determinant_same_ends, determinant_same_last}
use Rattle.plane.specs.Prelude.{determinant, IsInTriangle, IsLeft, IsPoint, IsSame, IsStraight, On, Point, Triple, whole}
use Rattle.rings.specs.Prelude.{Edge, edge, vertex}
use Rattle.ring_laws.proofs.Triangles.{between_in_triangle, first_in_triangle, left_at_first, left_at_last, middle_in_triangle}
use Rattle.meshes.specs.Prelude.{HasSide, IsInTri, IsStrictlyInTri}
use Rattle.meshes.specs.declared.tri.Tri.{Tri}

-- ---- the corner opposite to a side

-- the points of a side are in the triangle
first_side_in : (a b c : Point) → IsLeft (whole a) (whole b) (whole c) → (y : Triple) → IsPoint y → On y (whole a) (whole b) → IsInTriangle a b c y
first_side_in a b c left y at on =
    between_in_triangle a b c y (whole a) (whole b) at (whole_is_point a) (whole_is_point b) (first_in_triangle a b c left)
    (middle_in_triangle a b c left) on

-- the corner c opposite to the side from a to b; what is left of all sides is strictly inside, what is right of none is in
pub record IsOpposite (corners : List Point) (t : Tri) (a b c : Point) : Type 0 where
  pub left : IsLeft (whole a) (whole b) (whole c)
  pub strictly : (y : Triple) → IsLeft (whole a) (whole b) y → IsLeft (whole b) (whole c) y → IsLeft (whole c) (whole a) y → IsStrictlyInTri corners t y
  pub closed : (y : Triple) → IsInTriangle a b c y → IsInTri corners t y
  pub side : (y : Triple) → IsPoint y → On y (whole a) (whole b) → IsInTri corners t y

module _ (corners : List Point) (t : Tri) (left : IsLeft (whole (vertex corners t.a)) (whole (vertex corners t.b)) (whole (vertex corners t.c))) where
  -- it is so where the corners are those of the triangle,
  at_corners : IsOpposite corners t (vertex corners t.a) (vertex corners t.b) (vertex corners t.c)
  at_corners =
      let a = vertex corners t.a in
      let b = vertex corners t.b in
      let c = vertex corners t.c in
      record {
        left = left;
        strictly = λ y f g h. record { left_of_first = f; left_of_second = g; left_of_third = h };
        closed = λ y i. i;
        side = λ y at on. first_side_in a b c left y at on;
      }

  -- and for each side where it is so for the one before it
  at_next : (a b c : Point) → IsOpposite corners t a b c → IsOpposite corners t b c a
  at_next a b c o =
      let turned : (y : Triple) → IsInTriangle b c a y → IsInTri corners t y = λ y i. o.closed y (record {
        not_right_of_first = i.not_right_of_third;
        not_right_of_second = i.not_right_of_first;
        not_right_of_third = i.not_right_of_second;
      }) in
      let left_here = left_at_last a b c o.left in
      record {
        left = left_here;
        strictly = λ y f g h. o.strictly y h f g;
        closed = turned;
        side = λ y at on. turned y (first_side_in b c a left_here y at on);
      }

  -- so a side by the numbers of its ends has an opposite corner
  pub opposite : (i j : ℕ) → HasSide t i j → (c : Point) × IsOpposite corners t (vertex corners i) (vertex corners j) c
  opposite i j has =
      let a = vertex corners t.a in
      let b = vertex corners t.b in
      let c = vertex corners t.c in
      elim has [
        | inl e ↦ (c, named e.0 e.1 at_corners)
        | inr (inl e) ↦ (a, named e.0 e.1 (at_next a b c at_corners))
        | inr (inr e) ↦ (b, named e.0 e.1 (at_next b c a (at_next a b c at_corners)))
      ]
    where
      named : {x y : ℕ} {c : Point} → x ≡ i → y ≡ j → IsOpposite corners t (vertex corners x) (vertex corners y) c
          → IsOpposite corners t (vertex corners i) (vertex corners j) c
      named {x} {y} {c} e f o =
          subst (λ n. IsOpposite corners t (vertex corners n) (vertex corners j) c) e
          (subst (λ n. IsOpposite corners t (vertex corners x) (vertex corners n) c) f o)

-- ---- points of the side

-- on a segment from a point on a line to one left of it, all but the first end are left of it
left_off_end : (x p q s t : Triple) → IsPoint x → IsPoint p → IsPoint q → On x p q → IsStraight s t p → IsLeft s t q → ¬ IsSame x p → IsLeft s t x
left_off_end x p q s t at_x at_p at_q on straight left differ = elim (lt_or_le (pos 0) (determinant s t x)) [
  | inl h ↦ h
  | inr h ↦ absurd (differ (first_end_on_line x p q s t at_x at_p at_q on straight left h))
]

module _ (corners : List Point) (t : Tri) (a b c : Point) (o : IsOpposite corners t a b c)
    (x : Triple) (at_x : IsPoint x) (on : On x (whole a) (whole b)) (not_first : ¬ IsSame x (whole a)) (not_last : ¬ IsSame x (whole b)) where
  -- a point strictly inside the side is left of the second side,
  pub left_of_next : IsLeft (whole b) (whole c) x
  left_of_next =
      left_off_end x (whole b) (whole a) (whole b) (whole c) at_x (whole_is_point b) (whole_is_point a) (on_reversed x (whole a) (whole b) on)
      (determinant_same_ends (whole b) (whole c)) (left_at_last a b c o.left) not_last

  -- and of the third
  pub left_of_previous : IsLeft (whole c) (whole a) x
  left_of_previous =
      left_off_end x (whole a) (whole b) (whole c) (whole a) at_x (whole_is_point a) (whole_is_point b) on
      (determinant_same_last (whole c) (whole a)) (left_at_first a b c o.left) not_first

  -- so the points near it, toward the opposite corner, are strictly inside the triangle
  pub near_side : Eventually (λ n. IsStrictlyInTri corners t (toward x (whole c) n))
  near_side =
      let second = left_eventually x (whole c) (whole b) (whole c) left_of_next in
      let third = left_eventually x (whole c) (whole c) (whole a) left_of_previous in
      let straight = on_is_straight x (whole a) (whole b) at_x (whole_is_point a) (whole_is_point b) on in
      record {
        start = second.start + third.start;
        from_start = λ n above.
            o.strictly (toward x (whole c) n) (left_toward (whole a) (whole b) x (whole c) straight o.left n)
            (second.from_start n (omega arith)) (third.from_start n (omega arith));
      }

-- ---- the inside of a triangle

-- the sides of a triangle
abbrev pub sides : List Point → Tri → List Edge
sides corners t = edge (vertex corners t.a) (vertex corners t.b) ∷ edge (vertex corners t.b) (vertex corners t.c) ∷ edge (vertex corners t.c) (vertex corners t.a) ∷ []

-- the mean of its corners
abbrev pub mean : List Point → Tri → Triple
mean corners t = toward (toward (whole (vertex corners t.a)) (whole (vertex corners t.b)) 1) (whole (vertex corners t.c)) 1

-- a sum of three of which two are 0
only_last : (g m d e f : ℤ) → g ≡ pos 1 *ℤ m +ℤ f → m ≡ pos 1 *ℤ d +ℤ e → d ≡ pos 0 → e ≡ pos 0 → pos 0 <ℤ f → pos 0 <ℤ g
only_last g m d e f eg em ed ee hf = omega (arith, ints)

only_middle : (g m d e f : ℤ) → g ≡ pos 1 *ℤ m +ℤ f → m ≡ pos 1 *ℤ d +ℤ e → d ≡ pos 0 → f ≡ pos 0 → pos 0 <ℤ e → pos 0 <ℤ g
only_middle g m d e f eg em ed ef he = omega (arith, ints)

only_first : (g m d e f : ℤ) → g ≡ pos 1 *ℤ m +ℤ f → m ≡ pos 1 *ℤ d +ℤ e → e ≡ pos 0 → f ≡ pos 0 → pos 0 <ℤ d → pos 0 <ℤ g
only_first g m d e f eg em ee ef hd = omega (arith, ints)

-- a weighted sum with one part positive
sum_left : (n : ℕ) (g d e : ℤ) → g ≡ pos n *ℤ d +ℤ e → pos 0 ≤ℤ d → pos 0 <ℤ e → pos 0 <ℤ g
sum_left n g d e eg hd he = omega (arith, ints, mul_nonnegative (pos n) d (omega (arith, ints)) hd)

module _ (corners : List Point) (t : Tri) (left : IsLeft (whole (vertex corners t.a)) (whole (vertex corners t.b)) (whole (vertex corners t.c))) where
  -- the mean is strictly inside,
  pub mean_inside : IsStrictlyInTri corners t (mean corners t)
  mean_inside =
      let A = whole (vertex corners t.a) in
      let B = whole (vertex corners t.b) in
      let C = whole (vertex corners t.c) in
      let M = toward A B 1 in
      record {
        left_of_first =
            only_last _ _ _ _ _ (side_toward A B M C 1) (side_toward A B A B 1) (determinant_same_ends A B) (determinant_same_last A B) left;
        left_of_second =
            only_first _ _ _ _ _ (side_toward B C M C 1) (side_toward B C A B 1) (determinant_same_ends B C) (determinant_same_last B C)
            (left_at_last (vertex corners t.a) (vertex corners t.b) (vertex corners t.c) left);
        left_of_third =
            only_middle _ _ _ _ _ (side_toward C A M C 1) (side_toward C A A B 1) (determinant_same_last C A) (determinant_same_ends C A)
            (left_at_first (vertex corners t.a) (vertex corners t.b) (vertex corners t.c) left);
      }

  -- and a rational point
  pub mean_is_point : IsPoint (mean corners t)
  mean_is_point =
      let A = vertex corners t.a in
      let B = vertex corners t.b in
      let C = vertex corners t.c in
      toward_is_point (toward (whole A) (whole B) 1) (whole C) (toward_is_point (whole A) (whole B) (whole_is_point A) (whole_is_point B) 1) (whole_is_point C) 1

  -- from a point of the closed triangle toward one strictly inside, all points are strictly inside
  pub toward_inside : (x g : Triple) → IsInTri corners t x → IsStrictlyInTri corners t g → (n : ℕ) → IsStrictlyInTri corners t (toward x g n)
  toward_inside x g h s n =
      let A = whole (vertex corners t.a) in
      let B = whole (vertex corners t.b) in
      let C = whole (vertex corners t.c) in
      record {
        left_of_first = sum_left n _ _ _ (side_toward A B x g n) (at_least_unless h.not_right_of_first) s.left_of_first;
        left_of_second = sum_left n _ _ _ (side_toward B C x g n) (at_least_unless h.not_right_of_second) s.left_of_second;
        left_of_third = sum_left n _ _ _ (side_toward C A x g n) (at_least_unless h.not_right_of_third) s.left_of_third;
      }
