-- A counterclockwise triangle at its side from l to r: its points are on the side, or right of the way from r to l.
-- What the points of a funnel see: beyond the diagonal what is in their windows, in the triangle behind it too, and so the points of the next
-- funnel what is in their windows on the two other sides of the triangle.
use Rattle.std.proofs.Common.{◌≡◌, ◌⊎◌, inl, inr, subst, List, ℕ, pos, ◌<ℤ◌, sym, length, ◌+◌, ◌<◌, arith, ap, ◌∙◌, [], ◌∷◌, ◌++◌, take}
use Rattle.std.proofs.Common.{drop, ◌-◌, min}
use Rattle.std.proofs.lemmas.Bool.{cases_eq, cases_lt}
use Rattle.integer_algebra.proofs.SignSteps.{turned_negative, not_both}
use Rattle.integer_algebra.proofs.Signs.{is_negative, is_positive, is_zero, sign}
use Rattle.plane.proofs.Points.{whole_is_point}
use Rattle.plane.proofs.Segments.{on_first_end, on_last_end, on_reversed}
use Rattle.plane.proofs.Turns.{determinant_swap_first}
use Rattle.plane.specs.Prelude.{determinant, height_over, IsLeft, IsPoint, IsRight, On, Point, Triple, whole}
use Rattle.rings.specs.Prelude.{IsIn, point_at, Sees, vertex}
use Rattle.ring_laws.proofs.Triangles.{on_first_side, between_in_triangle}
use Rattle.meshes.proofs.Parts.{opposite}
use Rattle.meshes.proofs.Sight.{sees_on, sees_within}
use Rattle.meshes.proofs.TreeLeaves.{closed_of_sides, next_corner, turns_left}
use Rattle.meshes.specs.Prelude.{HasSide, IsInTri}
use Rattle.meshes.specs.declared.tri.Tri.{Tri}
use Rattle.funnels.proofs.Funnels.{crossing_in_window, IsEnd, flat_apex, IsFlat, IsOnDiagonal, flat_off_apex, on_at_first, on_at_last}
use Rattle.funnels.proofs.Funnels.{edge_after, edge_before, in_window_of, window_of_reached, not_negative, left_place, new_edge_left}
use Rattle.funnels.proofs.Funnels.{new_edge_right, old_edge_left, old_edge_right, next_left_length, next_right_last, next_right_length}
use Rattle.funnels.proofs.Funnels.{next_right_old, old_window_left, old_window_right}
use Rattle.funnels.specs.Funnel.{Reaches, IsFunnel, IsInWindow, IsReachedFrom, IsFunnelEdge}
use Rattle.funnels.specs.OpenFunnel.{IsOpenSight}

-- the triangle has the points of the side, and all others of it are beyond the side
pub record IsBehind (corners : List Point) (t : Tri) (l r : Point) : Type 0 where
  pub side : (y : Triple) → IsPoint y → On y (whole l) (whole r) → IsInTri corners t y
  pub beyond : (y : Triple) → IsPoint y → IsInTri corners t y → On y (whole l) (whole r) ⊎ IsRight (whole r) (whole l) y

module _ (corners : List Point) (t : Tri)
    (left : IsLeft (whole (vertex corners t.a)) (whole (vertex corners t.b)) (whole (vertex corners t.c)))
    (i j : ℕ) (has : HasSide t i j) where
  -- so it is with a triangle at each of its sides, by the numbers of the side's ends
  at_side : IsBehind corners t (vertex corners i) (vertex corners j)
  at_side = record {
    side = λ y at_y on. (opposite corners t left i j has).1.side y at_y on;
    beyond = λ y at_y in_y.
        let L = vertex corners i in
        let R = vertex corners j in
        let (m, next, last) = next_corner t i j has in
        let closed = closed_of_sides corners t left i j m has next y in_y in
        elim (sign (determinant (whole L) (whole R) y)) [
          | is_negative h ↦ absurd (closed.not_right_of_first h)
          | is_zero h ↦ inl (on_first_side L R (vertex corners m) (turns_left corners t left i j m has next) y at_y closed h)
          | is_positive h ↦ inr (turned_negative (determinant_swap_first (whole L) (whole R) y) h)
        ];
  }

  -- and by its ends
  pub is_behind : (l r : Point) → vertex corners i ≡ l → vertex corners j ≡ r → IsBehind corners t l r
  is_behind l r e f = subst (λ p. IsBehind corners t p r) e (subst (λ q. IsBehind corners t (vertex corners i) q) f at_side)

-- a triangle that is in the ring has a side from l to r
module _ (corners ring : List Point) (t : Tri) (inside : (z : Triple) → IsPoint z → IsInTri corners t z → IsIn ring z)
    (left : IsLeft (whole (vertex corners t.a)) (whole (vertex corners t.b)) (whole (vertex corners t.c)))
    (i j : ℕ) (has : HasSide t i j) (l r : Point) (from : vertex corners i ≡ l) (to : vertex corners j ≡ r) where
  -- a point of the side sees all of the triangle
  pub sees_from_side : (n : Point) → On (whole n) (whole l) (whole r) → (y : Triple) → IsPoint y → IsInTri corners t y
      → Sees ring (whole n) y
  sees_from_side n on y at_y in_y =
      let at_n = whole_is_point n in
      sees_within corners ring t inside (whole n) y at_n at_y ((is_behind corners t left i j has l r from to).side (whole n) at_n on) in_y

  -- one before the side that sees what two edges leave of the side sees what they leave of the triangle
  pub sees_beyond : (n : Point) → pos 0 <ℤ determinant (whole r) (whole l) (whole n) → (u w p q : Point) → IsEnd n u w → IsEnd n p q
      → ¬ (u ≡ w) → ¬ (p ≡ q) → Reaches u w l r → Reaches p q l r
      → ((x : Triple) → IsPoint x → On x (whole l) (whole r) → ¬ IsLeft (whole u) (whole w) x → ¬ IsRight (whole p) (whole q) x
      → Sees ring (whole n) x)
      → (y : Triple) → IsPoint y → IsInTri corners t y → ¬ IsLeft (whole u) (whole w) y → ¬ IsRight (whole p) (whole q) y
      → Sees ring (whole n) y
  sees_beyond n up u w p q end_left end_right differ_left differ_right reach_left reach_right window y at_y in_y not_left not_right =
      let at = is_behind corners t left i j has l r from to in
      elim (at.beyond y at_y in_y) [
        | inl on ↦ window y at_y on not_left not_right
        | inr beyond ↦
            let (x, at_x, on_x, on_way, x_left, x_right) =
            crossing_in_window n l r y at_y up beyond u w p q end_left end_right differ_left differ_right reach_left reach_right
            not_left not_right in
            sees_on ring (whole n) x y (whole_is_point n) at_x at_y on_way (window x at_x on_x x_left x_right)
            (sees_within corners ring t inside x y at_x at_y (at.side x at_x on_x) in_y)
      ]

-- ---- the points of a funnel see what is in their windows, in the triangle behind the diagonal too

module _ (corners ring : List Point) (t : Tri) (inside : (z : Triple) → IsPoint z → IsInTri corners t z → IsIn ring z)
    (left : IsLeft (whole (vertex corners t.a)) (whole (vertex corners t.b)) (whole (vertex corners t.c)))
    (i j : ℕ) (has : HasSide t i j) (l r : Point) (from : vertex corners i ≡ l) (to : vertex corners j ≡ r)
    (ns : List Point) (a : ℕ) (f : IsFunnel ns a l r) (s : IsOpenSight ring ns a l r) where
  -- a point of the funnel on the diagonal sees all of the triangle,
  sees_from_place : (h : ℕ) → IsOnDiagonal ns l r h → (y : Triple) → IsPoint y → IsInTri corners t y
      → Sees ring (whole (point_at ns h)) y
  sees_from_place h = sees_from_side corners ring t inside left i j has l r from to (point_at ns h)

  module _ (h : ℕ) (some : 0 < h) (more : h + 1 < length ns) (y : Triple) (at_y : IsPoint y) (in_y : IsInTri corners t y)
      (window : IsInWindow ns a h y) where
    -- one above it what is in its window,
    sees_from_above : pos 0 <ℤ height_over l r (whole (point_at ns h)) → Sees ring (whole (point_at ns h)) y
    sees_from_above up =
        let n = point_at ns h in
        let d = edge_before ns a l r f h some (omega arith) in
        let e = edge_after ns a l r f h more in
        sees_beyond corners ring t inside left i j has l r from to n up d.from d.to e.from e.to d.end e.end
        d.differ e.differ d.reach e.reach
        (λ x at_x on not_left not_right. s.window h (omega arith) x at_x on (in_window_of ns a h l r n d e x not_left not_right))
        y at_y in_y (window.not_left d.from d.to some d.is) (window.not_right e.from e.to more e.is)

    -- and so does one that is on the line of the diagonal,
    sees_from_level : height_over l r y <ℤ pos 0 → height_over l r (whole (point_at ns h)) ≡ pos 0 → Sees ring (whole (point_at ns h)) y
    sees_from_level beyond flat = elim (cases_eq h a) [
      | inr other ↦ sees_from_place h (flat_off_apex ns a l r f h (omega arith) other flat) y at_y in_y
      | inl apex ↦ elim (flat_apex ns a l r f (subst (IsFlat ns l r) apex flat)) [
        | inl on ↦ sees_from_place h (subst (IsOnDiagonal ns l r) (sym apex) on) y at_y in_y
        | inr none ↦ absurd (none y beyond (subst (λ n. IsInWindow ns a n y) apex window))
      ]
    ]

    -- an inner one sees what is in its window beyond the diagonal
    sees_from_inner : height_over l r y <ℤ pos 0 → Sees ring (whole (point_at ns h)) y
    sees_from_inner beyond = elim (sign (height_over l r (whole (point_at ns h)))) [
      | is_negative n ↦ absurd (not_both n (not_negative ns a l r f h (omega arith)))
      | is_zero flat ↦ sees_from_level beyond flat
      | is_positive up ↦ sees_from_above up
    ]

  -- so each point sees what is in its window,
  pub sees_window : (h : ℕ) → h < length ns → (y : Triple) → IsPoint y → IsInTri corners t y → IsInWindow ns a h y
      → Sees ring (whole (point_at ns h)) y
  sees_window h within y at_y in_y window = elim ((is_behind corners t left i j has l r from to).beyond y at_y in_y) [
    | inl on ↦ s.window h within y at_y on window
    | inr beyond ↦ elim (cases_lt 0 h) [
      | inr none ↦
          let same : 0 ≡ h = omega arith in
          sees_from_place h (subst (IsOnDiagonal ns l r) same (on_at_first ns a l r f)) y at_y in_y
      | inl some ↦ elim (cases_lt (h + 1) (length ns)) [
        | inr none ↦ sees_from_place h (on_at_last ns a l r f h (omega arith)) y at_y in_y
        | inl more ↦ sees_from_inner h some more y at_y in_y window beyond
      ]
    ]
  ]

  -- and what is reached from it
  pub sees_reached : (h : ℕ) (y : Triple) → IsPoint y → IsInTri corners t y → IsReachedFrom ns a h y → Sees ring (whole (point_at ns h)) y
  sees_reached h y at_y in_y reached = sees_window h reached.within y at_y in_y (window_of_reached ns a h y reached)

-- ---- the points of the next funnel see what is in their windows on the two other sides of a triangle, and the points beside them

module _ (corners ring : List Point) (t : Tri) (inside : (z : Triple) → IsPoint z → IsInTri corners t z → IsIn ring z)
    (left : IsLeft (whole (vertex corners t.a)) (whole (vertex corners t.b)) (whole (vertex corners t.c)))
    (i j : ℕ) (has : HasSide t i j) (l r : Point) (from : vertex corners i ≡ l) (to : vertex corners j ≡ r)
    (ns : List Point) (a : ℕ) (f : IsFunnel ns a l r) (s : IsOpenSight ring ns a l r)
    (m : Point) (in_m : IsInTri corners t (whole m)) (h : ℕ) (reached : IsReachedFrom ns a h (whole m)) where
  -- the new edge lies in the ring
  sees_new : (u w : Point) → (u ≡ point_at ns h) × (w ≡ m) → Sees ring (whole u) (whole w)
  sees_new u w e =
      rw (e.0, e.1) (sees_reached corners ring t inside left i j has l r from to ns a f s h (whole m) (whole_is_point m) in_m reached)

  -- the point m sees what is in the triangle
  sees_from_new : (n : Point) → n ≡ m → (x : Triple) → IsPoint x → IsInTri corners t x → Sees ring (whole n) x
  sees_from_new n e x at_x in_x = rw e (sees_within corners ring t inside (whole m) x (whole_is_point m) at_x in_m in_x)

  -- an old point sees what is in its old window
  sees_from_old : (n : Point) (g : ℕ) → n ≡ point_at ns g → g < length ns → (x : Triple) → IsPoint x → IsInTri corners t x
      → IsInWindow ns a g x → Sees ring (whole n) x
  sees_from_old n g e within x at_x in_x window =
      rw e (sees_window corners ring t inside left i j has l r from to ns a f s g within x at_x in_x window)

  -- the triangle has the segments from the ends of the diagonal to m
  in_between : (n : Point) → On (whole n) (whole l) (whole r) → (x : Triple) → IsPoint x → On x (whole n) (whole m) → IsInTri corners t x
  in_between n on_n x at_x on =
      between_in_triangle (vertex corners t.a) (vertex corners t.b) (vertex corners t.c) x (whole n) (whole m) at_x (whole_is_point n)
      (whole_is_point m) ((is_behind corners t left i j has l r from to).side (whole n) (whole_is_point n) on_n) in_m on

  -- ---- on the side from l to m

  module _ (x : Triple) (at_x : IsPoint x) (on : On x (whole l) (whole m)) where
    -- each point sees its new window
    window_right : (g : ℕ) → g < length (take (h + 1) ns ++ m ∷ []) → IsInWindow (take (h + 1) ns ++ m ∷ []) (min a h) g x
        → Sees ring (whole (point_at (take (h + 1) ns ++ m ∷ []) g)) x
    window_right g less window =
        let within = reached.within in
        let so_many = next_right_length ns m h within in
        let in_x = in_between l (on_first_end (whole l) (whole r)) x at_x on in
        elim (cases_lt h g) [
          | inr old ↦
              sees_from_old (point_at (take (h + 1) ns ++ m ∷ []) g) g (next_right_old ns m h within g old) (omega arith) x at_x in_x
              (old_window_right ns a l r f m h reached x at_x on g old window)
          | inl new ↦
              let place : g ≡ h + 1 = omega (arith, so_many) in
              sees_from_new (point_at (take (h + 1) ns ++ m ∷ []) g)
              (ap (point_at (take (h + 1) ns ++ m ∷ [])) place ∙ next_right_last ns m h within) x at_x in_x
        ]

  -- the points to place h, and then m, see what is in their windows
  pub sight_right : IsOpenSight ring (take (h + 1) ns ++ m ∷ []) (min a h) l m
  sight_right =
      let within = reached.within in
      let so_many = next_right_length ns m h within in
      record {
        window = λ g less x at_x on window. window_right x at_x on g less window;
        edge = λ e u w some less is. elim (cases_lt h e) [
          | inr old ↦ s.edge e u w some (omega arith) (old_edge_right ns a h m u w within e old is)
          | inl new ↦
              let place : e ≡ h + 1 = omega (arith, so_many) in
              sees_new u w (new_edge_right ns a h m u w within
              (subst (λ n. IsFunnelEdge (take (h + 1) ns ++ m ∷ []) (min a h) n u w) place is))
        ];
      }

  -- ---- on the side from m to r

  module _ (x : Triple) (at_x : IsPoint x) (on : On x (whole m) (whole r)) where
    -- each point sees its new window
    window_left : (g : ℕ) → g < length (m ∷ drop h ns) → IsInWindow (m ∷ drop h ns) (a - h + 1) g x
        → Sees ring (whole (point_at (m ∷ drop h ns) g)) x
    window_left g less window =
        let so_many = next_left_length ns m h reached.within in
        let in_x = in_between r (on_last_end (whole l) (whole r)) x at_x (on_reversed x (whole m) (whole r) on) in
        elim (cases_lt 0 g) [
          | inl old ↦
              sees_from_old (point_at (m ∷ drop h ns) g) (h + g - 1) (left_place ns m h g old) (omega (arith, so_many)) x at_x in_x
              (old_window_left ns a l r f m h reached x at_x on g old less window)
          | inr new ↦
              let place : g ≡ 0 = omega arith in
              sees_from_new (point_at (m ∷ drop h ns) g) (ap (point_at (m ∷ drop h ns)) place) x at_x in_x
        ]

  -- m, and then the points from place h on, see what is in their windows
  pub sight_left : IsOpenSight ring (m ∷ drop h ns) (a - h + 1) m r
  sight_left =
      let so_many = next_left_length ns m h reached.within in
      record {
        window = λ g less x at_x on window. window_left x at_x on g less window;
        edge = λ e u w some less is. elim (cases_lt 1 e) [
          | inl old ↦ s.edge (h + e - 1) u w (omega arith) (omega (arith, so_many)) (old_edge_left ns a h m u w e old is)
          | inr new ↦
              let place : e ≡ 1 = omega arith in
              sees_new u w (new_edge_left ns a h m u w (subst (λ n. IsFunnelEdge (m ∷ drop h ns) (a - h + 1) n u w) place is))
        ];
      }
