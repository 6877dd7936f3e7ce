-- Right of an edge, near an end of it, nothing is in a ring where no edge at that end is right of this one; so at a vertex that is not reflex
-- the ring is in the half-planes of both edges.
use Rattle.std.proofs.Common.{◌≡◌, inl, inr, subst, ℕ, ◌+◌, ◌<◌, ℤ, pos, List, length, arith, ◌≤ℤ◌, refl}
use Rattle.std.proofs.Common.{le_refl, ◌-◌, ◌≤◌}
use Rattle.integer_algebra.proofs.SignSteps.{turned_positive, turned_not_positive, zero_not_negative}
use Rattle.integer_algebra.proofs.Signs.{lt_or_le}
use Rattle.plane.proofs.Nearness.{Eventually, toward, toward_is_point, apart_between, right_toward}
use Rattle.plane.proofs.Points.{whole_is_point}
use Rattle.plane.proofs.Segments.{middle, middle_is_point}
use Rattle.plane.proofs.Segments.{on_is_straight, on_same_point, first_end_on_line, on_or_not}
use Rattle.plane.proofs.Turns.{determinant_swap_first, straight_swap_first, determinant_same_ends, determinant_same_last, determinant_shift}
use Rattle.plane.specs.Prelude.{determinant, IsPoint, IsRight, On, Point, Triple, whole}
use Rattle.rings.proofs.Simple.{proper_edges, apart_of_simple}
use Rattle.rings.proofs.Vertices.{each_eventually, edge_with}
use Rattle.rings.proofs.Vertices.{on_some_of}
use Rattle.rings.specs.Apart.{IsApartRing}
use Rattle.rings.specs.Prelude.{Edge, edge, edges_of, HasEdge, HasEnd, IsCounterclockwise, IsIn, IsOn, IsReflex, IsSimple, turn_at, vertex}
use Rattle.rings.specs.Winding.{WindsUpTo}
use Rattle.ring_laws.proofs.Kernels.RightOfNone.{counterclockwise_winds}
use Rattle.ring_laws.proofs.Triangles.{off_others, end_is_on, end_of_other}
use Rattle.ring_laws.proofs.Triangles.{not_right_between}
use Rattle.ring_laws.proofs.Vertices.{IsStrictlyOn, rest_is_edge, rest_of, right_is_out, HasEdgesAt, edges_at, strictly_from, strictly_to}

-- ---- right of an edge, near an end of it

-- edge f is not right of the line of e
abbrev pub IsNotRightOf : Edge → Edge → Type 0
IsNotRightOf e f =
    (pos 0 ≤ℤ determinant (whole e.from) (whole e.to) (whole f.from)) × (pos 0 ≤ℤ determinant (whole e.from) (whole e.to) (whole f.to))

module _ (ring : List Point) (apart : IsApartRing ring) (some : 1 < length ring) (winds : WindsUpTo (pos 1) (edges_of ring))
    (e : Edge) (has : HasEdge (edges_of ring) e) (v : Point) (end : HasEnd e v)
    (beside : (f : Edge) → HasEdge (edges_of ring) f → HasEnd f v → IsNotRightOf e f)
    (c : Triple) (at_c : IsPoint c) (inside : (n : ℕ) → IsStrictlyOn e (toward (whole v) c n))
    (z : Triple) (at_z : IsPoint z) (right : IsRight (whole e.from) (whole e.to) z) where
  -- the other edges
  abbrev others : List Edge
  others = rest_of ring apart e has

  -- v is on the line of the edge
  v_on_line : determinant (whole e.from) (whole e.to) (whole v) ≡ pos 0
  v_on_line =
      on_is_straight (whole v) (whole e.from) (whole e.to) (whole_is_point v) (whole_is_point e.from) (whole_is_point e.to)
      (end_is_on e v end)

  -- an edge that is not on the way from a point strictly inside the edge to one near v toward z
  abbrev IsMissed : Edge → ℕ → Type 0
  IsMissed f n = (x : Triple) → IsPoint x → On x (toward (whole v) c n) (toward (whole v) z n) → ¬ IsOn f x

  -- an edge that is not right of the line is missed,
  misses_beside : (f : Edge) → HasEdge others f → IsNotRightOf e f → (n : ℕ) → IsMissed f n
  misses_beside f other not_right n x at_x on on_f =
      let a = whole e.from in
      let b = whole e.to in
      let m = toward (whole v) c n in
      let y = toward (whole v) z n in
      let at_m = toward_is_point (whole v) c (whole_is_point v) at_c n in
      let at_y = toward_is_point (whole v) z (whole_is_point v) at_z n in
      let s = inside n in
      let straight = straight_swap_first a b m (on_is_straight m a b at_m (whole_is_point e.from) (whole_is_point e.to) s.on) in
      let y_right = right_toward a b (whole v) z v_on_line right n in
      let x_not_right = not_right_between a b x (whole f.from) (whole f.to) at_x (whole_is_point f.from) (whole_is_point f.to) not_right.0
      not_right.1 on_f in
      let same = first_end_on_line x m y b a at_x at_m at_y on straight
      (turned_positive (determinant_swap_first a b y) y_right) (turned_not_positive (determinant_swap_first a b x) x_not_right) in
      off_others ring apart e has m at_m s.on s.not_from s.not_to
      (on_some_of m f others other (on_same_point at_x same on_f))

  -- and any other, near v
  misses_other : (f : Edge) → HasEdge others f → Eventually (IsMissed f)
  misses_other f other =
      let has_f = rest_is_edge ring apart e has f other in
      elim (on_or_not (whole v) (whole f.from) (whole f.to) (whole_is_point v) (whole_is_point f.from) (whole_is_point f.to)) [
        | inl on ↦ record {
          start = 0;
          from_start = λ n above.
              misses_beside f other (beside f has_f (end_of_other (edges_of ring) apart.apart e f has has_f v end on)) n;
        }
        | inr off ↦
            let far = apart_between (whole v) c z (whole_is_point v) at_c at_z (whole f.from) (whole f.to) (whole_is_point f.from)
            (whole_is_point f.to) off in
            record {
              start = far.start;
              from_start = λ n above x at_x on on_f.
                  far.from_start n above (record { point = x; rational = at_x; on_first = on; on_second = on_f });
            }
      ]

  -- so near v toward z nothing is in the ring
  pub near_is_out : Eventually (λ n. ¬ IsIn ring (toward (whole v) z n))
  near_is_out =
      let each = each_eventually IsMissed others misses_other in
      record {
        start = each.start;
        from_start = λ n above.
            right_is_out ring apart some winds e has (toward (whole v) c n) (toward (whole v) z n)
            (toward_is_point (whole v) c (whole_is_point v) at_c n) (toward_is_point (whole v) z (whole_is_point v) at_z n) (inside n)
            (right_toward (whole e.from) (whole e.to) (whole v) z v_on_line right n)
            (λ x at_x on k. let (f, has_f, on_f) = edge_with x others k in each.from_start n above f has_f x at_x on on_f);
      }

-- ---- at a vertex of a simple ring that is not reflex, the ring is in the half-planes of both edges

-- a turn at a vertex that is not reflex is not to the right
turn_not_negative : (ring : List Point) → IsCounterclockwise ring → (r : ℕ) → ¬ IsReflex ring r → pos 0 ≤ℤ turn_at ring r
turn_not_negative ring runs r convex = elim (lt_or_le (turn_at ring r) (pos 0)) [
  | inl h ↦ absurd (convex (inl (runs, h)))
  | inr h ↦ h
]

-- a vertex with the edges from u and to w, and a turn there that is not to the right
module _ (ring : List Point) (apart : IsApartRing ring) (some : 1 < length ring) (winds : WindsUpTo (pos 1) (edges_of ring))
    (u v w : Point) (at : HasEdgesAt ring u v w) (turn : pos 0 ≤ℤ determinant (whole u) (whole v) (whole w))
    (z : Triple) (at_z : IsPoint z) (near : (n : ℕ) → IsIn ring (toward (whole v) z n)) where
  -- the edges at v are not right of the first one,
  beside_first : (f : Edge) → HasEdge (edges_of ring) f → HasEnd f v → IsNotRightOf (edge u v) f
  beside_first f has end = elim (at.only f has end) [
    | inl is ↦
        subst (IsNotRightOf (edge u v)) is
        (zero_not_negative (determinant_same_ends (whole u) (whole v)), zero_not_negative (determinant_same_last (whole u) (whole v)))
    | inr is ↦ subst (IsNotRightOf (edge u v)) is (zero_not_negative (determinant_same_last (whole u) (whole v)), turn)
  ]

  -- nor of the second
  beside_second : (f : Edge) → HasEdge (edges_of ring) f → HasEnd f v → IsNotRightOf (edge v w) f
  beside_second f has end = elim (at.only f has end) [
    | inl is ↦
        subst (IsNotRightOf (edge v w)) is
        (rw (determinant_shift (whole u) (whole v) (whole w)) turn, zero_not_negative (determinant_same_ends (whole v) (whole w)))
    | inr is ↦
        subst (IsNotRightOf (edge v w)) is
        (zero_not_negative (determinant_same_ends (whole v) (whole w)), zero_not_negative (determinant_same_last (whole v) (whole w)))
  ]

  -- so a point toward which the ring is near v is not right of an edge at v of which no edge there is right, with a point inside it
  not_right_of_edge : (e : Edge) → HasEdge (edges_of ring) e → HasEnd e v
      → ((f : Edge) → HasEdge (edges_of ring) f → HasEnd f v → IsNotRightOf e f) → (c : Triple) → IsPoint c
      → ((n : ℕ) → IsStrictlyOn e (toward (whole v) c n)) → ¬ IsRight (whole e.from) (whole e.to) z
  not_right_of_edge e has end beside c at_c strictly right =
      let out = near_is_out ring apart some winds e has v end beside c at_c strictly z at_z right in
      out.from_start out.start (le_refl out.start) (near out.start)

  -- as the first edge and the second
  right_of_none : (¬ IsRight (whole u) (whole v) z) × (¬ IsRight (whole v) (whole w) z)
  right_of_none = (
    not_right_of_edge (edge u v) at.first (inr refl) beside_first (middle v u) (middle_is_point v u)
        (strictly_to (edge u v) (proper_edges ring apart some (edge u v) at.first)),
    not_right_of_edge (edge v w) at.second (inl refl) beside_second (middle v w) (middle_is_point v w)
        (strictly_from (edge v w) (proper_edges ring apart some (edge v w) at.second)),
  )

-- a point toward which the ring is near a vertex that is not reflex is right of no edge there
pub convex_vertex : (ring : List Point) → IsSimple ring → 3 ≤ length ring → IsCounterclockwise ring → (r : ℕ) → r < length ring
    → ¬ IsReflex ring r → (z : Triple) → IsPoint z → ((n : ℕ) → IsIn ring (toward (whole (vertex ring r)) z n))
    → (¬ IsRight (whole (vertex ring (r + (length ring - 1)))) (whole (vertex ring r)) z)
    × (¬ IsRight (whole (vertex ring r)) (whole (vertex ring (r + 1))) z)
convex_vertex ring simple three runs r h convex z at_z near =
    let apart = apart_of_simple ring simple in
    let at = edges_at ring apart three r h in
    let winds = counterclockwise_winds ring three simple runs in
    let turn = turn_not_negative ring runs r convex in
    right_of_none ring apart (omega arith) winds (vertex ring (r + (length ring - 1))) (vertex ring r)
    (vertex ring (r + 1)) at turn z at_z near
