-- The winding numbers of two pieces beside their diagonal, and of the ring that they make on it.
use Rattle.std.proofs.Common.{◌≡◌, inl, inr, ◌∷◌, ◌++◌, ◌∙◌, le_refl, ℕ, List, ℤ, pos, ◌+ℤ◌, ◌-ℤ◌, neg_ℤ, arith}
use Rattle.std.proofs.lemmas.Int.{ints}
use Rattle.plane.proofs.Nearness.{left_toward, right_toward, toward, toward_is_point, toward_on}
use Rattle.plane.proofs.Points.{whole_is_point}
use Rattle.plane.proofs.Segments.{on_is_straight, on_last_end, on_reversed, left_not_on, right_not_on, within_from}
use Rattle.plane.specs.Prelude.{IsLeft, IsPoint, IsRight, On, Point, Triple, whole}
use Rattle.rings.proofs.Crossings.{winding_law, winding-append, crossing_reversed, left_swapped, right_swapped}
use Rattle.rings.proofs.Vertices.{closed_edges_of, growth-append, growth-edges_along, on_some_cases, on_some_left, on_some_right, misses_eventually}
use Rattle.rings.specs.Across.{Misses}
use Rattle.rings.specs.Prelude.{crossing, Edge, edge, edges_along, edges_of, IsClosed, IsOnSome, winding}
use Rattle.ring_laws.proofs.Ears.{greater_is_one, one_and_none, smaller_is_zero}
use Rattle.ring_laws.proofs.Pieces.TwoChains.{ArePieces, IsNeither, chain_on_diagonal, neither_swapped, swapped}
use Rattle.ring_laws.proofs.Triangles.{across_edge}

-- ---- sums

-- an edge and its reverse cancel
cancel_diagonal : (a b d e n : ℤ) → n ≡ a +ℤ b → e ≡ neg_ℤ d → n ≡ (d +ℤ a) +ℤ (e +ℤ b)
cancel_diagonal a b d e n h k = omega (arith, ints)

-- the edges of both chains: the ring
abbrev pub both_chains : Point → Point → List Point → List Point → List Edge
both_chains v z ms ns = edges_along z ms v ++ edges_along v ns z

-- growth there and back is none
no_growth : (a b n g h : ℤ) → n ≡ g +ℤ h → g ≡ a -ℤ b → h ≡ b -ℤ a → n ≡ pos 0
no_growth a b n g h e k l = omega (arith, ints)

-- they are closed
pub both_closed : (v z : Point) (ms ns : List Point) → IsClosed (both_chains v z ms ns)
both_closed v z ms ns g =
    no_growth (g v) (g z) _ _ _ (growth-append g (edges_along z ms v) (edges_along v ns z)) (growth-edges_along g z ms v)
    (growth-edges_along g v ns z)

-- the chains wind round a point as the two pieces do together
pub pieces_winding : (v z : Point) (ms ns : List Point) (p : Triple) →
    winding (both_chains v z ms ns) p ≡ winding (edges_of (v ∷ z ∷ ms)) p +ℤ winding (edges_of (z ∷ v ∷ ns)) p
pieces_winding v z ms ns p =
    cancel_diagonal (winding (edges_along z ms v) p) (winding (edges_along v ns z) p) (crossing (edge v z) p) (crossing (edge z v) p)
    _ (winding-append p (edges_along z ms v) (edges_along v ns z)) (crossing_reversed (edge v z) p)

-- ---- beside the diagonal

-- what misses two lists misses the first
misses_first : (p q : Triple) (es fs : List Edge) → Misses p q (es ++ fs) → Misses p q es
misses_first p q es fs h x at_x on k = h x at_x on (on_some_left x es fs k)

-- the order of two lists is free
misses_exchanged : (p q : Triple) (es fs : List Edge) → Misses p q (es ++ fs) → Misses p q (fs ++ es)
misses_exchanged p q es fs h x at_x on k =
    h x at_x on (elim (on_some_cases x fs es k) [ inl j ↦ on_some_right x es fs j | inr j ↦ on_some_left x es fs j ])

module _ (v z : Point) (ms ns : List Point) (c : ArePieces v z ms ns) (m : Triple) (at_m : IsPoint m)
    (on : On m (whole v) (whole z)) (neither : IsNeither v z m) where
  -- a point within the diagonal is not on the first chain,
  off_first : ¬ (IsOnSome (edges_along z ms v) m)
  off_first h = elim (chain_on_diagonal v z ms ns c m at_m h on) [ inl s ↦ neither.not_first s | inr s ↦ neither.not_last s ]

  -- nor on the second,
  off_second : ¬ (IsOnSome (edges_along v ns z) m)
  off_second h =
      elim (chain_on_diagonal z v ns ms (swapped v z ms ns c) m at_m h (on_reversed m (whole v) (whole z) on)) [
        | inl s ↦ neither.not_last s
        | inr s ↦ neither.not_first s
      ]

  -- so on no edge of the ring
  pub off_ring : ¬ (IsOnSome (both_chains v z ms ns) m)
  off_ring h = elim (on_some_cases m (edges_along z ms v) (edges_along v ns z) h) [ inl k ↦ off_first k | inr k ↦ off_second k ]

  module _ (p q : Triple) (at_p : IsPoint p) (at_q : IsPoint q) (left : IsLeft (whole v) (whole z) p)
      (right : IsRight (whole v) (whole z) q) (from_p : Misses m p (both_chains v z ms ns))
      (from_q : Misses m q (both_chains v z ms ns)) where
    -- across the diagonal the first piece falls from 1 to 0
    first_falls : (winding (edges_of (v ∷ z ∷ ms)) p ≡ pos 1) × (winding (edges_of (v ∷ z ∷ ms)) q ≡ pos 0)
    first_falls =
        let one = edges_along z ms v in
        let other = edges_along v ns z in
        let p_misses = misses_first m p one other from_p in
        let q_misses = misses_first m q one other from_q in
        let within = within_from m (whole v) (whole z) at_m (whole_is_point v) (whole_is_point z) on neither.not_first neither.not_last in
        let falls = across_edge (edge v z) m p q at_m at_p at_q within left right one (closed_edges_of (v ∷ z ∷ ms)) p_misses q_misses in
        let p_off : ¬ (IsOnSome (edges_of (v ∷ z ∷ ms)) p) =
        λ h. elim h [ inl k ↦ left_not_on v z p at_p left k | inr k ↦ p_misses p at_p (on_last_end m p) k ] in
        let q_off : ¬ (IsOnSome (edges_of (v ∷ z ∷ ms)) q) =
        λ h. elim h [ inl k ↦ right_not_on v z q at_q right k | inr k ↦ q_misses q at_q (on_last_end m q) k ] in
        let at_left = c.first_values p at_p p_off in
        let at_right = c.first_values q at_q q_off in
        (greater_is_one _ _ falls at_left at_right, smaller_is_zero _ _ falls at_left at_right)

-- a point left of the diagonal, near m and on the way to t, with the values there
pub record BesideLeft (v z : Point) (ms ns : List Point) (m t : Triple) : Type 0 where
  pub point : Triple
  pub rational : IsPoint point
  pub on_way : On point m t
  pub is_left : IsLeft (whole v) (whole z) point
  pub misses : Misses m point (both_chains v z ms ns)
  pub first_is_one : winding (edges_of (v ∷ z ∷ ms)) point ≡ pos 1
  pub second_is_zero : winding (edges_of (z ∷ v ∷ ns)) point ≡ pos 0

-- a point left of the diagonal and one right of it
module _ (v z : Point) (ms ns : List Point) (c : ArePieces v z ms ns) (a b : Point)
    (left : IsLeft (whole v) (whole z) (whole a)) (right : IsRight (whole v) (whole z) (whole b)) (m : Triple) (at_m : IsPoint m)
    (on : On m (whole v) (whole z)) (neither : IsNeither v z m) where
  -- just left of the diagonal the first piece winds once, and the second not at all
  beside_left : (p : Triple) → IsPoint p → IsLeft (whole v) (whole z) p → Misses m p (both_chains v z ms ns)
      → (winding (edges_of (v ∷ z ∷ ms)) p ≡ pos 1) × (winding (edges_of (z ∷ v ∷ ns)) p ≡ pos 0)
  beside_left p at_p p_left from_p =
      let one = edges_along z ms v in
      let other = edges_along v ns z in
      let at_b = whole_is_point b in
      let near = misses_eventually m (whole b) at_m at_b (both_chains v z ms ns) (off_ring v z ms ns c m at_m on neither) in
      let n : ℕ = near.start in
      let q = toward m (whole b) n in
      let at_q = toward_is_point m (whole b) at_m at_b n in
      let from_q = near.from_start n (le_refl n) in
      let straight = on_is_straight m (whole v) (whole z) at_m (whole_is_point v) (whole_is_point z) on in
      let q_right = right_toward (whole v) (whole z) m (whole b) straight right n in
      let first = first_falls v z ms ns c m at_m on neither p q at_p at_q p_left q_right from_p from_q in
      let second = first_falls z v ns ms (swapped v z ms ns c) m at_m (on_reversed m (whole v) (whole z) on)
      (neither_swapped v z m neither) q p at_q at_p (left_swapped (whole v) (whole z) q q_right)
      (right_swapped (whole v) (whole z) p p_left) (misses_exchanged m q one other from_q) (misses_exchanged m p one other from_p) in
      (first.0, second.1)

  -- there is such a point on the way from the diagonal to each point that is left of it
  pub beside_left_toward : (t : Triple) → IsPoint t → IsLeft (whole v) (whole z) t → BesideLeft v z ms ns m t
  beside_left_toward t at_t t_left =
      let near = misses_eventually m t at_m at_t (both_chains v z ms ns) (off_ring v z ms ns c m at_m on neither) in
      let n : ℕ = near.start in
      let p = toward m t n in
      let misses = near.from_start n (le_refl n) in
      let straight = on_is_straight m (whole v) (whole z) at_m (whole_is_point v) (whole_is_point z) on in
      let p_left = left_toward (whole v) (whole z) m t straight t_left n in
      let values = beside_left p (toward_is_point m t at_m at_t n) p_left misses in
      record {
        point = p;
        rational = toward_is_point m t at_m at_t n;
        on_way = toward_on m t at_m at_t n;
        is_left = p_left;
        misses = misses;
        first_is_one = values.0;
        second_is_zero = values.1;
      }

  -- so the ring winds once round each point within the diagonal
  pub winding_on_diagonal : winding (both_chains v z ms ns) m ≡ pos 1
  winding_on_diagonal =
      let p = beside_left_toward (whole a) (whole_is_point a) left in
      winding_law m p.point at_m p.rational (both_chains v z ms ns) (both_closed v z ms ns) p.misses
      ∙ one_and_none _ _ _ (pieces_winding v z ms ns p.point) p.first_is_one p.second_is_zero
