-- The law of the view: what a point of a ring sees is what is in its triangles with the parts of the edges that it sees.
use Rattle.std.proofs.Common.{inl, inr, sym, subst, ℕ, ◌<◌, List, length}
use Rattle.plane.proofs.Points.{same_sym, whole_is_point}
use Rattle.plane.proofs.Segments.{later_between, on_first_end, on_nested, on_one_side, on_reversed}
use Rattle.plane.specs.Prelude.{IsPoint, On, Point, Triple, whole}
use Rattle.rings.proofs.Crossings.{in_law}
use Rattle.rings.proofs.Inside.{in_same, outside}
use Rattle.rings.proofs.Simple.{same_or_not}
use Rattle.rings.proofs.Vertices.{FirstHit, first_hit_or_misses, misses_before, on_some_edge}
use Rattle.rings.specs.Prelude.{edges_of, IsIn, IsOnEdge, Sees}
use Rattle.rings.specs.Visible.{AreParts, IsInView, Part, ViewLaw}

module _ (ring : List Point) where
  -- ---- on to the edges

  -- from a point in the ring up to the first edge on the way, the way is in the ring
  before_hit : (x t : Triple) → IsPoint x → IsPoint t → IsIn ring x → (h : FirstHit x t (edges_of ring)) → Sees ring x h.point
  before_hit x t at_x at_t inside h z at_z on = elim (same_or_not z h.point) [
    | inl same ↦ in_same ring h.point z h.rational at_z (same_sym same) (inl h.on_edge)
    | inr differ ↦ in_law ring x z at_x at_z (misses_before x t at_x at_t (edges_of ring) h z at_z on differ) inside
  ]

  -- each way out of the ring meets an edge
  hit_on_way : (x t : Triple) → IsPoint x → IsPoint t → IsIn ring x → ¬ IsIn ring t → FirstHit x t (edges_of ring)
  hit_on_way x t at_x at_t inside out = elim (first_hit_or_misses x t at_x at_t (edges_of ring)) [
    | inl h ↦ h
    | inr misses ↦ absurd (out (in_law ring x t at_x at_t misses inside))
  ]

  -- a point of edge i that q sees, with x on the way to it
  record SeenBeyond (q x : Triple) : Type 0 where
    edge : ℕ
    in_ring : edge < length ring
    point : Triple
    rational : IsPoint point
    on_edge : IsOnEdge ring edge point
    seen : Sees ring q point
    on_way : On x q point

  -- where q sees a point of the ring, it sees a point of an edge beyond it
  seen_beyond : (q x : Triple) → IsPoint q → IsPoint x → IsIn ring x → Sees ring q x → SeenBeyond q x
  seen_beyond q x at_q at_x inside seen =
      let t = outside ring q x at_q at_x in
      let h = hit_on_way x t.point at_x t.rational inside t.out in
      let y = h.point in
      let at_y = h.rational in
      let (i, within, on_edge) = on_some_edge y ring h.on_edge in
      -- x is between q and y, being between q and t, and y between x and t
      let way : On x q y =
      on_reversed x y q (later_between y t.point x q at_y t.rational at_x at_q (on_reversed y x t.point h.on_way)
      (on_reversed x q t.point t.on_way)) in
      record {
        edge = i;
        in_ring = within;
        point = y;
        rational = at_y;
        on_edge = on_edge;
        seen = λ z at_z on. elim (on_one_side z x q y at_z at_x at_q at_y on way) [
          | inl near ↦ seen z at_z near
          | inr far ↦ before_hit x t.point at_x t.rational inside h z at_z far
        ];
        on_way = way;
      }

  -- ---- the law

  module _ (q : Triple) (at_q : IsPoint q) (parts : List Part) (are : AreParts ring q parts) where
    -- what is seen is on the way to a point of a part,
    in_view : (x : Triple) → IsPoint x → IsIn ring x → Sees ring q x → IsInView q parts x
    in_view x at_x inside sees =
        let s = seen_beyond q x at_q at_x inside sees in
        elim (are.complete s.edge s.in_ring) [
          | inr unseen ↦ absurd (unseen s.point s.rational s.on_edge s.seen)
          | inl h ↦
              let (k, below, is) = h in
              let part = are.parts_seen k below in
              let on_edge = subst (λ i. IsOnEdge ring i s.point) (sym is) s.on_edge in (
                k,
                below,
                record {
                  point = s.point;
                  rational = s.rational;
                  on_base = (part.seen s.point s.rational).0 (on_edge, s.seen);
                  on_way = s.on_way;
                },
              )
        ]

    -- and what is on such a way is seen
    seen_in_view : (x : Triple) → IsPoint x → IsInView q parts x → Sees ring q x
    seen_in_view x at_x view z at_z on =
        let (k, below, h) = view in
        let seen = ((are.parts_seen k below).seen h.point h.rational).1 h.on_base in
        seen.1 z at_z (on_nested z q x q h.point at_z at_q at_x at_q h.rational (on_first_end q h.point) h.on_way on)

-- the law of the view
pub view_law : ViewLaw
view_law ring some simple q inside parts are x at_x x_inside = (
  in_view ring (whole q) (whole_is_point q) parts are x at_x x_inside,
  seen_in_view ring (whole q) (whole_is_point q) parts are x at_x,
)
