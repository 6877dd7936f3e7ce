-- The parts of the edges that a point sees, where the ring is read the other way round.
use Rattle.std.proofs.Common.{◌≡◌, ◌⊎◌, ◌↔◌, inl, inr, ap, subst, ◌∙◌, ℕ, ◌+◌, ◌-◌, ◌<◌, Bool, true, false, arith}
use Rattle.std.proofs.Common.{if◌then◌else◌, List, length, map, get_or}
use Rattle.std.proofs.Math.ListN.{length-map}
use Rattle.std.proofs.lemmas.List.{get_or-map, get_or-reverse, length-reverse}
use Rattle.plane.proofs.Points.{whole_is_point}
use Rattle.plane.proofs.Segments.{later_between, on_last_end, on_reversed}
use Rattle.plane.specs.Prelude.{On, Point, Triple, whole}
use Rattle.rings.proofs.Inside.{sees_turned_iff}
use Rattle.rings.proofs.Turned.{length-turned_round, turned_begin, turned_end}
use Rattle.rings.specs.Prelude.{IsOnEdge, origin, turned_round, vertex}
use Rattle.rings.specs.Visible.{AreParts, IsInTriangleOf, IsInView, IsPart, IsUnseen, Part, part_at, turned_part, turned_parts}

-- ---- one edge

module _ (ring : List Point) (i : ℕ) (below : i < length ring) where
  -- it is read backward
  abbrev begins : vertex (turned_round ring) (length ring - 1 - i) ≡ vertex ring (i + 1)
  begins = turned_begin ring i below

  abbrev ends : vertex (turned_round ring) (length ring - 1 - i + 1) ≡ vertex ring i
  ends = turned_end ring i below

  on_edge_turned : (x : Triple) → IsOnEdge (turned_round ring) (length ring - 1 - i) x ↔ IsOnEdge ring i x
  on_edge_turned x =
      let v = whole (vertex ring i) in
      let w = whole (vertex ring (i + 1)) in
      (λ on. on_reversed x w v (rw (begins, ends) at on), λ on. rw (begins, ends) (on_reversed x v w on))

  module _ (q : Triple) where
    -- what is unseen of it stays so
    unseen_turned : IsUnseen ring q i → IsUnseen (turned_round ring) q (length ring - 1 - i)
    unseen_turned unseen x at_x on sees = unseen x at_x ((on_edge_turned x).0 on) ((sees_turned_iff ring q x).0 sees)

    -- and the part that is seen runs backward
    part_turned : (a b : Triple) → IsPart ring q i a b → IsPart (turned_round ring) q (length ring - 1 - i) b a
    part_turned a b part =
        let v = whole (vertex ring i) in
        let w = whole (vertex ring (i + 1)) in
        let at_a = part.first_rational in
        let at_b = part.last_rational in
        let at_w = whole_is_point (vertex ring (i + 1)) in
        let last_on : On b v w = ((part.seen b at_b).1 (on_last_end a b)).0 in
        record {
          first_rational = at_b;
          last_rational = at_a;
          in_order = rw begins
              (on_reversed b a w (later_between a v b w at_a (whole_is_point (vertex ring i)) at_b at_w part.in_order last_on));
          seen = λ x at_x. (
            λ h. on_reversed x a b ((part.seen x at_x).0 ((on_edge_turned x).0 h.0, (sees_turned_iff ring q x).0 h.1)),
            λ on. let h = (part.seen x at_x).1 (on_reversed x b a on) in ((on_edge_turned x).1 h.0, (sees_turned_iff ring q x).1 h.1),
          );
        }

-- ---- the list of parts

module _ (n : ℕ) (parts : List Part) where
  abbrev none : Part
  none = record { edge = 0; first = whole origin; last = whole origin }

  length_turned : length (turned_parts n parts) ≡ length parts
  length_turned = length-reverse (map (turned_part n) parts) ∙ length-map parts (turned_part n)

  -- its parts, from the last one on
  turned_at : (k : ℕ) → k < length parts → part_at (turned_parts n parts) k ≡ turned_part n (part_at parts (length parts - 1 - k))
  turned_at k below =
      let long = length-map parts (turned_part n) in
      get_or-reverse (map (turned_part n) parts) k none (omega (arith, long))
      ∙ ap (λ m. get_or (map (turned_part n) parts) (m - 1 - k) none) long
      ∙ get_or-map (turned_part n) parts (length parts - 1 - k) none none (omega arith)

  -- so each is at the place as far from the end
  turned_back : (k : ℕ) → k < length parts → part_at (turned_parts n parts) (length parts - 1 - k) ≡ turned_part n (part_at parts k)
  turned_back k below = turned_at (length parts - 1 - k) (omega arith) ∙ ap (λ m. turned_part n (part_at parts m)) (omega arith)

-- ---- all edges

module _ (ring : List Point) (q : Triple) (parts : List Part) (are : AreParts ring q parts) where
  abbrev turned : List Part
  turned = turned_parts (length ring) parts

  -- the edges rise, since they fall backward
  rising_turned : (k : ℕ) → k + 1 < length turned → (part_at turned k).edge < (part_at turned (k + 1)).edge
  rising_turned k below =
      let n = length ring in
      let long = length_turned n parts in
      let m = length parts - 1 - (k + 1) in
      let next : m + 1 ≡ length parts - 1 - k = omega (arith, long) in
      let rises : (part_at parts m).edge < (part_at parts (length parts - 1 - k)).edge =
      subst (λ l. (part_at parts m).edge < (part_at parts l).edge) next (are.rising m (omega (arith, long))) in
      let last = are.in_ring (length parts - 1 - k) (omega (arith, long)) in
      rw (turned_at n parts k (omega (arith, long)), turned_at n parts (k + 1) (omega (arith, long))) (omega (arith, rises, last))

  complete_turned : (i : ℕ) → i < length ring
      → ((k : ℕ) × (k < length turned) × ((part_at turned k).edge ≡ i)) ⊎ IsUnseen (turned_round ring) q i
  complete_turned i below =
      let n = length ring in
      let long = length_turned n parts in
      let twice : n - 1 - (n - 1 - i) ≡ i = omega arith in
      elim (are.complete (n - 1 - i) (omega arith)) [
        | inl at ↦ inl (
          length parts - 1 - at.0,
          omega (arith, long, at.1),
          ap (λ (p : Part). p.edge) (turned_back n parts at.0 at.1) ∙ ap (λ e. n - 1 - e) at.2 ∙ twice,
        )
        | inr unseen ↦ inr (subst (IsUnseen (turned_round ring) q) twice (unseen_turned ring (n - 1 - i) (omega arith) q unseen))
      ]

  -- they are the parts that are seen
  parts_turned : AreParts (turned_round ring) q turned
  parts_turned =
      let n = length ring in
      let long = length_turned n parts in
      record {
        in_ring = λ k h.
            let earlier = are.in_ring (length parts - 1 - k) (omega (arith, long, h)) in
            rw (turned_at n parts k (omega (arith, long, h))) (omega (arith, earlier, length-turned_round ring));
        parts_seen = λ k h.
            let at = length parts - 1 - k in
            let within : at < length parts = omega (arith, long, h) in
            let part = part_at parts at in
            rw (turned_at n parts k (omega (arith, long, h)))
            (part_turned ring part.edge (are.in_ring at within) q part.first part.last (are.parts_seen at within));
        rising = rising_turned;
        complete = λ i h. complete_turned i (omega (arith, h, length-turned_round ring));
      }

  -- whether the ring is turned round or not
  pub parts_either : (is_turned : Bool)
      → AreParts (if is_turned then turned_round ring else ring) q (if is_turned then turned_parts (length ring) parts else parts)
  parts_either true = parts_turned
  parts_either false = are

-- ---- the view

-- a triangle by its corners in another order
swapped : (q a b x : Triple) → IsInTriangleOf q a b x → IsInTriangleOf q b a x
swapped q a b x t = record { point = t.point; rational = t.rational; on_base = on_reversed t.point a b t.on_base; on_way = t.on_way }

-- what is in triangles with the parts is so with the turned ones
pub view_turned : (n : ℕ) (q : Triple) (parts : List Part) (x : Triple) → IsInView q (turned_parts n parts) x ↔ IsInView q parts x
view_turned n q parts x =
    let long = length_turned n parts in (
      λ view.
          let k = view.0 in
          let within : k < length parts = omega (arith, long, view.1) in
          let part = part_at parts (length parts - 1 - k) in
          (length parts - 1 - k, omega arith, swapped q part.last part.first x (rw (turned_at n parts k within) at view.2)),
      λ view.
          let k = view.0 in
          let within = view.1 in
          let part = part_at parts k in
          (length parts - 1 - k, omega (arith, long), rw (turned_back n parts k within) (swapped q part.first part.last x view.2)),
    )
