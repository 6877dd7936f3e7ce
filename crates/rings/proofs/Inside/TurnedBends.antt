-- Sight, neighbours and reflex vertices of a ring that is read the other way round.
use Rattle.std.proofs.Common.{◌≡◌, ◌↔◌, inl, inr, ℕ, zero, suc, ◌+◌, ◌-◌, ◌<◌, neg_ℤ, List, length, sym, ap, ◌∙◌, subst, arith, ◌%◌, []}
use Rattle.std.proofs.Common.{◌∷◌, reverse, refl, Bool, true, false, if◌then◌else◌}
use Rattle.std.proofs.Math.Nat.{add-mod_right}
use Rattle.std.proofs.lemmas.Int.{ints}
use Rattle.std.specs.Prelude.{slice_index_or}
use Rattle.plane.proofs.Turns.{determinant_swap_ends}
use Rattle.plane.specs.Prelude.{determinant, Point, Triple, whole}
use Rattle.rings.proofs.Crossings.{crossings-append, crossings-backward, crossings-cons}
use Rattle.rings.proofs.Turned.{length-turned_round, turned_from, turned_round-turned_round, turned_to, vertex-turned_round}
use Rattle.rings.proofs.Turned.{vertex-turned_round-zero, doubled_area-turned_round, edges_of-turned_round}
use Rattle.rings.proofs.Vertices.{backward, on_some_backward, on_some_left, on_some_right, reverse-cons}
use Rattle.rings.specs.Prelude.{AreNeighbours, crossings, Edge, edges_of, IsIn, IsOnSome, IsReflex, IsReflexVertex, origin, Sees, turn_at}
use Rattle.rings.specs.Prelude.{turned_round, vertex}

-- ---- the inside of a ring is that of the ring read the other way round

module _ (p : Triple) where
  -- a point on some edge is on one in the other order
  on_some_reverse : (es : List Edge) → IsOnSome es p → IsOnSome (reverse es) p
  on_some_reverse [] h = absurd h
  on_some_reverse (e ∷ es) (inl h) = rw (reverse-cons e es) (on_some_right p (reverse es) (e ∷ []) (inl h))
  on_some_reverse (e ∷ es) (inr h) = rw (reverse-cons e es) (on_some_left p (reverse es) (e ∷ []) (on_some_reverse es h))

  -- in which the number of crossings is the same
  crossings-reverse : (es : List Edge) → crossings (reverse es) p ≡ crossings es p
  crossings-reverse [] = refl
  crossings-reverse (e ∷ es) =
      rw (reverse-cons e es)
      (omega (arith, crossings-append p (reverse es) (e ∷ []), crossings-reverse es, crossings-cons p e es, crossings-cons p e []))

  -- the points on the edges of a turned ring are those on the edges of the ring
  on_some_turned : (ring : List Point) → IsOnSome (edges_of ring) p → IsOnSome (edges_of (turned_round ring)) p
  on_some_turned ring h = rw (edges_of-turned_round ring) (on_some_reverse (backward (edges_of ring)) (on_some_backward p (edges_of ring) h))

  pub on_some_turned_iff : (ring : List Point) → IsOnSome (edges_of (turned_round ring)) p ↔ IsOnSome (edges_of ring) p
  on_some_turned_iff ring =
      (λ h. subst (λ (vs : List Point). IsOnSome (edges_of vs) p) (turned_round-turned_round ring) (on_some_turned (turned_round ring) h), on_some_turned ring)

  -- as many edges are crossed
  crossings-turned_round : (ring : List Point) → crossings (edges_of (turned_round ring)) p ≡ crossings (edges_of ring) p
  crossings-turned_round ring =
      ap (λ es. crossings es p) (edges_of-turned_round ring)
      ∙ crossings-reverse (backward (edges_of ring))
      ∙ crossings-backward p (edges_of ring)

  -- so the points in it are those in the ring
  in_turned : (ring : List Point) → IsIn ring p → IsIn (turned_round ring) p
  in_turned ring (inl on) = inl (on_some_turned ring on)
  in_turned ring (inr odd) = inr (ap (λ n. n % 2) (crossings-turned_round ring) ∙ odd)

  pub in_turned_iff : (ring : List Point) → IsIn (turned_round ring) p ↔ IsIn ring p
  in_turned_iff ring =
      (λ h. subst (λ (vs : List Point). IsIn vs p) (turned_round-turned_round ring) (in_turned (turned_round ring) h), in_turned ring)

  -- of the ring and the ring the other way round, either one has the same inside,
  pub in_either : (turned : Bool) (ring : List Point) → IsIn (if turned then turned_round ring else ring) p ↔ IsIn ring p
  in_either true ring = in_turned_iff ring
  in_either false ring = (λ h. h, λ h. h)

  -- and the same points on its edges
  pub on_some_either : (turned : Bool) (ring : List Point) → IsOnSome (edges_of (if turned then turned_round ring else ring)) p ↔ IsOnSome (edges_of ring) p
  on_some_either true ring = on_some_turned_iff ring
  on_some_either false ring = (λ h. h, λ h. h)

-- ---- sight, neighbours and reflex vertices of a ring that is read the other way round

-- points see each other in a turned ring exactly where they do in the ring
pub sees_turned_iff : (ring : List Point) (p q : Triple) → Sees (turned_round ring) p q ↔ Sees ring p q
sees_turned_iff ring p q = (
  λ sees x at_x on. (in_turned_iff x ring).0 (sees x at_x on),
  λ sees x at_x on. (in_turned_iff x ring).1 (sees x at_x on),
)

-- ---- neighbours

-- neighbours in a turned ring are neighbours in the ring
neighbours_back : (ring : List Point) (u v : Point) → AreNeighbours (turned_round ring) u v → AreNeighbours ring u v
neighbours_back ring u v n =
    let below : n.i < length ring = omega (arith, n.in_ring, length-turned_round ring) in
    let from = turned_from ring n.i below in
    let to = turned_to ring n.i below in
    record {
      i = length ring - 1 - n.i;
      in_ring = omega arith;
      ends = elim n.ends [
        | inl h ↦ inr (sym to ∙ h.1, sym from ∙ h.0)
        | inr h ↦ inl (sym to ∙ h.1, sym from ∙ h.0)
      ];
    }

pub neighbours_turned_iff : (ring : List Point) (u v : Point) → AreNeighbours (turned_round ring) u v ↔ AreNeighbours ring u v
neighbours_turned_iff ring u v =
    (neighbours_back ring u v, λ n. neighbours_back (turned_round ring) u v (subst (λ (vs : List Point). AreNeighbours vs u v) (sym (turned_round-turned_round ring)) n))

-- ---- reflex vertices

-- one round more it is the same vertex
vertex_more : (ring : List Point) (i j : ℕ) → i ≡ j + length ring → vertex ring i ≡ vertex ring j
vertex_more ring i j e = ap (vertex ring) e ∙ ap (λ k. slice_index_or ring k origin) (add-mod_right j (length ring))

-- three vertices in a row, in a turned ring
record IsTurnedAt (ring : List Point) (i j : ℕ) : Type 0 where
  below : j < length ring
  before : vertex (turned_round ring) (j + (length ring - 1)) ≡ vertex ring (i + 1)
  at : vertex (turned_round ring) j ≡ vertex ring i
  after : vertex (turned_round ring) (j + 1) ≡ vertex ring (i + (length ring - 1))

module _ (ring : List Point) where
  -- each vertex has its number in the turned ring
  turned_number : (i : ℕ) → i < length ring → (j : ℕ) × IsTurnedAt ring i j
  turned_number zero h = (
    0,
    record {
      below = h;
      before = vertex-turned_round ring (0 + (length ring - 1)) (omega arith) ∙ ap (vertex ring) (omega arith);
      at = vertex-turned_round-zero ring;
      after = vertex-turned_round ring (0 + 1) (omega arith) ∙ ap (vertex ring) (omega arith);
    },
  )
  turned_number (suc k) h =
      let j = length ring - 1 - k in
      let n = length-turned_round ring in (
        j,
        record {
          below = omega arith;
          before =
              vertex_more (turned_round ring) (j + (length ring - 1)) (j - 1) (omega arith)
              ∙ vertex-turned_round ring (j - 1) (omega arith)
              ∙ ap (vertex ring) (omega arith);
          at = vertex-turned_round ring j (omega arith) ∙ ap (vertex ring) (omega arith);
          after =
              vertex-turned_round ring (j + 1) (omega arith)
              ∙ ap (vertex ring) (omega arith)
              ∙ sym (vertex_more ring (suc k + (length ring - 1)) k (omega arith));
        },
      )

  -- the turn there is the opposite one
  turn_at_turned : (i j : ℕ) → IsTurnedAt ring i j → turn_at (turned_round ring) j ≡ neg_ℤ (turn_at ring i)
  turn_at_turned i j h =
      let before = ap (λ n. vertex (turned_round ring) (j + (n - 1))) (length-turned_round ring) ∙ h.before in
      (λ k. determinant (whole (before k)) (whole (h.at k)) (whole (h.after k)))
      ∙ determinant_swap_ends (whole (vertex ring (i + (length ring - 1)))) (whole (vertex ring i)) (whole (vertex ring (i + 1)))

  -- and so is the orientation, so a reflex vertex stays one
  against : (i j : ℕ) → IsTurnedAt ring i j → IsReflex ring i → IsReflex (turned_round ring) j
  against i j h reflex =
      let area = doubled_area-turned_round ring in
      let turn = turn_at_turned i j h in
      elim reflex [
        | inl k ↦ inr (omega (arith, ints, area, k.0), omega (arith, ints, turn, k.1))
        | inr k ↦ inl (omega (arith, ints, area, k.0), omega (arith, ints, turn, k.1))
      ]

  reflex_turned : (v : Point) → IsReflexVertex ring v → IsReflexVertex (turned_round ring) v
  reflex_turned v r =
      let (j, h) = turned_number r.i r.in_ring in
      record {
        i = j;
        in_ring = omega (arith, h.below, length-turned_round ring);
        is_vertex = h.at ∙ r.is_vertex;
        reflex = against r.i j h r.reflex;
      }

-- the reflex vertices of a ring are those of the turned ring
pub reflex_turned_iff : (ring : List Point) (v : Point) → IsReflexVertex (turned_round ring) v ↔ IsReflexVertex ring v
reflex_turned_iff ring v = (
  λ r. subst (λ (vs : List Point). IsReflexVertex vs v) (turned_round-turned_round ring) (reflex_turned (turned_round ring) v r),
  reflex_turned ring v,
)
