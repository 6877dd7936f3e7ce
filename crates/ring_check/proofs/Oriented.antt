-- A ring that is kept counterclockwise, against the list that it was made of.
use Rattle.std.proofs.Common.{◌≡◌, ◌∙◌, sym, ap, refl, subst, ℕ, ◌-◌, ◌<◌, ◌%◌, ◌≤◌, ◌⊎◌, inl, inr, Bool, true, false, List, length, arith}
use Rattle.std.proofs.lemmas.Int.{ints}
use Rattle.std.specs.Prelude.{if◌then◌else◌}
use Rattle.plane.specs.Point.{Point}
use Rattle.rings.proofs.Turned.{length-turned_round, turned_round-turned_round, vertex-turned_round, doubled_area-turned_round, simple_turned}
use Rattle.rings.proofs.Vertices.{vertex_mod}
use Rattle.rings.specs.Orientation.{IsClockwise, IsCounterclockwise, is_clockwise, turned_round}
use Rattle.rings.specs.Ring.{vertex}
use Rattle.rings.specs.Simple.{IsSimple}
use Rattle.ring_laws.proofs.Simple.{two_ways}
use Rattle.ring_check.specs.Oriented.{given_of, oriented}

-- ---- what is kept of a list

-- a clockwise list becomes counterclockwise, and the others are so, where the area is not 0
counterclockwise_kept : (points : List Point) (b : Bool) → IsCounterclockwise points ⊎ IsClockwise points → is_clockwise points ≡ b
    → IsCounterclockwise (if b then turned_round points else points)
counterclockwise_kept points true some way = grind (arith, ints, doubled_area-turned_round points)
counterclockwise_kept points false (inl h) way = h
counterclockwise_kept points false (inr h) way = grind (arith, ints)

module _ (points : List Point) where
  -- what holds of the list and of the list turned round holds of what is kept
  holds_of_kept : (P : List Point → Type 0) → P (turned_round points) → P points → P (oriented points).corners
  holds_of_kept P turned same =
      elim (is_clockwise points) as (λ b. P (if b then turned_round points else points)) [ true ↦ turned | false ↦ same ]

  -- it has as many points as the list
  pub length-oriented : length (oriented points).corners ≡ length points
  length-oriented = holds_of_kept (λ ring. length ring ≡ length points) (length-turned_round points) refl

  -- it is simple where the list is
  pub simple_oriented : IsSimple points → IsSimple (oriented points).corners
  simple_oriented simple = holds_of_kept IsSimple (simple_turned points simple) simple

  -- and only there
  pub simple_of_oriented : IsSimple (oriented points).corners → IsSimple points
  simple_of_oriented = holds_of_kept (λ ring. IsSimple ring → IsSimple points)
      (λ simple. subst IsSimple (turned_round-turned_round points) (simple_turned (turned_round points) simple)) (λ simple. simple)

  -- it is counterclockwise
  pub counterclockwise_oriented : 3 ≤ length points → IsSimple points → IsCounterclockwise (oriented points).corners
  counterclockwise_oriented long simple = counterclockwise_kept points (is_clockwise points) (two_ways points long simple) refl

  -- and the list can be had back
  pub given_of-oriented : given_of (oriented points) ≡ points
  given_of-oriented =
      elim (is_clockwise points) as (λ b. given_of (record { corners = if b then turned_round points else points; is_turned = b }) ≡ points) [
        | true ↦ turned_round-turned_round points
        | false ↦ refl
      ]

-- ---- numbers in a list that was turned round

module _ (corners : List Point) (i : ℕ) (h : i < length corners) where
  -- vertex i
  pub turned_vertex : vertex (turned_round corners) ((length corners - i) % length corners) ≡ vertex corners i
  turned_vertex =
      ap (λ n. vertex (turned_round corners) ((length corners - i) % n)) (sym (length-turned_round corners))
      ∙ vertex_mod (turned_round corners) (length corners - i)
      ∙ vertex-turned_round corners (length corners - i) (omega arith)
      ∙ ap (vertex corners) (omega arith)
