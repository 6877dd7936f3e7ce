-- The list that a ring was made of: the numbers of the vertices in it, and what is seen there.
use Rattle.std.proofs.Common.{◌≡◌, refl, ap, ◌∙◌, ℕ, zero, suc, ◌-◌, ◌%◌, ◌<◌, Bool, true, false, List, length, arith}
use Rattle.std.proofs.Math.Nat.{mod-eq_of_lt, mod_self}
use Rattle.std.specs.Prelude.{if◌then◌else◌}
use Rattle.plane.specs.Point.{Point, Triple}
use Rattle.rings.proofs.Inside.{in_turned_iff, sees_turned_iff}
use Rattle.rings.specs.Inside.{IsIn}
use Rattle.rings.specs.Orientation.{turned_round}
use Rattle.rings.specs.Ring.{vertex}
use Rattle.rings.specs.Sees.{Sees}
use Rattle.ring_check.proofs.Oriented.{turned_vertex}
use Rattle.ring_check.specs.Oriented.{Oriented, given_index, given_of}

-- ---- numbers

-- the number of vertex i in a list that was turned round is a number of the list, and that vertex has the number i there
turned_index : (n i : ℕ) → i < n → ((n - i) % n < n) × ((n - (n - i) % n) % n ≡ i)
turned_index n zero below =
    let whole : n - 0 ≡ n = omega arith in
    let none : (n - 0) % n ≡ 0 = ap (λ m. m % n) whole ∙ mod_self n in
    rw none (below, none)
turned_index n (suc i) below =
    let same : (n - suc i) % n ≡ n - suc i = mod-eq_of_lt (omega arith) in
    let back : n - (n - suc i) ≡ suc i = omega arith in
    rw (same, back) (omega arith, mod-eq_of_lt below)

-- so it is for a list that is turned or not
either_index : (is_turned : Bool) (n i : ℕ) → i < n → let at = λ (j : ℕ). if is_turned then (n - j) % n else j in (at i < n) × (at (at i) ≡ i)
either_index true n i below = turned_index n i below
either_index false n i below = (below, refl)

module _ (ring : Oriented) (i : ℕ) (below : i < length ring.corners) where
  -- a vertex has a number of the list,
  pub given_below : given_index ring i < length ring.corners
  given_below = (either_index ring.is_turned (length ring.corners) i below).0

  -- and the vertex of its number has its own
  pub given_twice : given_index ring (given_index ring i) ≡ i
  given_twice = (either_index ring.is_turned (length ring.corners) i below).1

-- ---- what is seen

-- the vertices of a list that is turned or not, by their numbers in it
either_vertex : (is_turned : Bool) (corners : List Point) (i : ℕ) → i < length corners
    → vertex (if is_turned then turned_round corners else corners) (if is_turned then (length corners - i) % length corners else i) ≡ vertex corners i
either_vertex true corners i below = turned_vertex corners i below
either_vertex false corners i below = refl

-- the points in it,
either_in : (is_turned : Bool) (corners : List Point) (x : Triple) → IsIn (if is_turned then turned_round corners else corners) x → IsIn corners x
either_in true corners x inside = (in_turned_iff x corners).0 inside
either_in false corners x inside = inside

-- and what they see
either_sees : (is_turned : Bool) (corners : List Point) (p x : Triple) → Sees corners p x
    → Sees (if is_turned then turned_round corners else corners) p x
either_sees true corners p x sees = (sees_turned_iff corners p x).1 sees
either_sees false corners p x sees = sees

module _ (ring : Oriented) where
  -- the vertex with its number in the list
  pub given_vertex : (i : ℕ) → i < length ring.corners → vertex (given_of ring) (given_index ring i) ≡ vertex ring.corners i
  given_vertex i below = either_vertex ring.is_turned ring.corners i below

  -- a point in the list is in the ring,
  pub in_ring : (x : Triple) → IsIn (given_of ring) x → IsIn ring.corners x
  in_ring x inside = either_in ring.is_turned ring.corners x inside

  -- and what is seen in the ring is seen in the list
  pub sees_given : (p x : Triple) → Sees ring.corners p x → Sees (given_of ring) p x
  sees_given p x sees = either_sees ring.is_turned ring.corners p x sees
