-- The keys of all vertices of a ring in another order: each vertex has one, and different keys have different numbers. Keys rise
-- as their vertices do.
use Rattle.std.proofs.Common.{◌≡◌, ap, ℕ, ◌+◌, ◌*◌, ◌<◌, ◌≤◌, ◌<ℤ◌, ℤ, List, length, Bool, false, arith, inl, inr}
use Rattle.std.proofs.lemmas.Bool.Decides.{nat_tests}
use Rattle.std.proofs.lemmas.Int.{ints}
use Rattle.std.proofs.lemmas.List.Sorted.{All-permutation, Contains-permutation, length_permutation}
use Rattle.std.proofs.lemmas.Nat.{mod-mul-add}
use Rattle.std.proofs.lemmas.Map.Keys.{IsDistinct-IsPermutation, IsDistinct-from_apart, apart_from_distinct}
use Rattle.std.specs.List.{All, Contains, IsDistinct}
use Rattle.std.specs.Prelude.{IsPermutation, nat_eq, slice_index_or}
use Rattle.plane.specs.Order.{IsBefore}
use Rattle.plane.specs.Point.{IsInBounds, IsInLimit, Point}
use Rattle.plane.specs.declared.limits.TheConstants.{MAX_CORNERS}
use Rattle.rings.specs.Ring.{vertex}
use Rattle.ring_check.specs.Keys.{AreKeys, key_of, keyed_number, raised}

-- the key of a vertex of the ring
pub record IsKey (ring : List Point) (key : ℕ) : Type 0 where
  pub below : keyed_number key < length ring
  pub is : key ≡ key_of ring (keyed_number key)

raised_small : (z : ℤ) → IsInLimit z → raised z < 16777216
raised_small z limit = grind (arith, ints)

raised_rises : (a b : ℤ) → IsInLimit a → a <ℤ b → raised a < raised b
raised_rises a b limit less = grind (arith, ints)

-- the number is what is left of the key
pub number_is : (ring : List Point) (v : ℕ) → v < 65536 → keyed_number (key_of ring v) ≡ v
number_is ring v small = mod-mul-add (raised (vertex ring v).x * 16777216 + raised (vertex ring v).y) 65536 v small

-- the key of the vertex that comes before is the lesser one
pub key_rises : (ring : List Point) (v w : ℕ) → v < 65536 → IsInBounds (vertex ring v) → IsInBounds (vertex ring w)
    → IsBefore (vertex ring v) (vertex ring w) → key_of ring v < key_of ring w
key_rises ring v w small in_v in_w before =
    let p : Point = vertex ring v in
    let q : Point = vertex ring w in
    elim before [
      | inl h ↦ omega (arith, raised_rises p.x q.x in_v.x_in_limit h, raised_small p.y in_v.y_in_limit, small)
      | inr h ↦ omega (arith, ap raised h.0, raised_rises p.y q.y in_v.y_in_limit h.1, small)
    ]

-- two keys have one number
abbrev is_same : ℕ → ℕ → Bool
is_same s t = nat_eq (keyed_number s) (keyed_number t)

-- the test of two numbers
not_same : (i j : ℕ) → i < j → nat_eq i j ≡ false
not_same i j less = grind (arith, nat_tests)

differ : (i j : ℕ) → nat_eq i j ≡ false → ¬ (i ≡ j)
differ i j is same = grind (arith, nat_tests)

same_back : (i j : ℕ) → nat_eq i j ≡ nat_eq j i
same_back i j = grind (arith, nat_tests)

module _ (ring : List Point) (few : length ring ≤ MAX_CORNERS) (keys : List ℕ) (are : AreKeys ring (length ring) keys) where
  -- each key has the number of its vertex
  numbered : (v d : ℕ) → v < length ring → keyed_number (slice_index_or keys v d) ≡ v
  numbered v d below = rw (are.each v d below) (number_is ring v (omega (arith, few, below)))

  -- each is the key of a vertex,
  all_keys : All (IsKey ring) keys
  all_keys k d within =
      let below : k < length ring = omega (arith, are.all, within) in
      let number = numbered k d below in
      record { below = rw number below; is = rw number (are.each k d below) }

  -- and no two are of one vertex
  all_apart : IsDistinct is_same keys
  all_apart = IsDistinct-from_apart is_same keys (λ i j d less within.
      let inside : j < length ring = omega (arith, are.all, within) in
      rw (numbered i d (omega (arith, inside, less)), numbered j d inside) (not_same i j less))

  -- so it is in another order
  module _ (moved : List ℕ) (is_moved : IsPermutation keys moved) where
    pub moved_length : length moved ≡ length ring
    moved_length = let same = length_permutation keys moved is_moved in omega (arith, are.all)

    pub moved_keys : All (IsKey ring) moved
    moved_keys = All-permutation (IsKey ring) keys moved is_moved all_keys

    pub moved_has : (v : ℕ) → v < length ring → Contains moved (key_of ring v)
    moved_has v below = Contains-permutation keys moved (key_of ring v) is_moved (v, omega (arith, are.all, below), are.each v (key_of ring v) below)

    -- different keys have different numbers
    pub moved_apart : (i j d : ℕ) → i < j → j < length moved → ¬ (keyed_number (slice_index_or moved i d) ≡ keyed_number (slice_index_or moved j d))
    moved_apart i j d less within =
        differ _ _ (apart_from_distinct is_same moved i j d
        (IsDistinct-IsPermutation is_same (λ s t. same_back (keyed_number s) (keyed_number t)) keys moved is_moved all_apart) less within)
