-- Sorted keys of the vertices of a simple ring are those of the vertices in lexicographic order.
use Rattle.std.proofs.Common.{◌≡◌, ap, subst, ◌∙◌, ℕ, ◌+◌, ◌<◌, ◌≤◌, List, map, length, false, arith}
use Rattle.std.proofs.lemmas.Bool.Decides.{nat_tests}
use Rattle.std.proofs.lemmas.List.{get_or-map, length-map}
use Rattle.std.proofs.lemmas.List.Elements.{All-map, All-weaker}
use Rattle.std.specs.Ordering.{is_lt, nat_cmp}
use Rattle.std.specs.Prelude.{IsPermutation, IsSorted, slice_index_or}
use Rattle.plane.proofs.Order.{after, before, compare_points, equal}
use Rattle.plane.specs.Order.{IsBefore}
use Rattle.plane.specs.Point.{Point}
use Rattle.plane.specs.declared.limits.TheConstants.{MAX_CORNERS}
use Rattle.rings.proofs.Simple.{apart_of_simple}
use Rattle.rings.specs.Ring.{vertex}
use Rattle.rings.specs.Simple.{IsSimple}
use Rattle.ring_laws.proofs.Vertices.{same_number}
use Rattle.ring_check.proofs.Orders.Keys.{IsKey, key_rises, moved_apart, moved_has, moved_keys, moved_length, number_is}
use Rattle.ring_check.specs.Keys.{AreKeys, key_of, keyed_number}
use Rattle.ring_check.specs.Order.{IsInOrder}

-- as many numbers as vertices
pub moved_numbers : (ring : List Point) → length ring ≤ MAX_CORNERS → (keys : List ℕ) → AreKeys ring (length ring) keys → (moved : List ℕ)
    → IsPermutation keys moved → length (map keyed_number moved) ≡ length ring
moved_numbers ring few keys are moved is_moved = length-map moved keyed_number ∙ moved_length ring few keys are moved is_moved

-- a key is not above the next
not_above : (s t : ℕ) → is_lt (nat_cmp t s) ≡ false → ¬ (t < s)
not_above s t sorted above = grind (arith, nat_tests)

module _ (ring : List Point) (few : length ring ≤ MAX_CORNERS) (simple : IsSimple ring) (keys : List ℕ) (are : AreKeys ring (length ring) keys)
    (sorted : List ℕ) (moved : IsPermutation keys sorted) (up : IsSorted nat_cmp sorted) where
  -- of two vertices with sorted keys the first is before the second
  before_of_sorted : (v w : ℕ) → v < length ring → w < length ring → ¬ (v ≡ w) → ¬ (key_of ring w < key_of ring v)
      → IsBefore (vertex ring v) (vertex ring w)
  before_of_sorted v w below_v below_w differ not_above = elim (compare_points (vertex ring v) (vertex ring w)) [
    | before h ↦ h
    | equal e ↦ absurd (differ (same_number ring (apart_of_simple ring simple) v w below_v below_w e))
    | after h ↦ absurd (not_above (key_rises ring w v (omega (arith, few, below_w)) (are.bounds w below_w) (are.bounds v below_v) h))
  ]

  -- the numbers of the vertices
  abbrev numbers : List ℕ
  numbers = map keyed_number sorted

  -- each vertex is before the next
  rises : (k : ℕ) → k + 1 < length numbers → IsBefore (vertex ring (slice_index_or numbers k 0)) (vertex ring (slice_index_or numbers (k + 1) 0))
  rises k within =
      let s = slice_index_or sorted k 0 in
      let t = slice_index_or sorted (k + 1) 0 in
      let inside : k + 1 < length sorted = omega (arith, within, length-map sorted keyed_number) in
      let is_s = moved_keys ring few keys are sorted moved k 0 (omega (arith, inside)) in
      let is_t = moved_keys ring few keys are sorted moved (k + 1) 0 inside in
      let differ = moved_apart ring few keys are sorted moved k (k + 1) 0 (omega arith) inside in
      let not : ¬ (t < s) = not_above s t (up k 0 (omega arith) inside) in
      rw (get_or-map keyed_number sorted k 0 0 (omega (arith, inside)), get_or-map keyed_number sorted (k + 1) 0 0 inside)
      (before_of_sorted (keyed_number s) (keyed_number t) is_s.below is_t.below differ (subst (λ u. ¬ (key_of ring (keyed_number t) < u)) is_s.is (subst (λ u. ¬ (u < s)) is_t.is not)))

  pub in_order : IsInOrder ring numbers
  in_order = record {
    all = moved_numbers ring few keys are sorted moved;
    vertices = All-map (λ v. v < length ring) keyed_number sorted
        (All-weaker (IsKey ring) (λ k. keyed_number k < length ring) (λ k is. is.below) sorted (moved_keys ring few keys are sorted moved));
    each = λ v below.
        let (k, within, is) = moved_has ring few keys are sorted moved v below in
        let inside : k < length numbers = omega (arith, within, length-map sorted keyed_number) in
        (k, inside, get_or-map keyed_number sorted k (key_of ring v) v within ∙ ap keyed_number is ∙ number_is ring v (omega (arith, few, below)));
    rises = rises;
  }
