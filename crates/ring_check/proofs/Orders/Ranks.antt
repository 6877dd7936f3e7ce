-- The ranks of the vertices of an order: each has the number of its place.
use Rattle.std.proofs.Common.{◌≡◌, sym, ap, subst, ◌∙◌, ℕ, ◌<◌, List, length, arith}
use Rattle.std.proofs.lemmas.List.{get_or_default}
use Rattle.std.specs.List.{All}
use Rattle.std.specs.Prelude.{slice_index}
use Rattle.plane.proofs.Order.{before_differs}
use Rattle.plane.specs.Point.{Point}
use Rattle.rings.specs.Events.{AreEvents}
use Rattle.rings.specs.Ring.{vertex}
use Rattle.ring_check.proofs.Orders.Ascending.{ascending}
use Rattle.ring_check.specs.Order.{IsInOrder}

-- no two numbers are the same
abbrev AreApart : List ℕ → Type 0
AreApart order = (i j : ℕ) → i < j → j < length order → ¬ (slice_index order i ≡ slice_index order j)

-- the first vertices of the order, `count` of them, have their ranks
pub record AreRanked (order : List ℕ) (count : ℕ) (ranks : List ℕ) : Type 0 where
  pub all : length ranks ≡ length order
  pub places : All (λ k. k < length order) ranks
  pub each : AreApart order → (k : ℕ) → k < count → slice_index order k < length order → slice_index ranks (slice_index order k) ≡ k

module _ (corners : List Point) (order : List ℕ) (in_order : IsInOrder corners order) where
  apart : AreApart order
  apart i j less within same =
      before_differs (vertex corners (slice_index order i)) (vertex corners (slice_index order j))
      (ascending (λ k. vertex corners (slice_index order k)) (length order) in_order.rises i j less within) (ap (vertex corners) same)

  -- where all have their ranks, they are the events of the ring
  pub are_events : (ranks : List ℕ) → AreRanked order (length order) ranks → AreEvents corners order ranks
  are_events ranks are = record {
    all_events = in_order.all;
    all_ranks = are.all ∙ in_order.all;
    vertices = in_order.vertices;
    places = subst (λ n. All (λ k. k < n) ranks) in_order.all are.places;
    each = λ k below. record {
      event_of_rank = event k below;
      rank_of_event = rank k (omega (arith, in_order.all, below));
      before_next = λ h. in_order.rises k (omega (arith, in_order.all, h));
    };
  }
    where
      rank : (k : ℕ) → k < length order → slice_index ranks (slice_index order k) ≡ k
      rank k inside = are.each apart k inside (subst (λ n. slice_index order k < n) (sym in_order.all) (in_order.vertices k 0 inside))

      event : (v : ℕ) → v < length corners → slice_index order (slice_index ranks v) ≡ v
      event v below =
          let (k, inside, is) = in_order.each v below in
          subst (λ w. slice_index order (slice_index ranks w) ≡ w) (get_or_default order k 0 v inside ∙ is)
          (ap (slice_index order) (rank k inside))
