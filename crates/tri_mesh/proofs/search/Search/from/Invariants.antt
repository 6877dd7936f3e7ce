use Rattle.std.proofs.Common.{◌≡◌, ℕ, ◌+◌, ◌-◌, ◌<◌, ◌≤◌, ◌⊎◌, length}
use Rattle.std.specs.List.{Contains}
use Rattle.std.specs.Prelude.{vec_capacity}
use Rattle.tri_mesh.proofs.search.Search.from.Given as goal
use Rattle.tri_mesh.specs.Outward.{outward_at}
use Rattle.tri_mesh.specs.Search.{IsDone, IsSearch, waiting}

abbrev pub invariant-loop-next : goal.invariant-loop-next
invariant-loop-next l = record {
  search : IsSearch l.tris l.search.order.items l.search.places.items;
  some : 0 < length l.search.order.items;
  first : (outward_at l.search.order.items 0).tri ≡ l.home;
  inner : (p : ℕ) → Contains (waiting l.next l.later.items) p → p < length l.search.order.items;
  left : (p : ℕ) → p < length l.search.order.items
      → Contains (waiting l.next l.later.items) p ⊎ IsDone l.tris l.search.order.items (outward_at l.search.order.items p).tri;
  room : length l.tris ≤ vec_capacity l.search.order;
}

abbrev pub decreases-loop-next : goal.decreases-loop-next
decreases-loop-next l =
    length l.tris + length l.tris + length (waiting l.next l.later.items) - (length l.search.order.items + length l.search.order.items)
