-- The parts of the edges that a point sees are the only ones: two lists of them have the same edges and ends.
use Rattle.std.proofs.Common.{◌≡◌, inl, inr, sym, subst, ℕ, ◌<◌, List, length}
use Rattle.plane.proofs.Points.{whole_is_point}
use Rattle.plane.proofs.Segments.{later_between, on_antisym, on_first_end, on_last_end, on_nested, on_reversed, on_same_point}
use Rattle.plane.specs.Prelude.{IsPoint, IsSame, On, Point, Triple, whole}
use Rattle.rings.proofs.Views.Rising.{IsAmong, as_long, same_numbers}
use Rattle.rings.specs.Ring.{vertex}
use Rattle.rings.specs.Visible.{AreParts, IsPart, IsUnseen, Part, part_at}

-- ---- one edge

-- of two segments along a way from v, where one begins on the other, that one's first end is not later
first_before : (v a c d : Triple) → IsPoint v → IsPoint a → IsPoint c → IsPoint d → On c v d → On a c d → On c v a
first_before v a c d at_v at_a at_c at_d begins on =
    on_reversed c a v (later_between a d c v at_a at_d at_c at_v (on_reversed a c d on) (on_reversed c v d begins))

module _ (v a b c d : Triple) (at_v : IsPoint v) (at_a : IsPoint a) (at_b : IsPoint b) (at_c : IsPoint c) (at_d : IsPoint d) where
  -- two segments along a way from v that have the same points begin at one,
  same_begin : On a v b → On c v d → On a c d → On c a b → IsSame a c
  same_begin begins other there back =
      on_antisym a c v at_a at_c at_v (first_before v c a b at_v at_c at_a at_b begins back)
      (first_before v a c d at_v at_a at_c at_d other there)

  -- and then they end at one
  same_end : IsSame a c → On b c d → On d a b → IsSame b d
  same_end same there back =
      let from_a = on_nested b c d a d at_b at_c at_d at_a at_d (on_same_point at_a same (on_first_end a d)) (on_last_end a d) there in
      on_antisym b d a at_b at_d at_a from_a back

-- the two parts of one edge have the same ends
same_part : (ring : List Point) (q : Triple) (i : ℕ) (a b c d : Triple) → IsPart ring q i a b → IsPart ring q i c d
    → IsSame a c × IsSame b d
same_part ring q i a b c d one other =
    let there = λ (x : Triple) (at : IsPoint x) (on : On x a b). (other.seen x at).0 ((one.seen x at).1 on) in
    let back = λ (x : Triple) (at : IsPoint x) (on : On x c d). (one.seen x at).0 ((other.seen x at).1 on) in
    let at_a = one.first_rational in
    let at_b = one.last_rational in
    let at_c = other.first_rational in
    let at_d = other.last_rational in
    let v = whole (vertex ring i) in
    let at_v = whole_is_point (vertex ring i) in
    let first = same_begin v a b c d at_v at_a at_b at_c at_d one.in_order other.in_order (there a at_a (on_first_end a b))
    (back c at_c (on_first_end c d)) in
    (first, same_end v a b c d at_v at_a at_b at_c at_d first (there b at_b (on_last_end a b)) (back d at_d (on_last_end c d)))

-- ---- all edges

-- two lists of parts of the same edges, with the same points as ends
pub record AreSameParts (parts others : List Part) : Type 0 where
  pub one_length : length parts ≡ length others
  pub same_edge : (k : ℕ) → k < length parts → (part_at parts k).edge ≡ (part_at others k).edge
  pub same_first : (k : ℕ) → k < length parts → IsSame (part_at parts k).first (part_at others k).first
  pub same_last : (k : ℕ) → k < length parts → IsSame (part_at parts k).last (part_at others k).last

-- the edges of some parts
abbrev edge_of : List Part → ℕ → ℕ
edge_of parts k = (part_at parts k).edge

module _ (ring : List Point) (q : Triple) where
  -- of an edge that has a part something is seen
  part_is_seen : (i : ℕ) (a b : Triple) → IsPart ring q i a b → ¬ IsUnseen ring q i
  part_is_seen i a b part unseen =
      let at_a = part.first_rational in
      let seen = (part.seen a at_a).1 (on_first_end a b) in
      unseen a at_a seen.0 seen.1

  -- so it has one in each list
  edges_among : (parts others : List Part) → AreParts ring q parts → AreParts ring q others
      → IsAmong (edge_of parts) (length parts) (edge_of others) (length others)
  edges_among parts others are are_too k within = elim (are_too.complete (edge_of parts k) (are.in_ring k within)) [
    | inl h ↦ h
    | inr unseen ↦ absurd (part_is_seen _ _ _ (are.parts_seen k within) unseen)
  ]

  -- two lists of the parts that q sees are the same
  pub parts_are_one : (parts others : List Part) → AreParts ring q parts → AreParts ring q others → AreSameParts parts others
  parts_are_one parts others are are_too =
      let there = edges_among parts others are are_too in
      let back = edges_among others parts are_too are in
      let long = as_long (edge_of parts) (length parts) (edge_of others) (length others) are.rising are_too.rising there back in
      let within_too = λ (k : ℕ) (h : k < length parts). subst (λ n. k < n) long h in
      let same = λ (k : ℕ) (h : k < length parts).
      same_numbers (edge_of parts) (length parts) (edge_of others) (length others) are.rising are_too.rising there back k h
      (within_too k h) in
      let ends = λ (k : ℕ) (h : k < length parts).
      let one = are.parts_seen k h in
      let other = are_too.parts_seen k (within_too k h) in
      same_part ring q (edge_of parts k) _ _ _ _ one
      (subst (λ i. IsPart ring q i (part_at others k).first (part_at others k).last) (sym (same k h)) other) in
      record { one_length = long; same_edge = same; same_first = λ k h. (ends k h).0; same_last = λ k h. (ends k h).1 }
