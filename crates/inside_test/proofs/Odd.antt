-- Counting crossed edges by a parity.
use Rattle.std.proofs.Common.{◌≡◌, ◌↔◌, inl, inr, ℕ, ◌+◌, ◌%◌, ◌<◌, Bool, true, false, cond, List, length, take, refl, sym, ap, subst, ◌∙◌, arith}
use Rattle.std.specs.Bool.{beq}
use Rattle.std.specs.Prelude.{not}
use Rattle.plane.specs.Point.{Point, Triple}
use Rattle.rings.proofs.Vertices.{crossings_more, edge_at, on_some_more, take_all_edges}
use Rattle.rings.specs.Edge.{edges_of}
use Rattle.rings.specs.Inside.{IsIn, is_crossed}
use Rattle.rings.specs.Ring.{IsOnEdge}
use Rattle.inside_test.specs.Odd.{IsOddOver, OddSoFar}

-- one more, or not
odd_more : (n : ℕ) (odd more : Bool) → (odd ≡ true) ↔ (n % 2 ≡ 1) → (not (beq odd more) ≡ true) ↔ ((n + cond more 1 0) % 2 ≡ 1)
odd_more n true true h = let k : n % 2 ≡ 1 = h.0 refl in (λ e. cc, λ l. absurd (omega arith))
odd_more n true false h = let k : n % 2 ≡ 1 = h.0 refl in (λ _. omega arith, λ _. refl)
odd_more n false true h = (λ _. even_and_one n (λ k. cc (h.1 k)), λ _. refl)
  where
    even_and_one : (n : ℕ) → (n % 2 ≡ 1 → ⊥) → (n + 1) % 2 ≡ 1
    even_and_one n k = grind arith
odd_more n false false h = (λ e. cc, λ l. h.1 (omega arith))

-- a flag compared with true,
pub not_same : (b : Bool) → not (beq b true) ≡ not b
not_same true = refl
not_same false = refl

-- with false,
pub not_other : (b : Bool) → not (beq b false) ≡ b
not_other true = refl
not_other false = refl

-- and with two, one after the other
differ_assoc : (a b c : Bool) → not (beq (not (beq a b)) c) ≡ not (beq a (not (beq b c)))
differ_assoc true true true = refl
differ_assoc true true false = refl
differ_assoc true false true = refl
differ_assoc true false false = refl
differ_assoc false true true = refl
differ_assoc false true false = refl
differ_assoc false false true = refl
differ_assoc false false false = refl

module _ (ring : List Point) (p : Triple) where
  -- no edge
  pub odd_start : OddSoFar (take 0 (edges_of ring)) p false
  odd_start = record { on_none = λ on. on; odd = (λ e. cc, λ e. cc) }

  -- edge i, which the point is not on
  odd_step : (i : ℕ) (is_odd : Bool) → i < length ring → OddSoFar (take i (edges_of ring)) p is_odd → (IsOnEdge ring i p → ⊥)
      → OddSoFar (take (i + 1) (edges_of ring)) p (not (beq is_odd (is_crossed (edge_at ring i) p)))
  odd_step i is_odd within before beside = record {
    on_none = λ on. elim ((on_some_more ring i within p).0 on) [ inl earlier ↦ before.on_none earlier | inr here ↦ beside here ];
    odd = rw (crossings_more ring i within p) (odd_more _ is_odd (is_crossed (edge_at ring i) p) before.odd);
  }

  -- over no edges an even number is,
  pub over_none : (first : ℕ) → IsOddOver ring first first p false
  over_none first is_odd before = subst (OddSoFar (take first (edges_of ring)) p) (sym (not_other is_odd)) before

  -- and over one more, which the point is not on, as many or one more
  pub over_more : (first i : ℕ) (odd crossed more : Bool) → i < length ring → IsOddOver ring first i p odd → (IsOnEdge ring i p → ⊥)
      → is_crossed (edge_at ring i) p ≡ crossed → more ≡ not (beq odd crossed) → IsOddOver ring first (i + 1) p more
  over_more first i odd crossed more within over beside is e is_odd before =
      subst (OddSoFar (take (i + 1) (edges_of ring)) p)
      (ap (λ b. not (beq (not (beq is_odd odd)) b)) is ∙ differ_assoc is_odd odd crossed ∙ ap (λ b. not (beq is_odd b)) (sym e))
      (odd_step i (not (beq is_odd odd)) within (over is_odd before) beside)

  -- all edges
  pub odd_end : (i : ℕ) (is_odd : Bool) → length ring ≡ i → OddSoFar (take i (edges_of ring)) p is_odd → OddSoFar (edges_of ring) p is_odd
  odd_end i is_odd all before = rw (sym all, take_all_edges ring) at before

  -- an odd number is inside,
  pub in_of_odd : OddSoFar (edges_of ring) p true → IsIn ring p
  in_of_odd h = inr (h.odd.0 refl)

  -- an even one outside
  pub out_of_even : OddSoFar (edges_of ring) p false → IsIn ring p → ⊥
  out_of_even h (inl on) = h.on_none on
  out_of_even h (inr odd) = cc (h.odd.1 odd)
