-- Ranks rise with the lexicographic order, and their sums are bounded.
use Rattle.std.proofs.Common.{◌≡◌, ◌⊎◌, inl, inr, refl, sym, ap, subst, ℕ, zero, suc, ◌*◌, ◌<◌, ◌≤◌, ℤ, ◌<ℤ◌, Bool, true, false}
use Rattle.std.proofs.Common.{List, [], ◌∷◌, length, get_or, arith}
use Rattle.std.proofs.Math.Nat.{mul-suc}
use Rattle.std.proofs.lemmas.Int.{ints}
use Rattle.std.specs.Int.Signed.{le_z, lt_z}
use Rattle.std.specs.Prelude.{◌&&◌, ◌||◌, if◌then◌else◌}
use Rattle.plane.proofs.Order.{before_irrefl, before_trans}
use Rattle.plane.specs.Order.{IsBefore}
use Rattle.plane.specs.Point.{Point}
use Rattle.rings.proofs.Vertices.{vertex_in_range}
use Rattle.rings.specs.Ring.{origin, vertex}
use Rattle.meshes.specs.declared.tri.Tri.{Tri}
use Rattle.flip_tri.specs.Ranks.{comes_before, least_rank, rank, rank_sum}

-- ---- the test

-- lesser numbers pass the test,
less_test : (a b : ℤ) → a <ℤ b → lt_z a b ≡ true
less_test a b h = grind (arith, ints)

-- and only those
less_tested : (a b : ℤ) → lt_z a b ≡ true → a <ℤ b
less_tested a b h = grind (arith, ints)

-- as equal ones do,
equal_test : (a b : ℤ) → a ≡ b → le_z a b ≡ true
equal_test a b h = grind (arith, ints)

-- and others that pass are equal
at_most_tested : (a b : ℤ) → le_z a b ≡ true → ¬ (a <ℤ b) → a ≡ b
at_most_tested a b h k = grind (arith, ints)

-- those that fail it are no less
not_less_test : (a b : ℤ) → lt_z a b ≡ false → ¬ (a <ℤ b)
not_less_test a b h k = grind (arith, ints)

-- the cases of the test
either : (a b c : Bool) → (a || (b && c)) ≡ true → (a ≡ true) ⊎ ((a ≡ false) × (b ≡ true) × (c ≡ true))
either true b c h = inl refl
either false true c h = inr (refl, refl, h)
either false false c h = inr (refl, h, absurd (grind arith))

-- a point that comes before another passes the test,
pub before_test : (p q : Point) → IsBefore p q → comes_before p q ≡ true
before_test p q (inl h) = ap (λ b. b || (le_z p.x q.x && lt_z p.y q.y)) (less_test p.x q.x h)
before_test p q (inr h) = at (lt_z p.x q.x) (equal_test p.x q.x h.0) (less_test p.y q.y h.1)
  where
    at : (a : Bool) {b c : Bool} → b ≡ true → c ≡ true → (a || (b && c)) ≡ true
    at true e f = refl
    at false e f = λ i. e i && f i

-- and no other does
pub before_tested : (p q : Point) → comes_before p q ≡ true → IsBefore p q
before_tested p q h = elim (either (lt_z p.x q.x) (le_z p.x q.x) (lt_z p.y q.y) h) [
  | inl less ↦ inl (less_tested p.x q.x less)
  | inr same ↦ inr (at_most_tested p.x q.x same.1 (not_less_test p.x q.x same.0), less_tested p.y q.y same.2)
]

-- ---- ranks

-- one for a point that comes before, and nothing for another
abbrev unit : Bool → ℕ
unit b = if b then 1 else 0

unit_at_most : (b : Bool) → unit b ≤ 1
unit_at_most true = omega arith
unit_at_most false = omega arith

-- a test that passes wherever another one does counts no less
unit_rises : (b c : Bool) → (b ≡ true → c ≡ true) → unit b ≤ unit c
unit_rises true c h = subst (λ d. 1 ≤ unit d) (sym (h refl)) (omega arith)
unit_rises false c h = omega arith

unit_of : (b : Bool) → b ≡ true → unit b ≡ 1
unit_of b e = ap unit e

unit_none : (b : Bool) → ¬ (b ≡ true) → unit b ≡ 0
unit_none true h = absurd (h refl)
unit_none false h = refl

module _ (p q : Point) (before : IsBefore p q) where
  -- what comes before p comes before q
  unit_at : (r : Point) → unit (comes_before r p) ≤ unit (comes_before r q)
  unit_at r = unit_rises (comes_before r p) (comes_before r q) (λ e. before_test r q (before_trans r p q (before_tested r p e) before))

  rank_at_most : (corners : List Point) → rank corners p ≤ rank corners q
  rank_at_most [] = omega arith
  rank_at_most (r ∷ rs) = let one = unit_at r in let more = rank_at_most rs in omega arith

  -- and p itself is counted for q and not for p
  rank_rises : (corners : List Point) (k : ℕ) → k < length corners → get_or corners k origin ≡ p → rank corners p < rank corners q
  rank_rises [] k within is = absurd (omega arith)
  rank_rises (r ∷ rs) zero within is =
      let none = unit_none (comes_before r p) (λ e. before_irrefl p (subst (λ (s : Point). IsBefore s p) is (before_tested r p e))) in
      let one = unit_of (comes_before r q) (before_test r q (subst (λ (s : Point). IsBefore s q) (sym is) before)) in
      let more = rank_at_most rs in
      omega arith
  rank_rises (r ∷ rs) (suc k) within is =
      let one = unit_at r in
      let more = rank_rises rs k (omega arith) is in
      omega arith

-- a vertex that comes before a point has a smaller rank
pub rank_less : (corners : List Point) (i : ℕ) (q : Point) → i < length corners → IsBefore (vertex corners i) q
    → rank corners (vertex corners i) < rank corners q
rank_less corners i q within before = rank_rises (vertex corners i) q before corners i within (sym (vertex_in_range corners i origin within))

-- a rank is at most the count of the points
pub rank_bound : (corners : List Point) (p : Point) → rank corners p ≤ length corners
rank_bound [] p = omega arith
rank_bound (r ∷ rs) p = let one = unit_at_most (comes_before r p) in let more = rank_bound rs p in omega arith

-- so their sum is at most that times the count of the triangles
pub rank_sum_bound : (corners : List Point) (tris : List Tri) → rank_sum corners tris ≤ length corners * length tris
rank_sum_bound corners [] = omega arith
rank_sum_bound corners (t ∷ ts) =
    let more = rank_sum_bound corners ts in
    let one = rank_bound corners (vertex corners t.a) in
    let step : least_rank corners t ≤ rank corners (vertex corners t.a) = omega arith in
    omega (arith, mul-suc (length corners) (length ts))
