-- Two rings with the same points, edges and reflex vertices give the same verdicts.
use Rattle.std.proofs.Common.{◌↔◌, inl, inr, ℕ, List}
use Rattle.plane.specs.Point.{Point, Triple, whole}
use Rattle.rings.specs.Bend.{AreNeighbours, IsReflexVertex}
use Rattle.rings.specs.Chain.{point_at}
use Rattle.rings.specs.Inside.{IsIn}
use Rattle.rings.specs.Sees.{Sees}
use Rattle.taut_check.specs.Verdict.{IsBroken, IsFirstRule, IsLeastBroken, IsLeaving, IsNotReflex, IsOnWrongSide, IsVerdict}
use Rattle.taut_check.specs.declared.verdict.Verdict.{Verdict}
use Rattle.taut_check.specs.declared.verdict.Verdict.TheVariants as verdict

-- what the rules ask of a ring is the same of two rings
pub record SameRules (ring other : List Point) : Type 0 where
  pub inside : (p : Triple) → IsIn ring p ↔ IsIn other p
  pub sees : (p q : Triple) → Sees ring p q ↔ Sees other p q
  pub reflex : (v : Point) → IsReflexVertex ring v ↔ IsReflexVertex other v
  pub neighbours : (u v : Point) → AreNeighbours ring u v ↔ AreNeighbours other u v

-- the other way round
pub swapped : {ring other : List Point} → SameRules ring other → SameRules other ring
swapped same = record {
  inside = λ p. ((same.inside p).1, (same.inside p).0);
  sees = λ p q. ((same.sees p q).1, (same.sees p q).0);
  reflex = λ v. ((same.reflex v).1, (same.reflex v).0);
  neighbours = λ u v. ((same.neighbours u v).1, (same.neighbours u v).0);
}

-- ---- one rule

leaving_moves : (ring other points : List Point) (k : ℕ) → SameRules ring other → IsLeaving ring points k → IsLeaving other points k
leaving_moves ring other points k same (inl out) = inl (λ within. out ((same.inside (whole (point_at points k))).1 within))
leaving_moves ring other points k same (inr h) = inr (record {
  not_last = h.not_last;
  unseen = λ sees. h.unseen ((same.sees _ _).1 sees);
})

not_reflex_moves : (ring other points : List Point) (k : ℕ) → SameRules ring other → IsNotReflex ring points k → IsNotReflex other points k
not_reflex_moves ring other points k same h = record { inner = h.inner; not_reflex = λ reflex. h.not_reflex ((same.reflex (point_at points k)).1 reflex) }

wrong_side_moves : (ring other points : List Point) (k : ℕ) → SameRules ring other → IsOnWrongSide ring points k → IsOnWrongSide other points k
wrong_side_moves ring other points k same h =
    record { inner = h.inner; neighbour = h.neighbour; beside = (same.neighbours (point_at points k) h.neighbour).0 h.beside; outside = h.outside }

broken_moves : (ring other points : List Point) (k : ℕ) → SameRules ring other → IsBroken ring points k → IsBroken other points k
broken_moves ring other points k same (inl h) = inl h
broken_moves ring other points k same (inr (inl h)) = inr (inl (leaving_moves ring other points k same h))
broken_moves ring other points k same (inr (inr (inl h))) = inr (inr (inl (not_reflex_moves ring other points k same h)))
broken_moves ring other points k same (inr (inr (inr (inl h)))) = inr (inr (inr (inl h)))
broken_moves ring other points k same (inr (inr (inr (inr h)))) = inr (inr (inr (inr (wrong_side_moves ring other points k same h))))

-- ---- the verdict

module _ (ring other points : List Point) (same : SameRules ring other) where
  -- a rule that is kept stays so
  stays : (k : ℕ) → ¬ IsLeaving ring points k → ¬ IsLeaving other points k
  stays k h leaving = h (leaving_moves other ring points k (swapped same) leaving)

  stays_reflex : (k : ℕ) → ¬ IsNotReflex ring points k → ¬ IsNotReflex other points k
  stays_reflex k h not_reflex = h (not_reflex_moves other ring points k (swapped same) not_reflex)

  stays_kept : (k : ℕ) → ¬ IsBroken ring points k → ¬ IsBroken other points k
  stays_kept k h broken = h (broken_moves other ring points k (swapped same) broken)

  first_moves : (found : Verdict) → IsFirstRule ring points found → IsFirstRule other points found
  first_moves verdict.Empty h = h
  first_moves verdict.Taut h = h
  first_moves (verdict.Repeat k) h = h
  first_moves (verdict.Leaves k) h = (h.0, leaving_moves ring other points k same h.1)
  first_moves (verdict.NotReflex k) h = (h.0, stays k h.1, not_reflex_moves ring other points k same h.2)
  first_moves (verdict.Straight k) h = (h.0, stays k h.1, stays_reflex k h.2, h.3)
  first_moves (verdict.WrongSide k) h = (h.0, stays k h.1, stays_reflex k h.2, h.3, wrong_side_moves ring other points k same h.4)

  least_moves : (k : ℕ) → IsLeastBroken ring points k → IsLeastBroken other points k
  least_moves k h = record {
    in_list = h.in_list;
    broken = broken_moves ring other points k same h.broken;
    least = λ l less. stays_kept l (h.least l less);
  }

  -- the verdict on a list is the same
  pub same_verdict : (found : Verdict) → IsVerdict ring points found → IsVerdict other points found
  same_verdict verdict.Empty h = h
  same_verdict verdict.Taut h = record { some = h.some; none = λ k below. stays_kept k (h.none k below) }
  same_verdict (verdict.Repeat k) h = (least_moves k h.0, first_moves (verdict.Repeat k) h.1)
  same_verdict (verdict.Leaves k) h = (least_moves k h.0, first_moves (verdict.Leaves k) h.1)
  same_verdict (verdict.NotReflex k) h = (least_moves k h.0, first_moves (verdict.NotReflex k) h.1)
  same_verdict (verdict.Straight k) h = (least_moves k h.0, first_moves (verdict.Straight k) h.1)
  same_verdict (verdict.WrongSide k) h = (least_moves k h.0, first_moves (verdict.WrongSide k) h.1)
