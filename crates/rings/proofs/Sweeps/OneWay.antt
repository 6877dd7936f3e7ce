-- That vertices are the events is a proposition: it holds in one way at most, so a struct can keep it.
use Rattle.std.proofs.Common.{◌≡◌, ◌⊎◌, inl, inr, ap, List, ℕ, ◌<ℤ◌, arith}
use Rattle.std.proofs.Props.{props}
use Rattle.std.proofs.lemmas.Int.{ints}
use Rattle.plane.specs.Prelude.{IsBefore, Point}
use Rattle.rings.specs.Events.{AreEvents}

-- so is one of two propositions that are not both true
either_is_one : (A B : Type 0) → IsProp A → IsProp B → (A → B → ⊥) → IsProp (A ⊎ B)
either_is_one A B a b not_both (inl x) (inl y) = ap inl (a x y)
either_is_one A B a b not_both (inl x) (inr y) = absurd (not_both x y)
either_is_one A B a b not_both (inr x) (inl y) = absurd (not_both y x)
either_is_one A B a b not_both (inr x) (inr y) = ap inr (b x y)

-- as that one point is before another
before_is_one : (p q : Point) → IsProp (IsBefore p q)
before_is_one p q = either_is_one (p.x <ℤ q.x) ((p.x ≡ q.x) × (p.y <ℤ q.y)) (hlevel props) (hlevel props) (λ h k. let e = k.0 in omega (arith, ints))

pub events_are_one : (ring : List Point) (events ranks : List ℕ) → IsProp (AreEvents ring events ranks)
events_are_one ring events ranks = hlevel (before_is_one, props)
