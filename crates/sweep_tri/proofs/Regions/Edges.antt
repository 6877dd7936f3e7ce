-- An edge on the near side of another one, by where its ends are.
use Rattle.std.proofs.Common.{◌≡◌, ◌⊎◌, inl, inr, sym}
use Rattle.integer_algebra.proofs.SignSteps.{negative_not_zero, positive_not_zero}
use Rattle.plane.proofs.Turns.{determinant_same_ends, determinant_same_last}
use Rattle.plane.specs.Point.{whole}
use Rattle.rings.specs.Edge.{Edge}
use Rattle.sweep_tri.proofs.Regions.Sides.{IsNearer, IsShort}
use Rattle.mono_fill.specs.declared.side.Side.{Side}
use Rattle.mono_fill.specs.declared.side.Side.TheVariants.{Lower, Upper}

-- ---- a point short of an edge is no end of it

pub short_not_first : (side : Side) (f : Edge) → ¬ IsShort side f f.from
short_not_first Lower f h = negative_not_zero h (determinant_same_ends (whole f.from) (whole f.to))
short_not_first Upper f h = positive_not_zero h (determinant_same_ends (whole f.from) (whole f.to))

pub short_not_last : (side : Side) (f : Edge) → ¬ IsShort side f f.to
short_not_last Lower f h = negative_not_zero h (determinant_same_last (whole f.from) (whole f.to))
short_not_last Upper f h = positive_not_zero h (determinant_same_last (whole f.from) (whole f.to))

-- ---- one edge on the near side of the other

-- each of its ends is short of the other edge or a common one
nearer_from : (side : Side) (e f : Edge) → IsShort side f e.from ⊎ (e.from ≡ f.from) → IsShort side f e.to ⊎ (e.to ≡ f.to)
    → (e.from ≡ f.from → e.to ≡ f.to → ⊥) → IsNearer side e f
nearer_from Lower e f s t differ = record {
  start = elim s [ inl h ↦ inl (inr h) | inr is ↦ inr is ];
  finish = elim t [ inl h ↦ inl (inr h) | inr is ↦ inr is ];
  differ = differ;
}
nearer_from Upper e f s t differ = record {
  start = elim s [ inl h ↦ inl (inl h) | inr is ↦ inr (sym is) ];
  finish = elim t [ inl h ↦ inl (inl h) | inr is ↦ inr (sym is) ];
  differ = λ h k. differ (sym h) (sym k);
}

module _ (side : Side) (e f : Edge) where
  -- both are short of it,
  pub nearer_short : IsShort side f e.from → IsShort side f e.to → IsNearer side e f
  nearer_short s t = nearer_from side e f (inl s) (inl t) (λ is _. short_not_first side f (rw is at s))

  -- only the first,
  pub nearer_to_end : IsShort side f e.from → e.to ≡ f.to → IsNearer side e f
  nearer_to_end s t = nearer_from side e f (inl s) (inr t) (λ is _. short_not_first side f (rw is at s))

  -- or only the last
  pub nearer_from_start : e.from ≡ f.from → IsShort side f e.to → IsNearer side e f
  nearer_from_start s t = nearer_from side e f (inr s) (inl t) (λ _ is. short_not_last side f (rw is at t))
