-- The lexicographic order of points: x first, then y. The textbooks' order for sweeps.
use Rattle.std.specs.Prelude.{◌≡◌, ◌⊎◌, ◌*ℤ◌, ◌<ℤ◌}
use Rattle.plane.specs.Point.{Point, Triple}

abbrev pub IsBefore : Point → Point → Type 0
IsBefore p q = (p.x <ℤ q.x) ⊎ ((p.x ≡ q.x) × (p.y <ℤ q.y))

-- p comes between a and b, or with one of them
pub record IsBetween (a p b : Point) : Type 0 where
  pub not_after : ¬ (IsBefore a p × IsBefore b p)
  pub not_before : ¬ (IsBefore p a × IsBefore p b)

-- p comes strictly after both of a and b, or strictly before both
abbrev pub IsBeyond : Point → Point → Point → Type 0
IsBeyond a p b = (IsBefore a p × IsBefore b p) ⊎ (IsBefore p a × IsBefore p b)

-- the same order of rational points
abbrev pub Precedes : Triple → Triple → Type 0
Precedes p q = ((p.X *ℤ q.W) <ℤ (q.X *ℤ p.W)) ⊎ ((p.X *ℤ q.W ≡ q.X *ℤ p.W) × ((p.Y *ℤ q.W) <ℤ (q.Y *ℤ p.W)))

-- p comes between a and b, or with one of them
pub record LiesBetween (a p b : Triple) : Type 0 where
  pub not_after : ¬ (Precedes a p × Precedes b p)
  pub not_before : ¬ (Precedes p a × Precedes p b)
