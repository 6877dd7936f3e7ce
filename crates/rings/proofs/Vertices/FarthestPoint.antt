-- Of the chosen points of a list, one with the greatest value.
use Rattle.std.proofs.Common.{◌⊎◌, inl, inr, refl, sym, ap, subst, ℤ, ◌≤ℤ◌, List, [], ◌∷◌, arith}
use Rattle.std.proofs.lemmas.Int.{ints}
use Rattle.integer_algebra.proofs.Signs.{lt_or_le}
use Rattle.plane.specs.Point.{Point}
use Rattle.rings.proofs.Vertices.DistinctPoints.{HasPoint}

-- a chosen point of the list, with the greatest value among the chosen ones
pub record Farthest (P : Point → Type 0) (value : Point → ℤ) (ps : List Point) : Type 0 where
  pub point : Point
  pub has_point : HasPoint ps point
  pub chosen : P point
  pub farthest : (q : Point) → HasPoint ps q → P q → value q ≤ℤ value point

module _ (P : Point → Type 0) (decide : (p : Point) → P p ⊎ (¬ P p)) (value : Point → ℤ) where
  -- a point that is not chosen changes nothing
  past : (p : Point) (ps : List Point) → ¬ P p → Farthest P value ps → Farthest P value (p ∷ ps)
  past p ps not far = record {
    point = far.point;
    has_point = inr far.has_point;
    chosen = far.chosen;
    farthest = λ q has chosen. elim has [ inl e ↦ absurd (not (subst P (sym e) chosen)) | inr k ↦ far.farthest q k chosen ];
  }

  -- of a chosen point and the farthest of the others one is farther
  farther : (p : Point) (ps : List Point) → P p → Farthest P value ps → Farthest P value (p ∷ ps)
  farther p ps chosen far = elim (lt_or_le (value p) (value far.point)) [
    | inl below ↦ record {
      point = far.point;
      has_point = inr far.has_point;
      chosen = far.chosen;
      farthest = λ q has is. elim has [ inl e ↦ omega (arith, ints, ap value e) | inr k ↦ far.farthest q k is ];
    }
    | inr more ↦ record {
      point = p;
      has_point = inl refl;
      chosen = chosen;
      farthest = λ q has is. elim has [
        | inl e ↦ omega (arith, ints, ap value e)
        | inr k ↦ omega (arith, ints, far.farthest q k is)
      ];
    }
  ]

  -- no point of a list is chosen, or there is a farthest one
  pub farthest_or_none : (ps : List Point) → ((p : Point) → HasPoint ps p → ¬ P p) ⊎ Farthest P value ps
  farthest_or_none [] = inl (λ p has chosen. has)
  farthest_or_none (p ∷ ps) = go (decide p) (farthest_or_none ps)
    where
      go : P p ⊎ (¬ P p) → ((q : Point) → HasPoint ps q → ¬ P q) ⊎ Farthest P value ps
          → ((q : Point) → HasPoint (p ∷ ps) q → ¬ P q) ⊎ Farthest P value (p ∷ ps)
      go (inl chosen) (inl none) = inr (record {
        point = p;
        has_point = inl refl;
        chosen = chosen;
        farthest = λ q has is. elim has [ inl e ↦ omega (arith, ints, ap value e) | inr k ↦ absurd (none q k is) ];
      })
      go (inl chosen) (inr far) = inr (farther p ps chosen far)
      go (inr not) (inl none) = inl (λ q has is. elim has [ inl e ↦ not (subst P (sym e) is) | inr k ↦ none q k is ])
      go (inr not) (inr far) = inr (past p ps not far)

-- where all points are chosen, and there is one, there is a farthest
pub farthest_of : (value : Point → ℤ) (ps : List Point) (p : Point) → HasPoint ps p → Farthest (λ q. Unit {0}) value ps
farthest_of value ps p has = elim (farthest_or_none (λ q. Unit {0}) (λ q. inl tt) value ps) [
  | inl none ↦ absurd (none p has tt)
  | inr far ↦ far
]
