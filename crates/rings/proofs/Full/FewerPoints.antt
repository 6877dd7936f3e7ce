-- Different points that are all in a list are no more than its points.
use Rattle.std.proofs.Common.{◌≡◌, inl, inr, refl, sym, subst, ap, ◌≤◌, List, [], ◌∷◌, ◌++◌, length, arith}
use Rattle.std.proofs.lemmas.List.{length-append}
use Rattle.plane.specs.Point.{Point}
use Rattle.rings.proofs.Vertices.{AreDistinct, has_cases, has_left, has_right}
use Rattle.rings.specs.Edge.{Has}

-- a list as what is before a point of it, the point, and what is after it
record IsParted (points : List Point) (p : Point) : Type 0 where
  before : List Point
  after : List Point
  is : points ≡ before ++ p ∷ after

parted : (points : List Point) (p : Point) → Has points p → IsParted points p
parted [] p has = absurd has
parted (q ∷ qs) p (inl e) = record { before = []; after = qs; is = ap (λ x. x ∷ qs) e }
parted (q ∷ qs) p (inr has) = let rest = parted qs p has in record { before = q ∷ rest.before; after = rest.after; is = ap (λ xs. q ∷ xs) rest.is }

-- by the points one after the other, each taken out of the list
pub no_more : (ps qs : List Point) → AreDistinct ps → ((v : Point) → Has ps v → Has qs v) → length ps ≤ length qs
no_more [] qs distinct all = omega arith
no_more (p ∷ ps) qs distinct all =
    let part = parted qs p (all p (inl refl)) in
    let rest : (v : Point) → Has ps v → Has (part.before ++ part.after) v = λ v has.
    elim (has_cases v part.before (p ∷ part.after) (subst (λ xs. Has xs v) part.is (all v (inr has)))) [
      | inl before ↦ has_left v part.before part.after before
      | inr (inl e) ↦ absurd (distinct.0 (subst (Has ps) (sym e) has))
      | inr (inr after) ↦ has_right v part.before part.after after
    ] in
    let less = no_more ps (part.before ++ part.after) distinct.1 rest in
    omega (arith, less, length-append part.before part.after, length-append part.before (p ∷ part.after), ap length part.is)
