-- A chain with all vertices that it touches is one list: points in order along a segment are known by which they are.
use Rattle.std.proofs.Common.{◌≡◌, inl, inr, refl, sym, subst, ap, ◌∙◌, List, [], ◌∷◌, ◌++◌}
use Rattle.plane.proofs.Points.{same_whole, whole_is_point}
use Rattle.plane.proofs.Segments.{on_antisym}
use Rattle.plane.specs.Point.{Point, whole}
use Rattle.rings.specs.Edge.{Has}
use Rattle.rings.specs.Full.{AreFarther, AreInOrder, AreTouched, IsNearer, OneFullLaw}

-- ---- points in order

module _ (a : Point) where
  -- of two points each is not nearer than the other
  not_both_nearer : (p q : Point) → IsNearer a p q → IsNearer a q p → ⊥
  not_both_nearer p q near far = near.differ (same_whole p q
      (on_antisym (whole p) (whole q) (whole a) (whole_is_point p) (whole_is_point q) (whole_is_point a) near.on far.on))

  -- those that are farther are so one by one
  farther : (p : Point) (qs : List Point) → AreFarther a p qs → (q : Point) → Has qs q → IsNearer a p q
  farther p [] all q has = absurd has
  farther p (r ∷ qs) all q (inl e) = subst (IsNearer a p) e all.0
  farther p (r ∷ qs) all q (inr has) = farther p qs all.1 q has

  -- two lists in order with the same points are equal
  one_order : (ps qs : List Point) → AreInOrder a ps → AreInOrder a qs → ((v : Point) → Has ps v → Has qs v)
      → ((v : Point) → Has qs v → Has ps v) → ps ≡ qs
  one_order [] [] in_order other to from = refl
  one_order [] (q ∷ qs) in_order other to from = absurd (from q (inl refl))
  one_order (p ∷ ps) [] in_order other to from = absurd (to p (inl refl))
  one_order (p ∷ ps) (q ∷ qs) in_order other to from =
      let first : p ≡ q = elim (to p (inl refl)) [
        | inl e ↦ sym e
        | inr has ↦ elim (from q (inl refl)) [
          | inl e ↦ e
          | inr back ↦ absurd (not_both_nearer p q (farther p ps in_order.0 q back) (farther q qs other.0 p has))
        ]
      ] in
      let to_rest : (v : Point) → Has ps v → Has qs v = λ v has. elim (to v (inr has)) [
        | inl e ↦ absurd ((farther p ps in_order.0 v has).differ (first ∙ e))
        | inr there ↦ there
      ] in
      let from_rest : (v : Point) → Has qs v → Has ps v = λ v has. elim (from v (inr has)) [
        | inl e ↦ absurd ((farther q qs other.0 v has).differ (sym first ∙ e))
        | inr there ↦ there
      ] in
      ap (λ x. x ∷ ps) first ∙ ap (λ xs. q ∷ xs) (one_order ps qs in_order.1 other.1 to_rest from_rest)

-- ---- the vertices that a segment and a chain touch

-- what a segment touches is one list,
one_touched : (ring : List Point) (a b : Point) (points others : List Point) → AreTouched ring a b points → AreTouched ring a b others
    → points ≡ others
one_touched ring a b points others first second =
    one_order a points others first.ordered second.ordered
    (λ v has. (second.vertices v).1 ((first.vertices v).0 has)) (λ v has. (first.vertices v).1 ((second.vertices v).0 has))

-- and so is a chain with what it touches
pub one_full : OneFullLaw
one_full ring [] full other is also = is ∙ sym also
one_full ring (a ∷ []) full other is also = is ∙ sym also
one_full ring (a ∷ b ∷ rest) full other (between, after, parts, touched, onward) (between', after', parts', touched', onward') =
    let same : between ≡ between' = one_touched ring a b between between' touched touched' in
    let then : after ≡ after' = one_full ring (b ∷ rest) after after' onward onward' in
    parts ∙ ap (λ xs. a ∷ (xs ++ after)) same ∙ ap (λ xs. a ∷ (between' ++ xs)) then ∙ sym parts'
