-- Beside a diagonal: the winding numbers of the two pieces, one to its left and one to its right.
use Rattle.std.proofs.Common.{◌≡◌, inl, inr, sym, ◌∙◌, ℤ, pos, ◌+ℤ◌, List, [], ◌∷◌}
use Rattle.plane.proofs.Segments.{on_last_end, left_not_on, right_not_on}
use Rattle.plane.specs.Point.{IsPoint, IsSame, Triple, whole}
use Rattle.rings.proofs.Crossings.{winding_law, winding_law_crossed}
use Rattle.rings.specs.Prelude.{Edge, IsClosed, IsOn, IsOnSome, winding}
use Rattle.rings.specs.Winding.{WindsUpTo}
use Rattle.ring_laws.proofs.Ears.{IsUnit, both_up_to_one, same_units}
use Rattle.ring_laws.proofs.Triangles.{BesideEdge, beside_edge}

-- points to the left and to the right of a diagonal, near a point x of it: off the edges fs of the first piece and gs of the
-- second, which wind there as es does at x, the second once more on the left
record DiagonalSides (es fs gs : List Edge) (x : Triple) : Type 0 where
  pub left : Triple
  pub right : Triple
  pub left_rational : IsPoint left
  pub right_rational : IsPoint right
  pub left_off_first : ¬ IsOnSome fs left
  pub right_off_first : ¬ IsOnSome fs right
  pub left_off_second : ¬ IsOnSome gs left
  pub right_off_second : ¬ IsOnSome gs right
  pub left_sum : winding es x ≡ winding fs left +ℤ winding gs left
  pub right_sum : winding es x ≡ winding fs right +ℤ winding gs right
  pub falls : winding gs left ≡ winding gs right +ℤ pos 1

-- the edges es wind as fs and a diagonal d with the edges gs together, and once round a point x strictly inside the diagonal
module _ (es fs gs : List Edge) (d : Edge) (sum : (x : Triple) → winding es x ≡ winding fs x +ℤ winding (d ∷ gs) x)
    (closed_es : IsClosed es) (closed_gs : IsClosed (d ∷ gs)) (off_fs : (x : Triple) → ¬ IsOnSome es x → ¬ IsOn d x → ¬ IsOnSome fs x)
    (among : (x : Triple) → IsOnSome gs x → IsOnSome es x) (proper : ¬ (d.from ≡ d.to)) (x : Triple) (at : IsPoint x) (on : IsOn d x)
    (not_from : ¬ IsSame x (whole d.from)) (not_to : ¬ IsSame x (whole d.to)) (off : ¬ IsOnSome es x) where
  -- there are such points
  sides : DiagonalSides es fs (d ∷ gs) x
  sides = from_points (beside_edge d proper x at on not_from not_to es off)
    where
      off_piece : (z : Triple) → ¬ IsOnSome es z → ¬ IsOn d z → ¬ IsOnSome (d ∷ gs) z
      off_piece z not_es not_d (inl k) = not_d k
      off_piece z not_es not_d (inr k) = not_es (among z k)

      from_points : BesideEdge d x es → DiagonalSides es fs (d ∷ gs) x
      from_points h =
          let left_off = h.misses_left h.left h.left_rational (on_last_end x h.left) in
          let right_off = h.misses_right h.right h.right_rational (on_last_end x h.right) in
          let left_beside = left_not_on d.from d.to h.left h.left_rational h.crosses.starts_left in
          let right_beside = right_not_on d.from d.to h.right h.right_rational h.crosses.ends_right in
          record {
            left = h.left;
            right = h.right;
            left_rational = h.left_rational;
            right_rational = h.right_rational;
            left_off_first = off_fs h.left left_off left_beside;
            right_off_first = off_fs h.right right_off right_beside;
            left_off_second = off_piece h.left left_off left_beside;
            right_off_second = off_piece h.right right_off right_beside;
            left_sum = winding_law x h.left at h.left_rational es closed_es h.misses_left ∙ sum h.left;
            right_sum = winding_law x h.right at h.right_rational es closed_es h.misses_right ∙ sum h.right;
            falls =
                winding_law_crossed h.left h.right h.left_rational h.right_rational [] gs d closed_gs (λ z at_z way none. none)
                (λ z at_z way k. h.misses z at_z way (among z k)) h.crosses;
          }

  -- where all wind up to once, both parts wind in the direction in which es winds round x
  pub same_direction : (s t r : ℤ) → IsUnit s → IsUnit t → IsUnit r → winding es x ≡ s → WindsUpTo t fs → WindsUpTo r (d ∷ gs) → (t ≡ s) × (r ≡ s)
  same_direction s t r hs ht hr once winds_fs winds_gs =
      let h = sides in
      same_units s t r (winding fs h.left) (winding fs h.right) (winding (d ∷ gs) h.left) (winding (d ∷ gs) h.right) hs ht hr
      (sym once ∙ h.left_sum) (sym once ∙ h.right_sum) h.falls
      (winds_fs h.left h.left_rational h.left_off_first) (winds_fs h.right h.right_rational h.right_off_first)
      (winds_gs h.left h.left_rational h.left_off_second) (winds_gs h.right h.right_rational h.right_off_second)

  -- where both parts wind up to once counterclockwise, es winds once round x
  pub once_round_diagonal : WindsUpTo (pos 1) fs → WindsUpTo (pos 1) (d ∷ gs) → winding es x ≡ pos 1
  once_round_diagonal winds_fs winds_gs =
      let h = sides in
      both_up_to_one (winding es x) (winding fs h.left) (winding fs h.right) (winding (d ∷ gs) h.left) (winding (d ∷ gs) h.right)
      h.left_sum h.right_sum h.falls
      (winds_fs h.left h.left_rational h.left_off_first) (winds_fs h.right h.right_rational h.right_off_first)
      (winds_gs h.left h.left_rational h.left_off_second) (winds_gs h.right h.right_rational h.right_off_second)
