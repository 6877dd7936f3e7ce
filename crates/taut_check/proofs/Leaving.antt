-- What holds at a place that a list doesn't leave the ring at.
use Rattle.std.proofs.Common.{◌≡◌, inl, inr, refl, Bool, true, false, IsTrue, ◌↔◌, ℕ, ◌+◌, ◌-◌, ◌<◌, ◌≤◌, List, length, arith}
use Rattle.std.specs.Prelude.{not}
use Rattle.plane.proofs.Points.{same_sym, whole_is_point}
use Rattle.plane.proofs.Segments.{combination_of_same, on_first_end, on_last_end}
use Rattle.plane.proofs.Turns.{combination_of}
use Rattle.plane.specs.Point.{IsPoint, IsSame, Point, Triple, whole}
use Rattle.rings.proofs.Inside.{in_or_not, in_same}
use Rattle.rings.specs.Chain.{point_at}
use Rattle.rings.specs.Inside.{IsIn}
use Rattle.rings.specs.Sees.{Sees}
use Rattle.taut_check.specs.Found.{IsSeenAt}
use Rattle.taut_check.specs.Sound.{IsSound, IsSoundBend}
use Rattle.taut_check.specs.Verdict.{IsLeaving, IsRepeat}

-- a rational point that is not outside is in the ring
in_of_not_out : (ring : List Point) (p : Triple) → IsPoint p → ¬ (¬ IsIn ring p) → IsIn ring p
in_of_not_out ring p at_p h = elim (in_or_not ring p at_p) [ inl within ↦ within | inr out ↦ absurd (h out) ]

-- points that do not fail to see each other see each other
sees_of_not_unseen : (ring : List Point) (p q : Triple) → ¬ (¬ Sees ring p q) → Sees ring p q
sees_of_not_unseen ring p q h x at_x on = in_of_not_out ring x at_x (λ out. h (λ sees. out (sees x at_x on)))

module _ (ring points : List Point) (k : ℕ) (stays : ¬ IsLeaving ring points k) where
  -- the point is in the ring
  pub stays_inside : IsIn ring (whole (point_at points k))
  stays_inside = in_of_not_out ring (whole (point_at points k)) (whole_is_point (point_at points k)) (λ out. stays (inl out))

  -- and sees the next
  pub stays_seen : k + 1 < length points → Sees ring (whole (point_at points k)) (whole (point_at points (k + 1)))
  stays_seen before_last =
      sees_of_not_unseen ring (whole (point_at points k)) (whole (point_at points (k + 1)))
      (λ unseen. stays (inr (record { not_last = before_last; unseen = unseen })))

-- a point before the last is in the ring where it sees the next, so that sight decides
pub leaves_unseen : (ring points : List Point) (k : ℕ) (p q : Point) (holds : Bool) → p ≡ point_at points k → q ≡ point_at points (k + 1) → k + 1 < length points
    → (IsTrue holds ↔ Sees ring (whole p) (whole q)) → IsTrue (not holds) ↔ IsLeaving ring points k
leaves_unseen ring points k p q holds at_p at_q before_last sees = by_sight holds refl
  where
    by_sight : (b : Bool) → holds ≡ b → IsTrue (not b) ↔ IsLeaving ring points k
    by_sight true seen = (
      λ h. absurd (cc h),
      λ leaves. elim leaves [
        | inl out ↦ absurd (out (rw (← at_p) (sees.0 seen (whole p) (whole_is_point p) (on_first_end (whole p) (whole q)))))
        | inr h ↦ absurd (h.unseen (rw (← at_p, ← at_q) (sees.0 seen)))
      ],
    )
    by_sight false unseen = (
      λ _. inr (record { not_last = before_last; unseen = λ h. absurd (cc (sees.1 (rw (at_p, at_q) h), unseen)) }),
      λ _. refl,
    )

-- a point sees itself exactly where it is in the ring
pub sees_itself : (ring : List Point) (p : Triple) → IsPoint p → Sees ring p p ↔ IsIn ring p
sees_itself ring p at_p = (
  λ sees. sees p at_p (on_first_end p p),
  λ inside x at_x on. in_same ring p x at_p at_x (same_sym (combination_of_same x p p refl_same (combination_of x p p at_x at_p at_p on))) inside,
)
  where
    refl_same : IsSame p p
    refl_same = record { same_x = refl; same_y = refl }

-- a lone point leaves exactly where it does not see itself
pub leaves_alone : (ring points : List Point) (k : ℕ) (p : Point) (holds : Bool) → p ≡ point_at points k → length points ≤ k + 1
    → (IsTrue holds ↔ Sees ring (whole p) (whole p)) → IsTrue (not holds) ↔ IsLeaving ring points k
leaves_alone ring points k p holds at_p last sees = by_sight holds refl
  where
    itself : Sees ring (whole p) (whole p) ↔ IsIn ring (whole p)
    itself = sees_itself ring (whole p) (whole_is_point p)

    by_sight : (b : Bool) → holds ≡ b → IsTrue (not b) ↔ IsLeaving ring points k
    by_sight true seen = (
      λ h. absurd (cc h),
      λ leaves. elim leaves [
        | inl out ↦ absurd (out (rw (← at_p) (itself.0 (sees.0 seen))))
        | inr h ↦ absurd (omega (arith, h.not_last))
      ],
    )
    by_sight false unseen = (
      λ _. inl (λ within. absurd (cc (sees.1 (itself.1 (rw at_p within)), unseen))),
      λ _. refl,
    )

-- nor does it leave where the one before it sees it
pub stays_where_seen : (ring points : List Point) (k : ℕ) → 0 < k → IsSeenAt ring points k → length points ≤ k + 1 → ¬ IsLeaving ring points k
stays_where_seen ring points k later seen last (inl out) =
    out (seen later (whole (point_at points k)) (whole_is_point (point_at points k)) (on_last_end (whole (point_at points (k - 1))) (whole (point_at points k))))
stays_where_seen ring points k later seen last (inr h) = omega (arith, h.not_last)

-- a place at which no rule is broken, by the bend there
pub sound_of_kept : (ring points : List Point) (k : ℕ) → ¬ IsRepeat points k → ¬ IsLeaving ring points k → IsSoundBend ring points k → IsSound ring points k
sound_of_kept ring points k differs stays bend = record {
  distinct = λ before_last same. differs (record { not_last = before_last; same = same });
  inside = stays_inside ring points k stays;
  sees = stays_seen ring points k stays;
  bend = bend;
}
