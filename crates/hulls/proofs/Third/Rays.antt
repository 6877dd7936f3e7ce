-- Points farther along a ray: a point between the nearer one and a third is between the farther one and that, and so are joined points joined.
use Rattle.std.proofs.Common.{◌≢◌, inl, inr, true, sym, subst, List}
use Rattle.plane.proofs.Points.{same_whole, whole_is_point}
use Rattle.plane.proofs.Segments.{later_between, on_antisym, on_first_end, on_is_straight, on_nested, on_reversed, on_total}
use Rattle.plane.proofs.Turns.{straight_shift_back, straight_swap_last}
use Rattle.plane.specs.Prelude.{IsStraight, On, Point, whole}
use Rattle.funnels.proofs.Bends.{AreOnRay, on_ray_back, turning_to_ray}
use Rattle.funnels.proofs.OneChain.{bend_from_ray}
use Rattle.funnels.proofs.Touched.{only_point}
use Rattle.hulls.proofs.Cones.{IsBetween}
use Rattle.hulls.proofs.Turning.{one_between}
use Rattle.hulls.specs.Joined.{AreJoined}

-- a point other than v on the way to another is on its ray
pub ray_of_on : (v x n : Point) → On (whole x) (whole v) (whole n) → x ≢ v → AreOnRay (whole v) (whole x) (whole n)
ray_of_on v x n on differ = record {
  first_rational = whole_is_point x;
  last_rational = whole_is_point n;
  first_differs = λ same. differ (same_whole x v same);
  last_differs = λ same. differ (only_point v x (subst (λ z. On (whole x) (whole v) (whole z)) (same_whole n v same) on));
  on_ray = inl on;
}

-- a point between two others is on one line with them
pub line_of_between : (v p q : Point) → IsBetween v p q → IsStraight (whole v) (whole p) (whole q)
line_of_between v p q h =
    straight_shift_back (whole p) (whole q) (whole v)
    (on_is_straight (whole v) (whole p) (whole q) (whole_is_point v) (whole_is_point p) (whole_is_point q) h.2)

module _ (v x n z : Point) (between : IsBetween v x z) (on : On (whole x) (whole v) (whole n)) where
  -- x is not between v and z
  not_ahead : ¬ On (whole x) (whole v) (whole z)
  not_ahead ahead =
      between.0 (same_whole v x
      (on_antisym (whole v) (whole x) (whole z) (whole_is_point v) (whole_is_point x) (whole_is_point z)
      (on_reversed (whole v) (whole x) (whole z) between.2) (on_reversed (whole x) (whole v) (whole z) ahead)))

  -- n is on the line too
  in_line : IsStraight (whole v) (whole n) (whole z)
  in_line =
      straight_swap_last (whole v) (whole z) (whole n)
      ((turning_to_ray v true (whole x) (whole n) (whole z) (ray_of_on v x n on (λ e. between.0 (sym e)))).zero
      (straight_swap_last (whole v) (whole x) (whole z) (line_of_between v x z between)))

  -- a point between x and z is between n and z, where x is on the way from it to n
  pub between_beyond : IsBetween v n z
  between_beyond =
      let differ : v ≢ n = λ e. between.0 (sym (only_point v x (subst (λ y. On (whole x) (whole v) (whole y)) (sym e) on))) in
      elim (one_between v n z in_line) [
        | inl n_on ↦ absurd (not_ahead
            (on_nested (whole x) (whole v) (whole n) (whole v) (whole z) (whole_is_point x) (whole_is_point v) (whole_is_point n) (whole_is_point v)
            (whole_is_point z) (on_first_end (whole v) (whole z)) n_on on))
        | inr (inl z_on) ↦
            elim (on_total (whole x) (whole z) (whole v) (whole n) (whole_is_point x) (whole_is_point z) (whole_is_point v) (whole_is_point n) on
            z_on) [
              | inl ahead ↦ absurd (not_ahead ahead)
              | inr behind ↦ absurd (between.1 (same_whole v z
                  (on_antisym (whole v) (whole z) (whole x) (whole_is_point v) (whole_is_point z) (whole_is_point x) between.2
                  (on_reversed (whole z) (whole v) (whole x) behind))))
            ]
        | inr (inr there) ↦ (differ, between.1, there)
      ]

-- points that are joined are so along a ray
pub joined_on_ray : (ring : List Point) (v x n z : Point) → On (whole x) (whole v) (whole n) → x ≢ v → AreJoined ring v x z → AreJoined ring v n z
joined_on_ray ring v x n z on differ (inl between) = inl (between_beyond v x n z between on)
joined_on_ray ring v x n z on differ (inr bend) = inr (bend_from_ray ring x n v z (ray_of_on v x n on differ) bend)

-- also with a nearer one
pub joined_nearer : (ring : List Point) (v x n z : Point) → On (whole n) (whole v) (whole x) → n ≢ v → AreJoined ring v x z → AreJoined ring v n z
joined_nearer ring v x n z on differ (inl between) = inl (
  (λ e. differ (sym e)),
  between.1,
  later_between (whole n) (whole x) (whole v) (whole z) (whole_is_point n) (whole_is_point x) (whole_is_point v) (whole_is_point z)
      (on_reversed (whole n) (whole v) (whole x) on) between.2,
)
joined_nearer ring v x n z on differ (inr bend) = inr (bend_from_ray ring x n v z (on_ray_back (ray_of_on v n x on differ)) bend)
