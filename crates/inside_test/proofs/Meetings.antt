-- What two segments have in common lies between points that are listed.
use Rattle.std.proofs.Common.{◌≡◌, ◌≢◌, ◌↔◌, ◌∙◌, ◌-ℤ◌, Bool, IsTrue, true, false, arith, inl, inr, List, not, pos, refl, sym, subst}
use Rattle.std.specs.Bool.{beq}
use Rattle.std.proofs.Math.IntN.{*ℤ_comm}
use Rattle.std.proofs.lemmas.Int.{ints}
use Rattle.std.proofs.lemmas.List.Elements.{Contains-push}
use Rattle.std.specs.List.{Contains}
use Rattle.plane.proofs.Points.{same_refl, same_sym, same_trans, whole_is_point}
use Rattle.plane.proofs.Segments.{as_far, on_first_end, on_is_straight, on_last_end, on_same_point, around_of_line, first_on_line, last_on_line, one_meeting}
use Rattle.plane.specs.Line.{cross_product}
use Rattle.plane.specs.Point.{IsPoint, IsSame, Point, Triple, whole}
use Rattle.plane.specs.Segment.{Meet, On}
use Rattle.plane.specs.Turn.{IsStraight, determinant}
use Rattle.exact_plane.proofs.Directions.{straight_of_zero, zero_of_straight}
use Rattle.exact_plane.specs.Direction.{turn_of}
use Rattle.exact_plane.specs.declared.direction.Direction.TheVariants.{Straight}
use Rattle.inside_test.specs.Breakpoints.{EnclosesAll, IsListed, Lists}

module _ (a b c d : Point) where
  -- segments that are not parallel
  module _ (m : Triple) (at_m : IsPoint m) (crossing : cross_product a b c d ≢ pos 0)
      (first : IsStraight (whole a) (whole b) m) (second : IsStraight (whole c) (whole d) m) where
    -- their common points are all where their lines meet
    common_is : (z : Triple) → IsPoint z → On z (whole a) (whole b) → On z (whole c) (whole d) → IsSame z m
    common_is z at_z on_first on_second =
        one_meeting a b c d z m crossing
        (on_is_straight z (whole a) (whole b) at_z (whole_is_point a) (whole_is_point b) on_first) first
        (on_is_straight z (whole c) (whole d) at_z (whole_is_point c) (whole_is_point d) on_second) second

    -- so that point is on both, if they have one
    pub meeting_on_first : Meet (whole a) (whole b) (whole c) (whole d) → On m (whole a) (whole b)
    meeting_on_first h = on_same_point h.rational (common_is h.point h.rational h.on_first h.on_second) h.on_first

    -- and any triple of it that is listed encloses them
    encloses_same : (points : List Triple) → IsListed points m → EnclosesAll points (whole a) (whole b) (whole c) (whole d)
    encloses_same points k z at_z on_first on_second =
        let same = same_trans at_m (common_is z at_z on_first on_second) k.same in
        let on = on_same_point at_z same on_second in
        record {
          u = k.point;
          v = k.point;
          u_listed = k.listed;
          v_listed = k.listed;
          u_on = on;
          v_on = on;
          between = on_same_point k.rational (same_sym same) (on_first_end k.point k.point);
        }

    -- so it is where the point was appended, unless it was listed
    pub encloses_crossing : (old new : List Triple) → Lists m old new → EnclosesAll new (whole a) (whole b) (whole c) (whole d)
    encloses_crossing old new (inl e) =
        encloses_same new (record { point = m; rational = at_m; listed = subst (λ l. Contains l m) (sym e) (Contains-push old m); same = same_refl m })
    encloses_crossing old new (inr (e, k)) = subst (λ l. EnclosesAll l (whole a) (whole b) (whole c) (whole d)) (sym e) (encloses_same old k)

  -- of parallels the ends of the first are as far from the line of the second
  level_ends : cross_product a b c d ≡ pos 0 → determinant (whole c) (whole d) (whole a) ≡ determinant (whole c) (whole d) (whole b)
  level_ends parallel =
      omega (arith, ints, parallel, as_far c d a b, *ℤ_comm (b.x -ℤ a.x) (d.y -ℤ c.y), *ℤ_comm (b.y -ℤ a.y) (d.x -ℤ c.x))

  -- where that line passes one end of the first and not the other, all that they have in common is that end
  pub encloses_first_end : IsStraight (whole c) (whole d) (whole a) → ¬ IsStraight (whole c) (whole d) (whole b)
      → (points : List Triple) → Contains points (whole a) → EnclosesAll points (whole a) (whole b) (whole c) (whole d)
  encloses_first_end on off points listed =
      encloses_same (whole a) (whole_is_point a) (λ parallel. off (sym (level_ends parallel) ∙ on))
      (on_is_straight (whole a) (whole a) (whole b) (whole_is_point a) (whole_is_point a) (whole_is_point b) (on_first_end (whole a) (whole b))) on
      points (record { point = whole a; rational = whole_is_point a; listed = listed; same = same_refl (whole a) })

  pub encloses_last_end : IsStraight (whole c) (whole d) (whole b) → ¬ IsStraight (whole c) (whole d) (whole a)
      → (points : List Triple) → Contains points (whole b) → EnclosesAll points (whole a) (whole b) (whole c) (whole d)
  encloses_last_end on off points listed =
      encloses_same (whole b) (whole_is_point b) (λ parallel. off (level_ends parallel ∙ on))
      (on_is_straight (whole b) (whole a) (whole b) (whole_is_point b) (whole_is_point a) (whole_is_point b) (on_last_end (whole a) (whole b))) on
      points (record { point = whole b; rational = whole_is_point b; listed = listed; same = same_refl (whole b) })

  -- the same by two tests
  pub encloses_one_end : (first last : Bool) → IsTrue first ↔ (turn_of (whole c) (whole d) (whole a) ≡ Straight)
      → IsTrue last ↔ (turn_of (whole c) (whole d) (whole b) ≡ Straight) → IsTrue (not (beq first last))
      → (points : List Triple) → Contains points (whole a) → Contains points (whole b) → EnclosesAll points (whole a) (whole b) (whole c) (whole d)
  encloses_one_end true true on_first on_last differ points has_a has_b = absurd cc
  encloses_one_end true false on_first on_last differ points has_a has_b =
      encloses_first_end (zero_of_straight _ (on_first.0 refl)) (λ on. let wrong = on_last.1 (straight_of_zero _ on) in cc) points has_a
  encloses_one_end false true on_first on_last differ points has_a has_b =
      encloses_last_end (zero_of_straight _ (on_last.0 refl)) (λ on. let wrong = on_first.1 (straight_of_zero _ on) in cc) points has_b
  encloses_one_end false false on_first on_last differ points has_a has_b = absurd cc

  -- parallel ones: the ends of the first, and those of the second on it, enclose all
  pub encloses_parallel : (points : List Triple) → cross_product a b c d ≡ pos 0 → Contains points (whole a) → Contains points (whole b)
      → (On (whole c) (whole a) (whole b) → Contains points (whole c)) → (On (whole d) (whole a) (whole b) → Contains points (whole d))
      → EnclosesAll points (whole a) (whole b) (whole c) (whole d)
  encloses_parallel points parallel has_a has_b has_c has_d z at_z on_first on_second =
      let straight = on_is_straight z (whole a) (whole b) at_z (whole_is_point a) (whole_is_point b) on_first in
      let around =
      around_of_line (Contains points) (whole a) (whole b) (whole c) (whole d) z (whole_is_point a) (whole_is_point b) (whole_is_point c)
      (whole_is_point d) at_z on_first on_second has_a has_b (first_on_line a b c d z at_z parallel straight on_second)
      (last_on_line a b c d z at_z parallel straight on_second) has_c has_d in
      record {
        u = around.u;
        v = around.v;
        u_listed = around.u_listed;
        v_listed = around.v_listed;
        u_on = around.u_on;
        v_on = around.v_on;
        between = around.between;
      }
