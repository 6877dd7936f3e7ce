-- A segment of which a line cuts the last end away: what is left has the points that are not right of the line, no more and no less.
-- A region cut along a line, whole: its corners, from wherever they are read, and its points.
use Rattle.std.proofs.Common.{◌≡◌, inl, inr, refl, sym, subst, arith, List, [], ◌∷◌, ◌++◌, length, take, ℕ, ◌-◌, ◌<◌, ◌≤◌, ℤ, pos, ◌+ℤ◌}
use Rattle.std.proofs.Common.{◌-ℤ◌, ◌*ℤ◌, ◌≤ℤ◌, ◌<ℤ◌}
use Rattle.std.proofs.lemmas.Bool.{cases_lt}
use Rattle.std.proofs.lemmas.Int.{ints}
use Rattle.integer_algebra.proofs.SignSteps.{zero_not_negative, at_least_unless, weak}
use Rattle.integer_algebra.proofs.Signs.{lt_or_le, mul_negative, mul_nonnegative}
use Rattle.plane.proofs.Points.{same_sym}
use Rattle.plane.proofs.Regions.Beside.{all_with, region_of_two, two_of_region}
use Rattle.plane.proofs.Regions.Corners.{all_first, corners_of_convex}
use Rattle.plane.proofs.Regions.CutCorners.{convex_back, convex_both}
use Rattle.plane.proofs.Regions.CutPolygons.{polygon_no_less, polygon_no_more}
use Rattle.plane.proofs.Regions.Fans.{region_not_right, four_beside, region_right}
use Rattle.plane.proofs.Regions.LineMeetings.{Ends, at_corner, at_meeting}
use Rattle.plane.proofs.Regions.Sides.{IsNotRight, at_least_zero}
use Rattle.plane.proofs.Regions.Turned.{convex_turned, region_turned}
use Rattle.plane.proofs.Regions.Weighing.{no_weight_below}
use Rattle.plane.proofs.Segments.{on_first_end, on_last_end, on_nested, on_one_side, on_same_point, same_without_last}
use Rattle.plane.proofs.Turns.{combination_of, determinant_along, on_of_combination}
use Rattle.plane.specs.Convex.{AreConvex, corner}
use Rattle.plane.specs.Cut.{IsCut, IsUncut}
use Rattle.plane.specs.Prelude.{determinant, IsPoint, IsRight, IsSame, IsStraight, On, Precedes, Triple}
use Rattle.plane.specs.Region.{IsInRegion, IsCornerList}

-- from a point on a line to one right of it, a point that is not right of the line is the first
first_not_right : (a b c d p : Triple) → IsPoint c → IsPoint d → IsPoint p → IsStraight a b c → IsRight a b d → IsNotRight a b p → On p c
    d → IsSame p c
first_not_right a b c d p at_c at_d at_p straight right above on =
    let m = combination_of p c d at_p at_c at_d on in
    same_without_last p c d m
    (no_weight_below m.k m.l m.m _ _ _ m.k_positive m.m_nonnegative (determinant_along p c d m a b) straight right above)

-- the same of the ends of a segment and what the cut adds
module _ (a b c d : Triple) (at_c : IsPoint c) (at_d : IsPoint d) (right : IsRight a b d) (p : Triple) (at_p : IsPoint p) where
  -- a point of the segment that is not right of the line is left,
  in_rest : (es : List Triple) → Ends a b c d es → On p c d → IsNotRight a b p → IsInRegion (c ∷ es) p
  in_rest es (at_corner straight none) on above =
      subst (λ (t : List Triple). IsInRegion (c ∷ t) p) (sym none) (first_not_right a b c d p at_c at_d at_p straight right above on)
  in_rest es (at_meeting x left h one) on above =
      let on_x = on_of_combination x c d h.rational at_c at_d h.mean in
      subst (λ (t : List Triple). IsInRegion (c ∷ t) p) (sym one) (elim (on_one_side p x c d at_p h.rational at_c at_d on on_x) [
        | inl before ↦ before
        | inr after ↦
            on_same_point h.rational (same_sym (first_not_right a b x d p h.rational at_d at_p h.straight right above after))
            (on_last_end c x)
      ])

  -- and what is left is on the segment
  on_whole : (es : List Triple) → Ends a b c d es → IsInRegion (c ∷ es) p → On p c d
  on_whole es (at_corner straight none) h =
      on_same_point at_c (same_sym (subst (λ (t : List Triple). IsInRegion (c ∷ t) p) none h)) (on_first_end c d)
  on_whole es (at_meeting x left m one) h =
      on_nested p c x c d at_p at_c m.rational at_c at_d (on_first_end c d) (on_of_combination x c d m.rational at_c at_d m.mean)
      (subst (λ (t : List Triple). IsInRegion (c ∷ t) p) one h)

-- the first of two corners
first_of_two : (cs : List Triple) → length cs ≡ 2 → take 1 cs ≡ corner cs 0 ∷ []
first_of_two [] two = absurd (omega (arith, two))
first_of_two (c ∷ cs) two = refl

module _ (a b : Triple) (cs : List Triple) (convex : AreConvex cs) (two : length cs ≡ 2) (kept : IsNotRight a b (corner cs 0))
    (gone : IsRight a b (corner cs 1)) (es : List Triple) (back : Ends a b (corner cs 0) (corner cs 1) es) (p : Triple) (at_p : IsPoint p)
  where
    abbrev at_c : IsPoint (corner cs 0)
    at_c = convex.rational 0 (omega (arith, two))

    abbrev at_d : IsPoint (corner cs 1)
    at_d = convex.rational 1 (omega (arith, two))

    -- what is left is part of the segment, and not right of the line
    pub segment_no_more : IsInRegion (take 1 cs ++ es) p → IsInRegion cs p × IsNotRight a b p
    segment_no_more h = (
      region_of_two cs p two (on_whole a b (corner cs 0) (corner cs 1) at_c at_d gone p at_p es back
          (subst (λ (t : List Triple). IsInRegion (t ++ es) p) (first_of_two cs two) h)),
      region_not_right a b (take 1 cs ++ es) p (convex_back a b cs convex 1 (omega arith) (omega (arith, two)) es back) at_p h
          (all_with (IsNotRight a b) a b _ _ (take 1 cs) es back (λ z m. zero_not_negative m.straight)
          (all_first cs 1 (omega (arith, two)) (IsNotRight a b)
          (λ i less. subst (λ k. IsNotRight a b (corner cs k)) (omega (arith, less)) kept))),
    )

    -- and what is on the segment and not right of the line is left
    pub segment_no_less : IsInRegion cs p → IsNotRight a b p → IsInRegion (take 1 cs ++ es) p
    segment_no_less h above =
        subst (λ (t : List Triple). IsInRegion (t ++ es) p) (sym (first_of_two cs two))
        (in_rest a b (corner cs 0) (corner cs 1) at_c at_d gone p at_p es back (two_of_region cs p two h) above)

-- ---- all corners on one side

module _ (a b : Triple) (cs : List Triple) (convex : AreConvex cs) where
  -- where no corner is right of the line, nothing is cut away
  pub none_cut : ((i : ℕ) → i < length cs → ¬ (IsRight a b (corner cs i))) → IsCut a b cs cs
  none_cut kept = record {
    convex = convex;
    exact = λ p at_p. (
      λ h. (h, at_least_zero (region_not_right a b cs p convex at_p h (λ i less. at_least_unless (kept i less)))),
      λ h. h.0,
    );
  }

  -- where all are, all is
  pub all_cut : ((i : ℕ) → i < length cs → IsRight a b (corner cs i)) → IsCut a b cs []
  all_cut gone = record {
    convex = record {
      rational = λ i less. absurd (omega (arith, less));
      left = λ i j l before after less. absurd (omega (arith, less));
      different = λ two. absurd (omega (arith, two));
    };
    exact = λ p at_p. (λ h. absurd h, λ h. h.1 (region_right a b cs p convex at_p h.0 gone));
  }

-- ---- some corners on each

-- the relation of four triples does not have these signs
no_four : (r t d e f g h z : ℤ) → r *ℤ f -ℤ t *ℤ g +ℤ d *ℤ h -ℤ e *ℤ z ≡ pos 0 → pos 0 <ℤ r → pos 0 <ℤ t → pos 0 <ℤ d → pos 0 <ℤ e
    → pos 0 ≤ℤ f → g <ℤ pos 0 → pos 0 ≤ℤ h → z <ℤ pos 0 → ⊥
no_four r t d e f g h z relation hr ht hd he hf hg hh hz =
    omega (
      arith,
      ints,
      relation,
      mul_nonnegative r f (weak hr) hf,
      mul_negative t g ht hg,
      mul_nonnegative d h (weak hd) hh,
      mul_negative
          e z he hz,
    )

-- from one that is right of the line to the last, which is too, all are
pub one_block : (a b : Triple) (cs : List Triple) → AreConvex cs → (m : ℕ) → 0 < m → ¬ (IsRight a b (corner cs 0)) → IsRight a b
    (corner cs m)
    → IsRight a b (corner cs (length cs - 1)) → (j : ℕ) → m ≤ j → j < length cs → IsRight a b (corner cs j)
one_block a b cs convex m some first right last j past within = elim (cases_lt j (length cs - 1)) [
  | inr end ↦ subst (λ k. IsRight a b (corner cs k)) (omega (arith, end, within)) last
  | inl more ↦ elim (cases_lt m j) [
    | inr here ↦ subst (λ k. IsRight a b (corner cs k)) (omega (arith, past, here)) right
    | inl after ↦ elim (lt_or_le (determinant a b (corner cs j)) (pos 0)) [
      | inl h ↦ h
      | inr left ↦
          let n = length cs - 1 in
          let in_n : n < length cs = omega (arith, within) in
          absurd (no_four _ _ _ _ _ _ _ _ (four_beside (corner cs 0) (corner cs m) (corner cs j) (corner cs n) a b)
          (convex.left m j n after more in_n) (convex.left 0 j n (omega (arith, after)) more in_n)
          (convex.left 0 m n some (omega (arith, after, more)) in_n) (convex.left 0 m j some after within)
          (at_least_unless first) right left last)
    ]
  ]
]

module _ (a b : Triple) (cs : List Triple) (convex : AreConvex cs) (m : ℕ) (some : 0 < m) (rest : m < length cs)
    (kept : (i : ℕ) → i < m → ¬ (IsRight a b (corner cs i))) (gone : (i : ℕ) → m ≤ i → i < length cs → IsRight a b (corner cs i)) where
  not_right_kept : (i : ℕ) → i < m → IsNotRight a b (corner cs i)
  not_right_kept i less = at_least_unless (kept i less)

  -- of a polygon the first m corners stay, with the meetings on both sides
  pub cut_of_polygon : 3 ≤ length cs → (es fs : List Triple) → Ends a b (corner cs (m - 1)) (corner cs m) es
      → Ends a b (corner cs 0) (corner cs (length cs - 1)) fs → IsCut a b cs ((take m cs ++ es) ++ fs)
  cut_of_polygon many es fs back front = record {
    convex = convex_both a b cs convex m some rest many es fs back front;
    exact = λ p at_p. (
      λ h.
          let part = polygon_no_more a b cs convex many m some rest not_right_kept gone es fs back front p at_p h in
          (part.0, at_least_zero part.1),
      λ h. polygon_no_less a b cs convex many m some rest not_right_kept gone es fs back front p at_p h.0 (at_least_unless h.1),
    );
  }

-- of a segment the first corner stays, with the meeting
pub cut_of_segment : (a b : Triple) (cs : List Triple) → AreConvex cs → length cs ≡ 2 → ¬ (IsRight a b (corner cs 0)) → IsRight a b
    (corner cs 1)
    → (es : List Triple) → Ends a b (corner cs 0) (corner cs 1) es → IsCut a b cs (take 1 cs ++ es)
cut_of_segment a b cs convex two kept gone es back = record {
  convex = convex_back a b cs convex 1 (omega arith) (omega (arith, two)) es back;
  exact = λ p at_p. (
    λ h.
        let part = segment_no_more a b cs convex two (at_least_unless kept) gone es back p at_p h in
        (part.0, at_least_zero part.1),
    λ h. segment_no_less a b cs convex two (at_least_unless kept) gone es back p at_p h.0 (at_least_unless h.1),
  );
}

-- ---- from wherever the corners are read

module _ (a b : Triple) (xs ys : List Triple) where
  -- the corners that are cut may be read from another one on,
  pub cut_from : (rest : List Triple) → IsCut a b (ys ++ xs) rest → IsCut a b (xs ++ ys) rest
  cut_from rest cut = record {
    convex = cut.convex;
    exact = λ p at_p. (
      λ h. let part = (cut.exact p at_p).0 h in (region_turned ys xs p part.0, part.1),
      λ h. (cut.exact p at_p).1 (region_turned xs ys p h.0, h.1),
    );
  }

  -- and so may those that are left
  pub cut_to : (cs : List Triple) → IsCut a b cs (xs ++ ys) → IsCut a b cs (ys ++ xs)
  cut_to cs cut = record {
    convex = convex_turned xs ys cut.convex;
    exact = λ p at_p. (
      λ h. (cut.exact p at_p).0 (region_turned ys xs p h),
      λ h. region_turned xs ys p ((cut.exact p at_p).1 h),
    );
  }

-- from the least on they are the corner list of what is left
pub corners_of_cut : (a b : Triple) (cs rest : List Triple) → IsCut a b cs rest
    → ((i : ℕ) → i < length rest → ¬ (Precedes (corner rest i) (corner rest 0))) → IsCornerList (IsUncut a b cs) rest
corners_of_cut a b cs rest cut least = record { are_corners = corners_of_convex rest cut.convex least; exact = cut.exact }
