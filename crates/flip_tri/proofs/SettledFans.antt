-- Where no diagonal is to be flipped, and no vertex is in the triangle at the ends of a fan, that triangle is one of the fan.
use Rattle.std.proofs.Common.{◌≡◌, inl, inr, refl, sym, ap, subst, ◌∙◌, ℕ, ◌-◌, pos, ◌+ℤ◌, ◌*ℤ◌, ◌<ℤ◌}
use Rattle.std.proofs.Common.{List, [], ◌∷◌, ◌++◌, length, get_or, arith}
use Rattle.std.specs.List.{Contains}
use Rattle.integer_algebra.proofs.Polynomial.{◌⊕◌, ◌⊗◌, same_value}
use Rattle.integer_algebra.proofs.SignSteps.{at_most_unless, mean_not_positive, not_both, not_both_positive, positive_not_negative}
use Rattle.integer_algebra.proofs.SignSteps.{turned_not_negative, weak, zero_not_positive}
use Rattle.plane.proofs.Turns.{determinant as det, determinant_same_first, determinant_shift, determinant_swap_last, parts}
use Rattle.plane.specs.Order.{IsBefore}
use Rattle.plane.specs.Point.{Point, Triple, whole}
use Rattle.plane.specs.Triangle.{IsInTriangle}
use Rattle.plane.specs.Turn.{IsLeft, determinant}
use Rattle.rings.specs.Ring.{vertex}
use Rattle.meshes.proofs.Boundaries.{IsPartTiling}
use Rattle.meshes.proofs.Joins.{place_of}
use Rattle.meshes.specs.Side.{tri_at}
use Rattle.meshes.specs.declared.tri.Tri.{Tri}
use Rattle.cut_tri.proofs.Shapes.{last_is}
use Rattle.cut_tri.specs.Cut.{IsPlaceInCorner}
use Rattle.flip_tri.proofs.Fans.{IsFrom, about_ends, about_left, left_of_second, numbers_apart, round_from_second}
use Rattle.flip_tri.specs.Fan.{Fan, IsAbout}
use Rattle.flip_tri.specs.Fan.Fan.{last, next}
use Rattle.flip_tri.specs.Flip.{HasNoFlips}

-- ---- five points

-- the turn at c from w to e, by those at c from p to e and at p from w to c, where v is beside them all
five_turns : (v w p c e : Triple) →
    determinant v p c *ℤ determinant w c e ≡ determinant v w c *ℤ determinant p c e +ℤ determinant v c e *ℤ determinant w p c
five_turns v w p c e =
    same_value (det 0 2 3 ⊗ det 1 3 4) (det 0 1 3 ⊗ det 2 3 4 ⊕ det 0 3 4 ⊗ det 1 2 3) (parts (v ∷ w ∷ p ∷ c ∷ e ∷ []) []) refl

-- where those are not to the left, it is not
not_left_past : (v w p c e : Triple) → IsLeft v p c → IsLeft v w c → IsLeft v c e → ¬ IsLeft p c e → ¬ IsLeft w p c → ¬ IsLeft w c e
not_left_past v w p c e first before after flat_next flat left =
    not_both_positive left
    (mean_not_positive (determinant v p c) (determinant v w c) (determinant v c e) (determinant w c e) (determinant p c e) (determinant w p c) first
    (weak before) (weak after) (five_turns v w p c e) (at_most_unless flat_next) (at_most_unless flat))

-- ---- the fan

module _ (corners : List Point) (tris : List Tri) (settled : HasNoFlips corners tris) (v w : ℕ) (ms : List ℕ) (u : ℕ) (P : ℕ → Type 0)
    (tiling : IsPartTiling corners (v ∷ w ∷ (ms ++ u ∷ [])) tris P)
    (least : (i : ℕ) → Contains (v ∷ w ∷ (ms ++ u ∷ [])) i → ¬ (i ≡ v) → IsBefore (vertex corners v) (vertex corners i)) where
  -- the third corner of the first triangle of a fan
  abbrev third_of : (p : ℕ) → Fan tris P v u p → ℕ
  third_of p (last q about) = u
  third_of p (next q c about fan) = c

  -- that triangle
  first_of : (p : ℕ) (fan : Fan tris P v u p) → IsAbout tris P v p (third_of p fan)
  first_of p (last q about) = about
  first_of p (next q c about fan) = about

  -- two triangles of the fan that share a side do not turn left at its end
  not_left_between : (p c e : ℕ) → IsAbout tris P v p c → IsAbout tris P v c e
      → ¬ IsLeft (whole (vertex corners p)) (whole (vertex corners c)) (whole (vertex corners e))
  not_left_between p c e first second left =
      let ends = about_ends corners tris v w ms u P tiling p c first in
      let further = about_ends corners tris v w ms u P tiling c e second in
      let t = tri_at tris first.tri in
      settled second.tri first.tri v c e p second.in_list first.in_list (record {
        left = second.round;
        right = round_from_second t p c v (round_from_second t v p c first.round);
        before_end = least c ends.1 ends.3;
        before_left = least e further.1 further.3;
        before_right = least p ends.0 ends.2;
        convex = left;
      })

  -- so no triangle of the fan turns left from w, and the last one does not
  last_of : (p : ℕ) (fan : Fan tris P v u p) → IsFrom corners v w p
      → ¬ IsLeft (whole (vertex corners w)) (whole (vertex corners p)) (whole (vertex corners (third_of p fan)))
      → (q : ℕ) × IsAbout tris P v q u × IsFrom corners v w q × (¬ IsLeft (whole (vertex corners w)) (whole (vertex corners q)) (whole (vertex corners u)))
  last_of p (last q about) from flat = (p, about, from, flat)
  last_of p (next q c about fan) from flat =
      let e : ℕ = third_of c fan in
      let before = left_of_second corners tris v w ms u P tiling least p c about from in
      let at : ℕ → Triple = λ n. whole (vertex corners n) in
      last_of c fan (inr before)
      (not_left_past (at v) (at w) (at p) (at c) (at e) (about_left corners tris v w ms u P tiling p c about) before
      (about_left corners tris v w ms u P tiling c e (first_of c fan)) (not_left_between p c e about (first_of c fan)) flat)

  module _ (none : (k : ℕ) → ¬ IsPlaceInCorner corners (v ∷ w ∷ (ms ++ u ∷ [])) k) where
    -- the last triangle has w as its second corner, as it does not turn left from w
    second_is : (q : ℕ) → IsAbout tris P v q u → IsFrom corners v w q
        → ¬ IsLeft (whole (vertex corners w)) (whole (vertex corners q)) (whole (vertex corners u)) → q ≡ w
    second_is q about (inl e) flat = e
    second_is q about (inr before) flat =
        let piece : List ℕ = v ∷ w ∷ (ms ++ u ∷ []) in
        let ends = about_ends corners tris v w ms u P tiling q u about in
        let (k, in_k, at_k) = place_of piece q ends.0 in
        let at : ℕ → Triple = λ n. whole (vertex corners n) in
        let not_zero : ¬ (k ≡ 0) = λ e. ends.2 (sym at_k ∙ ap (λ n. get_or piece n 0) e) in
        let not_one : ¬ (k ≡ 1) = λ e. (numbers_apart corners v w q before).1 (sym (ap (λ n. get_or piece n 0) e) ∙ at_k) in
        let not_end : ¬ (k ≡ length piece - 1) = λ e. ends.4 (sym at_k ∙ ap (λ n. get_or piece n 0) e ∙ last_is v w ms u) in
        let left : IsLeft (at u) (at v) (at q) =
        subst (λ d. pos 0 <ℤ d) (determinant_shift (at u) (at v) (at q)) (about_left corners tris v w ms u P tiling q u about) in
        let inside : IsInTriangle (vertex corners u) (vertex corners v) (vertex corners w) (at q) = record {
          not_right_of_first = positive_not_negative left;
          not_right_of_second = positive_not_negative before;
          not_right_of_third = λ right. not_both right (turned_not_negative (determinant_swap_last (at w) (at q) (at u)) (at_most_unless flat));
        } in
        absurd (none k (record {
          after_second = omega (arith, not_zero, not_one);
          before_last = omega (arith, in_k, not_end);
          in_triangle = subst (λ (n : ℕ). IsInTriangle (vertex corners n) (vertex corners v) (vertex corners w) (at (get_or piece k 0)))
              (sym (last_is v w ms u)) (subst (λ (n : ℕ). IsInTriangle (vertex corners u) (vertex corners v) (vertex corners w) (at n)) (sym at_k) inside);
        }))

    -- so the triangle at the ends of the fan is one of its triangles
    pub triangle_at_first : Fan tris P v u w → IsAbout tris P v w u
    triangle_at_first fan =
        let at : ℕ → Triple = λ n. whole (vertex corners n) in
        let (q, about, from, flat) = last_of w fan (inl refl)
        (λ left. not_both_positive left (zero_not_positive (determinant_same_first (at w) (at (third_of w fan))))) in
        subst (λ (n : ℕ). IsAbout tris P v n u) (second_is q about from flat) about
