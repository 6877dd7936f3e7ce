-- A triangle beyond a side, of which a point before the side sees one ray, all of it or what is in a window: the cone through which it sees
-- the triangle.
use Rattle.std.proofs.Common.{◌≡◌, ◌⊎◌, ◌↔◌, inl, inr, List, ℤ, pos, ◌+ℤ◌, ◌-ℤ◌, ◌*ℤ◌, neg_ℤ, ◌<ℤ◌, ◌≤ℤ◌, arith}
use Rattle.std.proofs.lemmas.Int.{ints}
use Rattle.integer_algebra.proofs.Laws.{neg-mul}
use Rattle.integer_algebra.proofs.SignSteps.{at_least_unless, at_most_unless, mean_not_negative, mean_not_positive, mean_zero}
use Rattle.integer_algebra.proofs.SignSteps.{negative_not_zero, positive_of_not_zero, turned_not_positive, zero_not_negative}
use Rattle.integer_algebra.proofs.SignSteps.{zero_not_positive, zero_of_neither, one_positive, opposite_not_negative, positive_not_zero}
use Rattle.integer_algebra.proofs.SignSteps.{turned_negative, weak}
use Rattle.plane.proofs.Meetings.{values_apart, zero_combination, zero_point}
use Rattle.plane.proofs.Points.{same_refl, whole_is_point}
use Rattle.plane.proofs.Segments.{combination_of_same, on_first_end, on_is_straight, on_last_end, on_same_point, ray_on_left, same_straight}
use Rattle.plane.proofs.Segments.{same_without_last}
use Rattle.plane.proofs.Turns.{combination_of, determinant_along, determinant_along_first, determinant_same_ends, determinant_same_first}
use Rattle.plane.proofs.Turns.{determinant_same_last, determinant_shift, determinant_swap_first, five_triples, straight_shift}
use Rattle.plane.proofs.Turns.{straight_swap_first, straight_swap_last, IsCombination, areas_add, four_triples_in_W, four_triples_in_X}
use Rattle.plane.proofs.Turns.{four_triples_in_Y, on_of_combination}
use Rattle.plane.specs.Prelude.{determinant, IsLeft, IsPoint, IsRight, IsSame, IsStraight, On, Point, Triple, whole}
use Rattle.rings.specs.Prelude.{Sees, vertex}
use Rattle.ring_laws.proofs.Triangles.{in_or_not}
use Rattle.meshes.proofs.Cones.RaySigns.{triangle_in_front, ahead, ahead_turn, in_front, in_line, in_line_ahead, in_line_too, beyond_side}
use Rattle.meshes.proofs.Cones.RaySigns.{not_left_ahead, not_past_left, not_past_right, not_right_ahead}
use Rattle.meshes.proofs.Cones.Held.{end_on_side, held, held_between}
use Rattle.meshes.proofs.Cones.SideReach.{IsBeyondSide}
use Rattle.meshes.proofs.Cones.SideViews.{IsWindow, ReachesSide}
use Rattle.meshes.proofs.Sight.{sees_before, sees_on}
use Rattle.meshes.specs.Cone.{Holds, IsSeenThrough, Cone}
use Rattle.meshes.specs.Prelude.{IsInTri}
use Rattle.meshes.specs.declared.tri.Tri.{Tri}

-- one part of the relation of four points, as two sums
crossed : (h l r g a b c d : ℤ) → h *ℤ a -ℤ l *ℤ b +ℤ r *ℤ c -ℤ g *ℤ d ≡ pos 0
    → pos 1 *ℤ (r *ℤ c -ℤ l *ℤ b) ≡ neg_ℤ h *ℤ a +ℤ g *ℤ d
crossed h l r g a b c d e = omega (arith, ints, neg-mul h a)

-- a bound that reaches the side is in front
reach_front : (d s t u v cr cl : ℤ) → d ≡ s -ℤ t *ℤ pos 1 → s ≡ u → t ≡ v → u -ℤ v +ℤ cr -ℤ cl ≡ pos 0 → cr <ℤ cl → pos 0 <ℤ d
reach_front d s t u v cr cl e f g sum h = omega (arith, ints)

module _ (corners : List Point) (t : Tri) (q l r : Point) (beyond : IsBeyondSide corners t q l r) where
  abbrev Q : Triple
  Q = whole q

  abbrev L : Triple
  L = whole l

  abbrev R : Triple
  R = whole r

  in_l : IsInTri corners t L
  in_l = beyond.side L (whole_is_point l) (on_last_end R L)

  in_r : IsInTri corners t R
  in_r = beyond.side R (whole_is_point r) (on_first_end R L)

  -- ---- one ray

  module _ (off : ¬ IsInTri corners t Q) where
    -- the triangle is in front of q
    front : (g : Point) × ((x : Triple) → IsPoint x → IsInTri corners t x → IsLeft Q (whole g) x)
    front = triangle_in_front corners t q off

    -- c is a point of the triangle that q sees, and in line with all that q sees of the side
    module _ (c : Point) (in_c : IsInTri corners t (whole c)) (sees_c : Sees corners Q (whole c))
        (line : (y : Triple) → IsPoint y → On y R L → Sees corners Q y → IsStraight Q (whole c) y) (x : Triple) (at_x : IsPoint x)
        (in_x : IsInTri corners t x) where
      -- what q sees is in line with it,
      only_line : Sees corners Q x → IsStraight Q (whole c) x
      only_line sees =
          let over = (beyond.seen_over x at_x in_x).0 sees in
          let y = over.point in
          let w = combination_of y Q x over.rational (whole_is_point q) at_x over.on_way in
          let some = positive_of_not_zero w.m_nonnegative
          (λ none. off (beyond.side Q (whole_is_point q) (on_same_point over.rational (same_without_last y Q x w none) over.on_side))) in
          in_line_ahead w.k w.l w.m _ _ _ some (determinant_same_ends Q (whole c)) (determinant_along y Q x w Q (whole c))
          (line y over.rational over.on_side over.seen)

      -- and what is in line with it q sees
      all_line : IsStraight Q (whole c) x → Sees corners Q x
      all_line straight =
          let C = whole c in
          let at_q = whole_is_point q in
          let at_c = whole_is_point c in
          elim (ray_on_left Q C x at_q at_c at_x (whole front.0) straight (front.1 C at_c in_c) (front.1 x at_x in_x)) [
            | inl before ↦ sees_before corners Q x C at_q at_x at_c before sees_c
            | inr after ↦ sees_on corners Q C x at_q at_c at_x after sees_c (beyond.sees C x at_c at_x in_c in_x)
          ]

    -- so it sees the triangle through a cone that holds just the points in line with c
    ray_cone : (c a b : Point) → IsInTri corners t (whole c) → IsInTri corners t (whole a) → IsInTri corners t (whole b)
        → Sees corners Q (whole c) → ((y : Triple) → IsPoint y → On y R L → Sees corners Q y → IsStraight Q (whole c) y)
        → IsStraight Q (whole b) (whole a)
        → ((x : Triple) → IsPoint x → IsInTri corners t x → Holds q (record { left = a; right = b }) x ↔ IsStraight Q (whole c) x)
        → IsSeenThrough corners t q (record { left = a; right = b })
    ray_cone c a b in_c in_a in_b sees_c line flat same = record {
      seen = λ x at_x in_x. (
        λ sees. (same x at_x in_x).1 (only_line c in_c sees_c line x at_x in_x sees),
        λ holds. all_line c in_c sees_c line x at_x in_x ((same x at_x in_x).0 holds),
      );
      in_order = λ right. negative_not_zero right flat;
      place = inr (record {
        toward = front.0;
        triangle = front.1;
        left = front.1 (whole a) (whole_is_point a) in_a;
        right = front.1 (whole b) (whole_is_point b) in_b;
      });
    }

  -- ---- an end of the side alone

  module _ (right : IsRight Q R L) where
    -- from beyond its line q is not in the triangle
    not_within : ¬ IsInTri corners t Q
    not_within in_q =
        let at_q = whole_is_point q in
        let over = (beyond.seen_over Q at_q in_q).0 (beyond.sees Q Q at_q at_q in_q in_q) in
        let y = over.point in
        let same = combination_of_same y Q Q (same_refl Q) (combination_of y Q Q over.rational at_q at_q over.on_way) in
        let on = on_same_point over.rational same over.on_side in
        let straight = on_is_straight Q R L at_q (whole_is_point r) (whole_is_point l) on in
        negative_not_zero (rw (determinant_shift Q R L) right) straight

    pub end_cone : (c : Point) → (c ≡ l) ⊎ (c ≡ r) → ((y : Triple) → IsPoint y → On y R L → Sees corners Q y ↔ IsSame y (whole c))
        → IsSeenThrough corners t q (record { left = c; right = c })
    end_cone c which seen =
        let C = whole c in
        let at_c = whole_is_point c in
        let on_c : On C R L = end_on_side l r c which in
        let in_c = beyond.side C at_c on_c in
        ray_cone not_within c c c in_c in_c in_c ((seen C at_c on_c).1 (same_refl C))
        (λ y at_y on sees. same_straight Q C y C at_c ((seen y at_y on).0 sees) (determinant_same_last Q C))
        (determinant_same_last Q C)
        (λ x at_x in_x. (
          λ h. zero_of_neither (at_most_unless h.not_left) (at_least_unless h.not_right),
          λ straight. held (zero_not_positive straight) (zero_not_negative straight),
        ))

  -- ---- all of the side, in line with q

  module _ (flat : IsStraight Q R L) (seen : (y : Triple) → IsPoint y → On y R L → Sees corners Q y) where
    -- a point of the side sees all of the triangle, and the ends hold it
    on_side_cone : On Q R L → IsInTri corners t Q → IsSeenThrough corners t q (record { left = l; right = r })
    on_side_cone on in_q =
        let at_q = whole_is_point q in
        let w = combination_of Q R L at_q (whole_is_point r) (whole_is_point l) on in
        record {
          seen = λ x at_x in_x. (
            λ sees. held
                (mean_not_positive w.k w.l w.m _ _ _ w.k_positive w.l_nonnegative w.m_nonnegative (determinant_along_first Q R L w L x)
                (turned_not_positive (determinant_swap_first L R x) (at_least_unless (beyond.not_before x in_x)))
                (zero_not_positive (determinant_same_first L x)))
                (mean_not_negative w.k w.l w.m _ _ _ w.k_positive w.l_nonnegative w.m_nonnegative (determinant_along_first Q R L w R x)
                (zero_not_negative (determinant_same_first R x)) (at_least_unless (beyond.not_before x in_x))),
            λ holds. beyond.sees Q x at_q at_x in_q in_x,
          );
          in_order = λ right. negative_not_zero right flat;
          place = inl in_q;
        }

    -- in front of q, the ends hold what is in line with them
    ends_hold : (g : Point) → IsLeft Q (whole g) L → IsLeft Q (whole g) R → (x : Triple)
        → Holds q (record { left = l; right = r }) x ↔ IsStraight Q L x
    ends_hold g left_l left_r x =
        let e = five_triples Q (whole g) L R x in
        let none = straight_swap_last Q R L flat in (
          λ h. in_line _ _ _ _ _ _ e left_l left_r none (at_most_unless h.not_left) (at_least_unless h.not_right),
          λ straight. held (zero_not_positive straight) (zero_not_negative (in_line_too _ _ _ _ _ _ e left_l left_r none straight)),
        )

    -- so q sees the triangle through the ends
    pub side_cone : IsSeenThrough corners t q (record { left = l; right = r })
    side_cone = elim (in_or_not (vertex corners t.a) (vertex corners t.b) (vertex corners t.c) Q) [
      | inl in_q ↦
          let line : IsStraight L R Q = straight_swap_first R L Q (straight_shift Q R L flat) in
          on_side_cone (beyond.on_line Q (whole_is_point q) in_q line) in_q
      | inr off ↦
          let ahead = front off in
          ray_cone off l l r in_l in_l in_r (seen L (whole_is_point l) (on_last_end R L))
          (λ y at_y on sees.
          let w = combination_of y R L at_y (whole_is_point r) (whole_is_point l) on in
          mean_zero w.k w.l w.m _ _ _ w.k_positive w.l_nonnegative w.m_nonnegative (determinant_along y R L w Q L)
          (straight_swap_last Q R L flat) (determinant_same_last Q L))
          flat
          (λ x at_x in_x. ends_hold ahead.0 (ahead.1 L (whole_is_point l) in_l) (ahead.1 R (whole_is_point r) in_r) x)
    ]

  -- ---- what is in a window

  module _ (cone : Cone) (w : IsWindow corners q l r cone) where
    -- q is right of the side as the triangle has it
    right : IsRight L R Q
    right =
        let here : IsLeft R L Q = rw (determinant_shift Q R L) w.before in
        turned_negative (determinant_swap_first R L Q) here

    module _ (x : Triple) (at_x : IsPoint x) (in_x : IsInTri corners t x) where
      -- ---- what is seen is held

      seen_held : Sees corners Q x → Holds q cone x
      seen_held sees =
          let at_q = whole_is_point q in
          let over = (beyond.seen_over x at_x in_x).0 sees in
          let y = over.point in
          let c = combination_of y Q x over.rational at_q at_x over.on_way in
          let some = positive_of_not_zero c.m_nonnegative
          (λ none. positive_not_zero (rw (determinant_shift Q R L) w.before) (on_is_straight Q R L at_q (whole_is_point r) (whole_is_point l)
          (on_same_point over.rational (same_without_last y Q x c none) over.on_side))) in
          let holds = (w.seen y over.rational over.on_side).0 over.seen in
          let A = whole cone.left in
          let B = whole cone.right in
          held
          (not_left_ahead c.k c.l c.m _ _ _ some (determinant_same_ends Q A) (determinant_along y Q x c Q A) c.k_positive
          (at_most_unless holds.not_left))
          (not_right_ahead c.k c.l c.m _ _ _ some (determinant_same_ends Q B) (determinant_along y Q x c Q B) c.k_positive
          (at_least_unless holds.not_right))

      -- ---- what is held is seen

      -- the way to x crosses the line of the side
      below : determinant R L x ≤ℤ pos 0
      below = turned_not_positive (determinant_swap_first L R x) (at_least_unless (beyond.not_before x in_x))

      between : determinant Q L x <ℤ determinant Q R x
      between = beyond_side _ _ _ _ _ (four_triples_in_W Q R L x) below w.before at_x

      crossing : Triple
      crossing = zero_point (determinant Q R x) (determinant Q L x) R L

      at_crossing : IsPoint crossing
      unfolding crossing
      at_crossing = values_apart _ _ between

      way : IsCombination crossing Q x
      unfolding crossing
      way = record {
        k = pos 1;
        l = neg_ℤ (determinant R L x);
        m = determinant Q R L;
        k_positive = one_positive;
        l_nonnegative = opposite_not_negative below;
        m_nonnegative = weak w.before;
        in_X = crossed (determinant R L x) (determinant Q L x) (determinant Q R x) _ Q.X R.X L.X x.X (four_triples_in_X Q R L x);
        in_Y = crossed (determinant R L x) (determinant Q L x) (determinant Q R x) _ Q.Y R.Y L.Y x.Y (four_triples_in_Y Q R L x);
        in_W = crossed (determinant R L x) (determinant Q L x) (determinant Q R x) _ Q.W R.W L.W x.W (four_triples_in_W Q R L x);
      }

      on_way : On crossing Q x
      on_way = on_of_combination crossing Q x at_crossing (whole_is_point q) at_x way

      module _ (holds : Holds q cone x) where
        -- between its ends,
        on_side : IsCombination crossing R L
        unfolding crossing
        on_side =
            zero_combination (determinant Q R x) (determinant Q L x) R L
            (not_past_right _ _ _ _ _ _ (five_triples Q (whole cone.right) R L x) w.right_ray.not_past_right
            w.right_ray.not_past_left w.right_ray.apart w.before between (at_least_unless holds.not_right))
            (not_past_left _ _ _ _ _ _ (five_triples Q (whole cone.left) R L x) w.left_ray.not_past_right
            w.left_ray.not_past_left w.left_ray.apart w.before between (at_most_unless holds.not_left))

        -- where the cone holds it,
        crossing_held : Holds q cone crossing
        crossing_held =
            held_between q cone crossing Q x at_crossing (whole_is_point q) at_x
            (zero_not_positive (determinant_same_ends Q (whole cone.left))) (at_most_unless holds.not_left)
            (zero_not_negative (determinant_same_ends Q (whole cone.right))) (at_least_unless holds.not_right) on_way

        -- so q sees x over it
        held_seen : Sees corners Q x
        held_seen =
            let on = on_of_combination crossing R L at_crossing (whole_is_point r) (whole_is_point l) on_side in
            (beyond.seen_over x at_x in_x).1 (record {
              point = crossing;
              rational = at_crossing;
              on_side = on;
              on_way = on_way;
              seen = (w.seen crossing at_crossing on).1 crossing_held;
            })

    -- both rays are in front with the triangle
    ray_in_front : (c : Point) → ReachesSide q l r c → IsLeft Q (whole (ahead q l r)) (whole c)
    ray_in_front c reach =
        reach_front _ _ _ _ _ _ _ (ahead_turn q l r (whole c)) (determinant_shift (whole c) L R) (determinant_shift Q L R)
        (areas_add q c l r) reach.apart

    -- so q sees the triangle through the window
    pub window_cone : IsSeenThrough corners t q cone
    window_cone = record {
      seen = λ x at_x in_x. (seen_held x at_x in_x, held_seen x at_x in_x);
      in_order = w.in_order;
      place = inr (record {
        toward = ahead q l r;
        triangle = λ x at_x in_x. in_front q l r right x at_x (at_least_unless (beyond.not_before x in_x));
        left = ray_in_front cone.left w.left_ray;
        right = ray_in_front cone.right w.right_ray;
      });
    }
