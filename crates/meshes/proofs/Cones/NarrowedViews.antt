-- What a point sees of a side of a triangle is what the narrowed cone tells: its rays meet the side, and leave of it what the cone does.
use Rattle.std.proofs.Common.{◌↔◌, List, ℤ, pos, ◌<ℤ◌, ◌≤ℤ◌, arith, ◌≡◌, inl, inr, refl, ℕ, Some, None}
use Rattle.std.proofs.lemmas.Int.{ints}
use Rattle.std.specs.Prelude.{Option}
use Rattle.integer_algebra.proofs.SignSteps.{not_below, not_both, not_both_positive, positive_not_negative, turned_negative}
use Rattle.integer_algebra.proofs.SignSteps.{turned_not_negative, weak, weak_order, zero_not_negative, zero_not_positive, at_least_unless}
use Rattle.integer_algebra.proofs.SignSteps.{at_most_unless}
use Rattle.integer_algebra.proofs.Signs.{is_negative, is_positive, is_zero, sign}
use Rattle.plane.proofs.Points.{whole_is_point}
use Rattle.plane.proofs.Segments.{on_first_end, on_last_end, stays_left, stays_right}
use Rattle.plane.proofs.Turns.{determinant_same_last, determinant_swap_last, five_triples}
use Rattle.plane.specs.Prelude.{determinant, IsLeft, IsPoint, IsRight, IsStraight, On, Point, Triple, whole}
use Rattle.rings.specs.Sees.{Sees}
use Rattle.ring_laws.proofs.Triangles.{not_right_between}
use Rattle.meshes.proofs.Cones.Held.{not_left_between, held_between}
use Rattle.meshes.proofs.Cones.Narrowing.{narrowed_left_by, narrowed_right_by, narrowed_by}
use Rattle.meshes.proofs.Cones.RaySigns.{left_too, not_left_too, not_right_too, right_too}
use Rattle.meshes.proofs.Cones.SideViews.{IsWindow, ReachesSide, IsFacing, SideView, beyond_view, hidden, side_seen, through_window}
use Rattle.meshes.proofs.Cones.SideViews.{whole_side}
use Rattle.meshes.specs.Cone.{Cone, Holds, narrowed_left, narrowed_right, IsConeOf, IsSeenThrough, narrowed}
use Rattle.meshes.specs.Prelude.{IsInTri, tri_at}
use Rattle.meshes.specs.declared.tri.Tri.{Tri}

-- ---- orders

-- a negative number is below one that is not, and one that is not positive below one that is
below_last : {d e : ℤ} → d <ℤ pos 0 → pos 0 ≤ℤ e → d <ℤ e
below_last h k = omega (arith, ints)

below_first : {d e : ℤ} → d ≤ℤ pos 0 → pos 0 <ℤ e → d <ℤ e
below_first h k = omega (arith, ints)

module _ (q l r : Point) where
  abbrev Q : Triple
  Q = whole q

  abbrev L : Triple
  L = whole l

  abbrev R : Triple
  R = whole r

  -- ---- the new rays

  -- q is left of the side from r to l, and the side is not left of the cone nor right of it
  module _ (cone : Cone) (up : IsLeft Q R L) (near : determinant Q (whole cone.left) R ≤ℤ pos 0)
      (far : pos 0 ≤ℤ determinant Q (whole cone.right) L) where
    abbrev left' : Point
    left' = narrowed_left q cone.left l

    abbrev right' : Point
    right' = narrowed_right q cone.right r

    -- the right end is right of the left one
    down : IsRight Q L R
    down = turned_negative (determinant_swap_last Q R L) up

    -- they meet the side: the left one,
    left_reaches : ReachesSide q l r left'
    left_reaches =
        narrowed_left_by q cone.left l (ReachesSide q l r)
        (λ h. record { not_past_right = near; not_past_left = weak h; apart = below_first near h })
        (λ h.
        let none = zero_not_negative (determinant_same_last Q L) in
        record { not_past_right = weak_order down; not_past_left = none; apart = below_last down none })

    -- and the right one
    right_reaches : ReachesSide q l r right'
    right_reaches =
        narrowed_right_by q cone.right r (ReachesSide q l r)
        (λ h. record { not_past_right = weak_order h; not_past_left = far; apart = below_last h far })
        (λ h.
        let none = zero_not_positive (determinant_same_last Q R) in
        record { not_past_right = none; not_past_left = weak up; apart = below_first none up })

    -- the left one is not right of the right one, as before
    rays_in_order : ¬ IsRight Q (whole cone.right) (whole cone.left) → ¬ IsRight Q (whole right') (whole left')
    rays_in_order before =
        narrowed_right_by q cone.right r (λ b. ¬ IsRight Q (whole b) (whole left'))
        (λ h. narrowed_left_by q cone.left l (λ a. ¬ IsRight Q (whole cone.right) (whole a)) (λ k. before) (λ k. not_below far))
        (λ h. narrowed_left_by q cone.left l (λ a. ¬ IsRight Q R (whole a))
        (λ k. not_below (turned_not_negative (determinant_swap_last Q (whole cone.left) R) near))
        (λ k. positive_not_negative up))

    module _ (y : Triple) (at_y : IsPoint y) (on : On y R L) where
      -- a point of the side is not left of the new left ray where it was not left of the old one,
      same_left : ¬ IsLeft Q (whole cone.left) y ↔ ¬ IsLeft Q (whole left') y
      same_left =
          narrowed_left_by q cone.left l (λ a. ¬ IsLeft Q (whole cone.left) y ↔ ¬ IsLeft Q (whole a) y) (λ h. (λ n. n, λ n. n))
          (λ h. (
            λ n k. not_both_positive k (not_left_between Q L y R L at_y (whole_is_point r) (whole_is_point l) (weak_order down)
                (zero_not_positive (determinant_same_last Q L)) on),
            λ n k. not_both_positive k (not_left_between Q (whole cone.left) y R L at_y (whole_is_point r) (whole_is_point l) near h on),
          ))

      -- and not right of the new right ray where it was not right of the old one
      same_right : ¬ IsRight Q (whole cone.right) y ↔ ¬ IsRight Q (whole right') y
      same_right =
          narrowed_right_by q cone.right r (λ b. ¬ IsRight Q (whole cone.right) y ↔ ¬ IsRight Q (whole b) y) (λ h. (λ n. n, λ n. n))
          (λ h. (
            λ n k. not_both k (not_right_between Q R y R L at_y (whole_is_point r) (whole_is_point l)
                (zero_not_negative (determinant_same_last Q R)) (weak up) on),
            λ n k. not_both k (not_right_between Q (whole cone.right) y R L at_y (whole_is_point r) (whole_is_point l) h far on),
          ))

    -- so they make a window
    pub new_window : (ring : List Point) → ¬ IsRight Q (whole cone.right) (whole cone.left)
        → ((y : Triple) → IsPoint y → On y R L → Sees ring Q y ↔ Holds q cone y)
        → IsWindow ring q l r (record { left = left'; right = right' })
    new_window ring before seen = record {
      before = up;
      left_ray = left_reaches;
      right_ray = right_reaches;
      in_order = rays_in_order before;
      seen = λ y at_y on. (
        λ sees.
            let h = (seen y at_y on).0 sees in
            record { not_left = (same_left y at_y on).0 h.not_left; not_right = (same_right y at_y on).0 h.not_right },
        λ h. (seen y at_y on).1 (record { not_left = (same_left y at_y on).1 h.not_left; not_right = (same_right y at_y on).1 h.not_right }),
      );
    }

  -- ---- from before the line of the side, or on it

  module _ (corners : List Point) (t : Tri) (facing : IsFacing corners t q l r) (cone : Cone)
      (through : IsSeenThrough corners t q cone) (up : pos 0 ≤ℤ determinant Q R L) where
    -- the lines of the left ray and of the right one
    abbrev A : Triple
    A = whole cone.left

    abbrev B : Triple
    B = whole cone.right

    in_l : IsInTri corners t L
    in_l = facing.side L (whole_is_point l) (on_last_end R L)

    in_r : IsInTri corners t R
    in_r = facing.side R (whole_is_point r) (on_first_end R L)

    -- from within the triangle each of its points is held
    all_held : IsInTri corners t Q → (c : Point) → IsInTri corners t (whole c) → Holds q cone (whole c)
    all_held in_q c in_c =
        let at_c = whole_is_point c in
        (through.seen (whole c) at_c in_c).0 (facing.sees Q (whole c) (whole_is_point q) at_c in_q in_c)

    -- a side whose right end is left of the cone is not seen,
    left_of_cone : IsLeft Q A R → (y : Triple) → IsPoint y → On y R L → ¬ Sees corners Q y
    left_of_cone left y at_y on sees =
        let end : IsLeft Q A L = elim through.place [
          | inl in_q ↦ absurd ((all_held in_q r in_r).not_left left)
          | inr front ↦
              left_too _ _ _ _ _ _ (five_triples Q (whole front.toward) A R L) front.left
              (front.triangle R (whole_is_point r) in_r) (front.triangle L (whole_is_point l) in_l) up left
        ] in
        ((side_seen corners t q l r facing cone through y at_y on).0 sees).not_left
        (stays_left y R L at_y (whole_is_point r) (whole_is_point l) on Q A left end)

    -- nor is one whose left end is right of it
    right_of_cone : IsRight Q B L → (y : Triple) → IsPoint y → On y R L → ¬ Sees corners Q y
    right_of_cone right y at_y on sees =
        let end : IsRight Q B R = elim through.place [
          | inl in_q ↦ absurd ((all_held in_q l in_l).not_right right)
          | inr front ↦
              right_too _ _ _ _ _ _ (five_triples Q (whole front.toward) B R L) front.right
              (front.triangle R (whole_is_point r) in_r) (front.triangle L (whole_is_point l) in_l) up right
        ] in
        ((side_seen corners t q l r facing cone through y at_y on).0 sees).not_right
        (stays_right y R L at_y (whole_is_point r) (whole_is_point l) on Q B end right)

    module _ (near : determinant Q A R ≤ℤ pos 0) (far : pos 0 ≤ℤ determinant Q B L) where
      -- what the new rays leave
      abbrev View : Type 0
      View = SideView corners q l r (Some (record { left = narrowed_left q cone.left l; right = narrowed_right q cone.right r }))

      module _ (line : IsStraight Q R L) where
        -- in line with the side, neither end is off the cone,
        left_end : determinant Q A L ≤ℤ pos 0
        left_end = elim through.place [
          | inl in_q ↦ at_most_unless (all_held in_q l in_l).not_left
          | inr front ↦
              not_left_too _ _ _ _ _ _ (five_triples Q (whole front.toward) A R L) front.left
              (front.triangle R (whole_is_point r) in_r) (front.triangle L (whole_is_point l) in_l) line near
        ]

        right_end : pos 0 ≤ℤ determinant Q B R
        right_end = elim through.place [
          | inl in_q ↦ at_least_unless (all_held in_q r in_r).not_right
          | inr front ↦
              not_right_too _ _ _ _ _ _ (five_triples Q (whole front.toward) B R L) front.right
              (front.triangle R (whole_is_point r) in_r) (front.triangle L (whole_is_point l) in_l) line far
        ]

        -- so all of it is seen
        line_view : View
        line_view =
            let at_l = whole_is_point l in
            let at_r = whole_is_point r in
            let new_left : narrowed_left q cone.left l ≡ l =
            narrowed_left_by q cone.left l (λ a. a ≡ l) (λ h. absurd (not_both_positive h left_end)) (λ h. refl) in
            let new_right : narrowed_right q cone.right r ≡ r =
            narrowed_right_by q cone.right r (λ b. b ≡ r) (λ h. absurd (not_both h right_end)) (λ h. refl) in
            whole_side (λ i. Some (record { left = new_left i; right = new_right i })) line
            (λ y at_y on. (side_seen corners t q l r facing cone through y at_y on).1
            (held_between q cone y R L at_y at_r at_l near left_end right_end far on))

      view_within : View
      view_within = elim (sign (determinant Q R L)) [
        | is_negative h ↦ absurd (not_both h up)
        | is_zero h ↦ line_view h
        | is_positive h ↦
            through_window (record { left = narrowed_left q cone.left l; right = narrowed_right q cone.right r }) refl
            (new_window cone h near far corners through.in_order (side_seen corners t q l r facing cone through))
      ]

-- ---- all cases

-- what q sees of a side of a triangle
pub side_view : (corners : List Point) (tris : List Tri) (k : ℕ) (q l r : Point) → IsFacing corners (tri_at tris k) q l r
    → (sight : Option Cone) → IsConeOf corners tris q k sight → SideView corners q l r (narrowed q sight l r)
side_view corners tris k q l r facing None none = hidden refl (λ y at_y on. none y at_y (facing.side y at_y on))
side_view corners tris k q l r facing (Some cone) through =
    let t = tri_at tris k in
    narrowed_by q cone l r (SideView corners q l r)
    (λ right. beyond_view corners t q l r facing cone through right)
    (λ up left. hidden refl (left_of_cone q l r corners t facing cone through up left))
    (λ up right. hidden refl (right_of_cone q l r corners t facing cone through up right))
    (λ up near far. view_within q l r corners t facing cone through up near far)
