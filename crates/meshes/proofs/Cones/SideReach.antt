-- Sight over a side at the end of a walk: into the triangle beyond it, and of the side itself from the other side of its line.
use Rattle.std.proofs.Common.{◌≡◌, ◌⊎◌, ◌↔◌, inl, inr, sym, ap, subst, ◌∙◌, List, [], ◌∷◌, ◌++◌, length, get_or, length-append, arith}
use Rattle.std.proofs.Common.{ℕ, ◌+◌, ◌-◌, ◌<◌}
use Rattle.std.proofs.lemmas.Bool.{cases_lt}
use Rattle.std.proofs.lemmas.List.{get_or_append_left, get_or_push}
use Rattle.std.specs.List.{range_with_len}
use Rattle.integer_algebra.proofs.SignSteps.{at_least_unless, turned_not_positive, turned_positive, zero_not_positive}
use Rattle.plane.proofs.Points.{whole_is_point}
use Rattle.plane.proofs.Segments.{first_end_on_line, on_is_straight, on_reversed, on_same_point}
use Rattle.plane.proofs.Turns.{determinant_same_ends, determinant_same_last, determinant_swap_first}
use Rattle.plane.specs.Prelude.{determinant, IsPoint, IsRight, IsSame, IsStraight, Meet, On, Point, Triple, whole}
use Rattle.rings.specs.Prelude.{Sees, vertex}
use Rattle.ring_laws.proofs.Triangles.{on_first_side}
use Rattle.meshes.proofs.Parts.{opposite, side_in, paved}
use Rattle.meshes.proofs.Sight.{not_right_of_side, sees_before, sees_in_triangle, sees_on, sleeve_law}
use Rattle.meshes.proofs.TreeLeaves.{closed_of_sides, next_corner, side_is_one, turns_left}
use Rattle.meshes.specs.Prelude.{Fits, HasSide, HasSideBetween, IsInTri, IsWalkBetween, tri_at}
use Rattle.meshes.specs.declared.tri.Tri.{Tri}
use Rattle.meshes.specs.Laws.{CrossesSide, walk_tri}

-- on the way from q to x there is a point of the side from r to l that q sees
pub record IsSeenOver (corners : List Point) (q l r : Point) (x : Triple) : Type 0 where
  pub point : Triple
  pub rational : IsPoint point
  pub on_side : On point (whole r) (whole l)
  pub on_way : On point (whole q) x
  pub seen : Sees corners (whole q) point

-- a triangle on the right of its side from r to l, into which q sees over that side alone
pub record IsBeyondSide (corners : List Point) (t : Tri) (q l r : Point) : Type 0 where
  pub side : (y : Triple) → IsPoint y → On y (whole r) (whole l) → IsInTri corners t y
  pub not_before : (x : Triple) → IsInTri corners t x → ¬ IsRight (whole l) (whole r) x
  pub on_line : (x : Triple) → IsPoint x → IsInTri corners t x → IsStraight (whole l) (whole r) x → On x (whole r) (whole l)
  pub sees : (x y : Triple) → IsPoint x → IsPoint y → IsInTri corners t x → IsInTri corners t y → Sees corners x y
  pub seen_over : (x : Triple) → IsPoint x → IsInTri corners t x → Sees corners (whole q) x ↔ IsSeenOver corners q l r x

module _ (corners : List Point) (tris : List Tri) (fits : Fits corners tris) (q : Point) (home : ℕ)
    (in_home : IsInTri corners (tri_at tris home) (whole q)) where
  -- a walk ends in the list
  pub end_below : (to : ℕ) (walk : List ℕ) → IsWalkBetween tris home to walk → to < length tris
  end_below to walk w = subst (λ n. n < length tris) w.last (w.is_walk.in_list (length walk - 1) (omega (arith, w.is_walk.some)))

  -- what q sees in the last triangle of a walk it sees over each side that the walk crosses
  meets_over : (to : ℕ) (walk : List ℕ) → IsWalkBetween tris home to walk → (m i j : ℕ) → CrossesSide tris walk m i j
      → (x : Triple) → IsPoint x → IsInTri corners (tri_at tris to) x → Sees corners (whole q) x
      → Meet (whole q) x (whole (vertex corners i)) (whole (vertex corners j))
  meets_over to walk w m i j c x at_x in_x sees =
      (sleeve_law corners tris fits walk w.is_walk (whole q) x (whole_is_point q) at_x
      (subst (λ n. IsInTri corners (tri_at tris n) (whole q)) (sym w.first) in_home)
      (subst (λ n. IsInTri corners (tri_at tris n) x) (sym w.last) in_x)).0 sees m i j c

  -- ---- into the triangle beyond

  module _ (k l : ℕ) (walk : List ℕ) (there : IsWalkBetween tris home k walk) (on : IsWalkBetween tris home l (walk ++ l ∷ []))
      (i j : ℕ) (has : HasSide (tri_at tris k) i j) (has_beyond : HasSide (tri_at tris l) j i) where
    -- the walk goes on over the side
    crosses_last : CrossesSide tris (walk ++ l ∷ []) (length walk - 1) i j
    crosses_last =
        let some = there.is_walk.some in
        let long = length-append walk (l ∷ []) in
        let this : get_or (walk ++ l ∷ []) (length walk - 1) 0 ≡ k =
        get_or_append_left walk (l ∷ []) 0 (length walk - 1) (omega (arith, some)) ∙ there.last in
        let next : get_or (walk ++ l ∷ []) (length walk - 1 + 1) 0 ≡ l =
        get_or_push walk l 0 (length walk - 1 + 1) (omega (arith, some)) in
        record {
          has_next = omega (arith, some, long);
          of_this = inl (subst (λ n. HasSide (tri_at tris n) i j) (sym this) has);
          of_next = inr (subst (λ n. HasSide (tri_at tris n) j i) (sym next) has_beyond);
        }

    -- so q sees into the triangle over it
    seen_beyond : (x : Triple) → IsPoint x → IsInTri corners (tri_at tris l) x
        → Sees corners (whole q) x ↔ IsSeenOver corners q (vertex corners j) (vertex corners i) x
    seen_beyond x at_x in_x = (
      λ sees.
          let meet = meets_over l (walk ++ l ∷ []) on (length walk - 1) i j crosses_last x at_x in_x sees in
          record {
            point = meet.point;
            rational = meet.rational;
            on_side = meet.on_second;
            on_way = meet.on_first;
            seen = sees_before corners (whole q) meet.point x (whole_is_point q) meet.rational at_x meet.on_first sees;
          },
      λ over.
          let l_below = end_below l (walk ++ l ∷ []) on in
          let in_y = (opposite corners (tri_at tris l) (fits.triangles l l_below).counterclockwise j i has_beyond).1.side
          over.point over.rational (on_reversed over.point (whole (vertex corners i)) (whole (vertex corners j)) over.on_side) in
          sees_on corners (whole q) over.point x (whole_is_point q) over.rational at_x over.on_way over.seen
          (sees_in_triangle corners tris fits l l_below over.point x over.rational at_x in_y in_x),
    )

    pub is_beyond_side : IsBeyondSide corners (tri_at tris l) q (vertex corners j) (vertex corners i)
    is_beyond_side =
        let l_below = end_below l (walk ++ l ∷ []) on in
        let t = tri_at tris l in
        let R = whole (vertex corners i) in
        let L = whole (vertex corners j) in
        let left = (fits.triangles l l_below).counterclockwise in
        let (m, next, last) = next_corner t j i has_beyond in
        record {
          side = λ y at_y on_y. (opposite corners t left j i has_beyond).1.side y at_y (on_reversed y R L on_y);
          not_before = λ x in_x. not_right_of_side corners t x in_x j i has_beyond;
          on_line = λ x at_x in_x straight.
              let closed = closed_of_sides corners t left j i m has_beyond next x in_x in
              on_reversed x L R
              (on_first_side (vertex corners j) (vertex corners i) (vertex corners m)
              (turns_left corners t left j i m has_beyond next) x at_x closed straight);
          sees = sees_in_triangle corners tris fits l l_below;
          seen_over = seen_beyond;
        }

  -- ---- the side from beyond its line

  module _ (k : ℕ) (walk : List ℕ) (there : IsWalkBetween tris home k walk) (i j : ℕ) (has : HasSide (tri_at tris k) i j)
      (outer : (m : ℕ) → m + 1 < length walk → ¬ HasSideBetween (walk_tri tris walk m) i j)
      (right : IsRight (whole (vertex corners i)) (whole (vertex corners j)) (whole q)) where
    abbrev R : Triple
    R = whole (vertex corners i)

    abbrev L : Triple
    L = whole (vertex corners j)

    -- all that q sees of the side is one point
    abbrev SeesOnly : Triple → Type 0
    SeesOnly c = (y : Triple) → IsPoint y → On y R L → Sees corners (whole q) y → IsSame y c

    -- an end, where all that it sees of the side is on another side
    by_side : (a b : ℕ) → HasSide (tri_at tris k) a b → ¬ ((a ≡ i) × (b ≡ j))
        → ((y : Triple) → IsPoint y → On y R L → Sees corners (whole q) y → On y (whole (vertex corners a)) (whole (vertex corners b)))
        → SeesOnly L ⊎ SeesOnly R
    by_side a b side other on_other =
        let t = tri_at tris k in
        let left = (fits.triangles k (end_below k walk there)).counterclockwise in
        let (m, next, last) = next_corner t i j has in
        let M = whole (vertex corners m) in
        let at = λ (n : ℕ). whole_is_point (vertex corners n) in
        elim (side_is_one corners t left i j m has next a b side) [
          | inl e ↦ absurd (other e)
          | inr (inl e) ↦ inl (λ y at_y on_y sees.
              let on_next = subst (λ n. On y (whole (vertex corners n)) M) e.0
              (subst (λ n. On y (whole (vertex corners a)) (whole (vertex corners n))) e.1 (on_other y at_y on_y sees)) in
              first_end_on_line y L R L M at_y (at j) (at i) (on_reversed y R L on_y) (determinant_same_ends L M)
              (turns_left corners t left j m i next last) (zero_not_positive (on_is_straight y L M at_y (at j) (at m) on_next)))
          | inr (inr e) ↦ inr (λ y at_y on_y sees.
              let on_last = subst (λ n. On y (whole (vertex corners n)) R) e.0
              (subst (λ n. On y (whole (vertex corners a)) (whole (vertex corners n))) e.1 (on_other y at_y on_y sees)) in
              first_end_on_line y R L M R at_y (at i) (at j) on_y (determinant_same_last M R)
              (turns_left corners t left m i j last has) (zero_not_positive (on_is_straight y M R at_y (at m) (at i) on_last)))
        ]

    -- the walk is longer than its last triangle
    two_or_more : 1 < length walk
    two_or_more = elim (cases_lt 1 (length walk)) [
      | inl long ↦ long
      | inr short ↦
          let one : length walk - 1 ≡ 0 = omega arith in
          let same : home ≡ k = sym there.first ∙ ap (λ n. get_or walk n 0) (sym one) ∙ there.last in
          let in_k = subst (λ n. IsInTri corners (tri_at tris n) (whole q)) same in_home in
          absurd (not_right_of_side corners (tri_at tris k) (whole q) in_k i j has right)
    ]

    -- the side by which it comes into the last triangle is another side, so an end is all that q sees
    pub sees_one_end : SeesOnly L ⊎ SeesOnly R
    sees_one_end =
        let place = length walk - 2 in
        let e : place + 1 ≡ length walk - 1 = omega (arith, two_or_more) in
        let before : place + 1 < length walk = omega (arith, two_or_more) in
        let share = there.is_walk.sharing place before in
        let entry = subst (λ n. HasSideBetween (tri_at tris n) share.i share.j) (ap (λ n. get_or walk n 0) e ∙ there.last)
        share.of_second in
        let on_entry : (y : Triple) → IsPoint y → On y R L → Sees corners (whole q) y
        → On y (whole (vertex corners share.i)) (whole (vertex corners share.j)) = λ y at_y on_y sees.
        let k_below = end_below k walk there in
        let all = range_with_len 0 (length corners) in
        let crosses : CrossesSide tris walk place share.i share.j =
        record { has_next = before; of_this = inl share.of_first; of_next = share.of_second } in
        let in_y = side_in corners all tris (paved fits) k i j k_below (inl has) y at_y on_y in
        let meet = meets_over k walk there place share.i share.j crosses y at_y in_y sees in
        let z = meet.point in
        let in_z = side_in corners all tris (paved fits) k share.i share.j k_below entry z meet.rational meet.on_second in
        let same = first_end_on_line z y (whole q) L R meet.rational at_y (whole_is_point q) (on_reversed z (whole q) y meet.on_first)
        (on_is_straight y L R at_y (whole_is_point (vertex corners j)) (whole_is_point (vertex corners i)) (on_reversed y R L on_y))
        (turned_positive (determinant_swap_first R L (whole q)) right)
        (turned_not_positive {d = determinant R L z} (determinant_swap_first R L z)
        (at_least_unless (not_right_of_side corners (tri_at tris k) z in_z i j has))) in
        on_same_point meet.rational same meet.on_second in
        elim entry [
          | inl side ↦ by_side share.i share.j side
              (λ same. outer place before (inl (subst (λ n. HasSide (walk_tri tris walk place) n j) same.0
              (subst (λ n. HasSide (walk_tri tris walk place) share.i n) same.1 share.of_first))))
              on_entry
          | inr side ↦ by_side share.j share.i side
              (λ same. outer place before (inr (subst (λ n. HasSide (walk_tri tris walk place) n i) same.1
              (subst (λ n. HasSide (walk_tri tris walk place) share.i n) same.0 share.of_first))))
              (λ y at_y on_y sees.
              on_reversed y (whole (vertex corners share.i)) (whole (vertex corners share.j)) (on_entry y at_y on_y sees))
        ]
