-- The triangles at a vertex are a fan: their other corners have by turns the two classes that the vertex leaves. So the vertices before and
-- after it have the same class exactly where the fan has an even number of triangles.
use Rattle.std.proofs.Common.{◌≡◌, ◌≢◌, ◌⊎◌, inl, inr, refl, sym, ap, subst, ◌∙◌, ℕ, zero, suc, ◌+◌, ◌-◌, ◌%◌, ◌<◌, List, [], ◌∷◌, ◌++◌, length, get_or, arith}
use Rattle.std.proofs.lemmas.Bool.{cases_eq}
use Rattle.std.proofs.lemmas.List.FromFn.{get_or-range_with_len, length-range_with_len}
use Rattle.std.proofs.Math.Nat.{mod-eq_of_lt}
use Rattle.std.specs.List.{Contains, range_with_len}
use Rattle.plane.specs.Point.{Point}
use Rattle.rings.specs.Simple.{IsSimple}
use Rattle.meshes.proofs.Ears.{ear_law, is_rest}
use Rattle.meshes.proofs.Joins.{next_place}
use Rattle.meshes.proofs.Sides.{corners_differ, edge_or_not, one_at_edge, one_number}
use Rattle.meshes.proofs.TreeLeaves.{leaves_law}
use Rattle.meshes.specs.Fits.{Fits, FitsPiece, IsPieceEdge, IsSideOfOne, piece_points}
use Rattle.meshes.specs.Laws.{IsEarOff, IsLeaf, without}
use Rattle.meshes.specs.Side.{HasSide, HasSideBetween, tri_at}
use Rattle.meshes.specs.declared.tri.Tri.{Tri}
use Rattle.guards3.proofs.OneParting.{some_triangle}
use Rattle.guards3.proofs.SomeParting.{HasThree, ends_differ, ends_in_piece, tip_is_new}
use Rattle.guards3.proofs.ThreeClasses.{three_back}
use Rattle.guards3.specs.Parting.{AreThreeClasses, PartsInThree, class_after, corner_count, one_if, parity}

-- ---- how many triangles have a corner

-- how many corners of a triangle a vertex is
abbrev corners_of : Tri → ℕ → ℕ
corners_of t i = one_if t.a i + one_if t.b i + one_if t.c i

-- and of the triangles of a list
abbrev pub degree : List Tri → ℕ → ℕ
degree [] i = 0
degree (t ∷ tris) i = corners_of t i + degree tris i

-- also as the corners are counted, from the first triangle on
count_on : (t : Tri) (tris : List Tri) (k i : ℕ) → corner_count (t ∷ tris) (suc k) i ≡ corners_of t i + corner_count tris k i
count_on t tris zero i = omega arith
count_on t tris (suc k) i = omega (arith, count_on t tris k i)

pub degree_is : (tris : List Tri) (i : ℕ) → corner_count tris (length tris) i ≡ degree tris i
degree_is [] i = refl
degree_is (t ∷ tris) i = omega (arith, count_on t tris (length tris) i, degree_is tris i)

-- with one triangle and without it
degree_without : (k : ℕ) (tris : List Tri) → k < length tris → (i : ℕ) → degree tris i ≡ corners_of (tri_at tris k) i + degree (without k tris) i
degree_without k [] h i = absurd (omega arith)
degree_without zero (t ∷ tris) h i = refl
degree_without (suc k) (t ∷ tris) h i = omega (arith, degree_without k tris (omega arith) i)

-- where none has it
degree_of_none : (tris : List Tri) (i : ℕ) → ((k : ℕ) → k < length tris → corners_of (tri_at tris k) i ≡ 0) → degree tris i ≡ 0
degree_of_none [] i none = refl
degree_of_none (t ∷ tris) i none = omega (arith, none 0 (omega arith), degree_of_none tris i (λ k h. none (suc k) (omega (arith, h))))

module _ (t : Tri) (a_b : t.a ≢ t.b) (b_c : t.b ≢ t.c) (c_a : t.c ≢ t.a) (x y : ℕ) where
  -- the ends of a side are one corner each
  at_begin : HasSide t x y → corners_of t x ≡ 1
  at_begin (inl s) = grind (arith, s.0)
  at_begin (inr (inl s)) = grind (arith, s.0)
  at_begin (inr (inr s)) = grind (arith, s.0)

  at_end : HasSide t x y → corners_of t y ≡ 1
  at_end (inl s) = grind (arith, s.1)
  at_end (inr (inl s)) = grind (arith, s.1)
  at_end (inr (inr s)) = grind (arith, s.1)

  -- a side that begins or ends where another does is that one
  one_end : (z : ℕ) → HasSide t x y → HasSide t x z → y ≡ z
  one_end z first second = grind arith

  one_begin : (z : ℕ) → HasSide t x y → HasSide t z y → x ≡ z
  one_begin z first second = grind arith

-- and another vertex is none
at_none : (t : Tri) (i : ℕ) → ¬ (t.a ≡ i) → ¬ (t.b ≡ i) → ¬ (t.c ≡ i) → corners_of t i ≡ 0
at_none t i a b c = grind arith

module _ (t : Tri) (a_b : t.a ≢ t.b) (b_c : t.b ≢ t.c) (c_a : t.c ≢ t.a) (u v w : ℕ) where
  -- a side without the corner between two other sides is the third,
  off_tip : (x y : ℕ) → HasSide t u v → HasSide t v w → HasSide t x y → ¬ (x ≡ v) → ¬ (y ≡ v) → (x ≡ w) × (y ≡ u)
  off_tip x y first second side not_x not_y = grind arith

  -- and another vertex than their ends is no corner
  off_ear : (i : ℕ) → HasSide t u v → HasSide t v w → ¬ (i ≡ u) → ¬ (i ≡ v) → ¬ (i ≡ w) → corners_of t i ≡ 0
  off_ear i first second not_u not_v not_w = at_none t i (grind arith) (grind arith) (grind arith)

-- ---- fans

-- the number is even and the two are the same, or it is odd and they differ
abbrev pub IsFan : ℕ → ℕ → ℕ → Type 0
IsFan d x z = ((parity d ≡ 0) × (x ≡ z)) ⊎ ((parity d ≡ 1) × (x ≢ z))

fan_back : (d x z : ℕ) → IsFan d x z → IsFan d z x
fan_back d x z (inl h) = inl (h.0, sym h.1)
fan_back d x z (inr h) = inr (h.0, λ e. h.1 (sym e))

-- one triangle more, over the vertices x and y, with another third corner before y than x
fan_more : (d x v y z : ℕ) → AreThreeClasses x v y → z < 3 → y ≢ z → IsFan d x z → IsFan (suc d) v z
fan_more d x v y z three below differ (inl h) = inr (omega (arith, h.0), λ e. three.x_y (h.1 ∙ sym e))
fan_more d x v y z three below differ (inr h) = inl (
  omega (arith, h.0),
  omega (arith, three.first, three.second, three.third, three.x_y, three.y_z, three.z_x, h.1),
)

-- sides that follow one another have the three corners
three_of_sides : (f : ℕ → ℕ) (t : Tri) (x y z : ℕ) → HasThree f t → HasSide t x y → HasSide t y z → AreThreeClasses (f x) (f y) (f z)
three_of_sides f t x y z three first second =
    let one = ends_differ f t x y three first in
    let two = ends_differ f t y z three second in
    record { first = one.0; second = one.1; third = two.1; x_y = one.2; y_z = two.2; z_x = last first second }
  where
    last : HasSide t x y → HasSide t y z → f z ≢ f x
    last (inl s) (inl r) e = three.x_y (ap f (s.0 ∙ sym s.0 ∙ refl) ∙ ap f (r.0 ∙ sym s.1))
    last (inl s) (inr (inl r)) e = three.z_x (ap f r.1 ∙ e ∙ ap f (sym s.0))
    last (inl s) (inr (inr r)) e = three.y_z (ap f (s.1 ∙ sym r.0))
    last (inr (inl s)) (inl r) e = three.z_x (ap f (s.1 ∙ sym r.0))
    last (inr (inl s)) (inr (inl r)) e = three.y_z (ap f (r.0 ∙ sym s.1))
    last (inr (inl s)) (inr (inr r)) e = three.x_y (ap f r.1 ∙ e ∙ ap f (sym s.0))
    last (inr (inr s)) (inl r) e = three.y_z (ap f r.1 ∙ e ∙ ap f (sym s.0))
    last (inr (inr s)) (inr (inl r)) e = three.x_y (ap f (s.1 ∙ sym r.0))
    last (inr (inr s)) (inr (inr r)) e = three.z_x (ap f (r.0 ∙ sym s.1))

-- ---- edges of pieces

module _ (corners : List Point) where
  -- the vertices before and after each vertex of the piece have the classes of the ends of a fan
  abbrev pub HasFans : (ℕ → ℕ) → List ℕ → List Tri → Type 0
  HasFans f piece tris = (x y z : ℕ) → IsPieceEdge piece x y → IsPieceEdge piece y z → IsFan (degree tris y) (f x) (f z)

  -- a side of one triangle is an edge
  edge_of_single : (piece : List ℕ) (tris : List Tri) → FitsPiece corners piece tris → (i j k : ℕ) → IsSideOfOne tris i j k → IsPieceEdge piece i j
  edge_of_single piece tris fits i j k one = elim (edge_or_not piece i j) [
    | inl edge ↦ edge
    | inr inner ↦
        let (l, two) = fits.inner_sides i j k one.in_list one.has inner in
        absurd (two.different (sym (one.only l two.other_in_list (inr two.other_has))))
  ]

  module _ (piece : List ℕ) (simple : IsSimple (piece_points corners piece)) where
    -- one edge begins at a vertex,
    next_is_one : (x y z : ℕ) → IsPieceEdge piece x y → IsPieceEdge piece x z → y ≡ z
    next_is_one x y z e h =
        let same = one_number corners piece simple e.place h.place e.in_piece h.in_piece (e.from ∙ sym h.from) in
        sym e.to ∙ ap (λ p. get_or piece ((p + 1) % length piece) 0) same ∙ h.to

    -- and one ends there
    before_is_one : (x y z : ℕ) → IsPieceEdge piece x z → IsPieceEdge piece y z → x ≡ y
    before_is_one x y z e h =
        let n = length piece in
        let next = next_place e.place n e.in_piece in
        let other = next_place h.place n h.in_piece in
        let below : (e.place + 1) % n < n = elim next [ inl k ↦ omega (arith, k.0, k.1) | inr k ↦ omega (arith, k.1, e.in_piece) ] in
        let below_other : (h.place + 1) % n < n = elim other [ inl k ↦ omega (arith, k.0, k.1) | inr k ↦ omega (arith, k.1, h.in_piece) ] in
        let same = one_number corners piece simple ((e.place + 1) % n) ((h.place + 1) % n) below below_other (e.to ∙ sym h.to) in
        let place : e.place ≡ h.place = elim next [
          | inl k ↦ elim other [ inl l ↦ omega (arith, same, k.1, l.1) | inr l ↦ omega (arith, same, k.1, l.1) ]
          | inr k ↦ elim other [ inl l ↦ omega (arith, same, k.1, l.1) | inr l ↦ omega (arith, k.0, l.0) ]
        ] in
        sym e.from ∙ ap (λ p. get_or piece p 0) place ∙ h.from

  -- ---- an ear more

  module _ (piece : List ℕ) (tris : List Tri) (fits : FitsPiece corners piece tris) (k : ℕ) (leaf : IsLeaf tris k)
      (off : IsEarOff corners piece tris k leaf.neighbour) (f : ℕ → ℕ) (parts : PartsInThree tris f)
      (fans : HasFans f (off.before ++ off.after) (without k tris)) where
    abbrev rest : List ℕ
    rest = off.before ++ off.after

    abbrev ear : Tri
    ear = tri_at tris k

    -- the corners of a triangle differ
    apart : (m : ℕ) → m < length tris → ((tri_at tris m).a ≢ (tri_at tris m).b) × ((tri_at tris m).b ≢ (tri_at tris m).c) × ((tri_at tris m).c ≢ (tri_at tris m).a)
    apart m below = corners_differ corners (tri_at tris m) (fits.triangles m below).counterclockwise

    -- the tip is not in the rest
    not_in_rest : ¬ Contains rest off.v
    not_in_rest =
        tip_is_new corners off.before off.after off.v (subst (λ p. IsSimple (piece_points corners p)) off.tip fits.simple)

    -- so no triangle but the ear has a side at it
    without_tip : (m : ℕ) → m < length tris → ¬ (m ≡ k) → (x y : ℕ) → HasSide (tri_at tris m) x y → (¬ (x ≡ off.v)) × (¬ (y ≡ off.v))
    without_tip m below not x y side =
        let is = is_rest k tris leaf.in_list in
        let there = is.new_in m below not in
        let same = sym (is.same _ there) ∙ ap (tri_at tris) (is.there m not) in
        let ends = ends_in_piece corners rest _ (off.rest.triangles _ there) x y (subst (λ t. HasSide t x y) (sym same) side) in
        (λ e. not_in_rest (subst (Contains rest) e ends.0), λ e. not_in_rest (subst (Contains rest) e ends.1))

    -- a side at the tip is one of the ear
    ear_from_tip : (y m : ℕ) → m < length tris → HasSide (tri_at tris m) off.v y → HasSide ear off.v y
    ear_from_tip y m below side = elim (cases_eq m k) [
      | inl this ↦ subst (λ n. HasSide (tri_at tris n) off.v y) this side
      | inr other ↦ absurd ((without_tip m below other off.v y side).0 refl)
    ]

    ear_to_tip : (x m : ℕ) → m < length tris → HasSide (tri_at tris m) x off.v → HasSide ear x off.v
    ear_to_tip x m below side = elim (cases_eq m k) [
      | inl this ↦ subst (λ n. HasSide (tri_at tris n) x off.v) this side
      | inr other ↦ absurd ((without_tip m below other x off.v side).1 refl)
    ]

    -- a side of one triangle, which is not the ear, is an edge of the rest
    edge_of_rest : (x y m : ℕ) → m < length tris → ¬ (m ≡ k) → HasSide (tri_at tris m) x y
        → ((n : ℕ) → n < length tris → ¬ (n ≡ k) → HasSideBetween (tri_at tris n) x y → n ≡ m) → IsPieceEdge rest x y
    edge_of_rest x y m below not side only =
        let is = is_rest k tris leaf.in_list in
        let there = is.new_in m below not in
        let same = sym (is.same _ there) ∙ ap (tri_at tris) (is.there m not) in
        edge_of_single rest (without k tris) off.rest x y _ (record {
          in_list = there;
          has = subst (λ t. HasSide t x y) (sym same) side;
          only = λ n in_rest has.
              let old = only _ (is.old_in n in_rest) (is.old_not n) (subst (λ t. HasSideBetween t x y) (sym (is.same n in_rest)) has) in
              sym (rw old at (is.back n));
        })

    -- an edge off the tip is one of the rest
    still_edge : (x y : ℕ) → IsPieceEdge piece x y → ¬ (x ≡ off.v) → ¬ (y ≡ off.v) → IsPieceEdge rest x y
    still_edge x y edge not_x not_y =
        let (m, one) = fits.edges x y edge in
        let in_list = one.in_list in
        let not_ear : ¬ (m ≡ k) = λ e.
        let differ = apart k leaf.in_list in
        let ends = off_tip ear differ.0 differ.1 differ.2 off.u off.v off.w x y off.ear.first_side off.ear.second_side
        (subst (λ n. HasSide (tri_at tris n) x y) e one.has) not_x not_y in
        let back = subst (λ j. HasSide (tri_at tris leaf.neighbour) j x) (sym ends.1)
        (subst (λ j. HasSide (tri_at tris leaf.neighbour) off.u j) (sym ends.0) off.ear.base.other_has) in
        leaf.different (one.only leaf.neighbour leaf.neighbour_in_list (inr back) ∙ e) in
        edge_of_rest x y m in_list not_ear one.has (λ n below not has. one.only n below has)

    -- and so is the base
    base_edge : IsPieceEdge rest off.u off.w
    base_edge =
        let base = off.ear.base in
        edge_of_rest off.u off.w leaf.neighbour base.other_in_list leaf.different base.other_has
        (λ n below not has. elim (base.only n below (elim has [ inl h ↦ inr h | inr h ↦ inl h ])) [ inl e ↦ absurd (not e) | inr e ↦ e ])

    -- the ear has three classes
    three_of_ear : AreThreeClasses (f off.u) (f off.v) (f off.w)
    three_of_ear = three_of_sides f ear off.u off.v off.w (parts k leaf.in_list) off.ear.first_side off.ear.second_side

    -- no triangle of the rest has the tip
    none_at_tip : degree (without k tris) off.v ≡ 0
    none_at_tip = degree_of_none (without k tris) off.v (λ m below.
        let tri = off.rest.triangles m below in
        let not : (i : ℕ) → Contains rest i → ¬ (i ≡ off.v) = λ i has e. not_in_rest (subst (Contains rest) e has) in
        at_none (tri_at (without k tris) m) off.v (not _ tri.has_a) (not _ tri.has_b) (not _ tri.has_c))

    -- the fan at the tip
    fan_at_tip : (x z : ℕ) → HasSide ear x off.v → HasSide ear off.v z → IsFan (degree tris off.v) (f x) (f z)
    fan_at_tip x z first second =
        let three = three_of_sides f ear x off.v z (parts k leaf.in_list) first second in
        let differ = apart k leaf.in_list in
        let one : degree tris off.v ≡ 1 =
        omega (arith, degree_without k tris leaf.in_list off.v, none_at_tip, at_end ear differ.0 differ.1 differ.2 x off.v first) in
        inr (ap parity one, λ e. three.z_x (sym e))

    -- that at the vertex after it
    fan_after_tip : (y z : ℕ) → IsPieceEdge piece y z → ¬ (y ≡ off.v) → HasSide ear off.v y → IsFan (degree tris y) (f off.v) (f z)
    fan_after_tip y z edge not_tip side =
        let differ = apart k leaf.in_list in
        let (n, one) = fits.edges y z edge in
        let y_is : y ≡ off.w = one_end ear differ.0 differ.1 differ.2 off.v y off.w side off.ear.second_side in
        let not_back : ¬ (z ≡ off.v) = λ e.
        let back = ear_to_tip y n one.in_list (subst (HasSide (tri_at tris n) y) e one.has) in
        (three_of_sides f ear off.v y off.v (parts k leaf.in_list) side back).z_x refl in
        let still = still_edge y z edge not_tip not_back in
        let base = subst (IsPieceEdge rest off.u) (sym y_is) base_edge in
        let three = subst (λ j. AreThreeClasses (f off.u) (f off.v) (f j)) (sym y_is) three_of_ear in
        let ends = ends_differ f (tri_at tris n) y z (parts n one.in_list) one.has in
        let more = fan_more (degree (without k tris) y) (f off.u) (f off.v) (f y) (f z) three ends.1 ends.2 (fans off.u y z base still) in
        let count : degree tris y ≡ suc (degree (without k tris) y) =
        omega (arith, degree_without k tris leaf.in_list y, at_end ear differ.0 differ.1 differ.2 off.v y side) in
        subst (λ d. IsFan d (f off.v) (f z)) (sym count) more

    -- and that at the vertex before it
    fan_before_tip : (x y : ℕ) → IsPieceEdge piece x y → ¬ (x ≡ off.v) → ¬ (y ≡ off.v) → HasSide ear y off.v → IsFan (degree tris y) (f x) (f off.v)
    fan_before_tip x y edge not_from not_tip side =
        let differ = apart k leaf.in_list in
        let (n, one) = fits.edges x y edge in
        let y_is : y ≡ off.u = one_begin ear differ.0 differ.1 differ.2 y off.v off.u side off.ear.first_side in
        let still = still_edge x y edge not_from not_tip in
        let base = subst (λ j. IsPieceEdge rest j off.w) (sym y_is) base_edge in
        let three = subst (λ j. AreThreeClasses (f off.w) (f off.v) (f j)) (sym y_is) (three_back _ _ _ three_of_ear) in
        let ends = ends_differ f (tri_at tris n) x y (parts n one.in_list) one.has in
        let less = fan_back (degree (without k tris) y) (f x) (f off.w) (fans x y off.w still base) in
        let more = fan_more (degree (without k tris) y) (f off.w) (f off.v) (f y) (f x) three ends.0 (λ e. ends.2 (sym e)) less in
        let count : degree tris y ≡ suc (degree (without k tris) y) =
        omega (arith, degree_without k tris leaf.in_list y, at_begin ear differ.0 differ.1 differ.2 y off.v side) in
        subst (λ d. IsFan d (f x) (f off.v)) (sym count) (fan_back (suc (degree (without k tris) y)) (f off.v) (f x) more)

    -- those at the others are as before
    fan_elsewhere : (x y z : ℕ) → IsPieceEdge piece x y → IsPieceEdge piece y z → ¬ (x ≡ off.v) → ¬ (y ≡ off.v) → ¬ (z ≡ off.v)
        → IsFan (degree tris y) (f x) (f z)
    fan_elsewhere x y z first second not_x not_y not_z =
        let differ = apart k leaf.in_list in
        let not_u : ¬ (y ≡ off.u) = λ e.
        not_z (next_is_one piece fits.simple off.u z off.v (subst (λ j. IsPieceEdge piece j z) e second) off.ear.first_edge) in
        let not_w : ¬ (y ≡ off.w) = λ e.
        not_x (before_is_one piece fits.simple x off.v off.w (subst (IsPieceEdge piece x) e first) off.ear.second_edge) in
        let none = off_ear ear differ.0 differ.1 differ.2 off.u off.v off.w y off.ear.first_side off.ear.second_side not_u not_y not_w in
        let count : degree tris y ≡ degree (without k tris) y = omega (arith, degree_without k tris leaf.in_list y, none) in
        subst (λ d. IsFan d (f x) (f z)) (sym count) (fans x y z (still_edge x y first not_x not_y) (still_edge y z second not_y not_z))

    -- so it is at each
    fans_with_ear : HasFans f piece tris
    fans_with_ear x y z first second =
        let (m, one) = fits.edges x y first in
        let (n, other) = fits.edges y z second in
        elim (cases_eq y off.v) [
          | inl tip ↦
              let into = ear_to_tip x m one.in_list (subst (HasSide (tri_at tris m) x) tip one.has) in
              let out = ear_from_tip z n other.in_list (subst (λ j. HasSide (tri_at tris n) j z) tip other.has) in
              subst (λ j. IsFan (degree tris j) (f x) (f z)) (sym tip) (fan_at_tip x z into out)
          | inr not_tip ↦ elim (cases_eq x off.v) [
            | inl from ↦
                let side = ear_from_tip y m one.in_list (subst (λ j. HasSide (tri_at tris m) j y) from one.has) in
                subst (λ j. IsFan (degree tris y) (f j) (f z)) (sym from) (fan_after_tip y z second not_tip side)
            | inr not_from ↦ elim (cases_eq z off.v) [
              | inl to ↦
                  let side = ear_to_tip y n other.in_list (subst (HasSide (tri_at tris n) y) to other.has) in
                  subst (λ j. IsFan (degree tris y) (f x) (f j)) (sym to) (fan_before_tip x y first not_from not_tip side)
              | inr not_to ↦ fan_elsewhere x y z first second not_from not_tip not_to
            ]
          ]
        ]

  -- ---- all triangles

  -- one triangle
  fans_of_one : (piece : List ℕ) (tris : List Tri) → FitsPiece corners piece tris → length tris ≡ 1 → (f : ℕ → ℕ) → PartsInThree tris f
      → HasFans f piece tris
  fans_of_one piece tris fits one f parts x y z first second =
      let some : 0 < length tris = omega arith in
      let differ = corners_differ corners (tri_at tris 0) (fits.triangles 0 some).counterclockwise in
      let (k, is) = fits.edges x y first in
      let (l, other) = fits.edges y z second in
      let k_is : k ≡ 0 = let in_list = is.in_list in omega arith in
      let l_is : l ≡ 0 = let in_list = other.in_list in omega arith in
      let into = subst (λ m. HasSide (tri_at tris m) x y) k_is is.has in
      let out = subst (λ m. HasSide (tri_at tris m) y z) l_is other.has in
      let three = three_of_sides f (tri_at tris 0) x y z (parts 0 some) into out in
      let none : degree (without 0 tris) y ≡ 0 =
      degree_of_none (without 0 tris) y (λ m below. absurd (omega (arith, (is_rest 0 tris some).count, below))) in
      let count : degree tris y ≡ 1 =
      omega (arith, degree_without 0 tris some y, none, at_end (tri_at tris 0) differ.0 differ.1 differ.2 x y into) in
      inr (ap parity count, λ e. three.z_x (sym e))

  -- so many triangles
  fans_of_some : (n : ℕ) (piece : List ℕ) (tris : List Tri) → FitsPiece corners piece tris → length tris ≡ suc n → (f : ℕ → ℕ) → PartsInThree tris f
      → HasFans f piece tris
  fans_of_some zero piece tris fits count f parts = fans_of_one piece tris fits (omega arith) f parts
  fans_of_some (suc n) piece tris fits count f parts =
      let (k, l, differ, leaf, other) = leaves_law tris fits.tree (omega arith) in
      let off = ear_law corners piece tris fits k leaf in
      let is = is_rest k tris leaf.in_list in
      let fewer : length (without k tris) ≡ suc n = omega (arith, is.count) in
      let parts_of_rest : PartsInThree (without k tris) f = λ m below. subst (HasThree f) (is.same m below) (parts _ (is.old_in m below)) in
      let fans = fans_of_some n (off.before ++ off.after) (without k tris) off.rest fewer f parts_of_rest in
      fans_with_ear piece tris fits k leaf off f parts fans

-- from a vertex to the next there is an edge, unless it is the last
edge_onward : (n i : ℕ) → i + 1 < n → IsPieceEdge (range_with_len 0 n) i (i + 1)
edge_onward n i below =
    let piece = range_with_len 0 n in
    let next : (i + 1) % length piece ≡ i + 1 = mod-eq_of_lt (omega (arith, below, length-range_with_len 0 n)) in
    let here : get_or piece i 0 ≡ 0 + i = get_or-range_with_len 0 n i 0 (omega (arith, below)) in
    let there : get_or piece (i + 1) 0 ≡ 0 + (i + 1) = get_or-range_with_len 0 n (i + 1) 0 below in
    let is : get_or piece (i + 1) 0 ≡ i + 1 = omega (arith, there) in
    let at_next : get_or piece ((i + 1) % length piece) 0 ≡ get_or piece (i + 1) 0 = ap (λ p. get_or piece p 0) next in
    record {
      place = i;
      in_piece = omega (arith, below, length-range_with_len 0 n);
      from = omega (arith, here);
      to = at_next ∙ is;
    }

-- ---- a ring

module _ (corners : List Point) (tris : List Tri) (fits : Fits corners tris) (f : ℕ → ℕ) (parts : PartsInThree tris f) where
  -- a class that ends a fan is that after the other two
  after_fan : (d x y z : ℕ) → x < 3 → y < 3 → z < 3 → x ≢ y → y ≢ z → IsFan d x z → z ≡ class_after x y (parity d)
  after_fan d x y z x_below y_below z_below x_y y_z (inl h) = grind (arith, h.0, h.1)
  after_fan d x y z x_below y_below z_below x_y y_z (inr h) =
      let third : z ≡ 3 - x - y = omega (arith, h.1) in grind (arith, h.0, third)

  -- vertices that follow one another have two classes
  pub next_differs : (i : ℕ) → i + 1 < length corners → (f i < 3) × (f (i + 1) < 3) × (¬ (f i ≡ f (i + 1)))
  next_differs i below =
      let (k, one) = one_at_edge corners tris fits i (omega arith) in
      let side = subst (HasSide (tri_at tris k) i) (mod-eq_of_lt below) one.has in
      ends_differ f (tri_at tris k) i (i + 1) (parts k one.in_list) side

  -- so each class is that after the two before it
  pub class_follows : (i : ℕ) → i + 2 < length corners → f (i + 2) ≡ class_after (f i) (f (i + 1)) (parity (corner_count tris (length tris) (i + 1)))
  class_follows i below =
      let n = length corners in
      let piece = range_with_len 0 n in
      let some = some_triangle corners tris fits in
      let next : i + 1 < n = omega arith in
      let last : (i + 1) + 1 < n = omega arith in
      let fan =
      fans_of_some corners (length tris - 1) piece tris fits (omega (arith, some)) f parts i (i + 1) ((i + 1) + 1) (edge_onward n i next)
      (edge_onward n (i + 1) last)
      in
      let one = next_differs i next in
      let two = next_differs (i + 1) last in
      let is = after_fan (degree tris (i + 1)) (f i) (f (i + 1)) (f ((i + 1) + 1)) one.0 two.0 two.1 one.2 two.2 fan in
      ap f (omega arith) ∙ is ∙ ap (λ d. class_after (f i) (f (i + 1)) (parity d)) (sym (degree_is tris (i + 1)))
