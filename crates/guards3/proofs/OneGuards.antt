-- The class with the fewest vertices: each class has a vertex, so of two with the same count one has the lesser number.
-- The guards of a mesh are one list: two partings have the same three lists of members, and one of them is preferred to the others.
use Rattle.std.proofs.Common.{◌≡◌, ◌≢◌, ◌⊎◌, inl, inr, refl, sym, ap, ◌∙◌, ℕ, ◌*◌, ◌/◌, ◌<◌, ◌≤◌, List, length, get_or, arith, subst}
use Rattle.std.proofs.Math.Nat.{le-div_iff_mul-le}
use Rattle.std.proofs.lemmas.Bool.{cases_lt, cases_eq}
use Rattle.std.proofs.lemmas.List.Elements.{Contains-get_or}
use Rattle.std.specs.List.{Contains}
use Rattle.meshes.specs.Fits.{Fits}
use Rattle.meshes.specs.Side.{HasSide, tri_at}
use Rattle.meshes.specs.declared.tri.Tri.{Tri}
use Rattle.ring_check.specs.Oriented.{Oriented, given_index}
use Rattle.guards3.proofs.ClassMembers.{class_at, class_of_member, count_all, member_of, same_members}
use Rattle.guards3.proofs.GivenClasses.{corners_below}
use Rattle.guards3.proofs.GivenNumbers.{given_below, given_twice}
use Rattle.guards3.proofs.OneParting.{parts_of_list, some_triangle, together}
use Rattle.guards3.proofs.ThreeClasses.{one_of_three}
use Rattle.guards3.specs.Guards.{AreAmong, AreGuards, IsOfThree, IsParting, IsRather, class_of, members, OneGuardsLaw}

-- of two pairs with different second numbers one comes before the other
rather_of_not : (a b x y : ℕ) → ¬ (x ≡ y) → ¬ ((b < a) ⊎ ((b ≡ a) × (y < x))) → (a < b) ⊎ ((a ≡ b) × (x < y))
rather_of_not a b x y differ not = elim (cases_lt a b) [
  | inl less ↦ inl less
  | inr other ↦ elim (cases_lt b a) [
    | inl more ↦ absurd (not (inl more))
    | inr equal ↦ elim (cases_lt x y) [
      | inl first ↦ inr (omega arith, first)
      | inr last ↦ absurd (not (inr (omega arith, omega arith)))
    ]
  ]
]

-- a vertex of a class is among its members by its number
pub member_of_vertex : (ring : Oriented) (classes : List ℕ) (class i : ℕ) → i < length ring.corners → class_of classes i ≡ class
    → Contains (members ring classes class) (given_index ring i)
member_of_vertex ring classes class i below is =
    member_of (class_at ring classes) class (length ring.corners) (given_index ring i) (given_below ring i below)
    (ap (class_of classes) (given_twice ring i below) ∙ is)

module _ (ring : Oriented) (tris : List Tri) (fits : Fits ring.corners tris) (classes : List ℕ)
    (parting : IsParting (length ring.corners) tris classes) where
  -- a triangle has a corner of each class
  pub corner_of_class : (k class : ℕ) → k < length tris → class < 3 → let t = tri_at tris k in let has = λ (i : ℕ). class_of classes i ≡ class in
      has t.a ⊎ has t.b ⊎ has t.c
  corner_of_class k class below of_three = one_of_three _ _ _ class (parts_of_list ring.corners tris fits classes parting k below) of_three

  -- so each class has a vertex,
  pub vertex_of_class : (class : ℕ) → class < 3 → (i : ℕ) × (i < length ring.corners) × (class_of classes i ≡ class)
  vertex_of_class class of_three =
      let triangle = some_triangle ring.corners tris fits in
      let t = tri_at tris 0 in
      let below = corners_below ring.corners tris fits _ refl 0 triangle in
      elim (corner_of_class 0 class triangle of_three) [
        | inl a ↦ (t.a, below.a, a)
        | inr (inl b) ↦ (t.b, below.b, b)
        | inr (inr c) ↦ (t.c, below.c, c)
      ]

  -- and a member
  pub has_member : (class : ℕ) → class < 3 → 0 < length (members ring classes class)
  has_member class of_three =
      let (i, below, is) = vertex_of_class class of_three in
      let (k, within, at) = member_of_vertex ring classes class i below is in
      omega (arith, within)

  -- so the first members of two classes differ,
  first_differ : (c d : ℕ) → c < 3 → d < 3 → c ≢ d → ¬ (get_or (members ring classes c) 0 0 ≡ get_or (members ring classes d) 0 0)
  first_differ c d of_c of_d differ same =
      let first = λ (class : ℕ) (of_three : class < 3). (class_of_member (class_at ring classes) class (length ring.corners) _
      (Contains-get_or (members ring classes class) 0 0 (has_member class of_three))).1 in
      differ (sym (first c of_c) ∙ ap (class_at ring classes) same ∙ first d of_d)

  -- and one of the two is preferred
  pub one_is_rather : (c d : ℕ) → c < 3 → d < 3 → c ≢ d → ¬ IsRather (members ring classes d) (members ring classes c)
      → IsRather (members ring classes c) (members ring classes d)
  one_is_rather c d of_c of_d differ not = rather_of_not _ _ _ _ (first_differ c d of_c of_d differ) not

  -- the fewest members are guards
  pub fewest_guard : (class : ℕ) → class < 3 → ((other : ℕ) → other < 3 → ¬ IsRather (members ring classes other) (members ring classes class))
      → AreGuards ring tris (members ring classes class)
  fewest_guard class of_three fewest = record {
    classes = classes;
    parting = parting;
    class = class;
    of_three = of_three;
    are = refl;
    chosen = λ other below differ. one_is_rather class other of_three below (λ e. differ (sym e)) (fewest other below);
  }

  -- at most a third of all vertices
  pub fewest_third : (class : ℕ) → class < 3 → ((other : ℕ) → other < 3 → ¬ IsRather (members ring classes other) (members ring classes class))
      → length (members ring classes class) ≤ length ring.corners / 3
  fewest_third class of_three fewest =
      let count = length (members ring classes class) in
      let sum = count_all (class_at ring classes) (length ring.corners) (λ x below. parting.three (given_index ring x) (given_below ring x below)) in
      let least : (other : ℕ) → other < 3 → count ≤ length (members ring classes other) =
      λ other below. elim (cases_lt (length (members ring classes other)) count) [
        | inl less ↦ absurd (fewest other below (inl less))
        | inr not ↦ not
      ] in
      let three_times : count * 3 ≤ length ring.corners = omega (arith, sum, least 0 (omega arith), least 1 (omega arith), least 2 (omega arith)) in
      (le-div_iff_mul-le (omega arith)).1 three_times

-- not each of two lists is preferred to the other
not_both_rather : (one other : List ℕ) → IsRather one other → ¬ IsRather other one
not_both_rather one other first second = omega (arith, first, second)

module _ (ring : Oriented) (tris : List Tri) (fits : Fits ring.corners tris) where
  -- the members of a class of one parting are those of a class of another
  same_class : (one other : List ℕ) → IsParting (length ring.corners) tris one → IsParting (length ring.corners) tris other → (class : ℕ) → class < 3
      → (d : ℕ) × (d < 3) × (members ring one class ≡ members ring other d)
  same_class one other of_one of_other class of_three =
      let (v, below, is) = vertex_of_class ring tris fits one of_one class of_three in
      let same = together ring.corners tris fits in (
        class_of other v,
        of_other.three v below,
        same_members (class_at ring one) (class_at ring other) class (class_of other v) (length ring.corners) (λ x x_below.
            let at = given_below ring x x_below in (
              λ has. same one other of_one of_other (given_index ring x) v at below (has ∙ sym is),
              λ has. same other one of_other of_one (given_index ring x) v at below has ∙ is,
            )),
      )

  -- the guards of one parting are those of another, or they are preferred to them
  same_or_rather : (one other : List ℕ) → AreGuards ring tris one → AreGuards ring tris other → (one ≡ other) ⊎ IsRather one other
  same_or_rather one other g h =
      let (d, below, same) = same_class h.classes g.classes h.parting g.parting h.class h.of_three in
      let is : other ≡ members ring g.classes d = h.are ∙ same in
      elim (cases_eq d g.class) [
        | inl this ↦ inl (g.are ∙ sym (subst (λ c. other ≡ members ring g.classes c) this is))
        | inr not ↦ inr (subst (IsRather one) (sym is) (g.chosen d below not))
      ]

  -- so they are the same
  one_list : (one other : List ℕ) → AreGuards ring tris one → AreGuards ring tris other → one ≡ other
  one_list one other g h = elim (same_or_rather one other g h) [
    | inl same ↦ same
    | inr first ↦ elim (same_or_rather other one h g) [
      | inl same ↦ sym same
      | inr second ↦ absurd (not_both_rather one other first second)
    ]
  ]

-- ---- lists with the same triangles

-- the ends of a side of a triangle with corners in three classes are in two
apart_on_side : (classes : List ℕ) (t : Tri) (i j : ℕ) → IsOfThree classes t → HasSide t i j → class_of classes i ≢ class_of classes j
apart_on_side classes t i j three (inl side) = λ same. three.a_b (ap (class_of classes) side.0 ∙ same ∙ sym (ap (class_of classes) side.1))
apart_on_side classes t i j three (inr (inl side)) = λ same. three.b_c (ap (class_of classes) side.0 ∙ same ∙ sym (ap (class_of classes) side.1))
apart_on_side classes t i j three (inr (inr side)) = λ same. three.c_a (ap (class_of classes) side.0 ∙ same ∙ sym (ap (class_of classes) side.1))

module _ (tris others : List Tri) (among : AreAmong tris others) where
  -- a parting by the second list is one by the first,
  parting_among : (count : ℕ) (classes : List ℕ) → IsParting count others classes → IsParting count tris classes
  parting_among count classes parting = record {
    one_each = parting.one_each;
    three = parting.three;
    corners = λ k below.
        let (l, in_list, sides) = among k below in
        let apart = λ (i j : ℕ) (side : HasSide (tri_at tris k) i j).
        apart_on_side classes (tri_at others l) i j (parting.corners l in_list) (sides i j side) in
        record { a_b = apart _ _ (inl (refl, refl)); b_c = apart _ _ (inr (inl (refl, refl))); c_a = apart _ _ (inr (inr (refl, refl))) };
  }

  -- so the guards of the second are guards of the first
  guards_among : (ring : Oriented) (guards : List ℕ) → AreGuards ring others guards → AreGuards ring tris guards
  guards_among ring guards are = record {
    classes = are.classes;
    parting = parting_among (length ring.corners) are.classes are.parting;
    class = are.class;
    of_three = are.of_three;
    are = are.are;
    chosen = are.chosen;
  }

-- the law, as it is stated
pub one_guards_law : OneGuardsLaw
one_guards_law ring tris others fits among one other g h = one_list ring tris fits one other g (guards_among tris others among ring other h)
