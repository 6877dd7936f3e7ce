-- Classes that are given round the ring by the marks of its vertices: they are a parting.
use Rattle.std.proofs.Common.{◌≡◌, inl, inr, refl, sym, subst, ap, ◌∙◌, ℕ, zero, suc, ◌+◌, ◌-◌, ◌<◌, List, length, arith, get_or}
use Rattle.std.proofs.Math.ListN.{set}
use Rattle.std.proofs.lemmas.Bool.{cases_eq}
use Rattle.std.proofs.lemmas.List.{get_or-set_other, get_or-set_same, length-set}
use Rattle.plane.specs.Point.{Point}
use Rattle.meshes.proofs.Sides.{below_of_member, two_fewer}
use Rattle.meshes.specs.Fits.{Fits}
use Rattle.meshes.specs.Side.{tri_at}
use Rattle.meshes.specs.declared.tri.Tri.{Tri}
use Rattle.guards3.proofs.Fans.{class_follows, next_differs}
use Rattle.guards3.proofs.SomeParting.{parting_exists}
use Rattle.guards3.proofs.ThreeClasses.{named, named_below, named_first, named_second, three_back, three_named, three_turned, three_with}
use Rattle.guards3.specs.Guards.{class_of, IsParting}
use Rattle.guards3.specs.Parting.{AreGivenBy, AreMarks, HasCorners, IsByMarks, PartsInThree, class_after, corner_count, one_if, parity}

-- the corners of the triangles of a mesh are vertices
pub corners_below : (corners : List Point) (tris : List Tri) → Fits corners tris → (n : ℕ) → n ≡ length corners → (k : ℕ) → k < length tris
    → HasCorners n (tri_at tris k)
corners_below corners tris fits n is k below =
    let tri = fits.triangles k below in
    let vertices = below_of_member (length corners) in
    subst (λ m. HasCorners m (tri_at tris k)) (sym is) (record { a = vertices _ tri.has_a; b = vertices _ tri.has_b; c = vertices _ tri.has_c })

-- ---- marks

-- a mark is 0 or 1
parity_below : (n : ℕ) → parity n < 2
parity_below zero = omega arith
parity_below (suc n) = omega arith

-- marks of n vertices, by how many corners each is
pub record IsMarked (n : ℕ) (marks : List ℕ) (count : ℕ → ℕ) : Type 0 where
  pub long : length marks ≡ n
  pub are : AreMarks marks count

module _ (n : ℕ) (marks : List ℕ) (count : ℕ → ℕ) (marked : IsMarked n marks count) (i : ℕ) (below : i < n) where
  -- each is 0 or 1
  pub mark_below : get_or marks i 0 < 2
  mark_below = subst (λ m. m < 2) (sym (marked.are i (omega (arith, below, marked.long)))) (parity_below (count i))

  -- with one corner more
  module _ (after : List ℕ) (is : after ≡ set marks i (1 - get_or marks i 0)) where
    still_long : length after ≡ length marks
    still_long = ap length is ∙ length-set marks i (1 - get_or marks i 0)

    marks_changed : AreMarks after (λ j. count j + one_if i j)
    marks_changed j j_below =
        let within : i < length marks = omega (arith, below, marked.long) in
        let read : get_or after j 0 ≡ get_or (set marks i (1 - get_or marks i 0)) j 0 = ap (λ ms. get_or ms j 0) is in
        elim (cases_eq i j) [
          | inl this ↦
              let more : count j + one_if i j ≡ suc (count j) = grind arith in
              let old : get_or marks i 0 ≡ parity (count j) = marked.are i within ∙ ap (λ m. parity (count m)) this in
              read ∙ ap (λ m. get_or (set marks i (1 - get_or marks i 0)) m 0) (sym this) ∙ get_or-set_same marks i (1 - get_or marks i 0) 0 within
              ∙ ap (λ m. 1 - m) old ∙ ap parity (sym more)
          | inr other ↦
              let same : count j + one_if i j ≡ count j = grind arith in
              read ∙ get_or-set_other marks i j (1 - get_or marks i 0) 0 (λ e. other (sym e)) ∙ marked.are j (omega (arith, j_below, still_long))
              ∙ ap parity (sym same)
        ]

    pub with_corner : IsMarked n after (λ j. count j + one_if i j)
    with_corner = record { long = still_long ∙ marked.long; are = marks_changed }

-- ---- classes

module _ (corners : List Point) (tris : List Tri) (fits : Fits corners tris) where
  -- a parting, and the classes of vertices 0 and 1
  abbrev some_parts : ℕ → ℕ
  some_parts = (parting_exists corners tris fits).0

  first_two : (some_parts 0 < 3) × (some_parts 1 < 3) × (¬ (some_parts 0 ≡ some_parts 1))
  first_two = next_differs corners tris fits some_parts (parting_exists corners tris fits).1 0 (omega (arith, two_fewer corners tris fits))

  -- the parting that has 0 and 1 there
  abbrev pub from_0_1 : ℕ → ℕ
  from_0_1 i = named (some_parts 0) (some_parts 1) (some_parts i)

  parts_from_0_1 : PartsInThree tris from_0_1
  parts_from_0_1 k below =
      let three = three_with (some_parts 0) (some_parts 1) first_two.0 first_two.1 first_two.2 in
      three_named _ _ _ (three_turned _ _ _ (three_turned _ _ _ (three_back _ _ _ three))) _ _ _ ((parting_exists corners tris fits).1 k below)

  module _ (marks : List ℕ) (long : length marks ≡ length corners) (are : AreMarks marks (corner_count tris (length tris))) where
    -- it is by the marks
    by_marks : IsByMarks marks from_0_1
    by_marks = record {
      first = named_first (some_parts 0) (some_parts 1);
      second = named_second (some_parts 0) (some_parts 1) first_two.2;
      later = λ i below.
          class_follows corners tris fits from_0_1 parts_from_0_1 i (omega (arith, below, long))
          ∙ ap (class_after (from_0_1 i) (from_0_1 (i + 1))) (sym (are (i + 1) (omega (arith, below))));
    }

    -- so what is given by the marks is a parting
    pub given_parting : (classes : List ℕ) → length classes ≡ length corners → AreGivenBy marks classes → IsParting (length corners) tris classes
    given_parting classes count given =
        let at : (i : ℕ) → i < length corners → class_of classes i ≡ from_0_1 i = λ i below. given from_0_1 by_marks i (omega (arith, below, long)) in
        record {
          one_each = count;
          three = λ i below. subst (λ c. c < 3) (sym (at i below)) (named_below (some_parts 0) (some_parts 1) (some_parts i));
          corners = λ k below.
              let has = corners_below corners tris fits (length corners) refl k below in
              let three = parts_from_0_1 k below in
              record {
                a_b = λ e. three.x_y (sym (at _ has.a) ∙ e ∙ at _ has.b);
                b_c = λ e. three.y_z (sym (at _ has.b) ∙ e ∙ at _ has.c);
                c_a = λ e. three.z_x (sym (at _ has.c) ∙ e ∙ at _ has.a);
              };
        }

-- ---- one class more

module _ (marks : List ℕ) (f : ℕ → ℕ) (by : IsByMarks marks f) (k : ℕ) (below : k + 2 < length marks) where
  -- the class after two that are given
  pub next_given : (before here mark : ℕ) → before ≡ f k → here ≡ f (k + 1) → mark ≡ get_or marks (k + 1) 0 → class_after before here mark ≡ f (k + 2)
  next_given before here mark first second third =
      (λ i. class_after (first i) (second i) (third i)) ∙ sym (by.later k below)

  -- with it one more is given
  pub given_more : (classes : List ℕ) → length classes ≡ length marks → ((i : ℕ) → i < k + 2 → class_of classes i ≡ f i) → (next : ℕ) → next ≡ f (k + 2)
      → (i : ℕ) → i < k + 3 → class_of (set classes (k + 2) next) i ≡ f i
  given_more classes long given next is i i_below = elim (cases_eq i (k + 2)) [
    | inl this ↦
        ap (class_of (set classes (k + 2) next)) this ∙ get_or-set_same classes (k + 2) next 0 (omega (arith, below, long)) ∙ is ∙ ap f (sym this)
    | inr other ↦ get_or-set_other classes (k + 2) i next 0 other ∙ given i (omega (arith, i_below, other))
  ]
