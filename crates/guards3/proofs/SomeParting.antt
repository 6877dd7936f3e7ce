-- Each mesh has a parting: that of the mesh without one of its ears, and the tip of the ear gets the class that the ends of its base leave.
use Rattle.std.proofs.Common.{◌≡◌, inl, inr, refl, sym, ap, subst, ◌∙◌, ℕ, zero, suc, ◌+◌, ◌-◌, ◌<◌, List, ◌∷◌, ◌++◌, length, get_or, arith}
use Rattle.std.proofs.Common.{length-append}
use Rattle.std.proofs.lemmas.Bool.{cases_eq}
use Rattle.std.proofs.lemmas.List.{get_or-append-add, get_or_append_left, get_or_at, get_or_default}
use Rattle.std.proofs.lemmas.List.Elements.{Contains-append_cases}
use Rattle.std.specs.List.{Contains, range_with_len}
use Rattle.std.specs.Prelude.{◌==◌, if◌then◌else◌}
use Rattle.plane.specs.Point.{Point}
use Rattle.rings.specs.Simple.{IsSimple}
use Rattle.meshes.proofs.Ears.{ear_law, is_rest}
use Rattle.meshes.proofs.Sides.{corners_differ, one_number}
use Rattle.meshes.proofs.TreeLeaves.{leaves_law}
use Rattle.meshes.specs.Fits.{Fits, FitsPiece, IsTriOf, piece_points}
use Rattle.meshes.specs.Laws.{IsEarOff, IsLeaf, without}
use Rattle.meshes.specs.Side.{HasSide, tri_at}
use Rattle.meshes.specs.declared.tri.Tri.{Tri}
use Rattle.guards3.proofs.OneParting.{some_triangle}
use Rattle.guards3.proofs.ThreeClasses.{named, named_first, named_second, named_third, three_turned, three_with}
use Rattle.guards3.specs.Parting.{AreThreeClasses, PartsInThree}

-- ---- classes of the corners of a triangle

-- the corners of the triangle have three classes
abbrev pub HasThree : (ℕ → ℕ) → Tri → Type 0
HasThree f t = AreThreeClasses (f t.a) (f t.b) (f t.c)

module _ (f : ℕ → ℕ) (t : Tri) where
  -- the ends of a side have different classes
  pub ends_differ : (i j : ℕ) → HasThree f t → HasSide t i j → (f i < 3) × (f j < 3) × (¬ (f i ≡ f j))
  ends_differ i j three (inl s) = rw (← s.0, ← s.1) (three.first, three.second, three.x_y)
  ends_differ i j three (inr (inl s)) = rw (← s.0, ← s.1) (three.second, three.third, three.y_z)
  ends_differ i j three (inr (inr s)) = rw (← s.0, ← s.1) (three.third, three.first, three.z_x)

  -- corners that follow one another are the three corners
  by_sides : (u v w : ℕ) → HasSide t u v → HasSide t v w → AreThreeClasses (f u) (f v) (f w) → HasThree f t
  by_sides u v w (inl s) (inl r) three = absurd (three.x_y (ap f (sym s.0 ∙ r.0)))
  by_sides u v w (inl s) (inr (inl r)) three = rw (s.0, s.1, r.1) three
  by_sides u v w (inl s) (inr (inr r)) three = absurd (three.z_x (ap f (sym r.1 ∙ s.0)))
  by_sides u v w (inr (inl s)) (inl r) three = absurd (three.z_x (ap f (sym r.1 ∙ s.0)))
  by_sides u v w (inr (inl s)) (inr (inl r)) three = absurd (three.x_y (ap f (sym s.0 ∙ r.0)))
  by_sides u v w (inr (inl s)) (inr (inr r)) three = rw (r.1, s.0, s.1) (three_turned _ _ _ (three_turned _ _ _ three))
  by_sides u v w (inr (inr s)) (inl r) three = rw (s.0, s.1, r.1) (three_turned _ _ _ three)
  by_sides u v w (inr (inr s)) (inr (inl r)) three = absurd (three.z_x (ap f (sym r.1 ∙ s.0)))
  by_sides u v w (inr (inr s)) (inr (inr r)) three = absurd (three.x_y (ap f (sym s.0 ∙ r.0)))

-- the ends of a side are corners
pub ends_in_piece : (corners : List Point) (piece : List ℕ) (t : Tri) → IsTriOf corners piece t → (i j : ℕ) → HasSide t i j
    → Contains piece i × Contains piece j
ends_in_piece corners piece t tri i j side = let in_piece = Contains piece in elim side [
  | inl s ↦ (subst in_piece s.0 tri.has_a, subst in_piece s.1 tri.has_b)
  | inr (inl s) ↦ (subst in_piece s.0 tri.has_b, subst in_piece s.1 tri.has_c)
  | inr (inr s) ↦ (subst in_piece s.0 tri.has_c, subst in_piece s.1 tri.has_a)
]

-- ---- one more vertex

-- vertex v gets this class, and the others keep theirs
abbrev with_class : (ℕ → ℕ) → ℕ → ℕ → ℕ → ℕ
with_class f v class i = if i == v then class else f i

with_class_there : (f : ℕ → ℕ) (v class : ℕ) → with_class f v class v ≡ class
with_class_there f v class = grind arith

with_class_other : (f : ℕ → ℕ) (v class i : ℕ) → ¬ (i ≡ v) → with_class f v class i ≡ f i
with_class_other f v class i not = grind arith

module _ (corners : List Point) where
  -- the tip is not in the rest of the piece
  pub tip_is_new : (before after : List ℕ) (v : ℕ) → IsSimple (piece_points corners (before ++ v ∷ after)) → ¬ Contains (before ++ after) v
  tip_is_new before after v simple h =
      let piece = before ++ v ∷ after in
      let long = length-append before (v ∷ after) in
      let one = one_number corners piece simple in
      let tip : get_or piece (length before) 0 ≡ v = get_or_at before v after 0 (length before) refl in
      elim (Contains-append_cases before after v h) [
        | inl (p, within, is) ↦
            let at : get_or piece p 0 ≡ v = get_or_append_left before (v ∷ after) 0 p within ∙ get_or_default before p 0 v within ∙ is in
            omega (arith, one p (length before) (omega arith) (omega arith) (at ∙ sym tip))
        | inr (p, within, is) ↦
            let at : get_or piece (length before + suc p) 0 ≡ v =
            get_or-append-add before (v ∷ after) (suc p) 0 ∙ get_or_default after p 0 v within ∙ is in
            omega (arith, one (length before + suc p) (length before) (omega arith) (omega arith) (at ∙ sym tip))
      ]

  module _ (piece : List ℕ) (tris : List Tri) (fits : FitsPiece corners piece tris) (k : ℕ) (leaf : IsLeaf tris k)
      (off : IsEarOff corners piece tris k leaf.neighbour) (f : ℕ → ℕ) (parts : PartsInThree (without k tris) f) where
    -- the class of the tip, and the classes with it
    abbrev tip_class : ℕ
    tip_class = 3 - f off.u - f off.w

    abbrev with_tip : ℕ → ℕ
    with_tip = with_class f off.v tip_class

    -- another triangle than the ear is one of the rest,
    in_rest : (n : ℕ) → n < length tris → ¬ (n ≡ k) → IsTriOf corners (off.before ++ off.after) (tri_at tris n) × HasThree f (tri_at tris n)
    in_rest n below not =
        let is = is_rest k tris leaf.in_list in
        let there = is.new_in n below not in
        let same = sym (is.same _ there) ∙ ap (tri_at tris) (is.there n not) in (
          subst (IsTriOf corners (off.before ++ off.after)) same (off.rest.triangles _ there),
          subst (HasThree f) same (parts _ there),
        )

    -- so it does not have the tip
    not_tip : (i : ℕ) → Contains (off.before ++ off.after) i → ¬ (i ≡ off.v)
    not_tip i has e =
        let simple : IsSimple (piece_points corners (off.before ++ off.v ∷ off.after)) =
        subst (λ p. IsSimple (piece_points corners p)) off.tip fits.simple in
        tip_is_new off.before off.after off.v simple (subst (Contains (off.before ++ off.after)) e has)

    -- and keeps its classes
    at_other : (n : ℕ) → n < length tris → ¬ (n ≡ k) → HasThree with_tip (tri_at tris n)
    at_other n below not =
        let t = tri_at tris n in
        let here = in_rest n below not in
        rw (
          with_class_other f off.v tip_class t.a (not_tip t.a here.0.has_a),
          with_class_other f off.v tip_class t.b (not_tip t.b here.0.has_b),
          with_class_other f off.v tip_class t.c (not_tip t.c here.0.has_c),
        ) here.1

    -- and the ear has the two classes of its base, and the third
    at_ear : HasThree with_tip (tri_at tris k)
    at_ear =
        let ear = off.ear in
        let next = in_rest leaf.neighbour leaf.neighbour_in_list leaf.different in
        let base = ends_differ f (tri_at tris leaf.neighbour) off.u off.w next.1 ear.base.other_has in
        let ends = ends_in_piece corners (off.before ++ off.after) (tri_at tris leaf.neighbour) next.0 off.u off.w ear.base.other_has in
        let named : AreThreeClasses (with_tip off.u) (with_tip off.v) (with_tip off.w) =
        rw (
          with_class_other f off.v tip_class off.u (not_tip off.u ends.0),
          with_class_there f off.v tip_class,
          with_class_other f off.v tip_class off.w (not_tip off.w ends.1),
        ) (three_with (f off.u) (f off.w) base.0 base.1 base.2) in
        by_sides with_tip (tri_at tris k) off.u off.v off.w ear.first_side ear.second_side named

    -- so all triangles have three classes
    parts_with_tip : PartsInThree tris with_tip
    parts_with_tip n below = elim (cases_eq n k) [
      | inl this ↦ subst (λ m. HasThree with_tip (tri_at tris m)) (sym this) at_ear
      | inr other ↦ at_other n below other
    ]

  -- ---- all triangles

  -- one triangle
  one_triangle : (piece : List ℕ) (tris : List Tri) → FitsPiece corners piece tris → length tris ≡ 1 → (f : ℕ → ℕ) × PartsInThree tris f
  one_triangle piece tris fits one =
      let t = tri_at tris 0 in
      let differ = corners_differ corners t (fits.triangles 0 (omega arith)).counterclockwise in
      let f : ℕ → ℕ = named t.a t.b in
      let at_0 : HasThree f t =
      rw (named_first t.a t.b, named_second t.a t.b differ.0, named_third t.a t.b t.c differ.2 differ.1)
      (three_with 0 2 (omega arith) (omega arith) (λ e. omega arith)) in
      let only : (k : ℕ) → k < length tris → 0 ≡ k = λ k below. omega arith in
      (f, λ k below. subst (λ m. HasThree f (tri_at tris m)) (only k below) at_0)

  -- so many triangles
  some_parts : (n : ℕ) (piece : List ℕ) (tris : List Tri) → FitsPiece corners piece tris → length tris ≡ suc n → (f : ℕ → ℕ) × PartsInThree tris f
  some_parts zero piece tris fits count = one_triangle piece tris fits (omega arith)
  some_parts (suc n) piece tris fits count =
      let (k, l, differ, leaf, other) = leaves_law tris fits.tree (omega arith) in
      let off = ear_law corners piece tris fits k leaf in
      let fewer : length (without k tris) ≡ suc n = omega (arith, (is_rest k tris leaf.in_list).count) in
      let (f, parts) = some_parts n (off.before ++ off.after) (without k tris) off.rest fewer in
      (with_tip piece tris fits k leaf off f parts, parts_with_tip piece tris fits k leaf off f parts)

-- so each mesh has one
pub parting_exists : (corners : List Point) (tris : List Tri) → Fits corners tris → (f : ℕ → ℕ) × PartsInThree tris f
parting_exists corners tris fits =
    some_parts corners (length tris - 1) (range_with_len 0 (length corners)) tris fits (omega (arith, some_triangle corners tris fits))
