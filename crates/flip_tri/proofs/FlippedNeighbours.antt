-- What the rows of neighbours know after a flip, when the two triangles have their new rows, and the triangles beside them not yet.
use Rattle.std.proofs.Common.{◌≡◌, ◌≢◌, refl, sym, ap, subst, ◌∙◌, inl, inr, ℕ, ◌<◌, ◌⊎◌, IfSome, List, length, arith, Some}
use Rattle.std.proofs.lemmas.Bool.{cases_eq}
use Rattle.std.specs.Prelude.{Option}
use Rattle.meshes.specs.Side.{HasSide, HasSidesOnce, tri_at}
use Rattle.meshes.specs.declared.tri.Tri.{Tri}
use Rattle.cut_tri.specs.Triangles.{HasRound}
use Rattle.flip_tri.proofs.HandedOver.{has_side_moved}
use Rattle.flip_tri.proofs.TwoReplaced.{replaced_first, replaced_length, replaced_others, replaced_second}
use Rattle.flip_tri.specs.Flips.{IsQuadOf}
use Rattle.flip_tri.specs.Shared.{IsAcrossFrom, flipped}
use Rattle.flip_tri.specs.declared.quad.Quad.{Quad}

-- no side of a triangle ends at what is none of its corners,
no_side_to : (a b c p q : ℕ) → q ≢ a → q ≢ b → q ≢ c → ¬ HasSide (record { a = a; b = b; c = c }) p q
no_side_to a b c p q not_a not_b not_c (inl e) = not_b (sym e.1)
no_side_to a b c p q not_a not_b not_c (inr (inl e)) = not_c (sym e.1)
no_side_to a b c p q not_a not_b not_c (inr (inr e)) = not_a (sym e.1)

-- and none begins there
no_side_from : (a b c p q : ℕ) → p ≢ a → p ≢ b → p ≢ c → ¬ HasSide (record { a = a; b = b; c = c }) p q
no_side_from a b c p q not_a not_b not_c (inl e) = not_a (sym e.0)
no_side_from a b c p q not_a not_b not_c (inr (inl e)) = not_b (sym e.0)
no_side_from a b c p q not_a not_b not_c (inr (inr e)) = not_c (sym e.0)

-- triangles k and l have this quadrilateral, and no side belongs to two triangles, before and after its diagonal is flipped
pub record IsFlip (tris : List Tri) (k l : ℕ) (quad : Quad) : Type 0 where
  pub near : k < length tris
  pub far : l < length tris
  pub different : k ≢ l
  pub corners : IsQuadOf tris k l quad
  pub before : HasSidesOnce tris
  pub once : HasSidesOnce (flipped tris k l quad)

-- what is beside its four sides
pub record HasBeside (tris : List Tri) (quad : Quad) (to_left left_from from_right right_to : Option ℕ) : Type 0 where
  pub is_from_right : IsAcrossFrom tris quad.from quad.right from_right
  pub is_right_to : IsAcrossFrom tris quad.right quad.to right_to
  pub is_to_left : IsAcrossFrom tris quad.to quad.left to_left
  pub is_left_from : IsAcrossFrom tris quad.left quad.from left_from
  pub from_right_in_list : IfSome from_right (λ m. m < length tris)
  pub right_to_in_list : IfSome right_to (λ m. m < length tris)
  pub to_left_in_list : IfSome to_left (λ m. m < length tris)
  pub left_from_in_list : IfSome left_from (λ m. m < length tris)

-- ---- triangle k has the corners i, j and c, triangle l has j, i and d; then they have i, d and c, and d, j and c

module _ (tris : List Tri) (k l : ℕ) (quad : Quad) (flip : IsFlip tris k l quad) where
  abbrev i : ℕ
  i = quad.from

  abbrev j : ℕ
  j = quad.to

  abbrev c : ℕ
  c = quad.left

  abbrev d : ℕ
  d = quad.right

  abbrev near : HasRound (tri_at tris k) i j c
  near = flip.corners.near

  abbrev far : HasRound (tri_at tris l) j i d
  far = flip.corners.far

  abbrev before : HasSidesOnce tris
  before = flip.before

  abbrev once : HasSidesOnce (flipped tris k l quad)
  once = flip.once

  abbrev pub first : Tri
  first = record { a = i; b = d; c = c }

  abbrev pub second : Tri
  second = record { a = d; b = j; c = c }

  abbrev pub after : List Tri
  after = flipped tris k l quad

  pub count_after : length after ≡ length tris
  count_after = replaced_length tris k l first second (record { a = 0; b = 0; c = 0 }) flip.near flip.far flip.different

  pub at_near : tri_at after k ≡ first
  at_near = replaced_first tris k l first second (record { a = 0; b = 0; c = 0 }) flip.near flip.far flip.different

  pub at_far : tri_at after l ≡ second
  at_far = replaced_second tris k l first second (record { a = 0; b = 0; c = 0 }) flip.near flip.far flip.different

  pub at_other : (m : ℕ) → m ≢ k → m ≢ l → tri_at after m ≡ tri_at tris m
  at_other = replaced_others tris k l first second (record { a = 0; b = 0; c = 0 }) flip.near flip.far flip.different

  -- each triangle is one of the two, or as before
  pub one_of : (P : Tri → Type 0) (m : ℕ) → P (tri_at after m) → ((m ≡ k) × P first) ⊎ ((m ≡ l) × P second) ⊎ (((m ≢ k) × (m ≢ l)) × P (tri_at tris m))
  one_of P m h = elim (cases_eq m k) [
    | inl same ↦ inl (same, subst P (ap (tri_at after) same ∙ at_near) h)
    | inr not_k ↦ elim (cases_eq m l) [
      | inl same ↦ inr (inl (same, subst P (ap (tri_at after) same ∙ at_far) h))
      | inr not_l ↦ inr (inr ((not_k, not_l), subst P (at_other m not_k not_l) h))
    ]
  ]

  k_after : k < length after
  k_after = omega (arith, flip.near, count_after)

  l_after : l < length after
  l_after = omega (arith, flip.far, count_after)

  loop_before : (m p q : ℕ) → m < length tris → HasSide (tri_at tris m) p q → p ≢ q
  loop_before m p q below has e = before.one_way p q m below has (has_side_moved refl e (sym e) has)

  i_j : i ≢ j
  i_j = loop_before k i j flip.near near.first

  j_c : j ≢ c
  j_c = loop_before k j c flip.near near.second

  c_i : c ≢ i
  c_i = loop_before k c i flip.near near.third

  i_d : i ≢ d
  i_d = loop_before l i d flip.far far.second

  d_j : d ≢ j
  d_j = loop_before l d j flip.far far.third

  first_has : (p q : ℕ) → HasSide first p q → HasSide (tri_at after k) p q
  first_has p q has = has_side_moved (sym at_near) refl refl has

  second_has : (p q : ℕ) → HasSide second p q → HasSide (tri_at after l) p q
  second_has p q has = has_side_moved (sym at_far) refl refl has

  d_c : d ≢ c
  d_c e = let has = first_has d c (inr (inl (refl, refl))) in once.one_way d c k k_after has (has_side_moved refl e (sym e) has)

  -- the four sides round both have no triangle of the two in the other direction
  not_first_di : ¬ HasSide first d i
  not_first_di has = once.one_way i d k k_after (first_has i d (inl (refl, refl))) (first_has d i has)

  not_second_di : ¬ HasSide second d i
  not_second_di = no_side_to d j c d i i_d i_j (λ e. c_i (sym e))

  not_first_ic : ¬ HasSide first i c
  not_first_ic has = once.one_way c i k k_after (first_has c i (inr (inr (refl, refl)))) (first_has i c has)

  not_second_ic : ¬ HasSide second i c
  not_second_ic = no_side_from d j c i c i_d i_j (λ e. c_i (sym e))

  not_first_jd : ¬ HasSide first j d
  not_first_jd = no_side_from i d c j d (λ e. i_j (sym e)) (λ e. d_j (sym e)) j_c

  not_second_jd : ¬ HasSide second j d
  not_second_jd has = once.one_way d j l l_after (second_has d j (inl (refl, refl))) (second_has j d has)

  not_first_cj : ¬ HasSide first c j
  not_first_cj = no_side_to i d c c j (λ e. i_j (sym e)) (λ e. d_j (sym e)) j_c

  not_second_cj : ¬ HasSide second c j
  not_second_cj has = once.one_way j c l l_after (second_has j c (inr (inl (refl, refl)))) (second_has c j has)

  -- what is beside a side is beside it still, where neither of the two has it in the other direction
  beside_kept : (p q : ℕ) (beside : Option ℕ) → ¬ HasSide first q p → ¬ HasSide second q p → IsAcrossFrom tris p q beside → IsAcrossFrom after p q beside
  beside_kept p q beside not_first not_second is m below has = elim (one_of (λ t. HasSide t q p) m has) [
    | inl h ↦ absurd (not_first h.1)
    | inr (inl h) ↦ absurd (not_second h.1)
    | inr (inr h) ↦ is m (omega (arith, below, count_after)) h.1
  ]

  module _ (to_left left_from from_right right_to : Option ℕ) (beside : HasBeside tris quad to_left left_from from_right right_to) where
    pub beside_from_right : IsAcrossFrom after i d from_right
    beside_from_right = beside_kept i d from_right not_first_di not_second_di beside.is_from_right

    pub beside_left_from : IsAcrossFrom after c i left_from
    beside_left_from = beside_kept c i left_from not_first_ic not_second_ic beside.is_left_from

    pub beside_right_to : IsAcrossFrom after d j right_to
    beside_right_to = beside_kept d j right_to not_first_jd not_second_jd beside.is_right_to

    pub beside_to_left : IsAcrossFrom after j c to_left
    beside_to_left = beside_kept j c to_left not_first_cj not_second_cj beside.is_to_left

    pub beside_near : IsAcrossFrom after d c (Some l)
    beside_near m below has = ap Some (once.once c d l m l_after below (second_has c d (inr (inr (refl, refl)))) has)

    pub beside_far : IsAcrossFrom after c d (Some k)
    beside_far m below has = ap Some (once.once d c k m k_after below (first_has d c (inr (inl (refl, refl)))) has)

    -- a side of another triangle, neither from d to i nor from c to j
    pub beside_other : (m p q : ℕ) (o : Option ℕ) → m < length tris → m ≢ k → m ≢ l → HasSide (tri_at tris m) p q → ¬ ((p ≡ d) × (q ≡ i))
        → ¬ ((p ≡ c) × (q ≡ j)) → IsAcrossFrom tris p q o → IsAcrossFrom after p q o
    beside_other m p q o below not_k not_l has not_first not_second is n n_below n_has = elim (one_of (λ t. HasSide t q p) n n_has) [
      | inl h ↦ elim h.1 [
        | inl e ↦ absurd (not_first (sym e.1, sym e.0))
        | inr (inl e) ↦ absurd (not_l (once.once c d m l (omega (arith, below, count_after)) l_after
            (has_side_moved (sym (at_other m not_k not_l)) (sym e.1) (sym e.0) has) (second_has c d (inr (inr (refl, refl))))))
        | inr (inr e) ↦ is k flip.near (has_side_moved refl e.0 e.1 near.third) ∙ ap Some (sym h.0)
      ]
      | inr (inl h) ↦ elim h.1 [
        | inl e ↦ is l flip.far (has_side_moved refl e.0 e.1 far.third) ∙ ap Some (sym h.0)
        | inr (inl e) ↦ absurd (not_second (sym e.1, sym e.0))
        | inr (inr e) ↦ absurd (not_k (once.once d c m k (omega (arith, below, count_after)) k_after
            (has_side_moved (sym (at_other m not_k not_l)) (sym e.1) (sym e.0) has) (first_has d c (inr (inl (refl, refl))))))
      ]
      | inr (inr h) ↦ is n (omega (arith, n_below, count_after)) h.1
    ]

    -- only other triangles have these two sides
    pub first_of_other : (m : ℕ) → HasSide (tri_at after m) d i → HasSide (tri_at tris m) d i
    first_of_other m has = elim (one_of (λ t. HasSide t d i) m has) [
      | inl h ↦ absurd (not_first_di h.1)
      | inr (inl h) ↦ absurd (not_second_di h.1)
      | inr (inr h) ↦ h.1
    ]

    pub second_of_other : (m : ℕ) → HasSide (tri_at after m) c j → HasSide (tri_at tris m) c j
    second_of_other m has = elim (one_of (λ t. HasSide t c j) m has) [
      | inl h ↦ absurd (not_first_cj h.1)
      | inr (inl h) ↦ absurd (not_second_cj h.1)
      | inr (inr h) ↦ h.1
    ]
