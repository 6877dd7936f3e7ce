-- The list of the sides of triangles with one more side, and the last ones at the corners.
use Rattle.std.proofs.Common.{◌≡◌, refl, sym, ap, subst, ◌∙◌, ℕ, zero, suc, ◌+◌, ◌*◌, ◌/◌, ◌%◌, ◌<◌, ◌≤◌, inl, inr, List, [], ◌∷◌, ◌++◌, length, arith, Some, add-one}
use Rattle.std.proofs.Math.Seq.{get_or-append_seam}
use Rattle.std.proofs.lemmas.Bool.{cases_eq, cases_lt}
use Rattle.std.proofs.lemmas.List.{get_or-set_other, get_or-set_same, get_or_append_left, length-append, length-set}
use Rattle.std.specs.Prelude.{Option, max, slice_index, slice_set}
use Rattle.meshes.specs.Mesh.{side_begin, side_end}
use Rattle.meshes.specs.Side.{tri_at}
use Rattle.meshes.specs.declared.tri.Tri.{Tri}
use Rattle.tri_mesh.specs.Neighbours.{AreChained, AreListedSides, HasCornersBelow, IsLastAt, IsListedSide, last_up_to, mark_at, side_at, side_in, sides_from, sides_of, up_to}
use Rattle.tri_mesh.specs.declared.sides.Side.{Side}

-- ---- the marks

-- the last one of some
pub last_up_to_more : (p : ℕ) → last_up_to (p + 1) ≡ Some p
last_up_to_more p = rw add-one refl

-- what the corners have when one of them gets another one
pub mark_here : (marks : List ℕ) (v p : ℕ) → v < length marks → mark_at (slice_set marks v (p + 1)) v ≡ Some p
mark_here marks v p below = rw (get_or-set_same marks v (p + 1) 0 below) (last_up_to_more p)

pub mark_there : (marks : List ℕ) (v p i : ℕ) → ¬ (i ≡ v) → mark_at (slice_set marks v (p + 1)) i ≡ mark_at marks i
mark_there marks v p i differ = ap last_up_to (get_or-set_other marks v i (p + 1) 0 differ)

-- ---- the sides of triangles

module _ (tris : List Tri) where
  -- as many as there are numbers
  length-from : (p : ℕ) (befores : List ℕ) → length (sides_from tris p befores) ≡ length befores
  length-from p [] = refl
  length-from p (b ∷ befores) = ap suc (length-from (p + 1) befores)

  pub length-sides : (befores : List ℕ) → length (sides_of tris befores) ≡ length befores
  length-sides befores = length-from 0 befores

  -- each one in its place
  read_from : (p i : ℕ) (befores : List ℕ) → i < length befores → side_at (sides_from tris p befores) i ≡ side_in tris (p + i) (slice_index befores i)
  read_from p i [] below = absurd (omega (arith, below))
  read_from p zero (b ∷ befores) below = let e : p + 0 ≡ p = omega arith in rw e refl
  read_from p (suc i) (b ∷ befores) below =
      let e : p + suc i ≡ p + 1 + i = omega arith in rw e (read_from (p + 1) i befores (omega (arith, below)))

  pub read_side : (befores : List ℕ) (p : ℕ) → p < length befores → side_at (sides_of tris befores) p ≡ side_in tris p (slice_index befores p)
  read_side befores p below =
      let e : 0 + p ≡ p = omega arith in
      subst (λ x. side_at (sides_of tris befores) p ≡ side_in tris x (slice_index befores p)) e (read_from 0 p befores below)

  -- one more
  from_more : (p b : ℕ) (befores : List ℕ) → sides_from tris p (befores ++ b ∷ []) ≡ sides_from tris p befores ++ side_in tris (p + length befores) b ∷ []
  from_more p b [] = let e : p + 0 ≡ p = omega arith in rw e refl
  from_more p b (c ∷ befores) =
      let e : p + suc (length befores) ≡ p + 1 + length befores = omega arith in
      rw (e, from_more (p + 1) b befores) refl

  pub sides_more : (b : ℕ) (befores : List ℕ) → sides_of tris (befores ++ b ∷ []) ≡ sides_of tris befores ++ side_in tris (length befores) b ∷ []
  sides_more b befores =
      let e : 0 + length befores ≡ length befores = omega arith in
      subst (λ x. sides_of tris (befores ++ b ∷ []) ≡ sides_of tris befores ++ side_in tris x b ∷ []) e (from_more 0 b befores)

-- the higher corner of a side is below the number of corners
higher_below : (n : ℕ) (t : Tri) → HasCornersBelow n t → (number : ℕ) → number < 3 → max (side_begin t number) (side_end t number) < n
higher_below n t corners zero h = omega (arith, corners.a, corners.b)
higher_below n t corners (suc zero) h = omega (arith, corners.b, corners.c)
higher_below n t corners (suc (suc zero)) h = omega (arith, corners.c, corners.a)
higher_below n t corners (suc (suc (suc k))) h = absurd (omega arith)

module _ (tris : List Tri) (n : ℕ) (corners : (k : ℕ) → k < length tris → HasCornersBelow n (tri_at tris k)) where
  -- a side in its place
  is_side : (p before : ℕ) → p < 3 * length tris → IsListedSide tris n p (side_in tris p before)
  is_side p before below =
      let in_list : p / 3 < length tris = omega arith in
      let in_row : p % 3 < 3 = omega arith in
      record {
        in_list = in_list;
        in_row = in_row;
        place = omega arith;
        low = refl;
        high = refl;
        corner = higher_below n (tri_at tris (p / 3)) (corners (p / 3) in_list) (p % 3) in_row;
      }

  -- all of them are sides of the triangles
  pub are_listed : (befores : List ℕ) → length befores ≡ 3 * length tris → AreListedSides tris n (sides_of tris befores)
  are_listed befores all p below =
      let within : p < length befores = omega (arith, below, length-sides tris befores) in
      rw (read_side tris befores p within) (is_side p (slice_index befores p) (omega arith))

-- ---- the last ones at the corners

module _ (xs : List Side) (s : Side) where
  abbrev ys : List Side
  ys = xs ++ s ∷ []

  -- one more
  pub length-more : length ys ≡ length xs + 1
  length-more = length-append xs (s ∷ [])

  -- what is read of it
  read_before : (p : ℕ) → p < length xs → side_at ys p ≡ side_at xs p
  read_before p below = get_or_append_left xs (s ∷ []) _ p below

  read_last : side_at ys (length xs) ≡ s
  read_last = get_or-append_seam xs s [] _

  -- the last of the first sides is it still
  still_last : (v count : ℕ) (last : Option ℕ) → count ≤ length xs → IsLastAt xs v count last → IsLastAt ys v count last
  still_last v count last few is = record {
    within = is.within;
    higher = λ p named. let within : p < length xs = omega (arith, subst (λ l. up_to l ≤ count) named is.within, few) in
        rw (read_before p within) (is.higher p named);
    later = λ p from below. rw (read_before p (omega (arith, below, few))) (is.later p from below);
  }

  module _ (marks : List ℕ) (corner : s.high < length marks) (chained : AreChained xs marks)
      (before : s.before ≡ mark_at marks s.high) where
    abbrev after : List ℕ
    after = slice_set marks s.high (length xs + 1)

    -- the new side is the last one at its corner,
    new_last : IsLastAt ys s.high (length xs + 1) (Some (length xs))
    new_last = record {
      within = omega arith;
      higher = λ p named. let is : length xs ≡ p = cc in rw (← is, read_last) refl;
      later = λ p from below. absurd (omega (arith, from, below));
    }

    -- and none at another one
    other_last : (v : ℕ) → v < length marks → ¬ (v ≡ s.high) → IsLastAt ys v (length xs + 1) (mark_at marks v)
    other_last v below differ =
        let is = still_last v (length xs) (mark_at marks v) (omega arith) (chained.lasts v below) in
        record {
          within = omega (arith, is.within);
          higher = is.higher;
          later = λ p from within. elim (cases_eq p (length xs)) [
            | inl new ↦ rw (new, read_last) (λ same. differ (sym same))
            | inr old ↦ is.later p from (omega (arith, within))
          ];
        }

    last_after : (v : ℕ) → v < length marks → IsLastAt ys v (length xs + 1) (mark_at after v)
    last_after v below = elim (cases_eq v s.high) [
      | inl same ↦ rw same (subst (IsLastAt ys s.high (length xs + 1)) (sym (mark_here marks s.high (length xs) corner)) new_last)
      | inr differ ↦ subst (IsLastAt ys v (length xs + 1)) (sym (mark_there marks s.high (length xs) v differ)) (other_last v below differ)
    ]

    -- the side before each one
    before_after : (p : ℕ) → p < length ys → IsLastAt ys (side_at ys p).high p (side_at ys p).before
    before_after p below = elim (cases_lt p (length xs)) [
      | inl old ↦ rw (read_before p old)
          (still_last (side_at xs p).high p (side_at xs p).before (omega (arith, old)) (chained.befores p old))
      | inr new ↦ let last : p ≡ length xs = omega (arith, length-more, below) in
          rw (last, read_last) (subst (IsLastAt ys s.high (length xs)) (sym before)
          (still_last s.high (length xs) (mark_at marks s.high) (omega arith) (chained.lasts s.high corner)))
    ]

    pub chained_more : AreChained ys after
    chained_more = record {
      befores = before_after;
      lasts = λ v below. rw length-more (last_after v (omega (arith, below, length-set marks s.high (length xs + 1))));
    }

-- with one side more of triangle k
pub one_more : (tris : List Tri) (k number : ℕ) → (xs ys : List ℕ) (marks after : List ℕ) → HasCornersBelow (length marks) (tri_at tris k) → number < 3
    → length xs ≡ 3 * k + number → AreChained (sides_of tris xs) marks
    → ys ≡ xs ++ slice_index marks (max (side_begin (tri_at tris k) number) (side_end (tri_at tris k) number)) ∷ []
    → after ≡ slice_set marks (max (side_begin (tri_at tris k) number) (side_end (tri_at tris k) number)) (length xs + 1)
    → (length ys ≡ 3 * k + number + 1) × AreChained (sides_of tris ys) after
one_more tris k number xs ys marks after corners in_row long chained pushed put =
    let high = max (side_begin (tri_at tris k) number) (side_end (tri_at tris k) number) in
    let before = slice_index marks high in
    let s : Side = side_in tris (length xs) before in
    let tri : length xs / 3 ≡ k = omega arith in
    let number_is : length xs % 3 ≡ number = omega arith in
    let is : s.high ≡ high = rw (tri, number_is) refl in
    let below : s.high < length marks = rw is (higher_below (length marks) (tri_at tris k) corners number in_row) in
    let more = chained_more (sides_of tris xs) s marks below chained (ap (mark_at marks) (sym is)) in
    let at : after ≡ slice_set marks s.high (length xs + 1) = put ∙ ap (λ h. slice_set marks h (length xs + 1)) (sym is) in (
      rw pushed (omega (arith, length-append xs (before ∷ []))),
      rw (pushed, at, sides_more tris before xs) (rw (length-sides tris xs) at more),
    )
