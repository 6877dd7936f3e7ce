-- The quadrilateral of a shared side, and what the rows of neighbours have beside its four sides.
use Rattle.std.proofs.Common.{◌≡◌, inl, inr, refl, sym, ap, subst, ◌∙◌, ℕ, zero, suc, ◌<◌, IfSome, List, [], length, get_or, arith, Some, None}
use Rattle.std.proofs.lemmas.List.{get_or_read}
use Rattle.std.specs.Prelude.{Option, slice_set}
use Rattle.meshes.specs.Mesh.{side_begin, side_end}
use Rattle.meshes.specs.Side.{HasSidesOnce, tri_at}
use Rattle.meshes.specs.declared.tri.Tri.{Tri}
use Rattle.cut_tri.specs.Triangles.{HasRound}
use Rattle.flip_tri.proofs.FlippedNeighbours.{HasBeside, IsFlip}
use Rattle.flip_tri.specs.Flips.{IsQuadOf, KnowsNeighbours}
use Rattle.flip_tri.specs.Shared.{IsAcrossFrom, IsShared, entry, flipped, next_side, quad_of}
use Rattle.tri_mesh.specs.Triangle.{side_opposite}
use Rattle.flip_tri.specs.declared.flips.Shared.{Shared}
use Rattle.flip_tri.specs.declared.quad.Quad.{Quad}

-- from a side round a triangle
pub round_from : (t : Tri) (side : ℕ) → side < 3 → HasRound t (side_begin t side) (side_end t side) (side_opposite t side)
round_from t zero h = record { first = inl (refl, refl); second = inr (inl (refl, refl)); third = inr (inr (refl, refl)) }
round_from t (suc zero) h = record { first = inr (inl (refl, refl)); second = inr (inr (refl, refl)); third = inl (refl, refl) }
round_from t (suc (suc zero)) h = record { first = inr (inr (refl, refl)); second = inl (refl, refl); third = inr (inl (refl, refl)) }
round_from t (suc (suc (suc n))) h = absurd (omega (arith, h))

-- the two other sides by their numbers
record AreOthers (t : Tri) (side : ℕ) : Type 0 where
  pub next : next_side side < 3
  pub last : next_side (next_side side) < 3
  pub next_begins : side_begin t (next_side side) ≡ side_end t side
  pub next_ends : side_end t (next_side side) ≡ side_opposite t side
  pub last_begins : side_begin t (next_side (next_side side)) ≡ side_opposite t side
  pub last_ends : side_end t (next_side (next_side side)) ≡ side_begin t side

others : (t : Tri) (side : ℕ) → side < 3 → AreOthers t side
others t zero h = record { next = omega arith; last = omega arith; next_begins = refl; next_ends = refl; last_begins = refl; last_ends = refl }
others t (suc zero) h = record { next = omega arith; last = omega arith; next_begins = refl; next_ends = refl; last_begins = refl; last_ends = refl }
others t (suc (suc zero)) h = record { next = omega arith; last = omega arith; next_begins = refl; next_ends = refl; last_begins = refl; last_ends = refl }
others t (suc (suc (suc n))) h = absurd (omega (arith, h))

-- the same between equal corners
beside_moved : (tris : List Tri) {i j m n : ℕ} {o p : Option ℕ} → i ≡ m → j ≡ n → p ≡ o → IsAcrossFrom tris i j o → IsAcrossFrom tris m n p
beside_moved tris {i} {j} {m} {n} {o} {p} from to at is =
    subst (λ a. IsAcrossFrom tris a n p) from (subst (λ b. IsAcrossFrom tris i b p) to (subst (IsAcrossFrom tris i j) (sym at) is))

module _ (tris : List Tri) (shared : Shared) (is : IsShared tris shared) where
  -- the quadrilateral is that of the two triangles
  pub quad_of_shared : IsQuadOf tris shared.near shared.far (quad_of tris shared)
  quad_of_shared = record {
    near = round_from (tri_at tris shared.near) shared.near_side is.near_side;
    far = subst (λ a. HasRound (tri_at tris shared.far) a (quad_of tris shared).from (quad_of tris shared).right) is.far_side.begins
        (subst (λ b. HasRound (tri_at tris shared.far) (side_begin (tri_at tris shared.far) shared.far_side) b (quad_of tris shared).right) is.far_side.ends
        (round_from (tri_at tris shared.far) shared.far_side is.far_side.below));
  }

  -- so it can be flipped
  pub is_flip : HasSidesOnce tris → (quad : Quad) → quad ≡ quad_of tris shared → HasSidesOnce (flipped tris shared.near shared.far quad)
      → IsFlip tris shared.near shared.far quad
  is_flip before quad at once = record {
    near = is.near;
    far = is.far;
    different = is.different;
    corners = subst (IsQuadOf tris shared.near shared.far) (sym at) quad_of_shared;
    before = before;
    once = once;
  }

module _ (tris : List Tri) (rows : List (List (Option ℕ))) (knows : KnowsNeighbours tris rows) where
  -- what has been read of the row of a triangle is its entry
  pub entry_read : (k side : ℕ) (row : List (Option ℕ)) (o : Option ℕ) → k < length tris → row ≡ get_or rows k row → o ≡ get_or row side None
      → o ≡ entry rows k side
  entry_read k side row o below is_row e = e ∙ ap (λ r. get_or r side None) (get_or_read rows k row (omega (arith, below, knows.count)) is_row [])

  -- the entry of a row is in the list
  in_list : (k side : ℕ) → k < length tris → side < 3 → (o : Option ℕ) → o ≡ entry rows k side → IfSome o (λ m. m < length tris)
  in_list k side below in_row None at = tt
  in_list k side below in_row (Some m) at = knows.within k side m below in_row (sym at)

  known : (k side : ℕ) → k < length tris → side < 3 → IsAcrossFrom tris (side_begin (tri_at tris k) side) (side_end (tri_at tris k) side) (entry rows k side)
  known k side below in_row l l_below has = knows.all k side l below in_row l_below has

  module _ (shared : Shared) (is : IsShared tris shared) where
    -- the rows have what is beside the sides of the quadrilateral
    module _ (quad : Quad) (at : quad ≡ quad_of tris shared) (near_row far_row : List (Option ℕ)) (is_near_row : near_row ≡ get_or rows shared.near near_row)
        (is_far_row : far_row ≡ get_or rows shared.far far_row) where
      pub has_beside : (to_left left_from from_right right_to : Option ℕ) → to_left ≡ get_or near_row (next_side shared.near_side) None
          → left_from ≡ get_or near_row (next_side (next_side shared.near_side)) None → from_right ≡ get_or far_row (next_side shared.far_side) None
          → right_to ≡ get_or far_row (next_side (next_side shared.far_side)) None → HasBeside tris quad to_left left_from from_right right_to
      has_beside to_left left_from from_right right_to third fourth first second =
          let near = others (tri_at tris shared.near) shared.near_side is.near_side in
          let far = others (tri_at tris shared.far) shared.far_side is.far_side.below in
          let at_first = entry_read shared.far (next_side shared.far_side) far_row from_right is.far is_far_row first in
          let at_second = entry_read shared.far (next_side (next_side shared.far_side)) far_row right_to is.far is_far_row second in
          let at_third = entry_read shared.near (next_side shared.near_side) near_row to_left is.near is_near_row third in
          let at_fourth = entry_read shared.near (next_side (next_side shared.near_side)) near_row left_from is.near is_near_row fourth in
          subst (λ q. HasBeside tris q to_left left_from from_right right_to) (sym at) (record {
            is_from_right = beside_moved tris (far.next_begins ∙ is.far_side.ends) far.next_ends at_first (known shared.far (next_side shared.far_side) is.far far.next);
            is_right_to = beside_moved tris far.last_begins (far.last_ends ∙ is.far_side.begins) at_second (known shared.far (next_side (next_side shared.far_side)) is.far far.last);
            is_to_left = beside_moved tris near.next_begins near.next_ends at_third (known shared.near (next_side shared.near_side) is.near near.next);
            is_left_from = beside_moved tris near.last_begins near.last_ends at_fourth (known shared.near (next_side (next_side shared.near_side)) is.near near.last);
            from_right_in_list = in_list shared.far (next_side shared.far_side) is.far far.next from_right at_first;
            right_to_in_list = in_list shared.far (next_side (next_side shared.far_side)) is.far far.last right_to at_second;
            to_left_in_list = in_list shared.near (next_side shared.near_side) is.near near.next to_left at_third;
            left_from_in_list = in_list shared.near (next_side (next_side shared.near_side)) is.near near.last left_from at_fourth;
          })

-- the triangles, where two have been replaced
pub is_flipped : (tris : List Tri) (k l : ℕ) (quad : Quad) (first second : Tri) → first ≡ record { a = quad.from; b = quad.right; c = quad.left }
    → second ≡ record { a = quad.right; b = quad.to; c = quad.left } → slice_set (slice_set tris k first) l second ≡ flipped tris k l quad
is_flipped tris k l quad first second one two = λ i. slice_set (slice_set tris k (one i)) l (two i)
