-- The cut law for a diagonal between any two vertices of a ring.
-- Cuts of a simple ring that runs counterclockwise, from its least vertex on: the pieces are simple and run counterclockwise too.
use Rattle.std.proofs.Common.{List, [], ap, arith, drop, inl, inr, length, refl, subst, sym, take, ℕ, ◌++◌, ◌+◌, ◌-◌, ◌<◌, ◌∙◌, ◌∷◌, ◌≡◌}
use Rattle.std.proofs.Common.{pos, ◌<ℤ◌}
use Rattle.std.proofs.Math.Seq.{drop-append_seam, take-append-add}
use Rattle.std.proofs.lemmas.Int.{ints}
use Rattle.std.proofs.lemmas.List.{append_assoc, get_or_at, length-append}
use Rattle.plane.specs.Prelude.{IsLeft, Point, whole}
use Rattle.rings.proofs.Inside.{apart_rotated, in_rotated}
use Rattle.rings.proofs.Simple.{apart_of_simple, simple_of_apart}
use Rattle.rings.proofs.Vertices.{vertex_in_range, parts_at, HasPoint, Farthest}
use Rattle.rings.specs.Apart.{IsApartRing}
use Rattle.rings.specs.Prelude.{IsIn, IsSimple, origin, vertex}
use Rattle.rings.specs.Winding.{RunsCounterclockwise}
use Rattle.ring_laws.proofs.Cuts.CutDirection.{first_apart, second_apart, pieces_run}
use Rattle.ring_laws.proofs.Cuts.CutLaw.{in_both, in_piece, in_ring_from_first, in_ring_from_second}
use Rattle.ring_laws.proofs.Diagonals.{diagonal_rotated, farthest_diagonal, base_diagonal, diagonal_backward}
use Rattle.ring_laws.proofs.Ears.{turn_at_first, NoneBefore, counterclockwise_rotated, runs_from_first}
use Rattle.ring_laws.proofs.Simple.{ring_regrouped, InTriangle, height, left_turn_law}
use Rattle.ring_laws.specs.Diagonal.{IsDiagonal}
use Rattle.ring_laws.specs.Pieces.{IsCutInTwo, first_piece, second_piece}

-- ---- from the first vertex to another

-- a diagonal from the first vertex v to z makes the pieces from v to z, and from z on with v before it
pub cut_from_first : (v : Point) (ps : List Point) (z : Point) (qs : List Point) → IsApartRing (v ∷ (ps ++ z ∷ qs))
    → IsDiagonal (v ∷ (ps ++ z ∷ qs)) v z → IsCutInTwo (v ∷ (ps ++ z ∷ qs)) (v ∷ (ps ++ z ∷ [])) (v ∷ z ∷ qs) v z
cut_from_first v ps z qs apart diagonal = record {
  first_simple = simple_of_apart (v ∷ (ps ++ z ∷ [])) (first_apart v ps z qs apart diagonal);
  second_simple = simple_of_apart (v ∷ z ∷ qs) (second_apart v ps z qs apart diagonal);
  covers = λ x at. (
    in_piece v ps z qs apart diagonal x at,
    λ h. elim h [
      | inl k ↦ in_ring_from_first v ps z qs apart diagonal x at k
      | inr k ↦ in_ring_from_second v ps z qs apart diagonal x at k
    ],
  );
  common = in_both v ps z qs apart diagonal;
}

-- ---- from one vertex to a later one

-- if the vertices i and j have a diagonal between them, it cuts the ring in two
abbrev CutsInTwo : List Point → ℕ → ℕ → Type 0
CutsInTwo ring i j = IsDiagonal ring (vertex ring i) (vertex ring j)
    → IsCutInTwo ring (first_piece ring i j) (second_piece ring i j) (vertex ring i) (vertex ring j)

module _ (xs : List Point) (v : Point) (ps : List Point) (z : Point) (ys : List Point) where
  -- the ring read from v on
  turned : (v ∷ (ps ++ z ∷ ys)) ++ xs ≡ v ∷ (ps ++ z ∷ (ys ++ xs))
  turned = append_assoc (v ∷ ps) (z ∷ ys) xs

  -- a diagonal makes the pieces from v to z, and from z to the end and on to v
  pub cut_between : IsApartRing (xs ++ v ∷ (ps ++ z ∷ ys)) → IsDiagonal (xs ++ v ∷ (ps ++ z ∷ ys)) v z
      → IsCutInTwo (xs ++ v ∷ (ps ++ z ∷ ys)) (v ∷ (ps ++ z ∷ [])) (z ∷ (ys ++ xs) ++ v ∷ []) v z
  cut_between apart diagonal =
      let vs : List Point = v ∷ (ps ++ z ∷ ys) in
      let zs : List Point = z ∷ (ys ++ xs) in
      let cut = cut_from_first v ps z (ys ++ xs) (subst IsApartRing turned (apart_rotated xs vs apart))
      (subst (λ rs. IsDiagonal rs v z) turned (diagonal_rotated v z vs xs diagonal)) in
      record {
        first_simple = cut.first_simple;
        second_simple = simple_of_apart (zs ++ v ∷ []) (apart_rotated (v ∷ []) zs (apart_of_simple (v ∷ zs) cut.second_simple));
        covers = λ x at. (
          λ h. elim ((cut.covers x at).0 (subst (λ rs. IsIn rs x) turned (in_rotated xs vs x h))) [
            | inl k ↦ inl k
            | inr k ↦ inr (in_rotated (v ∷ []) zs x k)
          ],
          λ h. in_rotated vs xs x (subst (λ rs. IsIn rs x) (sym turned) ((cut.covers x at).1 (elim h [
            | inl k ↦ inl k
            | inr k ↦ inr (in_rotated zs (v ∷ []) x k)
          ]))),
        );
        common = λ x at first second. cut.common x at first (in_rotated zs (v ∷ []) x second);
      }

  -- the first piece is that of the numbers of v and z,
  first_by_numbers : first_piece (xs ++ v ∷ (ps ++ z ∷ ys)) (length xs) (length xs + 1 + length ps) ≡ v ∷ (ps ++ z ∷ [])
  first_by_numbers =
      let count : length xs + 1 + length ps - length xs + 1 ≡ length (v ∷ ps) + 1 = omega arith in
      (λ k. take (count k) (drop-append_seam xs (v ∷ (ps ++ z ∷ ys)) k)) ∙ take-append-add (v ∷ ps) (z ∷ ys) 1

  -- and the second is
  second_by_numbers : second_piece (xs ++ v ∷ (ps ++ z ∷ ys)) (length xs) (length xs + 1 + length ps) ≡ z ∷ (ys ++ xs) ++ v ∷ []
  second_by_numbers =
      let count : length xs + 1 + length ps ≡ length (xs ++ v ∷ ps) = omega (arith, length-append xs (v ∷ ps)) in
      let regrouped = append_assoc xs (v ∷ ps) (z ∷ ys) in
      let from_z : drop (length xs + 1 + length ps) (xs ++ v ∷ (ps ++ z ∷ ys)) ≡ z ∷ ys =
      (λ k. drop (count k) (sym regrouped k)) ∙ drop-append_seam (xs ++ v ∷ ps) (z ∷ ys) in
      let to_v : take (length xs + 1) (xs ++ v ∷ (ps ++ z ∷ ys)) ≡ xs ++ v ∷ [] = take-append-add xs (v ∷ (ps ++ z ∷ ys)) 1 in
      (λ k. from_z k ++ to_v k) ∙ sym (append_assoc (z ∷ ys) xs (v ∷ []))

  -- they are the vertices with these numbers: v
  vertex_first : vertex (xs ++ v ∷ (ps ++ z ∷ ys)) (length xs) ≡ v
  vertex_first =
      vertex_in_range (xs ++ v ∷ (ps ++ z ∷ ys)) (length xs) origin (omega (arith, length-append xs (v ∷ (ps ++ z ∷ ys))))
      ∙ get_or_at xs v (ps ++ z ∷ ys) origin (length xs) refl

  -- and z
  vertex_second : vertex (xs ++ v ∷ (ps ++ z ∷ ys)) (length xs + 1 + length ps) ≡ z
  vertex_second =
      let regrouped = append_assoc xs (v ∷ ps) (z ∷ ys) in
      ap (λ rs. vertex rs (length xs + 1 + length ps)) (sym regrouped)
      ∙ vertex_in_range ((xs ++ v ∷ ps) ++ z ∷ ys) (length xs + 1 + length ps) origin
      (omega (arith, length-append (xs ++ v ∷ ps) (z ∷ ys), length-append xs (v ∷ ps)))
      ∙ get_or_at (xs ++ v ∷ ps) z ys origin (length xs + 1 + length ps) (omega (arith, length-append xs (v ∷ ps)))

  -- so a diagonal by their numbers cuts the ring in two
  cut_by_numbers : IsApartRing (xs ++ v ∷ (ps ++ z ∷ ys)) → CutsInTwo (xs ++ v ∷ (ps ++ z ∷ ys)) (length xs) (length xs + 1 + length ps)
  cut_by_numbers apart diagonal =
      rw (first_by_numbers, second_by_numbers, vertex_first, vertex_second)
      (cut_between apart (rw (vertex_first, vertex_second) at diagonal))

-- ---- by numbers

-- the law, for a ring in such parts
cut_in_parts : (ring : List Point) (i j : ℕ) (xs : List Point) (v : Point) (rest ps : List Point) (z : Point) (ys : List Point)
    → ring ≡ xs ++ v ∷ rest → rest ≡ ps ++ z ∷ ys → length xs ≡ i → length xs + 1 + length ps ≡ j → IsApartRing ring → CutsInTwo ring i j
cut_in_parts ring i j xs v rest ps z ys is rest_is first second apart =
    let parts : ring ≡ xs ++ v ∷ (ps ++ z ∷ ys) = is ∙ ap (λ rs. xs ++ v ∷ rs) rest_is in
    subst (λ rs. CutsInTwo rs i j) (sym parts) (subst (λ k. CutsInTwo (xs ++ v ∷ (ps ++ z ∷ ys)) i k) second
    (subst (λ k. CutsInTwo (xs ++ v ∷ (ps ++ z ∷ ys)) k (length xs + 1 + length ps)) first
    (cut_by_numbers xs v ps z ys (subst IsApartRing parts apart))))

-- a diagonal between any two vertices cuts a ring in two
pub cut_law : (ring : List Point) → IsSimple ring → (i j : ℕ) → i < j → j < length ring → IsDiagonal ring (vertex ring i) (vertex ring j)
    → IsCutInTwo ring (first_piece ring i j) (second_piece ring i j) (vertex ring i) (vertex ring j)
cut_law ring simple i j less within =
    let (xs, v, rest, is, first) = parts_at ring i (omega arith) in
    let (ps, z, ys, rest_is, between) = parts_at rest (j - i - 1) (omega (arith, ap length is, length-append xs (v ∷ rest))) in
    cut_in_parts ring i j xs v rest ps z ys is rest_is first (omega arith) (apart_of_simple ring simple)

-- a diagonal from a to b that cuts a ring into two pieces, which run counterclockwise
pub record IsCounterclockwiseCut (ring first second : List Point) (a b : Point) : Type 0 where
  pub diagonal : IsDiagonal ring a b
  pub in_two : IsCutInTwo ring first second a b
  pub first_runs : RunsCounterclockwise first
  pub second_runs : RunsCounterclockwise second

-- each diagonal from the first vertex v to another one z does so
counterclockwise_cut : (v : Point) (ps : List Point) (z : Point) (qs : List Point) → IsSimple (v ∷ (ps ++ z ∷ qs))
    → RunsCounterclockwise (v ∷ (ps ++ z ∷ qs)) → IsDiagonal (v ∷ (ps ++ z ∷ qs)) v z
    → IsCounterclockwiseCut (v ∷ (ps ++ z ∷ qs)) (v ∷ (ps ++ z ∷ [])) (v ∷ z ∷ qs) v z
counterclockwise_cut v ps z qs simple runs diagonal =
    let apart = apart_of_simple (v ∷ (ps ++ z ∷ qs)) simple in
    let both = pieces_run v ps z qs apart diagonal runs in
    record { diagonal = diagonal; in_two = cut_from_first v ps z qs apart diagonal; first_runs = both.0; second_runs = both.1 }

module _ (v w : Point) (ms : List Point) (u : Point) (simple : IsSimple (v ∷ w ∷ (ms ++ u ∷ []))) (runs : RunsCounterclockwise (v ∷ w ∷ (ms ++ u ∷ [])))
    (least : NoneBefore (w ∷ (ms ++ u ∷ [])) v) where
  -- the turn at the first vertex v is left, where it is a least one
  pub least_turn : IsLeft (whole u) (whole v) (whole w)
  least_turn = elim (runs_from_first (length ms) (left_turn_law (length ms)) v w ms u refl (apart_of_simple (v ∷ w ∷ (ms ++ u ∷ [])) simple) least) [
    | inl h ↦ subst (λ z. pos 0 <ℤ z) (turn_at_first v w ms u) h.0
    | inr h ↦ let other = h.1.area in let one = runs.area in absurd (omega (arith, ints))
  ]

  -- a farthest vertex in the triangle at v makes two pieces with it: one from v to it, and one from it on
  pub farthest_cut_runs : (far : Farthest (InTriangle u v w) (height u w) ms) (cs ds : List Point) → ms ≡ cs ++ far.point ∷ ds
      → IsCounterclockwiseCut (v ∷ w ∷ (ms ++ u ∷ [])) (v ∷ w ∷ (cs ++ far.point ∷ [])) (v ∷ far.point ∷ (ds ++ u ∷ [])) v far.point
  farthest_cut_runs far cs ds parts =
      let z = far.point in
      let regrouped = ring_regrouped v w ms u z cs ds parts in
      let apart = apart_of_simple (v ∷ w ∷ (ms ++ u ∷ [])) simple in
      subst (λ rs. IsCounterclockwiseCut rs (v ∷ w ∷ (cs ++ z ∷ [])) (v ∷ z ∷ (ds ++ u ∷ [])) v z) (sym regrouped)
      (counterclockwise_cut v (w ∷ cs) z (ds ++ u ∷ []) (subst IsSimple regrouped simple) (subst RunsCounterclockwise regrouped runs)
      (subst (λ rs. IsDiagonal rs v z) regrouped (farthest_diagonal v w ms u apart least least_turn far)))

  -- where no vertex is in it, and there are others, the triangle is cut off
  pub ear_cut_runs : 0 < length ms → ((p : Point) → HasPoint ms p → ¬ InTriangle u v w p)
      → IsCounterclockwiseCut (v ∷ w ∷ (ms ++ u ∷ [])) (w ∷ (ms ++ u ∷ [])) (w ∷ u ∷ v ∷ []) w u
  ear_cut_runs some none =
      let ring : List Point = v ∷ w ∷ (ms ++ u ∷ []) in
      let rest : List Point = w ∷ (ms ++ u ∷ []) in
      let turned : rest ++ v ∷ [] ≡ w ∷ (ms ++ u ∷ v ∷ []) = append_assoc (w ∷ ms) (u ∷ []) (v ∷ []) in
      let apart = apart_of_simple ring simple in
      let diagonal = diagonal_backward u w ring (base_diagonal v w ms u some apart least least_turn none) in
      let cut = counterclockwise_cut w ms u (v ∷ [])
      (subst IsSimple turned (simple_of_apart (rest ++ v ∷ []) (apart_rotated (v ∷ []) rest apart)))
      (subst RunsCounterclockwise turned (counterclockwise_rotated rest (v ∷ []) runs))
      (subst (λ rs. IsDiagonal rs w u) turned (diagonal_rotated w u rest (v ∷ []) diagonal)) in
      record {
        diagonal = diagonal;
        in_two = record {
          first_simple = cut.in_two.first_simple;
          second_simple = cut.in_two.second_simple;
          covers = λ x at. (
            λ h. (cut.in_two.covers x at).0 (subst (λ rs. IsIn rs x) turned (in_rotated (v ∷ []) rest x h)),
            λ h. in_rotated rest (v ∷ []) x (subst (λ rs. IsIn rs x) (sym turned) ((cut.in_two.covers x at).1 h)),
          );
          common = cut.in_two.common;
        };
        first_runs = cut.first_runs;
        second_runs = cut.second_runs;
      }
