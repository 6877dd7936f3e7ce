-- One row more of the table of chains: those read backward, and those from the point of the row on.
use Rattle.std.proofs.Common.{◌≡◌, ◌∙◌, inl, inr, sym, ap, subst, ℕ, ◌+◌, ◌-◌, ◌*◌, ◌/◌, ◌%◌, ◌<◌, ◌≤◌, List, [], ◌∷◌, ◌++◌, length, get_or, slice_index, drop, take, map, reverse, arith}
use Rattle.std.proofs.Math.Nat.{mul-le-mul_right}
use Rattle.std.proofs.lemmas.Bool.{cases_lt}
use Rattle.std.proofs.lemmas.List.{append_assoc, get_or-append_right, get_or-drop, get_or-map, get_or_append_left, length-append, length-drop, length-map, length_push, take_all}
use Rattle.plane.specs.Point.{Point, whole}
use Rattle.plane.specs.declared.limits.TheConstants.{MAX_CORNERS}
use Rattle.rings.specs.Chain.{point_at}
use Rattle.rings.specs.Ring.{origin}
use Rattle.rings.specs.Simple.{IsSimple}
use Rattle.meshes.specs.declared.tri.Tri.{Tri}
use Rattle.dual_tree.specs.Location.{IsLeastHolding}
use Rattle.shared_walks.specs.Several as several
use Rattle.geo_session.proofs.HullTable.{number_in_list}
use Rattle.geo_session.proofs.Spanned.{chain_turned, column_of, each_push, place_below, row_of}
use Rattle.geo_session.specs.Hull.{AreFirsts}
use Rattle.geo_session.specs.Span.{AreChains, AreHeld, AreTurned, IsChainAt, IsShortPath, numbered}

-- what is left of a list behind a place is all of it there
pub rest_of : {A : Type 0} (xs : List A) (r : ℕ) → take (length xs - r) (drop r xs) ≡ drop r xs
rest_of xs r = take_all (length xs - r) (drop r xs) (omega (arith, length-drop r xs))

-- a row costs no more than one of all columns
pub row_cost : {A : Type 0} (xs : List A) (r m cost steps later : ℕ) → length xs ≡ m → later ≤ steps + length (take (length xs - r) (drop r xs)) * cost
    → later ≤ steps + m * cost
row_cost xs r m cost steps later count paid =
    let few = ap length (rest_of xs r) in
    let less : length (take (length xs - r) (drop r xs)) * cost ≤ m * cost = mul-le-mul_right cost (omega (arith, few, length-drop r xs, count)) in
    omega (arith, paid, less)

-- ---- the chains that are read backward

-- the rows before have a place r
row_has : (m r c : ℕ) → r < m → c < r → c * m + r < r * m
row_has m r c in_row before = let rows : (c + 1) * m ≤ r * m = mul-le-mul_right m (omega (arith, before)) in omega (arith, rows, in_row)

module _ (m r c : ℕ) (chains after : List (List Point)) (turned : AreTurned m r c chains after) (rows : length chains ≡ r * m) (in_row : r < m) (before : c < r) where
  -- so it is there still,
  pub turned_place : c * m + r < length after
  turned_place = omega (arith, row_has m r c in_row before, rows, ap length turned.appended, length-append chains turned.back)

  -- there is room for one more,
  pub turned_room : length after + 1 ≤ m * m
  turned_room =
      let all : (r + 1) * m ≤ m * m = mul-le-mul_right m (omega (arith, in_row)) in
      omega (arith, all, in_row, before, rows, turned.count, ap length turned.appended, length-append chains turned.back)

  -- and one more is read backward
  pub turned_more : (chain : List Point) → chain ≡ reverse (get_or after (c * m + r) []) → AreTurned m r (c + 1) chains (after ++ chain ∷ [])
  turned_more chain is = record {
    back = turned.back ++ chain ∷ [];
    appended = ap (λ l. l ++ chain ∷ []) turned.appended ∙ append_assoc chains turned.back (chain ∷ []);
    count = length_push turned.back chain ∙ ap (λ (k : ℕ). k + 1) turned.count;
    each = each_push (λ k one. one ≡ reverse (get_or chains (k * m + r) [])) turned.back chain [] c turned.count turned.each
        (is ∙ ap (λ l. reverse (get_or l (c * m + r) [])) turned.appended
        ∙ ap reverse (get_or_append_left chains turned.back [] (c * m + r) (omega (arith, row_has m r c in_row before, rows))));
  }

-- ---- the whole row

module _ (ring points : List Point) (numbers : List ℕ) (some : 3 ≤ length ring) (simple : IsSimple ring) (short : length ring ≤ MAX_CORNERS)
    (r : ℕ) (in_row : r < length numbers) (chains after paths : List (List Point)) (are : AreChains ring points numbers (r * length numbers) chains)
    (turned : AreTurned (length numbers) r r chains after) (ends : List Point) (ends_are : ends ≡ map (point_at points) numbers)
    (found : several.ArePathsFrom ring (point_at ends r) (drop r ends) paths) where
  end_at : (k : ℕ) → k < length numbers → point_at ends k ≡ numbered points numbers k
  end_at k below = ap (λ ps. point_at ps k) ends_are ∙ get_or-map (point_at points) numbers k 0 origin below

  count_ends : length ends ≡ length numbers
  count_ends = ap length ends_are ∙ length-map numbers (point_at points)

  count_paths : length paths + r ≡ length numbers
  count_paths = omega (arith, found.count, length-drop r ends, count_ends, in_row)

  -- the chain at place c of row r
  at_row : (c : ℕ) → c < length numbers → (chain : List Point) → IsShortPath ring (numbered points numbers r) (numbered points numbers c) chain
      → IsChainAt ring points numbers (r * length numbers + c) chain
  at_row c below chain is =
      subst (λ (row : ℕ). IsShortPath ring (numbered points numbers row) (numbered points numbers ((r * length numbers + c) % length numbers)) chain)
      (sym (row_of (length numbers) r c in_row below))
      (subst (λ (column : ℕ). IsShortPath ring (numbered points numbers r) (numbered points numbers column) chain)
      (sym (column_of (length numbers) r c in_row below)) is)

  turned_at : (c : ℕ) → c < r → IsChainAt ring points numbers (r * length numbers + c) (get_or turned.back c [])
  turned_at c before =
      let k = r * length numbers + c in
      let row = row_of (length numbers) r c in_row (omega (arith, before, in_row)) in
      let column = column_of (length numbers) r c in_row (omega (arith, before, in_row)) in
      let place : k % length numbers * length numbers + k / length numbers ≡ c * length numbers + r =
      ap (λ (i : ℕ). i * length numbers + k / length numbers) column ∙ ap (λ (i : ℕ). c * length numbers + i) row in
      subst (IsChainAt ring points numbers k) (ap (λ (i : ℕ). reverse (get_or chains i [])) place ∙ sym (turned.each c before))
      (chain_turned ring points numbers (r * length numbers) chains are some simple k (place_below (length numbers) r c in_row (omega (arith, before, in_row)))
      (subst (λ (i : ℕ). i < r * length numbers) (sym place) (row_has (length numbers) r c in_row before)))

  path_at : (c : ℕ) → r ≤ c → c < length numbers → IsChainAt ring points numbers (r * length numbers + c) (get_or paths (c - r) [])
  path_at c late below =
      let is = found.each (c - r) (omega (arith, found.count, count_paths, late, below)) in
      let place : r + (c - r) ≡ c = omega (arith, late) in
      let to : point_at (drop r ends) (c - r) ≡ numbered points numbers c =
      get_or-drop r ends (c - r) origin ∙ ap (point_at ends) place ∙ end_at c below in
      at_row c below _ (record {
        is_path = rw (end_at r in_row, to) at is.is_path;
        short = omega (arith, is.short, short);
      })

  -- the row comes after the rows before
  whole_is : after ++ paths ≡ chains ++ (turned.back ++ paths)
  whole_is = ap (λ l. l ++ paths) turned.appended ∙ append_assoc chains turned.back paths

  -- the chain at place c of the row is the one there
  in_row_at : (c : ℕ) → c < length numbers → IsChainAt ring points numbers (r * length numbers + c) (get_or (turned.back ++ paths) c [])
  in_row_at c below = elim (cases_lt c r) [
    | inl before ↦ subst (IsChainAt ring points numbers (r * length numbers + c))
        (sym (get_or_append_left turned.back paths [] c (omega (arith, before, turned.count)))) (turned_at c before)
    | inr late ↦ subst (IsChainAt ring points numbers (r * length numbers + c))
        (sym (get_or-append_right turned.back paths r c [] turned.count (omega (arith, late)))) (path_at c (omega (arith, late)) below)
  ]

  pub row_more : AreChains ring points numbers ((r + 1) * length numbers) (after ++ paths)
  row_more = record {
    count = omega (arith, length-append after paths, ap length turned.appended, length-append chains turned.back, turned.count, are.count, count_paths);
    each = λ k below. subst (λ l. IsChainAt ring points numbers k (get_or l k [])) (sym whole_is) (elim (cases_lt k (r * length numbers)) [
      | inl before ↦ subst (IsChainAt ring points numbers k)
          (sym (get_or_append_left chains (turned.back ++ paths) [] k (omega (arith, before, are.count)))) (are.each k before)
      | inr late ↦
          let c = k - r * length numbers in
          let place : r * length numbers + c ≡ k = omega (arith, late) in
          subst (IsChainAt ring points numbers k) (sym (get_or-append_right chains (turned.back ++ paths) (r * length numbers) k [] are.count (omega (arith, late))))
          (subst (λ (i : ℕ). IsChainAt ring points numbers i (get_or (turned.back ++ paths) c [])) place (in_row_at c (omega (arith, late, below))))
    ]);
  }

-- ---- the triangles and the points of the rows

module _ (ring : List Point) (tris : List Tri) (points : List Point) (numbers found homes : List ℕ) (ends : List Point) (firsts : AreFirsts points numbers)
    (held : AreHeld ring tris points (length points) found) (homes_are : homes ≡ map (slice_index found) numbers)
    (ends_are : ends ≡ map (point_at points) numbers) where
  -- each point is in its triangle,
  pub end_held : (k : ℕ) → k < length numbers → IsLeastHolding ring tris (whole (point_at ends k)) (slice_index homes k)
  end_held k below =
      let home : slice_index homes k ≡ slice_index found (slice_index numbers k) = ap (λ l. slice_index l k) homes_are ∙ get_or-map (slice_index found) numbers k 0 0 below in
      let end : point_at ends k ≡ point_at points (slice_index numbers k) = ap (λ l. point_at l k) ends_are ∙ get_or-map (point_at points) numbers k 0 origin below in
      rw (home, end) (held.each _ (number_in_list points numbers firsts k below))

  -- so are those from a row on
  pub ends_held : (r : ℕ) → several.AreInTris ring tris (drop r homes) (drop r ends)
  ends_held r =
      let count : length homes ≡ length ends = ap length homes_are ∙ length-map numbers (slice_index found) ∙ sym (ap length ends_are ∙ length-map numbers (point_at points)) in
      let all : length ends ≡ length numbers = ap length ends_are ∙ length-map numbers (point_at points) in
      record {
        count = omega (arith, length-drop r homes, length-drop r ends, count);
        in_mesh = λ k below. rw (get_or-drop r homes k 0) (end_held (r + k) (omega (arith, below, length-drop r ends, all))).in_list;
        held = λ k below. rw (get_or-drop r homes k 0, get_or-drop r ends k origin) (end_held (r + k) (omega (arith, below, length-drop r ends, all))).holds;
      }
