-- A block of corners that a cut leaves, where the corners are read from its first on, and what is left, from the least on.
use Rattle.std.proofs.Common.{◌≡◌, ◌≢◌, inl, inr, sym, subst, ap, ◌∙◌, ℕ, ◌+◌, ◌-◌, ◌%◌, ◌<◌, ◌≤◌, arith, List, [], length, take, drop}
use Rattle.std.proofs.Math.Nat.{mod-eq_of_lt, mod-lt}
use Rattle.std.proofs.lemmas.Bool.{cases_lt}
use Rattle.std.proofs.lemmas.List.{take-append-drop}
use Rattle.plane.proofs.Regions.{all_cut, convex_turned, corners_of_convex, corners_of_cut, cut_from, cut_to, none_cut, one_block}
use Rattle.plane.specs.Convex.{AreConvex, corner}
use Rattle.plane.specs.Cut.{IsCut, IsUncut}
use Rattle.plane.specs.Order.{Precedes}
use Rattle.plane.specs.Point.{Triple, whole}
use Rattle.plane.specs.Region.{AreCorners, IsCornerList, corner_at}
use Rattle.plane.specs.Turn.{IsRight}
use Rattle.half_cut.proofs.Links.{length_rotated, linked_rotated, rotated_at}
use Rattle.half_cut.specs.Block.{IsBlock}
use Rattle.half_cut.specs.Meeting.{IsTail}
use Rattle.half_cut.specs.Outline.{AreLinkedRound, IsRegionKept, IsRightOf, Line, from_place}

-- convex corners are so from each place on
pub convex_from : (cs : List Triple) (t : ℕ) → AreConvex cs → AreConvex (from_place t cs)
convex_from cs t convex = convex_turned (take t cs) (drop t cs) (subst AreConvex (sym (take-append-drop t cs)) convex)

-- a corner that is read from a place on
pub read_from : (cs : List Triple) (t i : ℕ) → t ≤ length cs → i < length cs → corner (from_place t cs) i ≡ corner_at cs (t + i)
read_from cs t i in_t less = rotated_at cs t i _ in_t less

-- read from the first of a block on, the corners are those that stay and those that go
module _ {cut : Line} {cs : List Triple} {ls : List Line} {start count : ℕ} (differ : cut.0 ≢ cut.1) (convex : AreConvex cs)
    (round : AreLinkedRound cs ls) (block : IsBlock cut cs start count) where
  in_start : start ≤ length cs
  in_start = omega (arith, block.within)

  many : length (from_place start cs) ≡ length cs
  many = length_rotated cs start in_start

  right_there : (i : ℕ) → i < length cs → IsRightOf cut (corner_at cs (start + i)) → IsRightOf cut (corner (from_place start cs) i)
  right_there i less h = subst (IsRightOf cut) (sym (read_from cs start i in_start less)) h

  other_there : (i : ℕ) → i < length cs → ¬ IsRightOf cut (corner_at cs (start + i)) → ¬ IsRightOf cut (corner (from_place start cs) i)
  other_there i less h right = h (subst (IsRightOf cut) (read_from cs start i in_start less) right)

  first_there : ¬ IsRightOf cut (corner (from_place start cs) 0)
  first_there = other_there 0 (omega (arith, block.within)) (subst (λ k. ¬ IsRightOf cut (corner_at cs k)) (omega arith) block.first)

  -- from each that is right of the line on all are
  from_right : (m : ℕ) → 0 < m → m < length cs → IsRightOf cut (corner (from_place start cs) m) → (i : ℕ) → m ≤ i → i < length cs
      → IsRightOf cut (corner (from_place start cs) i)
  from_right m some less right i past within =
      one_block (whole cut.0) (whole cut.1) (from_place start cs) (convex_from cs start convex) m some first_there right
      (subst (λ k. IsRightOf cut (corner (from_place start cs) k)) (omega (arith, many))
      (right_there (length cs - 1) (omega (arith, less)) block.before)) i past (omega (arith, within, many))

  pub tail_there : IsTail cut (from_place start cs) (from_place start ls) count
  tail_there = record {
    differ = differ;
    convex = convex_from cs start convex;
    round = linked_rotated cs ls start round in_start;
    some = block.some;
    rest = omega (arith, block.rest, many);
    stay = λ i less right. elim (cases_lt 0 i) [
      | inr first ↦ first_there (subst (λ k. IsRightOf cut (corner (from_place start cs) k)) (omega (arith, first)) right)
      | inl some ↦
          other_there (count - 1) (omega (arith, block.rest)) block.last
          (from_right i some (omega (arith, less, block.rest)) right (count - 1) (omega (arith, less)) (omega (arith, block.rest)))
    ];
    go = λ i past within.
        from_right count block.some block.rest (right_there count block.rest block.next) i past (omega (arith, within, many));
  }

-- what is left of these corners is left of the region
pub cut_there : {a b : Triple} {ds : List Triple} (cs : List Triple) (t : ℕ) → IsCut a b (from_place t cs) ds → IsCut a b cs ds
cut_there {a} {b} {ds} cs t cut =
    subst (λ (k : List Triple). IsCut a b k ds) (take-append-drop t cs) (cut_from a b (take t cs) (drop t cs) ds cut)

-- and the other way round
cut_here : (a b : Triple) (cs : List Triple) (t : ℕ) (rest : List Triple) → IsCut a b cs rest → IsCut a b (from_place t cs) rest
cut_here a b cs t rest cut =
    cut_from a b (drop t cs) (take t cs) rest (subst (λ (k : List Triple). IsCut a b k rest) (sym (take-append-drop t cs)) cut)

-- what is left may be read from another corner on
cut_from_place : (a b : Triple) (cs : List Triple) (t : ℕ) (rest : List Triple) → IsCut a b cs rest → IsCut a b cs (from_place t rest)
cut_from_place a b cs t rest cut = cut_to a b (take t rest) (drop t rest) cs (subst (IsCut a b cs) (sym (take-append-drop t rest)) cut)

-- where that is the least, none comes before it
least_first : (cs : List Triple) (t : ℕ) → t ≤ length cs → (0 < length cs → t < length cs)
    → ((i : ℕ) → i < length cs → ¬ (Precedes (corner cs i) (corner cs t)))
    → (i : ℕ) → i < length (from_place t cs) → ¬ (Precedes (corner (from_place t cs) i) (corner (from_place t cs) 0))
least_first cs t in_t within least i less before =
    let count = length_rotated cs t in_t in
    let in_i : i < length cs = omega (arith, less, count) in
    let here : t < length cs = within (omega (arith, in_i)) in
    let first : corner (from_place t cs) 0 ≡ corner cs t =
    read_from cs t 0 in_t (omega (arith, here)) ∙ ap (λ k. corner cs k) (ap (λ k. k % length cs) (omega arith) ∙ mod-eq_of_lt here) in
    least ((t + i) % length cs) (mod-lt (t + i) (omega (arith, here)))
    (subst (λ (p : Triple). Precedes p (corner cs t)) (read_from cs t i in_t in_i)
    (subst (λ (p : Triple). Precedes (corner (from_place t cs) i) p) first before))

-- read from the least on, the corners are a corner list
pub corners_kept : (cs : List Triple) (ls : List Line) (t : ℕ) → IsRegionKept cs ls t → AreCorners (from_place t cs)
corners_kept cs ls t kept =
    corners_of_convex (from_place t cs) (convex_from cs t kept.convex) (least_first cs t kept.within kept.some kept.least)

module _ (a b : Triple) (cs : List Triple) (t : ℕ) where
  -- what a cut leaves, from the least on, of what was read from a place on
  pub list_left : (ds : List Triple) (s : ℕ) → IsCut a b cs ds → s ≤ length ds → (0 < length ds → s < length ds)
      → ((i : ℕ) → i < length ds → ¬ (Precedes (corner ds i) (corner ds s)))
      → IsCornerList (IsUncut a b (from_place t cs)) (from_place s ds)
  list_left ds s cut in_s within least =
      corners_of_cut a b (from_place t cs) (from_place s ds) (cut_here a b cs t (from_place s ds) (cut_from_place a b cs s ds cut))
      (least_first ds s in_s within least)

  -- where all stay, nothing is cut away
  pub list_of_all : (ls : List Line) → IsRegionKept cs ls t → ((i : ℕ) → i < length cs → ¬ (IsRight a b (corner cs i)))
      → IsCornerList (IsUncut a b (from_place t cs)) (from_place t cs)
  list_of_all ls kept stay = list_left cs t (none_cut a b cs kept.convex stay) kept.within kept.some kept.least

  -- where none does, all is
  pub list_of_none : AreConvex cs → ((i : ℕ) → i < length cs → IsRight a b (corner cs i)) → IsCornerList (IsUncut a b (from_place t cs)) []
  list_of_none convex go =
      corners_of_cut a b (from_place t cs) [] (cut_here a b cs t [] (all_cut a b cs convex go)) (λ i less. absurd (omega (arith, less)))
