-- No corner of a region is right of a line that the region keeps, also after a cut.
use Rattle.std.proofs.Common.{◌≡◌, inl, inr, refl, sym, subst, ap, ◌∙◌, ℕ, ◌+◌, ◌%◌, ◌<◌, ◌≤◌, arith, List, [], ◌∷◌, ◌++◌, length, take, drop, ℤ, pos, ◌≤ℤ◌, ◌<ℤ◌}
use Rattle.std.proofs.Math.Nat.{mod-eq_of_lt, mod-lt, mod_self}
use Rattle.std.proofs.lemmas.Bool.{cases_lt}
use Rattle.std.proofs.lemmas.List.{get_or-take, get_or_append_left, get_or_push, length-take-le, length_push, take-append-drop}
use Rattle.integer_algebra.proofs.SignSteps.{at_least_unless, not_both, weak, zero_not_negative}
use Rattle.plane.proofs.Points.{same_refl}
use Rattle.plane.proofs.Regions.{region_not_right, region_turned}
use Rattle.plane.proofs.Segments.{on_first_end}
use Rattle.plane.proofs.Turns.{determinant_same_ends, determinant_same_last, determinant_shift_back}
use Rattle.plane.specs.Convex.{AreConvex, corner}
use Rattle.plane.specs.Cut.{IsCut}
use Rattle.plane.specs.Point.{IsPoint, Triple, whole}
use Rattle.plane.specs.Region.{IsInRegion, IsRightOfNone, corner_at}
use Rattle.plane.specs.Turn.{IsRight, determinant}
use Rattle.half_cut.proofs.Links.{length_rotated, rotated_at}
use Rattle.half_cut.proofs.TurnedBlocks.{convex_from, read_from}
use Rattle.half_cut.specs.Outline.{AreNoneRight, AreOf, IsRegionKept, Line, from_place, line_at}

-- ---- each corner is in the region

-- equal points do not turn differently
not_right_of : {a b c d e f : Triple} → d ≡ a → e ≡ b → f ≡ c → pos 0 ≤ℤ determinant a b c → ¬ (IsRight d e f)
not_right_of ea eb ec h right = not_both (subst (λ (z : ℤ). z <ℤ pos 0) (λ i. determinant (ea i) (eb i) (ec i)) right) h

-- the first corner is right of no side
first_right_of_none : (cs : List Triple) → AreConvex cs → IsRightOfNone cs (corner cs 0)
first_right_of_none cs convex i less = elim (cases_lt (i + 1) (length cs)) [
  | inr end ↦
      let last : i + 1 ≡ length cs = omega (arith, end, less) in
      not_right_of refl (ap (λ k. corner cs k) (ap (λ k. k % length cs) last ∙ mod_self (length cs))) refl
      (zero_not_negative (determinant_same_last (corner_at cs i) (corner cs 0)))
  | inl more ↦
      let here : corner_at cs i ≡ corner cs i = ap (λ k. corner cs k) (mod-eq_of_lt less) in
      let next : corner_at cs (i + 1) ≡ corner cs (i + 1) = ap (λ k. corner cs k) (mod-eq_of_lt more) in
      elim (cases_lt 0 i) [
        | inl some ↦
            not_right_of here next refl
            (subst (λ z. pos 0 ≤ℤ z) (determinant_turned (corner cs 0) (corner cs i) (corner cs (i + 1)))
            (weak (convex.left 0 i (i + 1) some (omega arith) more)))
        | inr none ↦
            not_right_of (here ∙ ap (λ k. corner cs k) (omega (arith, none))) next refl
            (zero_not_negative (determinant_same_ends (corner cs 0) (corner cs (i + 1))))
      ]
]
  where
    determinant_turned : (a b c : Triple) → determinant a b c ≡ determinant b c a
    determinant_turned a b c = determinant_shift_back b c a

-- so it is in the region
first_in_region : (cs : List Triple) → AreConvex cs → 0 < length cs → IsInRegion cs (corner cs 0)
first_in_region [] convex some = absurd (omega (arith, some))
first_in_region (a ∷ []) convex some = same_refl a
first_in_region (a ∷ b ∷ []) convex some = on_first_end a b
first_in_region (a ∷ b ∷ c ∷ cs) convex some = first_right_of_none (a ∷ b ∷ c ∷ cs) convex

-- and so is each other
pub corner_in_region : (cs : List Triple) → AreConvex cs → (i : ℕ) → i < length cs → IsInRegion cs (corner cs i)
corner_in_region cs convex i less =
    let here : corner (from_place i cs) 0 ≡ corner cs i =
    read_from cs i 0 (omega (arith, less)) (omega (arith, less)) ∙ ap (λ k. corner cs k) (ap (λ k. k % length cs) (omega arith) ∙ mod-eq_of_lt less) in
    let turned = first_in_region (from_place i cs) (convex_from cs i convex) (omega (arith, less, length_rotated cs i (omega (arith, less)))) in
    subst (λ (t : List Triple). IsInRegion t (corner cs i)) (take-append-drop i cs)
    (region_turned (drop i cs) (take i cs) (corner cs i) (subst (λ (p : Triple). IsInRegion (from_place i cs) p) here turned))

-- ---- which lines a list has

-- the first some of them, and the new one
pub of_first : (ls : List Line) (line : Line) (m : ℕ) → m ≤ length ls → AreOf ls line (take m ls ++ line ∷ [])
of_first ls line m within i less =
    let count : length (take m ls) ≡ m = length-take-le m ls within in
    elim (cases_lt i m) [
      | inl before ↦
          inl (i, (omega (arith, before, within), get_or_append_left (take m ls) (line ∷ []) _ i (omega (arith, before, count)) ∙ get_or-take m ls i _ before))
      | inr last ↦ inr (get_or_push (take m ls) line _ i (omega (arith, last, less, count, length_push (take m ls) line)))
    ]

-- all of them, and the new one
pub of_more : (ls : List Line) (line : Line) → AreOf ls line (ls ++ line ∷ [])
of_more ls line i less = elim (cases_lt i (length ls)) [
  | inl before ↦ inl (i, (before, get_or_append_left ls (line ∷ []) _ i before))
  | inr last ↦ inr (get_or_push ls line _ i (omega (arith, last, less, length_push ls line)))
]

-- what holds of the old ones and of the new one holds of all
pub all_of : (P : Line → Type 0) (ls : List Line) (line : Line) (ks : List Line) → AreOf ls line ks
    → ((i : ℕ) → i < length ls → P (line_at ls i)) → P line → (i : ℕ) → i < length ks → P (line_at ks i)
all_of P ls line ks are old new i less = elim (are i less) [
  | inl h ↦ subst P (sym h.1.1) (old h.0 h.1.0)
  | inr h ↦ subst P (sym h) new
]

-- ---- no corner is right of them

-- read from another place on
pub beside_from : (cs : List Triple) (ls : List Line) (t : ℕ) → length ls ≡ length cs → t ≤ length cs → AreNoneRight cs ls
    → AreNoneRight (from_place t cs) (from_place t ls)
beside_from cs ls t same in_t beside i j in_i in_j right =
    let lines = length_rotated ls t (omega (arith, same, in_t)) in
    let corners = length_rotated cs t in_t in
    let less : i < length ls = omega (arith, in_i, lines) in
    let within : j < length cs = omega (arith, in_j, corners) in
    let line : line_at (from_place t ls) i ≡ line_at ls ((t + i) % length ls) = rotated_at ls t i _ (omega (arith, same, in_t)) less in
    beside ((t + i) % length ls) ((t + j) % length cs) (mod-lt (t + i) (omega (arith, less))) (mod-lt (t + j) (omega (arith, within)))
    (subst (λ (l : Line). IsRight (whole l.0) (whole l.1) (corner_at cs (t + j))) line
    (subst (λ (p : Triple). IsRight (whole (line_at (from_place t ls) i).0) (whole (line_at (from_place t ls) i).1) p)
    (read_from cs t j in_t within) right))

-- what a cut leaves is right of no old line, nor of its own
beside_left : (cut : Line) (cs : List Triple) (ls : List Line) (ds : List Triple) (ks : List Line) → AreConvex cs → AreNoneRight cs ls
    → IsCut (whole cut.0) (whole cut.1) cs ds → AreOf ls cut ks → AreNoneRight ds ks
beside_left cut cs ls ds ks convex beside left are i j in_i in_j =
    let p = corner ds j in
    let at_p : IsPoint p = left.convex.rational j in_j in
    let inside = (left.exact p at_p).0 (corner_in_region ds left.convex j in_j) in
    all_of (λ l. ¬ (IsRight (whole l.0) (whole l.1) p)) ls cut ks are
    (λ k in_k right.
    not_both right
    (region_not_right (whole (line_at ls k).0) (whole (line_at ls k).1) cs p convex at_p inside.0
    (λ m in_m. at_least_unless (beside k m in_k in_m))))
    inside.1 i in_i

-- so it is where the corners were read from another one on
pub beside_kept : {cut : Line} {cs ds : List Triple} {ls : List Line} {least : ℕ} (ks : List Line) (start : ℕ) → IsRegionKept cs ls least → start ≤ length cs
    → IsCut (whole cut.0) (whole cut.1) (from_place start cs) ds → AreOf (from_place start ls) cut ks → AreNoneRight ds ks
beside_kept {cut} {cs} {ds} {ls} ks start kept within left are =
    beside_left cut (from_place start cs) (from_place start ls) ds ks (convex_from cs start kept.convex)
    (beside_from cs ls start kept.round.linked.as_many within kept.beside) left are
