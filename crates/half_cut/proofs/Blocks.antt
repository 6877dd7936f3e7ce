-- Corners counted round, and the block of those that a cut leaves.
use Rattle.std.proofs.Common.{◌≡◌, inl, inr, sym, subst, ap, ◌∙◌, ℕ, zero, suc, ◌+◌, ◌-◌, ◌*◌, ◌/◌, ◌%◌, ◌<◌, ◌≤◌, arith, List, length}
use Rattle.std.proofs.Math.Nat.{add-mod_left, add-mul-mod_self_left, div-add-mod, mod-lt}
use Rattle.std.proofs.lemmas.Bool.{cases_eq, cases_lt}
use Rattle.plane.proofs.Regions.{corner_within}
use Rattle.plane.specs.Convex.{corner}
use Rattle.plane.specs.Point.{Triple}
use Rattle.plane.specs.Region.{corner_at}
use Rattle.half_cut.specs.Block.{IsBlock, IsRightRun}
use Rattle.half_cut.specs.Outline.{IsRightOf, Line}

-- a number may be counted round before another is added
pub mod_add : (x i n : ℕ) → (x % n + i) % n ≡ (x + i) % n
mod_add x i n =
    let whole : x + i ≡ x % n + i + n * (x / n) = omega (arith, div-add-mod x n) in
    sym (ap (λ k. k % n) whole ∙ add-mul-mod_self_left (x % n + i) n (x / n))

-- so many steps, each of all places but one, go back
steps_back : (n x k : ℕ) → k ≤ n → (x + k * (n - 1)) % n ≡ (x + (n - k)) % n
steps_back n x zero few = ap (λ i. i % n) (omega arith) ∙ sym (add-mod_left n x) ∙ ap (λ i. i % n) (omega arith)
steps_back zero x (suc k) few = absurd (omega (arith, few))
steps_back (suc m) x (suc k) few =
    let last : suc m - 1 ≡ m = omega arith in
    let whole : x + suc k * m ≡ x + (suc m - suc k) + suc m * k = omega (arith, few) in
    ap (λ i. (x + suc k * i) % suc m) last ∙ ap (λ i. i % suc m) whole ∙ add-mul-mod_self_left (x + (suc m - suc k)) (suc m) k

-- what holds all round from one number on holds of all
pub all_round : (P : ℕ → Type 0) (n from : ℕ) → ((i : ℕ) → P (n + i) → P i) → from < n → ((i : ℕ) → i < n → P (from + i)) → (i : ℕ) → i <
    n → P i
all_round P n from once within all i less = elim (cases_lt i from) [
  | inl before ↦ once i (subst P (omega (arith, before, within)) (all (i + n - from) (omega (arith, before, within))))
  | inr after ↦ subst P (omega (arith, after)) (all (i - from) (omega (arith, less)))
]

module _ (cs : List Triple) where
  -- once round is the same corner,
  pub once_round : (i : ℕ) → corner_at cs (length cs + i) ≡ corner_at cs i
  once_round i = ap (λ k. corner cs k) (add-mod_left (length cs) i)

  -- so is one that was counted round before,
  pub counted_round : (x i : ℕ) → corner_at cs (x % length cs + i) ≡ corner_at cs (x + i)
  counted_round x i = ap (λ k. corner cs k) (mod_add x i (length cs))

  -- what holds of all corners from one on holds of all
  pub all_from : (P : Triple → Type 0) (from : ℕ) → from < length cs → ((i : ℕ) → i < length cs → P (corner_at cs (from + i)))
      → (i : ℕ) → i < length cs → P (corner cs i)
  all_from P from within all i less =
      subst P (corner_within cs i less)
      (all_round (λ k. P (corner_at cs k)) (length cs) from (λ k h. subst P (once_round k) h) within all i less)

module _ {line : Line} {cs : List Triple} {gone ahead : ℕ} (within : gone < length cs) (forth : IsRightRun line cs gone 1 ahead) where
  right_ahead : (k : ℕ) → k < ahead → IsRightOf line (corner_at cs (gone + k))
  right_ahead k less = subst (λ i. IsRightOf line (corner_at cs i)) (omega arith) (forth.right k less)

  -- a run through all
  pub all_right : ahead ≡ length cs → (i : ℕ) → i < length cs → IsRightOf line (corner cs i)
  all_right all = all_from cs (IsRightOf line) gone within (λ i less. right_ahead i (omega (arith, less, all)))

-- runs ahead and back from a corner that is right of the line, the first of which ends
module _ {line : Line} {cs : List Triple} {gone ahead back step : ℕ} (within : gone < length cs) (here : IsRightOf line (corner cs gone))
    (forth : IsRightRun line cs gone 1 ahead) (in_ahead : ahead < length cs) (run_back : IsRightRun line cs gone step back)
    (is_step : step ≡ length cs - 1) where
  abbrev n : ℕ
  n = length cs

  right_here : IsRightOf line (corner_at cs gone)
  right_here = subst (IsRightOf line) (sym (corner_within cs gone within)) here

  home : IsRightRun line cs gone (length cs - 1) back
  home = subst (λ k. IsRightRun line cs gone k back) is_step run_back

  end_ahead : ¬ IsRightOf line (corner_at cs (gone + ahead))
  end_ahead right = forth.end in_ahead (subst (λ i. IsRightOf line (corner_at cs i)) (omega arith) right)

  right_back : (k : ℕ) → k < back → IsRightOf line (corner_at cs (gone + (n - k)))
  right_back k less = subst (λ i. IsRightOf line (corner cs i)) (steps_back n gone k (omega (arith, home.within, less))) (home.right k less)

  -- the walk ahead takes a step at least,
  some_ahead : 0 < ahead
  some_ahead = elim (cases_eq ahead 0) [
    | inl e ↦ absurd (end_ahead (subst (λ k. IsRightOf line (corner_at cs k)) (omega (arith, e)) right_here))
    | inr n ↦ omega (arith, n)
  ]

  -- and the walk back does not pass the corner where that ended,
  pub back_ends : ahead + back ≤ n
  back_ends = elim (cases_lt (n - ahead) back) [
    | inr not ↦ omega (arith, not, in_ahead)
    | inl past ↦
        absurd (end_ahead (subst (λ k. IsRightOf line (corner_at cs k)) (omega (arith, in_ahead)) (right_back (n - ahead) past)))
  ]

  end_back : ¬ IsRightOf line (corner_at cs (gone + (n - back)))
  end_back right =
      home.end (omega (arith, back_ends, some_ahead)) (subst (λ i. IsRightOf line (corner cs i)) (sym (steps_back n gone back home.within)) right)

  some_back : 0 < back
  some_back = elim (cases_eq back 0) [
    | inl e ↦
        absurd (end_back (subst (λ k. IsRightOf line (corner_at cs (gone + (n - k)))) (sym e)
        (subst (IsRightOf line) (sym (once_round cs gone) ∙ ap (λ k. corner_at cs k) (omega arith)) right_here)))
    | inr n ↦ omega (arith, n)
  ]

  -- and what is between the two ends is the block that stays
  pub block_between : (start count : ℕ) → start ≡ (gone + ahead) % n → count ≡ n + 1 - ahead - back → IsBlock line cs start count
  block_between start count is_start is_count = subst (λ t. t) (λ i. IsBlock line cs (sym is_start i) (sym is_count i))
      (let count = n + 1 - ahead - back in
      record {
        within = mod-lt (gone + ahead) (omega (arith, within));
        some = omega (arith, back_ends);
        rest = omega (arith, some_ahead, some_back, back_ends);
        first = λ h. end_ahead (subst (IsRightOf line) (ap (λ k. corner_at cs k) (omega arith) ∙ counted_round cs (gone + ahead) 0 ∙ ap (λ k. corner_at cs k) (omega arith)) h);
        last = λ h.
            let place : gone + ahead + (count - 1) ≡ gone + (n - back) = omega (arith, back_ends) in
            end_back (subst (IsRightOf line) (counted_round cs (gone + ahead) (count - 1) ∙ ap (λ k. corner_at cs k) place) h);
        next =
            let place : gone + ahead + count ≡ gone + (n - (back - 1)) = omega (arith, back_ends, some_back) in
            subst (IsRightOf line) (sym (counted_round cs (gone + ahead) count ∙ ap (λ k. corner_at cs k) place))
            (right_back (back - 1) (omega (arith, some_back)));
        before =
            let place : gone + ahead + (n - 1) ≡ n + (gone + (ahead - 1)) = omega (arith, some_ahead, within) in
            subst (IsRightOf line)
            (sym (counted_round cs (gone + ahead) (n - 1) ∙ ap (λ k. corner_at cs k) place ∙ once_round cs (gone + (ahead - 1))))
            (right_ahead within forth (ahead - 1) (omega (arith, some_ahead)));
      })
