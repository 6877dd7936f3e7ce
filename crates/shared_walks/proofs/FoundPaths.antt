-- Paths that are found one after another: how many are missing, and what they cost.
use Rattle.std.proofs.Common.{◌≡◌, refl, inl, inr, sym, ap, subst, ◌∙◌, ℕ, zero, suc, ◌+◌, ◌-◌, ◌*◌, ◌<◌, ◌≤◌, ◌⊎◌, List, [], ◌∷◌, ◌++◌, length, get_or, set, pos, arith}
use Rattle.std.proofs.Math.Nat.{mul-le-mul_left, mul-le-mul_right}
use Rattle.std.proofs.lemmas.Bool.{cases_eq}
use Rattle.std.proofs.lemmas.List.{get_or-set_other, get_or-set_same, length-set}
use Rattle.plane.specs.Point.{Point}
use Rattle.rings.specs.Chain.{point_at}
use Rattle.shared_walks.specs.Several.{ArePathsFrom, ArePathsSoFar, FindsPaths, IsPathOfFewPoints, KeepsPaths, missing}

-- no path more is no path
pub none_more : (found : List (List Point)) → ((k : ℕ) → length (get_or found k []) ≡ 0) → (k : ℕ) → length (get_or (found ++ [] ∷ []) k []) ≡ 0
none_more [] none zero = refl
none_more [] none (suc k) = refl
none_more (path ∷ found) none zero = none 0
none_more (path ∷ found) none (suc k) = none_more found (λ j. none (suc j)) k

-- at most all are missing,
pub missing_all : (found : List (List Point)) → missing found ≤ length found
missing_all [] = omega arith
missing_all (path ∷ found) = let rest = missing_all found in omega arith

-- one less where one is found,
pub missing_less : (found : List (List Point)) (j : ℕ) (path : List Point) → j < length found → length (get_or found j []) ≡ 0 → 0 < length path
    → missing (set found j path) + 1 ≡ missing found
missing_less [] j path below none some = absurd (omega arith)
missing_less (first ∷ found) zero path below none some = omega arith
missing_less (first ∷ found) (suc j) path below none some = let rest = missing_less found j path (omega (arith, below)) none some in omega arith

-- and no more where none is lost
pub missing_kept : (found after : List (List Point)) → length after ≡ length found → KeepsPaths found after → missing after ≤ missing found
missing_kept [] [] count kept = omega arith
missing_kept [] (path ∷ after) count kept = absurd (omega arith)
missing_kept (path ∷ found) [] count kept = absurd (omega arith)
missing_kept (path ∷ found) (other ∷ after) count kept =
    let rest = missing_kept found after (omega arith) (λ k. kept (suc k)) in
    elim (cases_eq (length path) 0) [
      | inl none ↦ omega arith
      | inr some ↦ let still : 0 < length other = kept 0 (omega arith) in omega arith
    ]

-- so less where one more is found
pub missing_fewer : (found after : List (List Point)) → length after ≡ length found → KeepsPaths found after
    → (k : ℕ) → k < length found → length (get_or found k []) ≡ 0 → 0 < length (get_or after k []) → missing after + 1 ≤ missing found
missing_fewer [] after count kept k below none some = absurd (omega arith)
missing_fewer (path ∷ found) [] count kept k below none some = absurd (omega arith)
missing_fewer (path ∷ found) (other ∷ after) count kept zero below none some =
    let rest = missing_kept found after (omega arith) (λ k. kept (suc k)) in omega arith
missing_fewer (path ∷ found) (other ∷ after) count kept (suc k) below none some =
    let rest = missing_fewer found after (omega arith) (λ k. kept (suc k)) k (omega (arith, below)) none some in
    elim (cases_eq (length path) 0) [
      | inl empty ↦ omega arith
      | inr full ↦ let still : 0 < length other = kept 0 (omega arith) in omega arith
    ]

-- where one is missing, its cost is still to be paid
pub cost_left : (found : List (List Point)) (j : ℕ) → j < length found → length (get_or found j []) ≡ 0 → (cost : ℕ) → cost ≤ missing found * cost
cost_left found j below none cost =
    let one = missing_less found j (record { x = pos 0; y = pos 0 } ∷ []) below none (omega arith) in
    let rest = missing (set found j (record { x = pos 0; y = pos 0 } ∷ [])) in
    let product : missing found * cost ≡ (rest + 1) * cost = ap (λ (m : ℕ). m * cost) (sym one) in
    omega (arith, product)

module _ (corners : List Point) (s : Point) (points : List Point) (cost : ℕ) where
  -- nothing is found without a step
  pub finds_none : (found : List (List Point)) (steps : ℕ) → ArePathsSoFar corners s points found → FindsPaths corners s points cost found steps found steps
  finds_none found steps so_far = record { so_far = so_far; kept = λ k some. some; paid = omega arith }

  module _ (start : List (List Point)) (begun : ℕ) (found : List (List Point)) (steps : ℕ)
      (finds : FindsPaths corners s points cost start begun found steps) where
    -- more paths may be found after some,
    pub finds_then : (after : List (List Point)) (later : ℕ) → FindsPaths corners s points cost found steps after later
        → FindsPaths corners s points cost start begun after later
    finds_then after later more = record {
      so_far = more.so_far;
      kept = λ k some. more.kept k (finds.kept k some);
      paid = omega (arith, finds.paid, more.paid);
    }

    -- with other steps between,
    pub finds_on : (after : List (List Point)) (from mid : ℕ) → FindsPaths corners s points cost found from after mid
        → (allowed later : ℕ) → later + begun + from ≤ allowed + steps + mid → FindsPaths corners s points cost start allowed after later
    finds_on after from mid more allowed later less = record {
      so_far = more.so_far;
      kept = λ k some. more.kept k (finds.kept k some);
      paid = omega (arith, finds.paid, more.paid, less);
    }

    -- and after others,
    pub finds_later : (allowed later : ℕ) → later + begun ≤ steps + allowed → FindsPaths corners s points cost start allowed found later
    finds_later allowed later less = record { so_far = finds.so_far; kept = finds.kept; paid = omega (arith, finds.paid, less) }

    module _ (j : ℕ) (below : j < length points) (none : length (get_or found j []) ≡ 0) where
      below_found : j < length found
      below_found = omega (arith, below, finds.so_far.count)

      -- one path may be found,
      pub finds_more : (path : List Point) (later : ℕ) → IsPathOfFewPoints corners s (point_at points j) path → later ≤ steps + cost
          → FindsPaths corners s points cost start begun (set found j path) later
      finds_more path later is few = record {
        so_far = record {
          count = length-set found j path ∙ finds.so_far.count;
          each = λ k within. elim (cases_eq k j) [
            | inl same ↦ inr (subst (λ (i : ℕ). IsPathOfFewPoints corners s (point_at points i) (get_or (set found j path) i [])) (sym same)
                (subst (IsPathOfFewPoints corners s (point_at points j)) (sym (get_or-set_same found j path [] below_found)) is))
            | inr other ↦ subst (λ old. (length old ≡ 0) ⊎ IsPathOfFewPoints corners s (point_at points k) old)
                (sym (get_or-set_other found j k path [] other)) (finds.so_far.each k within)
          ];
        };
        kept = λ k some. elim (cases_eq k j) [
          | inl same ↦ subst (λ (i : ℕ). 0 < length (get_or (set found j path) i [])) (sym same)
              (subst (λ new. 0 < length new) (sym (get_or-set_same found j path [] below_found)) is.some)
          | inr other ↦ subst (λ new. 0 < length new) (sym (get_or-set_other found j k path [] other)) (finds.kept k some)
        ];
        paid =
            let one = missing_less found j path below_found none is.some in
            let product : (missing (set found j path) + 1) * cost ≡ missing found * cost = ap (λ (m : ℕ). m * cost) one in
            omega (arith, finds.paid, product, few);
      }

      -- it is there then,
      pub there : (path : List Point) → 0 < length path → 0 < length (get_or (set found j path) j [])
      there path some = subst (λ new. 0 < length new) (sym (get_or-set_same found j path [] below_found)) some

      -- and what was spent while it was looked for is covered
      pub paid_for : (later : ℕ) → later ≤ steps + cost → later ≤ begun + missing start * cost
      paid_for later few = omega (arith, finds.paid, cost_left found j below_found none cost, few)

-- where none is missing, all paths are found
pub all_found : (corners : List Point) (s : Point) (points : List Point) (found : List (List Point)) → ArePathsSoFar corners s points found
    → ((k : ℕ) → k < length points → 0 < length (get_or found k [])) → ArePathsFrom corners s points found
all_found corners s points found so_far each = record {
  count = so_far.count;
  each = λ k below. elim (so_far.each k below) [
    | inl none ↦ absurd (omega (arith, none, each k below))
    | inr is ↦ is
  ];
}

-- a walk of 2 n steps is paid by one path or more, where each may cost 4 n steps
pub walk_paid : (n begun later all left : ℕ) → 3 ≤ n → later + left * (n + 1) ≤ begun + 2 * n + all * (n + 1) → left + 1 ≤ all
    → later + left * (4 * n) ≤ begun + all * (4 * n)
walk_paid n begun later all left some paid fewer =
    let more = all - left - 1 in
    let split : all ≡ left + 1 + more = omega (arith, fewer) in
    let first : all * (n + 1) ≡ (left + 1 + more) * (n + 1) = ap (λ (m : ℕ). m * (n + 1)) split in
    let second : all * (4 * n) ≡ (left + 1 + more) * (4 * n) = ap (λ (m : ℕ). m * (4 * n)) split in
    let rest : more * 3 ≤ more * n = mul-le-mul_left more some in
    omega (arith, first, second, paid, rest, some)

-- so it is where the walk is broken off
pub walk_broken : (n begun later all : ℕ) → 3 ≤ n → later ≤ begun + 2 * n + all * (n + 1) → 1 ≤ all → later ≤ begun + all * (4 * n)
walk_broken n begun later all some paid one =
    let none : 0 * (4 * n) ≡ 0 = omega arith in
    let free : 0 * (n + 1) ≡ 0 = omega arith in
    omega (arith, walk_paid n begun later all 0 some (omega (arith, paid, free)) (omega (arith, one)), none)

-- so a walk that finds the path to a point that had none finds its paths for 4 n steps each
pub walk_finds : (corners : List Point) (s : Point) (points : List Point) (n : ℕ) (found after : List (List Point)) (begun later : ℕ) → 3 ≤ n
    → FindsPaths corners s points (n + 1) found (begun + 2 * n) after later → ArePathsSoFar corners s points found
    → (k : ℕ) → k < length points → length (get_or found k []) ≡ 0 → 0 < length (get_or after k []) → FindsPaths corners s points (4 * n) found begun after later
walk_finds corners s points n found after begun later some finds so_far k below none there = record {
  so_far = finds.so_far;
  kept = finds.kept;
  paid = walk_paid n begun later (missing found) (missing after) some finds.paid
      (missing_fewer found after (finds.so_far.count ∙ sym so_far.count) finds.kept k (omega (arith, below, so_far.count)) none there);
}

-- at first no more are missing than there are points
pub start_cost : (found : List (List Point)) (m cost : ℕ) → length found ≡ m → missing found * cost ≤ m * cost
start_cost found m cost count = mul-le-mul_right cost (omega (arith, missing_all found, count))
