-- What flips keep while triangles wait, and the measure that falls with each triangle that is looked at.
use Rattle.std.proofs.Common.{◌≡◌, ◌≢◌, ◌⊎◌, inl, inr, sym, subst, ℕ, ◌+◌, ◌-◌, ◌*◌, ◌<◌, ◌≤◌, List, Option, [], length, arith}
use Rattle.std.proofs.lemmas.Bool.{cases_eq}
use Rattle.std.proofs.lemmas.List.FromFn.{length-range_with_len}
use Rattle.std.specs.List.{Contains, range_with_len}
use Rattle.plane.proofs.Lists.{in_range}
use Rattle.plane.specs.Point.{Point}
use Rattle.meshes.specs.Fits.{Fits}
use Rattle.meshes.specs.Side.{tri_at}
use Rattle.meshes.specs.declared.tri.Tri.{Tri}
use Rattle.flip_tri.proofs.Ranks.{rank_sum_bound}
use Rattle.flip_tri.specs.Flip.{HasNoFlips, IsToFlip}
use Rattle.flip_tri.specs.Flips.{AreFlips, IsFlipped, HasNoFlipAt, KnowsNeighbours, Waits}
use Rattle.flip_tri.specs.Ranks.{rank_sum}

-- of two triangles whose common side is to be flipped one waits
abbrev pub AllWait : List Point → List Tri → List ℕ → Type 0
AllWait corners tris numbers =
    (k l i j c d : ℕ) → k < length tris → l < length tris → IsToFlip corners (tri_at tris k) (tri_at tris l) i j c d
    → Contains numbers k ⊎ Contains numbers l

-- how many triangles are looked at from here on, at most
abbrev pub looks_left : List Point → List Tri → List ℕ → ℕ
looks_left corners tris numbers = 2 * (length corners * length tris - rank_sum corners tris) + length numbers

-- between two of them
pub record IsUnderWay (corners : List Point) (most : ℕ) (tris : List Tri) (rows : List (List (Option ℕ))) (waiting : Waits) (steps : ℕ) : Type 0 where
  pub flips : AreFlips corners tris rows
  pub count : waiting.count ≡ length tris
  pub wait : AllWait corners tris waiting.numbers
  pub few : steps + 12 * looks_left corners tris waiting.numbers ≤ most

-- ---- the first and the last

-- so few are looked at
few_looks : (m : ℕ) → 12 * (2 * ((m + 2) * m) + m) ≤ 24 * ((m + 2) * (m + 2))
few_looks m = omega arith

few_at_most : (n m k : ℕ) → m + 2 ≡ n → k ≤ 2 * (n * m) + m → 12 * k ≤ 24 * (n * n)
few_at_most n m k is few = subst (λ a. k ≤ 2 * (a * m) + m → 12 * k ≤ 24 * (a * a)) is (λ h. omega (arith, h, few_looks m)) few

module _ (corners : List Point) where
  -- all wait at first
  pub under_way : (tris : List Tri) (rows : List (List (Option ℕ))) (waiting : Waits) (steps : ℕ) → Fits corners tris → KnowsNeighbours tris rows
      → waiting.numbers ≡ range_with_len 0 (length tris) → waiting.count ≡ length tris
      → IsUnderWay corners (steps + 24 * (length corners * length corners)) tris rows waiting steps
  under_way tris rows waiting steps fits knows numbers count =
      let m : ℕ = length tris in
      let size : length (range_with_len 0 m) ≡ m = length-range_with_len 0 m in
      let vertices : m + 2 ≡ length corners = omega (arith, fits.count, length-range_with_len 0 (length corners)) in
      let looks : looks_left corners tris (range_with_len 0 m) ≤ 2 * (length corners * m) + m = omega arith in
      let few = few_at_most (length corners) m (looks_left corners tris (range_with_len 0 m)) vertices looks in
      record {
        flips = record { fits = fits; knows = knows };
        count = count;
        wait = λ k l i j c d low low_too is. inl (subst (λ ns. Contains ns k) (sym numbers) (in_range m k low));
        few = subst (λ ns. steps + 12 * looks_left corners tris ns ≤ steps + 24 * (length corners * length corners)) (sym numbers) (omega (arith, few));
      }

  -- where none waits, nothing is to be flipped
  pub settled : (tris : List Tri) (numbers : List ℕ) → numbers ≡ [] → AllWait corners tris numbers → HasNoFlips corners tris
  settled tris numbers none wait k l i j c d low low_too is = elim (wait k l i j c d low low_too is) [
    | inl has ↦ absurd (not_in_none k (subst (λ ns. Contains ns k) none has))
    | inr has ↦ absurd (not_in_none l (subst (λ ns. Contains ns l) none has))
  ]
    where
      not_in_none : (k : ℕ) → ¬ Contains [] k
      not_in_none k (i, within, is) = omega arith

-- ---- one look

module _ (corners : List Point) (tris : List Tri) (before rest : List ℕ) (near : ℕ)
    (others : (i : ℕ) → Contains before i → i ≢ near → Contains rest i) (fewer : length rest + 1 ≡ length before) where
  -- a triangle no side of which is to be flipped need not wait
  still_wait : HasNoFlipAt corners tris near → AllWait corners tris before → AllWait corners tris rest
  still_wait done wait k l i j c d low low_too is =
      let other : k ≢ near = λ e. done.near l i j c d low_too (subst (λ a. IsToFlip corners (tri_at tris a) (tri_at tris l) i j c d) e is) in
      let other_too : l ≢ near = λ e. done.far k i j c d low (subst (λ a. IsToFlip corners (tri_at tris k) (tri_at tris a) i j c d) e is) in
      elim (wait k l i j c d low low_too is) [ inl has ↦ inl (others k has other) | inr has ↦ inr (others l has other_too) ]

  -- so one look less is left
  pub looks_fall : looks_left corners tris rest < looks_left corners tris before
  looks_fall = omega arith

  -- also where the list of triangles is named anew
  pub looks_fall_same : (after : List Tri) → after ≡ tris → looks_left corners after rest < looks_left corners tris before
  looks_fall_same after same = subst (λ ts. looks_left corners ts rest < looks_left corners tris before) (sym same) looks_fall

  module _ (after : List Tri) (far : ℕ) (flipped : IsFlipped corners tris after near far) (last : List ℕ)
      (kept : (i : ℕ) → Contains rest i → Contains last i) (more : length last ≤ length rest + 2) where
    -- a flip adds two, and leaves fewer flips
    pub looks_fall_flipped : looks_left corners after last < looks_left corners tris before
    looks_fall_flipped =
        let bound : rank_sum corners after ≤ length corners * length tris =
        subst (λ m. rank_sum corners after ≤ length corners * m) flipped.count (rank_sum_bound corners after) in
        let ranks = flipped.ranks in
        subst (λ m. 2 * (length corners * m - rank_sum corners after) + length last < looks_left corners tris before) (sym flipped.count) (omega arith)

    -- and where both triangles wait, all do
    wait_flipped : Contains last near → Contains last far → AllWait corners tris before → AllWait corners after last
    wait_flipped has_near has_far wait k l i j c d low low_too is =
        elim (cases_eq k near) [
          | inl e ↦ inl (subst (Contains last) (sym e) has_near)
          | inr k_near ↦ elim (cases_eq k far) [
            | inl e ↦ inl (subst (Contains last) (sym e) has_far)
            | inr k_far ↦ elim (cases_eq l near) [
              | inl e ↦ inr (subst (Contains last) (sym e) has_near)
              | inr l_near ↦ elim (cases_eq l far) [
                | inl e ↦ inr (subst (Contains last) (sym e) has_far)
                | inr l_far ↦
                    let size = flipped.count in
                    let old = subst (λ t. IsToFlip corners t (tri_at tris l) i j c d) (flipped.others k k_near k_far)
                    (subst (λ t. IsToFlip corners (tri_at after k) t i j c d) (flipped.others l l_near l_far) is) in
                    elim (wait k l i j c d (omega arith) (omega arith) old) [
                      | inl has ↦ inl (kept k (others k has k_near))
                      | inr has ↦ inr (kept l (others l has l_near))
                    ]
              ]
            ]
          ]
        ]

module _ (corners : List Point) (most : ℕ) (tris : List Tri) (rows : List (List (Option ℕ))) (waiting : Waits) (steps : ℕ)
    (is : IsUnderWay corners most tris rows waiting steps) (near : ℕ) (rest : Waits) (same_count : rest.count ≡ waiting.count)
    (others : (i : ℕ) → Contains waiting.numbers i → i ≢ near → Contains rest.numbers i) (fewer : length rest.numbers + 1 ≡ length waiting.numbers)
    (steps_after : ℕ) (few_steps : steps_after ≤ steps + 12) where
  -- there are steps enough for a look
  pub steps_enough : steps_after ≤ most
  steps_enough = let few = is.few in omega arith

  -- after one at a triangle no side of which is to be flipped
  pub after_none : (after : List Tri) (rows_after : List (List (Option ℕ))) → after ≡ tris → AreFlips corners after rows_after → HasNoFlipAt corners after near
      → IsUnderWay corners most after rows_after rest steps_after
  after_none after rows_after same flips done =
      subst (λ ts. AreFlips corners ts rows_after → HasNoFlipAt corners ts near → IsUnderWay corners most ts rows_after rest steps_after) (sym same)
      (λ flips done. record {
        flips = flips;
        count = let size = is.count in omega arith;
        wait = still_wait corners tris waiting.numbers rest.numbers near others fewer done is.wait;
        few = let few = is.few in let less = looks_fall corners tris waiting.numbers rest.numbers near others fewer in omega arith;
      })
      flips done

  -- and after a flip
  pub after_flip : (after : List Tri) (rows_after : List (List (Option ℕ))) (far : ℕ) (last : Waits) → AreFlips corners after rows_after
      → IsFlipped corners tris after near far → last.count ≡ rest.count → ((i : ℕ) → Contains rest.numbers i → Contains last.numbers i)
      → length last.numbers ≤ length rest.numbers + 2 → Contains last.numbers near → Contains last.numbers far
      → IsUnderWay corners most after rows_after last steps_after
  after_flip after rows_after far last flips flipped same_last kept more has_near has_far = record {
    flips = flips;
    count = let size = is.count in let size_after = flipped.count in omega arith;
    wait = wait_flipped corners tris waiting.numbers rest.numbers near others fewer after far flipped last.numbers kept more has_near has_far is.wait;
    few =
        let few = is.few in
        let less = looks_fall_flipped corners tris waiting.numbers rest.numbers near others fewer after far flipped last.numbers kept more in
        omega arith;
  }
