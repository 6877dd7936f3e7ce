-- Points two by two, and the pairs of them that are asked about.
use Rattle.std.proofs.Common.{◌≡◌, refl, sym, ap₂, subst, ℕ, zero, suc, ◌+◌, ◌*◌, ◌/◌, List, [], ◌∷◌, length, ◌∙◌, ◌<◌, min, slice_index_or, arith}
use Rattle.std.proofs.lemmas.List.{get_or-take, length-take}
use Rattle.std.specs.Ordering.{ord_min, nat_cmp}
use Rattle.std.specs.Prelude.{take}
use Rattle.plane.specs.Point.{Point}
use Rattle.geo_c.specs.Many.{Buffers, asked_pairs, point_pairs_of}

pub length_pairs : (ends : List Point) → length (point_pairs_of ends) ≡ length ends / 2
length_pairs [] = refl
length_pairs (s ∷ []) = refl
length_pairs (s ∷ t ∷ rest) = omega (arith, length_pairs rest)

-- pair k by its two points
pub pair_at : (ends : List Point) (k : ℕ) (s t : Point) → k < length ends / 2 → s ≡ slice_index_or ends (2 * k) s → t ≡ slice_index_or ends (2 * k + 1) t
    → (s, t) ≡ slice_index_or (point_pairs_of ends) k (s, t)
pair_at [] k s t few is_s is_t = let no : ⊥ = omega (arith, few) in absurd no
pair_at (a ∷ []) k s t few is_s is_t = let no : ⊥ = omega (arith, few) in absurd no
pair_at (a ∷ b ∷ rest) zero s t few is_s is_t = ap₂ (λ (x y : Point). (x, y)) is_s is_t
pair_at (a ∷ b ∷ rest) (suc k) s t few is_s is_t =
    let first : 2 * suc k ≡ suc (suc (2 * k)) = omega arith in
    let second : 2 * suc k + 1 ≡ suc (suc (2 * k + 1)) = omega arith in
    pair_at rest k s t (omega (arith, few)) (subst (λ n. s ≡ slice_index_or (a ∷ b ∷ rest) n s) first is_s) (subst (λ n. t ≡ slice_index_or (a ∷ b ∷ rest) n t) second is_t)

-- as many are asked about as have room for a status and a count
asked_count : (ends : List Point) (before : Buffers)
    → length (asked_pairs ends before) ≡ min (length before.statuses) (min (length before.lengths) (length ends / 2))
asked_count ends before =
    let outer = length-take (length before.statuses) (take (length before.lengths) (point_pairs_of ends)) in
    let inner = length-take (length before.lengths) (point_pairs_of ends) in
    omega (arith, outer, inner, length_pairs ends)

-- the same in the words of the code
pub length_asked : (ends : List Point) (before : Buffers) (m n : ℕ) → m ≡ ord_min nat_cmp (length before.statuses) (length before.lengths)
    → n ≡ ord_min nat_cmp (length ends / 2) m → length (asked_pairs ends before) ≡ n
length_asked ends before m n is_m is_n =
    let lesser : m ≡ min (length before.statuses) (length before.lengths) = grind (arith, is_m) in
    let least : n ≡ min (length ends / 2) m = grind (arith, is_n) in
    omega (arith, asked_count ends before, lesser, least)

-- so each of them has room,
pub asked_fits : (ends : List Point) (before : Buffers) (k : ℕ) → k < length (asked_pairs ends before)
    → (k < length before.statuses) × (k < length before.lengths)
asked_fits ends before k there = let count = asked_count ends before in (omega (arith, there, count), omega (arith, there, count))

-- and these are its points
pub asked_at : (ends : List Point) (before : Buffers) (k : ℕ) (s t : Point) → k < length (asked_pairs ends before)
    → s ≡ slice_index_or ends (2 * k) s → t ≡ slice_index_or ends (2 * k + 1) t → (s, t) ≡ slice_index_or (asked_pairs ends before) k (s, t)
asked_at ends before k s t there is_s is_t =
    let (fits, fits') = asked_fits ends before k there in
    pair_at ends k s t (omega (arith, there, asked_count ends before)) is_s is_t
    ∙ sym (get_or-take (length before.statuses) (take (length before.lengths) (point_pairs_of ends)) k (s, t) fits ∙ get_or-take (length before.lengths) (point_pairs_of ends) k (s, t) fits')
