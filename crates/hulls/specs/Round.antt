-- Points that turn round one another, and the round of their sides. This project's own, after Toussaint 1986.
use Rattle.std.specs.Prelude.{◌≡◌, ◌≢◌, ◌↔◌, ◌⊎◌, ℕ, ◌+◌, ◌<◌, ◌==◌, if◌then◌else◌, Bool, true, List, length, slice_index}

-- three different ones of n numbers
pub record AreThree (n a b c : ℕ) : Type 0 where
  pub a_in : a < n
  pub b_in : b < n
  pub c_in : c < n
  pub a_b : a ≢ b
  pub b_c : b ≢ c
  pub a_c : a ≢ c

-- a side goes from s to t: seen from s, all others of n points are to the left of t
pub record IsSideOf (n : ℕ) (Left : ℕ → ℕ → ℕ → Type 0) (s t : ℕ) : Type 0 where
  pub s_in : s < n
  pub t_in : t < n
  pub different : s ≢ t
  pub left : (u : ℕ) → u < n → u ≢ s → u ≢ t → Left s t u

-- of three points, seen from the first, the third is to the left of the second or the other way round, and not both; it is the same
-- seen from each of the three; and seen from the end or the start of a side the others are in one order
pub record AreTurning (n : ℕ) (Left : ℕ → ℕ → ℕ → Type 0) : Type 0 where
  pub one_way : (a b c : ℕ) → AreThree n a b c → Left a b c ⊎ Left a c b
  pub not_both : (a b c : ℕ) → AreThree n a b c → Left a b c → ¬ Left a c b
  pub cyclic : (a b c : ℕ) → AreThree n a b c → Left a b c → Left b c a
  pub ordered_at_end : (s t u v w : ℕ) → IsSideOf n Left s t → AreThree n t u v → AreThree n t v w → u ≢ w → Left t u v → Left t v w → Left t u w
  pub ordered_at_start : (s t u v w : ℕ) → IsSideOf n Left s t → AreThree n s u v → AreThree n s v w → u ≢ w → Left s u v → Left s v w → Left s u w

-- in a list, read round, t comes right after s
pub record Follows (round : List ℕ) (s t : ℕ) : Type 0 where
  pub i : ℕ
  pub in_list : i < length round
  pub at : slice_index round i ≡ s
  pub next : slice_index round (if i + 1 == length round then 0 else i + 1) ≡ t

-- the list has no number twice, and the sides are exactly the pairs that follow each other in it
pub record IsRoundOf (n : ℕ) (Left : ℕ → ℕ → ℕ → Type 0) (round : List ℕ) : Type 0 where
  pub distinct : (i j : ℕ) → i < j → j < length round → slice_index round i ≢ slice_index round j
  pub sides : (s t : ℕ) → IsSideOf n Left s t ↔ Follows round s t

-- where a test of three numbers says so
abbrev pub holds : (ℕ → ℕ → ℕ → Bool) → ℕ → ℕ → ℕ → Type 0
holds left a b c = left a b c ≡ true

-- from each start of a side there is just one round
abbrev pub RoundLaw : Type 0
RoundLaw = (n : ℕ) (left : ℕ → ℕ → ℕ → Bool) → AreTurning n (holds left) → (s t : ℕ) → IsSideOf n (holds left) s t
    → ((round : List ℕ) × IsRoundOf n (holds left) round × (slice_index round 0 ≡ s))
    × ((one other : List ℕ) → IsRoundOf n (holds left) one → IsRoundOf n (holds left) other → slice_index one 0 ≡ s → slice_index other 0 ≡ s → one ≡ other)
