-- Lists in which two elements are replaced, at different places.
use Rattle.std.proofs.Common.{◌≡◌, ◌≢◌, ◌∙◌, ℕ, ◌<◌, List, length, arith}
use Rattle.std.proofs.Math.ListN.{length-set}
use Rattle.std.proofs.lemmas.List.{get_or-set_other, get_or-set_same}
use Rattle.std.specs.Prelude.{slice_index_or, slice_set}

module _ {A : Type 0} (xs : List A) (k l : ℕ) (x y d : A) (k_below : k < length xs) (l_below : l < length xs) (different : k ≢ l) where
  -- there are as many elements
  pub replaced_length : length (slice_set (slice_set xs k x) l y) ≡ length xs
  replaced_length = length-set (slice_set xs k x) l y ∙ length-set xs k x

  -- the first one replaced,
  pub replaced_first : slice_index_or (slice_set (slice_set xs k x) l y) k d ≡ x
  replaced_first = get_or-set_other (slice_set xs k x) l k y d different ∙ get_or-set_same xs k x d k_below

  -- the second one,
  pub replaced_second : slice_index_or (slice_set (slice_set xs k x) l y) l d ≡ y
  replaced_second = get_or-set_same (slice_set xs k x) l y d (omega (arith, l_below, length-set xs k x))

  -- and the others
  pub replaced_others : (m : ℕ) → m ≢ k → m ≢ l → slice_index_or (slice_set (slice_set xs k x) l y) m d ≡ slice_index_or xs m d
  replaced_others m not_k not_l = get_or-set_other (slice_set xs k x) l m y d not_l ∙ get_or-set_other xs k m x d not_k
