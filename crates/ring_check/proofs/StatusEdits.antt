-- The numbers of edges in a list after one is put in, or takes the place of another.
use Rattle.std.proofs.Common.{◌≡◌, ap, ℕ, ◌+◌, ◌<◌, List, ◌∷◌, length, set, take, drop, arith}
use Rattle.std.proofs.lemmas.List.Elements.{All-append, All-cons, All-drop, All-set, All-take}
use Rattle.std.proofs.lemmas.List.Sums.{sum_by-set}
use Rattle.std.specs.List.{All, insert}
use Rattle.std.specs.Prelude.{slice_index}
use Rattle.rings.specs.Status.{one, times}

-- the items are below a number
abbrev AreBelow : ℕ → List ℕ → Type 0
AreBelow n xs = All (λ e. e < n) xs

module _ {n m : ℕ} (size : n ≡ m) (xs : List ℕ) (edges : AreBelow n xs) where
  pub edges_as : AreBelow m xs
  edges_as = rw size at edges

  pub edges_inserted : (i e : ℕ) → e < m → AreBelow m (insert xs i e)
  edges_inserted i e edge =
      All-append (λ k. k < m) (take i xs) (e ∷ drop i xs) (All-take (λ k. k < m) i xs edges_as)
      (All-cons (λ k. k < m) e (drop i xs) edge (All-drop (λ k. k < m) i xs edges_as))

  pub edges_replaced : (i e : ℕ) → e < m → AreBelow m (set xs i e)
  edges_replaced i e edge = All-set (λ k. k < m) xs i e edge edges_as

-- how often a number is there
pub times_replaced : (xs : List ℕ) (i e f x : ℕ) → i < length xs → slice_index xs i ≡ e → times x (set xs i f) + one x e ≡ times x xs + one x f
times_replaced xs i e f x within is = omega (arith, sum_by-set (one x) xs i f 0 within, ap (one x) is)
