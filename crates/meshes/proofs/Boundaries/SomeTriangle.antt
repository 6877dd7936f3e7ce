-- Some triangle of a list has a property that each has or has not, or none has.
use Rattle.std.proofs.Common.{◌⊎◌, inl, inr, ℕ, zero, suc, ◌<◌, List, [], ◌∷◌, length, arith}
use Rattle.meshes.specs.Prelude.{tri_at}
use Rattle.meshes.specs.declared.tri.Tri.{Tri}

module _ (P : Tri → Type 0) where
  -- some triangle has it,
  abbrev pub SomeHas : List Tri → Type 0
  SomeHas tris = (k : ℕ) × (k < length tris) × P (tri_at tris k)

  -- or none has
  abbrev pub NoneHas : List Tri → Type 0
  NoneHas tris = (k : ℕ) → k < length tris → ¬ P (tri_at tris k)

  -- not one triangle, and none of others
  none_more : (t : Tri) (ts : List Tri) → ¬ P t → NoneHas ts → NoneHas (t ∷ ts)
  none_more t ts here others zero below = here
  none_more t ts here others (suc k) below = others k (omega (arith, below))

  pub some_or_none : ((t : Tri) → P t ⊎ (¬ P t)) → (tris : List Tri) → SomeHas tris ⊎ NoneHas tris
  some_or_none each [] = inr (λ k below h. omega (arith, below))
  some_or_none each (t ∷ ts) = elim (each t) [
    | inl h ↦ inl (0, omega arith, h)
    | inr here ↦ elim (some_or_none each ts) [
      | inl h ↦ let (k, below, has) = h in inl (suc k, omega (arith, below), has)
      | inr none ↦ inr (none_more t ts here none)
    ]
  ]
