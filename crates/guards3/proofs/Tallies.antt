-- The tally of a class as far as the vertices were counted.
use Rattle.std.proofs.Common.{◌≡◌, ◌≢◌, sym, subst, ◌∙◌, ℕ, ◌+◌, ◌≤◌, List, [], ◌∷◌, ◌++◌, arith, length-append}
use Rattle.guards3.proofs.ClassMembers.{of_class, of_class_more, of_class_same}
use Rattle.guards3.specs.Tally.{IsTallyOf}
use Rattle.guards3.specs.declared.tally.Tally.{Tally}

-- of the numbers below n
pub record IsTallyBelow (f : ℕ → ℕ) (class n : ℕ) (tally : Tally) : Type 0 where
  pub of : tally.class ≡ class
  pub few : tally.count ≤ n
  pub is_tally : IsTallyOf (of_class f class n) tally

module _ (f : ℕ → ℕ) (class n : ℕ) (before : Tally) (so_far : IsTallyBelow f class n before) where
  -- with a number more
  pub tally_more : (after : Tally) → f n ≡ class → after.class ≡ before.class
      → ((numbers : List ℕ) → IsTallyOf numbers before → IsTallyOf (numbers ++ n ∷ []) after) → IsTallyBelow f class (n + 1) after
  tally_more after has same more =
      let numbers = of_class f class n in
      let tallied = more numbers so_far.is_tally in
      record {
        of = same ∙ so_far.of;
        few = omega (arith, tallied.count, length-append numbers (n ∷ []), so_far.is_tally.count, so_far.few);
        is_tally = subst (λ xs. IsTallyOf xs after) (sym (of_class_more f class n has)) tallied;
      }

  -- and without it
  pub tally_same : f n ≢ class → IsTallyBelow f class (n + 1) before
  tally_same not = record {
    of = so_far.of;
    few = omega (arith, so_far.few);
    is_tally = subst (λ xs. IsTallyOf xs before) (sym (of_class_same f class n not)) so_far.is_tally;
  }
