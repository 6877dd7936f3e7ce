use Rattle.std.proofs.Common.{◌≡◌, ◌≢◌, ◌+◌, ◌<◌, ◌≤◌, ℕ, length, get_or}
use Rattle.guards3.proofs.parting.give_classes.Given as goal
use Rattle.guards3.specs.Guards.{class_of}
use Rattle.guards3.specs.Parting.{IsByMarks}

-- the classes of the vertices up to k + 1 are given, and the others have their marks
abbrev pub invariant-loop-k : goal.invariant-loop-k
invariant-loop-k l = record {
  count : length l.classes ≡ length l.fn.classes;
  before_below : l.before < 3;
  here_below : l.here < 3;
  differ : l.before ≢ l.here;
  mark : l.mark ≡ get_or l.fn.classes (l.k + 1) 0;
  before : (f : ℕ → ℕ) → IsByMarks l.fn.classes f → l.before ≡ f l.k;
  here : (f : ℕ → ℕ) → IsByMarks l.fn.classes f → l.here ≡ f (l.k + 1);
  given : (f : ℕ → ℕ) → IsByMarks l.fn.classes f → (i : ℕ) → i < l.k + 2 → class_of l.classes i ≡ f i;
  marks : (i : ℕ) → l.k + 2 ≤ i → get_or l.classes i 0 ≡ get_or l.fn.classes i 0;
}
