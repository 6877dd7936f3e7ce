-- Numbers that are chosen by which of two others is less: the ends of an edge, and the vertex before a vertex.
use Rattle.std.proofs.Common.{◌≡◌, ◌∙◌, ℕ, ◌<◌, ◌≤◌, List, length, arith}
use Rattle.std.specs.Prelude.{if◌then◌else◌, nat_lt, slice_index}
use Rattle.rings.specs.Events.{first_end, last_end, next}

-- the first of two where it is less, and else the second
pub if_less : {a b x : ℕ} (y : ℕ) → a < b → x ≡ (if nat_lt a b then x else y)
if_less y h = grind arith

pub if_not_less : {a b y : ℕ} (x : ℕ) → b ≤ a → y ≡ (if nat_lt a b then x else y)
if_not_less x h = grind arith

module _ (ranks : List ℕ) (e after : ℕ) (is : after ≡ next (length ranks) e) where
  -- an edge that runs to a higher rank
  pub ends_upward : slice_index ranks e < slice_index ranks after → (e ≡ first_end ranks e) × (after ≡ last_end ranks e)
  ends_upward less = (if_less _ (rw is at less), is ∙ if_less _ (rw is at less))

  -- one that does not
  pub ends_downward : slice_index ranks after ≤ slice_index ranks e → (after ≡ first_end ranks e) × (e ≡ last_end ranks e)
  ends_downward more = (is ∙ if_not_less _ (rw is at more), if_not_less _ (rw is at more))
