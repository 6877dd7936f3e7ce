-- Lists of names as they are filled, and the names that a walk begins with.
use Rattle.std.proofs.Common.{◌≡◌, refl, ap, ◌∙◌, ℕ, ◌+◌, ◌≤◌, List, [], ◌∷◌, ◌++◌, length, take, arith}
use Rattle.std.proofs.lemmas.List.{length-append, take_all}
use Rattle.exact_plane.specs.declared.turns.Spot.{Spot}
use Rattle.exact_plane.specs.declared.turns.Spot.TheVariants.{Start}
use Rattle.funnel_walk.proofs.KeptNames.{kept_all}
use Rattle.circular_buffer.specs.Buffer.{Buffer, buffer, keep_last}

-- a name at the end of names for which there is room,
pub pushed_back : (b after : Buffer Spot) (names : List Spot) (cap : ℕ) (x : Spot) → b ≡ buffer names cap → length names + 1 ≤ cap
    → after ≡ buffer (keep_last b.capacity (b.items ++ x ∷ [])) b.capacity → after ≡ buffer (names ++ x ∷ []) cap
pushed_back b after names cap x is room pushed =
    pushed ∙ ap (λ (b : Buffer Spot). buffer (keep_last b.capacity (b.items ++ x ∷ [])) b.capacity) is
    ∙ ap (λ ns. buffer ns cap) (kept_all cap (names ++ x ∷ []) (omega (arith, length-append names (x ∷ []))))

-- and one in front of them
pub pushed_front : (b after : Buffer Spot) (names : List Spot) (cap : ℕ) (x : Spot) → b ≡ buffer names cap → length names + 1 ≤ cap
    → after ≡ buffer (take b.capacity (x ∷ b.items)) b.capacity → after ≡ buffer (x ∷ names) cap
pushed_front b after names cap x is room pushed =
    pushed ∙ ap (λ (b : Buffer Spot). buffer (take b.capacity (x ∷ b.items)) b.capacity) is
    ∙ ap (λ ns. buffer ns cap) (take_all cap (x ∷ names) (omega arith))

-- so the items are one more at the end,
pub one_behind : (b after : Buffer Spot) (x : Spot) → length b.items + 1 ≤ b.capacity
    → after ≡ buffer (keep_last b.capacity (b.items ++ x ∷ [])) b.capacity → after.items ≡ b.items ++ x ∷ []
one_behind b after x room pushed = ap (λ b. b.items) (pushed_back b after b.items b.capacity x refl room pushed)

-- or in front
pub one_before : (b after : Buffer Spot) (x : Spot) → length b.items + 1 ≤ b.capacity
    → after ≡ buffer (take b.capacity (x ∷ b.items)) b.capacity → after.items ≡ x ∷ b.items
one_before b after x room pushed = ap (λ b. b.items) (pushed_front b after b.items b.capacity x refl room pushed)

module _ (none one : Buffer Spot) (cap : ℕ) (is : none ≡ buffer [] cap) (room : 3 ≤ cap)
    (pushed : one ≡ buffer (keep_last none.capacity (none.items ++ Start ∷ [])) none.capacity) where
  -- the start alone,
  pub starts_alone : one ≡ buffer (Start ∷ []) cap
  starts_alone = pushed_back none one [] cap Start is (omega (arith, room)) pushed

  -- after a left end,
  pub left_first : (two : Buffer Spot) (left : Spot) → two ≡ buffer (take one.capacity (left ∷ one.items)) one.capacity
      → two ≡ buffer (left ∷ Start ∷ []) cap
  left_first two left = pushed_front one two (Start ∷ []) cap left starts_alone (omega (arith, room))

  -- between both ends,
  pub start_between : (two two' three : Buffer Spot) (left right : Spot) → two' ≡ two → two ≡ buffer (take one.capacity (left ∷ one.items)) one.capacity
      → three ≡ buffer (keep_last two'.capacity (two'.items ++ right ∷ [])) two'.capacity → three ≡ buffer (left ∷ Start ∷ right ∷ []) cap
  start_between two two' three left right same pushed_left =
      pushed_back two' three (left ∷ Start ∷ []) cap right (same ∙ left_first two left pushed_left) (omega (arith, room))

  -- and before the right one
  pub right_last : (one' two : Buffer Spot) (right : Spot) → one' ≡ one → two ≡ buffer (keep_last one'.capacity (one'.items ++ right ∷ [])) one'.capacity
      → two ≡ buffer (Start ∷ right ∷ []) cap
  right_last one' two right same = pushed_back one' two (Start ∷ []) cap right (same ∙ starts_alone) (omega (arith, room))
