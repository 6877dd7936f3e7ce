-- The cone that a fan leaves: where it turns by more than a half turn, all neighbours are in the closed angle from its end to its start.
use Rattle.std.proofs.Common.{◌≡◌, ◌⊎◌, inl, inr, subst, sym, List, [], ◌∷◌, ℤ, pos, ◌+ℤ◌, ◌-ℤ◌, ◌*ℤ◌, neg_ℤ, ◌<ℤ◌, ◌≤ℤ◌}
use Rattle.integer_algebra.proofs.SignSteps.{not_both, not_both_positive, own_opposite, turned_not_positive, weak, weak_order, zero_not_negative}
use Rattle.integer_algebra.proofs.Signs.{lt_or_le}
use Rattle.funnels.proofs.Bends.FanSigns.{end_in_line, in_line_with_start, left_of_middle, left_of_start, not_left_of_start, not_negative_unless}
use Rattle.funnels.proofs.Bends.FanSigns.{not_positive_before, not_positive_unless, not_right_of_end, positive_unless, relation}
use Rattle.funnels.proofs.Bends.Fans.{along_fan}
use Rattle.funnels.specs.Fan.{IsFan, IsFanStep, IsLastStep}

module _ {A : Type 0} (f : A → A → ℤ) (swap : (a b : A) → f b a ≡ neg_ℤ (f a b))
    (four : (a b c d : A) → f a b *ℤ f c d -ℤ f a c *ℤ f b d +ℤ f a d *ℤ f b c ≡ pos 0) (N : A → Type 0) where
  -- no direction is left or right of itself
  self : (a : A) → f a a ≡ pos 0
  self a = own_opposite (swap a a)

  -- ---- a neighbour that is left of the start

  -- it is still ahead of each direction of the fan, and none of these is right of the start
  stays_ahead : (p u : A) → N u → pos 0 <ℤ f p u → (r b : A) → IsFanStep f N r b
      → (pos 0 ≤ℤ f p r) × (pos 0 <ℤ f r u) → (pos 0 ≤ℤ f p b) × (pos 0 <ℤ f b u)
  stays_ahead p u n left r b step h =
      let past : pos 0 <ℤ f b u = positive_unless h.1 (step.none u n) in
      (weak (left_of_start (relation f four p r b u) h.0 h.1 (weak past) left step.ahead), past)

  -- so a fan that ends right of its start has none
  not_left_of_fan : (p r y : A) (ds : List A) → IsFan f N p ds r → IsLastStep f N r y → f p y <ℤ pos 0 → (u : A) → N u → f p u ≤ℤ pos 0
  not_left_of_fan p r y ds fan last wide u n = elim (lt_or_le (pos 0) (f p u)) [
    | inr k ↦ k
    | inl left ↦
        let holds = λ (z : A). (pos 0 ≤ℤ f p z) × (pos 0 <ℤ f z u) in
        let h = along_fan f N holds (stays_ahead p u n left) p r ds fan (zero_not_negative (self p), left) in
        let past : pos 0 ≤ℤ f y u = not_negative_unless h.1 (last.none u n) in
        absurd (not_both wide (weak (left_of_start (relation f four p r y u) h.0 h.1 past left last.ahead)))
  ]

  -- ---- a neighbour that is right of the end

  -- a direction of the fan is left of the start, or has the neighbour ahead
  keeps_ahead : (p y u : A) → N u → f p y <ℤ pos 0 → f p u ≤ℤ pos 0 → f y u <ℤ pos 0 → (r b : A) → IsFanStep f N r b
      → (pos 0 <ℤ f p r) ⊎ (pos 0 <ℤ f r u) → (pos 0 <ℤ f p b) ⊎ (pos 0 <ℤ f b u)
  keeps_ahead p y u n wide not_left right r b step (inr h) = inr (positive_unless h (step.none u n))
  keeps_ahead p y u n wide not_left right r b step (inl h) = elim (lt_or_le (pos 0) (f p b)) [
    | inl k ↦ inl k
    | inr past ↦ elim (lt_or_le (pos 0) (f b u)) [
      | inl k ↦ inr k
      | inr low ↦
          let behind : f r u ≤ℤ pos 0 = not_positive_unless low (step.none u n) in
          let level = in_line_with_start (relation f four p r b u) h past not_left step.ahead behind low in
          absurd (not_both_positive (left_of_middle (relation f four p r y u) h wide level right) behind)
    ]
  ]

  -- so a fan that ends right of its start has none
  not_right_of_fan : (p r y : A) (ds : List A) → IsFan f N p ds r → IsLastStep f N r y → f p y <ℤ pos 0
      → (u : A) → N u → f p u ≤ℤ pos 0 → pos 0 ≤ℤ f y u
  not_right_of_fan p r y [] same last wide u n not_left =
      absurd (not_both wide (weak (subst (λ z. pos 0 <ℤ f z y) (sym same) last.ahead)))
  not_right_of_fan p r y (d ∷ ds) fan last wide u n not_left = elim (lt_or_le (f y u) (pos 0)) [
    | inr k ↦ k
    | inl right ↦
        let holds = λ (z : A). (pos 0 <ℤ f p z) ⊎ (pos 0 <ℤ f z u) in
        elim (along_fan f N holds (keeps_ahead p y u n wide not_left right) d r ds fan.1 (inl fan.0.ahead)) [
          | inr h ↦ not_negative_unless h (last.none u n)
          | inl h ↦
              let behind : f r u ≤ℤ pos 0 = not_positive_before right (last.none u n) in
              not_right_of_end (relation f four p r y u) h (weak_order wide) not_left last.ahead behind
        ]
  ]

  -- ---- the cone

  -- where the whole fan turns by more than a half turn, all neighbours are in the closed angle that is left
  pub cone_of_fan : (p r y : A) (ds : List A) → IsFan f N p ds r → IsLastStep f N r y → f p y <ℤ pos 0
      → (u : A) → N u → (f p u ≤ℤ pos 0) × (f u y ≤ℤ pos 0)
  cone_of_fan p r y ds fan last wide u n =
      let not_left = not_left_of_fan p r y ds fan last wide u n in
      (not_left, turned_not_positive (swap y u) (not_right_of_fan p r y ds fan last wide u n not_left))

  -- one more step, with all neighbours ahead, keeps it so, and where it ends in line with the start, they are in line too
  pub cone_grows : (p r y : A) → f p r <ℤ pos 0 → ((u : A) → N u → f p u ≤ℤ pos 0) → ((u : A) → N u → pos 0 <ℤ f r u) → IsLastStep f N r y
      → (u : A) → N u → (f p y ≤ℤ pos 0) × (f u y ≤ℤ pos 0) × (f p y ≡ pos 0 → (f p u ≡ pos 0) × (f y u ≡ pos 0))
  cone_grows p r y wide not_left ahead last u n =
      let past : pos 0 ≤ℤ f y u = not_negative_unless (ahead u n) (last.none u n) in
      let e = relation f four p r y u in (
        not_left_of_start e wide (not_left u n) (ahead u n) past last.ahead,
        turned_not_positive (swap y u) past,
        λ level. end_in_line e wide level (not_left u n) past last.ahead,
      )
