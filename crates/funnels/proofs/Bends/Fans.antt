-- Fans: longer ones, what their steps keep, and that they turn.
-- A fan at a vertex of a ring: one begins within a step, and one more step makes it longer.
-- Directions of one closed half-plane turn by a half turn at most.
-- Parts of the steps of a fan: from a direction within a step to its end, and from its start to a direction within it.
use Rattle.std.proofs.Common.{subst, sym, List, [], ◌∷◌, ◌++◌, refl, ℤ, pos, ◌<ℤ◌, ◌≡◌, ◌+ℤ◌, ◌-ℤ◌, ◌*ℤ◌, ◌≤ℤ◌, arith, ◌⊎◌, inl, Bool}
use Rattle.std.proofs.lemmas.Int.{ints}
use Rattle.std.proofs.lemmas.List.Elements.{All-cons, All-nil, All-push}
use Rattle.integer_algebra.proofs.Laws.{mul_comm}
use Rattle.integer_algebra.proofs.SignSteps.{weak, not_both}
use Rattle.integer_algebra.proofs.Signs.{factor_positive, mul_nonpositive, mul_positive, is_negative, is_positive, is_zero, sign}
use Rattle.plane.proofs.Segments.{on_last_end}
use Rattle.plane.specs.Prelude.{IsSame, On, Point, Triple, whole}
use Rattle.funnels.proofs.Bends.FanSigns.{Relation, relation, right_of_third, all_in_line, keeps_left, turns_back}
use Rattle.funnels.proofs.Bends.SameRays.{level_is_vertex, ray_ahead, turning_differs}
use Rattle.funnels.proofs.Bends.Turnings.{turning_four}
use Rattle.funnels.specs.Fan.{IsFan, IsFanStep, IsTurning, IsLastStep, AllNotRight}
use Rattle.funnels.specs.Fanned.{IsFanned, IsNextTo, IsOpenToward, turning}

module _ {A : Type 0} (f : A → A → ℤ) where
  module _ (N : A → Type 0) where
    -- one more step makes a longer fan
    pub fan_more : (p r b : A) (ds : List A) → IsFan f N p ds r → IsFanStep f N r b → IsFan f N p (ds ++ b ∷ []) b
    fan_more p r b [] same step = (subst (λ z. IsFanStep f N z b) (sym same) step, refl)
    fan_more p r b (d ∷ ds) fan step = (fan.0, fan_more d r b ds fan.1 step)

    -- what each step keeps holds at the end, where it holds at the start
    pub along_fan : (P : A → Type 0) → ((a b : A) → IsFanStep f N a b → P a → P b) → (p r : A) (ds : List A) → IsFan f N p ds r → P p → P r
    along_fan P keeps p r [] same h = subst P same h
    along_fan P keeps p r (d ∷ ds) fan h = along_fan P keeps d r ds fan.1 (keeps p d fan.0 h)

    -- the steps of a fan, and one more to the left, turn
    pub turning_of_fan : (p r y : A) (ds : List A) → IsFan f N p ds r → pos 0 <ℤ f r y → IsTurning f p ds y
    turning_of_fan p r y [] same h = subst (λ z. pos 0 <ℤ f z y) (sym same) h
    turning_of_fan p r y (d ∷ ds) fan h = (fan.0.ahead, turning_of_fan d r y ds fan.1 h)

-- b not right of a, and c left of both: where d is left of b and not left of c, it is left of a
left_of_all : {ab ac ad bc bd cd : ℤ} → Relation ab ac ad bc bd cd → pos 0 ≤ℤ ab → pos 0 <ℤ ac → pos 0 <ℤ bc → pos 0 <ℤ bd → cd ≤ℤ pos 0
    → pos 0 <ℤ ad
left_of_all {ab} {ac} {ad} {bc} {bd} {cd} e hab hac hbc hbd hcd =
    let first = mul_nonpositive ab cd hab hcd in
    let middle = mul_positive ac bd hac hbd in
    factor_positive bc ad hbc (omega (arith, ints, e.holds, mul_comm ad bc))

module _ {A : Type 0} (f : A → A → ℤ)
    (four : (a b c d : A) → f a b *ℤ f c d -ℤ f a c *ℤ f b d +ℤ f a d *ℤ f b c ≡ pos 0) (N : A → Type 0) where
  -- from a direction within a step to its end there is a step
  pub step_from_within : (a c x : A) → IsFanStep f N a c → pos 0 ≤ℤ f a x → pos 0 <ℤ f x c → IsFanStep f N x c
  step_from_within a c x step low high = record {
    ahead = high;
    none = λ u n swept.
        step.none u n (left_of_all (relation f four a x c u) low step.ahead high swept.0 swept.1, swept.1);
  }

  -- from the start of a last step to a direction within it there is a last step
  pub last_step_to_within : (a c y : A) → IsLastStep f N a c → pos 0 <ℤ f a y → pos 0 ≤ℤ f y c → IsLastStep f N a y
  last_step_to_within a c y step low high = record {
    ahead = low;
    none = λ u n swept.
        step.none u n (swept.0, right_of_third (relation f four a y c u) (weak low) step.ahead (weak swept.0) high swept.1);
  }

module _ (side : Bool) (ring : List Point) (v : Point) (a c : Triple) (step : IsFanStep (turning side v) (IsNextTo ring v) a c)
    (open_c : IsOpenToward ring v c) where
  -- a fan to the start of the step goes on to its end
  pub fanned_more : (x : Triple) → IsFanned side ring v x a → IsFanned side ring v x c
  fanned_more x h = record {
    base = h.base;
    base_differs = h.base_differs;
    base_open = h.base_open;
    on_ray = h.on_ray;
    directions = h.directions ++ c ∷ [];
    fan = fan_more (turning side v) (IsNextTo ring v) h.base a c h.directions h.fan step;
    all_open = All-push (IsOpenToward ring v) h.directions c h.all_open open_c;
  }

  module _ (x : Triple) (open_x : IsOpenToward ring v x) (differs : ¬ IsSame x (whole v)) (low : pos 0 ≤ℤ turning side v a x) where
    -- from a direction strictly before the end there is one step,
    begins_before : pos 0 <ℤ turning side v x c → IsFanned side ring v x c
    begins_before high = record {
      base = x;
      base_differs = differs;
      base_open = open_x;
      on_ray = inl (on_last_end (whole v) x);
      directions = c ∷ [];
      fan = (step_from_within (turning side v) (turning_four side v) (IsNextTo ring v) a c x step low high, refl);
      all_open = All-cons (IsOpenToward ring v) c [] open_c (All-nil (IsOpenToward ring v));
    }

    -- from one on the ray to the end none;
    begins_at_end : On c (whole v) x ⊎ On x (whole v) c → IsFanned side ring v x c
    begins_at_end on = record {
      base = c;
      base_differs = turning_differs side v a c step.ahead;
      base_open = open_c;
      on_ray = on;
      directions = [];
      fan = refl;
      all_open = All-nil (IsOpenToward ring v);
    }

    -- so a fan begins within the step
    pub fanned_within : pos 0 ≤ℤ turning side v x c → IsFanned side ring v x c
    fanned_within high = elim (sign (turning side v x c)) [
      | is_negative h ↦ absurd (not_both h high)
      | is_positive h ↦ begins_before h
      | is_zero level ↦ elim (sign (turning side v a x)) [
        | is_negative h ↦ absurd (not_both h low)
        | is_zero h ↦ absurd (differs (level_is_vertex side v a c x step.ahead h level))
        | is_positive h ↦ begins_at_end (ray_ahead side v a x c open_x.0 open_c.0 level h step.ahead)
      ]
    ]

module _ {A : Type 0} (f : A → A → ℤ)
    (four : (a b c d : A) → f a b *ℤ f c d -ℤ f a c *ℤ f b d +ℤ f a d *ℤ f b c ≡ pos 0) (q z : A) (some : ¬ (f q z ≡ pos 0)) where
  -- from s a step to r, and from r one to b, all not right of q: then r is left of q,
  middle_is_left : (s r b : A) → pos 0 ≤ℤ f q s → pos 0 ≤ℤ f q r → pos 0 ≤ℤ f q b → pos 0 <ℤ f s r → pos 0 <ℤ f r b → pos 0 <ℤ f q r
  middle_is_left s r b at_s at_r at_b first second = elim (sign (f q r)) [
    | is_positive h ↦ h
    | is_negative h ↦ absurd (not_both h at_r)
    | is_zero h ↦
        let back = turns_back (relation f four q s r b) at_s h at_b first second in
        absurd (some (all_in_line (relation f four q z s r) back h first))
  ]

  -- so where r is not right of p, neither is b
  next_not_right : (p s r b : A) → pos 0 ≤ℤ f q p → pos 0 ≤ℤ f q s → pos 0 ≤ℤ f q r → pos 0 ≤ℤ f q b
      → pos 0 <ℤ f s r → pos 0 <ℤ f r b → pos 0 ≤ℤ f p r → pos 0 ≤ℤ f p b
  next_not_right p s r b at_p at_s at_r at_b first second h =
      keeps_left (relation f four q p r b) at_p (middle_is_left s r b at_s at_r at_b first second) at_b h second

  -- and neither is the end
  rest_not_right : (p s r y : A) (ds : List A) → pos 0 ≤ℤ f q p → pos 0 ≤ℤ f q s → pos 0 ≤ℤ f q r → pos 0 ≤ℤ f q y
      → pos 0 <ℤ f s r → pos 0 ≤ℤ f p r → IsTurning f r ds y → AllNotRight f q ds → pos 0 ≤ℤ f p y
  rest_not_right p s r y [] at_p at_s at_r at_y first h last all = next_not_right p s r y at_p at_s at_r at_y first last h
  rest_not_right p s r y (d ∷ ds) at_p at_s at_r at_y first h turning all =
      rest_not_right p r d y ds at_p at_r all.0 at_y turning.0
      (next_not_right p s r d at_p at_s at_r all.0 first turning.0 h) turning.1 all.1

  -- where steps to the left stay in a closed half-plane, the end is not right of the start
  pub fan_in_half_plane : (p y : A) (ds : List A) → IsTurning f p ds y → pos 0 ≤ℤ f q p → AllNotRight f q ds → pos 0 ≤ℤ f q y
      → pos 0 ≤ℤ f p y
  fan_in_half_plane p y [] last at_p all at_y = weak last
  fan_in_half_plane p y (d ∷ ds) turning at_p all at_y =
      rest_not_right p p d y ds at_p at_p all.0 at_y turning.0 (weak turning.0) turning.1 all.1
