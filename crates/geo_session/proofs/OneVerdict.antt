-- There is one verdict on a list of points.
use Rattle.std.proofs.Common.{◌≡◌, inl, inr, refl, sym, subst, ap, ◌∙◌, ℕ, List, [], length, arith}
use Rattle.std.proofs.lemmas.Bool.{cases_order}
use Rattle.plane.specs.Point.{Point}
use Rattle.taut_check.specs.Found.{verdict_place}
use Rattle.taut_check.specs.Verdict.{HasNoTurn, IsFirstRule, IsLeastBroken, IsLeaving, IsNotReflex, IsRepeat, IsUnbroken, IsVerdict}
use Rattle.taut_check.specs.declared.verdict.Verdict.{Verdict}
use Rattle.taut_check.specs.declared.verdict.Verdict.TheVariants as verdict

module _ (ring points : List Point) where
  -- a verdict that names no place, for a list that breaks no rule, or one that names the least place and its first rule
  data IsOneOf (found : Verdict) : Type 0 where
    empty : points ≡ [] → found ≡ verdict.Empty → IsOneOf found
    taut : IsUnbroken ring points → found ≡ verdict.Taut → IsOneOf found
    broken : IsLeastBroken ring points (verdict_place found) → IsFirstRule ring points found → IsOneOf found

  one_of : (found : Verdict) → IsVerdict ring points found → IsOneOf found
  one_of verdict.Empty h = empty h refl
  one_of verdict.Taut h = taut h refl
  one_of (verdict.Repeat k) h = broken h.0 h.1
  one_of (verdict.Leaves k) h = broken h.0 h.1
  one_of (verdict.NotReflex k) h = broken h.0 h.1
  one_of (verdict.Straight k) h = broken h.0 h.1
  one_of (verdict.WrongSide k) h = broken h.0 h.1

  -- there is one least place,
  one_place : (k l : ℕ) → IsLeastBroken ring points k → IsLeastBroken ring points l → k ≡ l
  one_place k l h g = elim (cases_order k l) [
    | inl same ↦ same
    | inr (inl less) ↦ absurd (g.least k less h.broken)
    | inr (inr more) ↦ absurd (h.least l more g.broken)
  ]

  -- and one first rule at a place: each rule comes first only where those before it are kept
  one_rule : (one other : Verdict) → verdict_place one ≡ verdict_place other → IsFirstRule ring points one → IsFirstRule ring points other → one ≡ other
  one_rule verdict.Empty other e h g = absurd h
  one_rule verdict.Taut other e h g = absurd h
  one_rule one verdict.Empty e h g = absurd g
  one_rule one verdict.Taut e h g = absurd g
  one_rule (verdict.Repeat k) (verdict.Repeat l) e h g = ap verdict.Repeat e
  one_rule (verdict.Repeat k) (verdict.Leaves l) e h g = absurd (g.0 (subst (IsRepeat points) e h))
  one_rule (verdict.Repeat k) (verdict.NotReflex l) e h g = absurd (g.0 (subst (IsRepeat points) e h))
  one_rule (verdict.Repeat k) (verdict.Straight l) e h g = absurd (g.0 (subst (IsRepeat points) e h))
  one_rule (verdict.Repeat k) (verdict.WrongSide l) e h g = absurd (g.0 (subst (IsRepeat points) e h))
  one_rule (verdict.Leaves k) (verdict.Repeat l) e h g = absurd (h.0 (subst (IsRepeat points) (sym e) g))
  one_rule (verdict.Leaves k) (verdict.Leaves l) e h g = ap verdict.Leaves e
  one_rule (verdict.Leaves k) (verdict.NotReflex l) e h g = absurd (g.1 (subst (IsLeaving ring points) e h.1))
  one_rule (verdict.Leaves k) (verdict.Straight l) e h g = absurd (g.1 (subst (IsLeaving ring points) e h.1))
  one_rule (verdict.Leaves k) (verdict.WrongSide l) e h g = absurd (g.1 (subst (IsLeaving ring points) e h.1))
  one_rule (verdict.NotReflex k) (verdict.Repeat l) e h g = absurd (h.0 (subst (IsRepeat points) (sym e) g))
  one_rule (verdict.NotReflex k) (verdict.Leaves l) e h g = absurd (h.1 (subst (IsLeaving ring points) (sym e) g.1))
  one_rule (verdict.NotReflex k) (verdict.NotReflex l) e h g = ap verdict.NotReflex e
  one_rule (verdict.NotReflex k) (verdict.Straight l) e h g = absurd (g.2 (subst (IsNotReflex ring points) e h.2))
  one_rule (verdict.NotReflex k) (verdict.WrongSide l) e h g = absurd (g.2 (subst (IsNotReflex ring points) e h.2))
  one_rule (verdict.Straight k) (verdict.Repeat l) e h g = absurd (h.0 (subst (IsRepeat points) (sym e) g))
  one_rule (verdict.Straight k) (verdict.Leaves l) e h g = absurd (h.1 (subst (IsLeaving ring points) (sym e) g.1))
  one_rule (verdict.Straight k) (verdict.NotReflex l) e h g = absurd (h.2 (subst (IsNotReflex ring points) (sym e) g.2))
  one_rule (verdict.Straight k) (verdict.Straight l) e h g = ap verdict.Straight e
  one_rule (verdict.Straight k) (verdict.WrongSide l) e h g = absurd (g.3 (subst (HasNoTurn points) e h.3))
  one_rule (verdict.WrongSide k) (verdict.Repeat l) e h g = absurd (h.0 (subst (IsRepeat points) (sym e) g))
  one_rule (verdict.WrongSide k) (verdict.Leaves l) e h g = absurd (h.1 (subst (IsLeaving ring points) (sym e) g.1))
  one_rule (verdict.WrongSide k) (verdict.NotReflex l) e h g = absurd (h.2 (subst (IsNotReflex ring points) (sym e) g.2))
  one_rule (verdict.WrongSide k) (verdict.Straight l) e h g = absurd (h.3 (subst (HasNoTurn points) (sym e) g.3))
  one_rule (verdict.WrongSide k) (verdict.WrongSide l) e h g = ap verdict.WrongSide e

  -- a list without a point breaks no rule, and none of its places is the least
  not_empty_broken : (found : Verdict) → points ≡ [] → ¬ IsLeastBroken ring points (verdict_place found)
  not_empty_broken found none h = omega (arith, h.in_list, ap length none)

  -- so two verdicts on a list are one
  pub one_verdict : (one other : Verdict) → IsVerdict ring points one → IsVerdict ring points other → one ≡ other
  one_verdict one other h g = elim (one_of one h) [
    | empty none e ↦ elim (one_of other g) [
      | empty _ f ↦ e ∙ sym f
      | taut unbroken f ↦ absurd (omega (arith, unbroken.some, ap length none))
      | broken least first ↦ absurd (not_empty_broken other none least)
    ]
    | taut unbroken e ↦ elim (one_of other g) [
      | empty none f ↦ absurd (omega (arith, unbroken.some, ap length none))
      | taut _ f ↦ e ∙ sym f
      | broken least first ↦ absurd (unbroken.none (verdict_place other) least.in_list least.broken)
    ]
    | broken least first ↦ elim (one_of other g) [
      | empty none f ↦ absurd (not_empty_broken one none least)
      | taut unbroken f ↦ absurd (unbroken.none (verdict_place one) least.in_list least.broken)
      | broken least_too first_too ↦ one_rule one other (one_place (verdict_place one) (verdict_place other) least least_too) first first_too
    ]
  ]
