-- The comb as a session takes it.
use Rattle.std.proofs.Common.{◌≡◌, ◌∙◌, inl, inr, ap, refl, subst, sym, ℕ, ◌<◌, List, [], ◌∷◌, Result, Ok, Err, Vec, Global, arith}
use Rattle.std.proofs.lemmas.Bool.{cases_lt}
use Rattle.std.specs.Prelude.{IsOk, None, Some}
use Rattle.plane.specs.Point.{Point, whole}
use Rattle.rings.proofs.Simple.{no_least_clash}
use Rattle.rings.specs.Chain.{IsPath, point_at}
use Rattle.rings.specs.Inside.{IsIn}
use Rattle.rings.specs.Simple.{IsSimple}
use Rattle.geo_text.specs.declared.command.Bad.{Bad}
use Rattle.geo_text.specs.declared.command.Command.TheVariants as command
use Rattle.geo_text.specs.declared.version.Version.TheVariants as version
use Rattle.geo_reply.specs.declared.reply.Reply.TheVariants as reply
use Rattle.geo_session.specs.Answer.{AppendsAnswer}
use Rattle.geo_session.specs.Path.{IsPathReply, path_of}
use Rattle.geo_session.specs.Polygon.{accepted, clashing}
use Rattle.geo_session.specs.Reply.{IsFound, state_after}
use Rattle.geo_session.specs.State.{State}
use Rattle.geo_session.specs.Told.{outside, within}

-- a simple polygon is held once it is answered
pub held_once_answered : (ring : List Point) (before after : State) (out out' : List ℕ) → IsSimple ring → AppendsAnswer before (command.Polygon ring) out out' after
    → after.kept ≡ Some (record { ring = ring; source = None })
held_once_answered ring before after out out' simple told = elim told.answer.is_reply [
  | accepted _ e ↦ ap (λ (s : State). s.kept) (told.answer.left ∙ ap (state_after before (command.Polygon ring)) e)
  | clashing i j least e ↦ absurd (no_least_clash ring i j simple least)
]

-- between two points of the polygon that is held the path is answered, and none is refused
module _ (state : State) (ring : List Point) (s t s' t' : Point) (found : Result (Vec Point Global) Bad)
    (answer : IsFound (record { version = version.One; kept = state.kept }) (command.Path s' t') path_of found)
    (held : state.kept ≡ Some (record { ring = ring; source = None })) (from : s' ≡ s) (to : t' ≡ t) where
  pub answers_path : (points : Vec Point Global) → found ≡ Ok points → IsPath ring s t points.items
  answers_path points is = by_reply (rw (held, from, to, is) at answer)
    where
      by_reply : IsPathReply version.One ring s t (reply.Path points.items) → IsPath ring s t points.items
      by_reply (outside fault h e) = absurd cc
      by_reply (within all h) =
          let same : points.items ≡ h.value = cc in
          subst (IsPath ring s t) (sym (same ∙ h.holds.is_shown)) h.holds.is_path

  never_refuses : (fault : Bad) → IsIn ring (whole s) → IsIn ring (whole t) → ¬ (found ≡ Err fault)
  never_refuses fault start goal is = by_reply (rw (held, from, to, is) at answer)
    where
      both : (k : ℕ) → k < 2 → IsIn ring (whole (point_at (s ∷ t ∷ []) k))
      both k below = elim (cases_lt k 1) [
        | inl less ↦ let first : k ≡ 0 = omega (arith, less) in rw first start
        | inr more ↦ let last : k ≡ 1 = omega (arith, more, below) in rw last goal
      ]

      by_reply : IsPathReply version.One ring s t (reply.Refused fault) → ⊥
      by_reply (outside name h e) = h.first.outside (both h.k h.first.in_list)
      by_reply (within all h) = absurd cc

  pub is_answered : IsIn ring (whole s) → IsIn ring (whole t) → IsOk found
  is_answered start goal = by_found found refl
    where
      by_found : (it : Result (Vec Point Global) Bad) → found ≡ it → IsOk it
      by_found (Ok points) is = refl
      by_found (Err fault) is = absurd (never_refuses fault start goal is)
