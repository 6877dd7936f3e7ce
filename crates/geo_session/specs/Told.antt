-- The two forms that most replies have: a value of which something holds, and that for points that all are in the polygon. This
-- project's own.
use Rattle.std.specs.Prelude.{◌≡◌, ℕ, ◌+◌, ◌<◌, List, length, Result, Ok, Err}
use Rattle.plane.specs.Point.{Point, whole}
use Rattle.rings.specs.Chain.{point_at}
use Rattle.rings.specs.Inside.{IsIn}
use Rattle.hulls.specs.Inner.{AreAllIn}
use Rattle.geo_text.specs.declared.command.Bad.{Bad}
use Rattle.geo_text.specs.declared.command.Bad.TheVariants as bad
use Rattle.geo_reply.specs.declared.reply.Reply.{Reply}
use Rattle.geo_reply.specs.declared.reply.Reply.TheVariants as reply

-- the reply is of this kind, with a value of which this holds
pub record Tells {V : Type 0} (kind : V → Reply) (Holds : V → Type 0) (answered : Reply) : Type 0 where
  pub value : V
  pub holds : Holds value
  pub told : answered ≡ kind value

-- point k is not in the polygon, and each point before it is
pub record IsFirstOutside (ring points : List Point) (k : ℕ) : Type 0 where
  pub in_list : k < length points
  pub outside : ¬ IsIn ring (whole (point_at points k))
  pub before : (j : ℕ) → j < k → IsIn ring (whole (point_at points j))

-- the refusal names the first of the points that is not in the polygon, by its number counted from 1
pub record NamesOutside (ring points : List Point) (fault : Bad) : Type 0 where
  pub k : ℕ
  pub first : IsFirstOutside ring points k
  pub named : fault ≡ bad.Outside (k + 1)

-- where not all of the points are in the polygon, the first that is not is refused, and else this holds of the reply
pub data RepliesWithin (ring points : List Point) (Holds : Reply → Type 0) (answered : Reply) : Type 0 where
  outside : (fault : Bad) → NamesOutside ring points fault → answered ≡ reply.Refused fault → RepliesWithin ring points Holds answered
  within : AreAllIn ring points → Holds answered → RepliesWithin ring points Holds answered

-- what a call gives back, a value or a refusal, as a reply
abbrev pub reply_of : {V : Type 0} → (V → Reply) → Result V Bad → Reply
reply_of kind (Ok value) = kind value
reply_of kind (Err fault) = reply.Refused fault
