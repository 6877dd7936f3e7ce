-- What a call gives back for a question in whole numbers. This project's own.
use Rattle.std.specs.Prelude.{◌≡◌, ℕ, List, [], ◌∷◌, Result, Ok, Err, Vec}
use Rattle.std.specs.declared.alloc.Global.{Global}
use Rattle.plane.specs.Point.{Point}
use Rattle.geo_text.specs.declared.command.Bad.{Bad}
use Rattle.geo_text.specs.declared.command.Command.TheVariants as command
use Rattle.inside_test.specs.declared.position.Position.{Position}
use Rattle.geo_reply.specs.declared.reply.Reply.TheVariants as reply
use Rattle.geo_session.specs.Path.{path_of}
use Rattle.geo_session.specs.Reply.{IsFound}
use Rattle.geo_script.specs.Asked.{IsAskedWithin}
use Rattle.geo_script.specs.Dialog.{Talk}
use Rattle.geo_c.specs.Filled.{IsFilledBy}
use Rattle.geo_c.specs.Status.{place_of, status_of}
use Rattle.geo_c.specs.declared.status.TheConstants.{OK}

-- an answer of which this holds is given back like that
pub record TellsResult {T : Type 0} (Holds : Result T Bad → Type 0) (IsGiven : Result T Bad → Type 0) : Type 0 where
  pub found : Result T Bad
  pub holds : Holds found
  pub given : IsGiven found

-- the number of a place, or the status of a refusal, which leaves the number as it was
abbrev pub IsPlaceGiven : ℕ → ℕ → ℕ → Result Position Bad → Type 0
IsPlaceGiven status before after (Ok position) = (status ≡ OK) × (after ≡ place_of position)
IsPlaceGiven status before after (Err bad) = (status ≡ status_of bad) × (after ≡ before)

-- the points fill a buffer, or there is the status of a refusal, which leaves the buffer and the count as they were
abbrev pub ArePointsGiven : ℕ → ℕ → ℕ → List Point → List Point → Result (Vec Point Global) Bad → Type 0
ArePointsGiven status needed needed' before after (Ok points) = (status ≡ OK) × IsFilledBy points.items needed' before after
ArePointsGiven status needed needed' before after (Err bad) = (status ≡ status_of bad) × (needed' ≡ needed) × (after ≡ before)

-- where a point lies in the polygon of a talk is given back like that
abbrev pub TellsPlace : Talk → Point → (Result Position Bad → Type 0) → Type 0
TellsPlace talk p IsGiven = TellsResult (IsAskedWithin talk.state.version (p.x ∷ p.y ∷ []) (IsFound talk.state (command.Inside p) reply.Place)) IsGiven

-- so is the path from one point to another
abbrev pub TellsPathResult : Talk → Point → Point → (Result (Vec Point Global) Bad → Type 0) → Type 0
TellsPathResult talk s t IsGiven = TellsResult (IsAskedWithin talk.state.version (s.x ∷ s.y ∷ t.x ∷ t.y ∷ []) (IsFound talk.state (command.Path s t) path_of)) IsGiven

-- and the path from the source of the tree to a point
abbrev pub TellsReach : Talk → Point → (Result (Vec Point Global) Bad → Type 0) → Type 0
TellsReach talk t IsGiven = TellsResult (IsAskedWithin talk.state.version (t.x ∷ t.y ∷ []) (IsFound talk.state (command.Reach t) path_of)) IsGiven
