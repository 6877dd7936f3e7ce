-- The bounds on steps: of replies, and of their lines.
use Rattle.std.proofs.Common.{◌≡◌, ◌∙◌, inl, inr, refl, ap, subst, true, false, ℕ, ℤ, suc, ◌+◌, ◌-◌, ◌*◌, ◌^◌, ◌<◌, ◌≤◌, List, [], ◌∷◌, ◌++◌, length, Result, arith}
use Rattle.std.proofs.Math.Nat.{pow-suc}
use Rattle.std.specs.Prelude.{OnErr, OnOk, Option, Some, None}
use Rattle.std.proofs.lemmas.Result.{on_err_weaker, on_ok_weaker}
use Rattle.plane.specs.Point.{Point}
use Rattle.ring_check.proofs.Oriented.{length-oriented}
use Rattle.ring_check.specs.Oriented.{Oriented, oriented}
use Rattle.shared_seq.proofs.Digits.{binary_digits_enough}
use Rattle.shared_seq.specs.Digits.{binary_digits}
use Rattle.geo_text.specs.Version.{by_version}
use Rattle.geo_text.specs.declared.command.Bad.{Bad}
use Rattle.geo_text.specs.declared.command.Bad.TheVariants as bad
use Rattle.geo_text.specs.declared.command.Command.{Command}
use Rattle.geo_text.specs.declared.command.Command.TheVariants as command
use Rattle.geo_text.specs.declared.version.Version.{Version}
use Rattle.geo_text.specs.declared.version.Version.TheVariants as version
use Rattle.geo_reply.proofs.Fronts.{err_since, no_more, ok_since}
use Rattle.geo_reply.specs.ReplyText.{reply_text}
use Rattle.geo_reply.specs.Written.{WritesSteps, refused_steps}
use Rattle.geo_reply.specs.declared.reply.Reply.{Reply}
use Rattle.geo_reply.specs.declared.reply.Reply.TheVariants as reply
use Rattle.geo_session.proofs.GivenSize.{size_held}
use Rattle.geo_session.proofs.OneReply.{quiet_sights, quiet_tree, same_written}
use Rattle.geo_session.specs.Asking.{seen_of}
use Rattle.geo_session.specs.Held.{HeldRing, kept_of}
use Rattle.geo_session.specs.Paced.{IsPaced, TakesPathStepsOrNone, TakesSteps, TakesWritingSteps, kernel_steps, mesh_steps, most_steps, polygon_steps}
use Rattle.geo_session.specs.Pairs.{IsPairReply, first_off, joined, second_off, too_many}
use Rattle.geo_session.specs.Path.{IsReachReply, TellsPath}
use Rattle.geo_session.specs.Prepared.{Seen}
use Rattle.geo_session.specs.Reply.{IsReply, IsReplyOf}
use Rattle.geo_session.specs.State.{Kept, size_of}
use Rattle.geo_session.specs.Told.{RepliesWithin, outside, within}

-- ---- replies

-- with a digit more there is room for four more,
digits_and_four : (n : ℕ) → 3 ≤ n → n + 4 < 2 ^ (binary_digits n + 1)
digits_and_four n some =
    let up : binary_digits n + 1 ≡ suc (binary_digits n) = omega arith in
    rw up (omega (arith, binary_digits_enough n, pow-suc 2 (binary_digits n), some))

-- and four steps more are within two for each of some
room_for_four : (n b : ℕ) → 3 ≤ n → n * (2 * (b + 1) + 143) + 4 ≤ n * (2 * b + 147)
room_for_four n b some = omega (arith, some)

-- some more a vertex are enough for a path from the source of the tree
reach_enough : (version : Version) (n told start done : ℕ) → done ≤ start + (by_version version 3 23 * n + told) → done ≤ start + (by_version version 3 26 * n + told)
reach_enough version.One n told start done few = few
reach_enough version.Two n told start done few = omega (arith, few)

-- no steps are few enough
pub unpaced : (seen : Seen) (asked : Command) (steps : ℕ) → IsPaced seen asked steps steps
unpaced seen asked steps = no_more steps _

module _ (version : Version) (held : HeldRing) (start done : ℕ) where
  -- a point is found, and a tree is grown there
  pub tree_found : (s : Point) → done ≤ start + 3 * (length held.ring.corners - 2) → IsPaced (seen_of version (Some held)) (command.Tree s) start done
  tree_found s few = rw (size_held held) (omega (arith, few))

  pub tree_paced : (s : Point) (found : ℕ) → found ≤ start + 3 * (length held.ring.corners - 2) → let n = length held.ring.corners in
      let b = binary_digits n in done ≤ found + 200 * n * (b * b) → IsPaced (seen_of version (Some held)) (command.Tree s) start done
  tree_paced s found few more = rw (size_held held) (omega (arith, few, more))

  -- the path from the source of the tree is told
  pub reach_paced : (t : Point) → let n = length held.ring.corners in let b = binary_digits n in
      done ≤ start + (by_version version 3 23 * n + 24 * (b * b)) → IsPaced (seen_of version (Some held)) (command.Reach t) start done
  reach_paced t few = rw (size_held held) (reach_enough version _ _ start done few)

  -- where the table is there, telling the path takes few steps,
  pub pair_paced : (i j : ℤ) → held.prepared ≡ true → done ≤ start + by_version version 0 20 * length held.ring.corners
      → IsPaced (seen_of version (Some held)) (command.Pair i j) start done
  pair_paced i j there few = rw (there, size_held held) (omega (arith, few))

  -- and else those of making it more
  pub new_pair_paced : (i j : ℤ) (made : ℕ) → held.prepared ≡ false → let n = length held.ring.corners in let b = binary_digits n in
      made ≤ start + 200 * (n * n) * (b * b) → done ≤ made + by_version version 0 20 * n → IsPaced (seen_of version (Some held)) (command.Pair i j) start done
  new_pair_paced i j made none making few = rw (none, size_held held) (omega (arith, making, few))

-- so many steps are enough in the polygon that is held
pub held_paced : (version : Version) (held : HeldRing) (asked : Command) (start done : ℕ) (cost : ℕ → ℕ)
    → most_steps (seen_of version (Some held)) asked ≡ cost (size_of (kept_of (Some held))) → done ≤ start + cost (length held.ring.corners)
    → IsPaced (seen_of version (Some held)) asked start done
held_paced version held asked start done cost is few = let same = ap cost (size_held held) in omega (arith, is, same, few)

-- a list of points is tested
pub polygon_tested : (k start tested : ℕ) → ((d : ℕ) → k < 2 ^ d → tested ≤ start + (214 * (k * k) + 1400 * (k * (d + 4)))) → tested ≤ start + polygon_steps k
polygon_tested k start tested few = omega (arith, few (binary_digits k) (binary_digits_enough k))

-- and triangulated, where it is a polygon
pub polygon_made : (points : List Point) (ring : Oriented) (start tested done : ℕ) → let k = length points in
    ((d : ℕ) → k < 2 ^ d → tested ≤ start + (214 * (k * k) + 1400 * (k * (d + 4)))) → ring ≡ oriented points
    → done ≤ tested + mesh_steps (length ring.corners) → done ≤ start + polygon_steps k
polygon_made points ring start tested done few is made =
    let k = length points in
    let count = ap (λ (r : Oriented). mesh_steps (length r.corners)) is ∙ ap mesh_steps (length-oriented points) in
    omega (arith, few (binary_digits k) (binary_digits_enough k), count, made)

-- a kernel is found with a digit more than those of the number of vertices
pub kernel_found : (n start done : ℕ) → 3 ≤ n → ((d : ℕ) → n + 4 < 2 ^ d → done ≤ start + n * (2 * d + 143) + 4) → done ≤ start + kernel_steps n
kernel_found n start done some few =
    let b = binary_digits n in
    let more = few (b + 1) (digits_and_four n some) in
    let cost : n * (2 * (b + 1) + 143) + 4 ≤ n * (2 * b + 147) = room_for_four n b some in
    omega (arith, more, cost)

-- ---- lines

-- a reply of some commands is a path or a refusal
data IsPathOrRefused (answered : Reply) : Type 0 where
  path : (points : List Point) → answered ≡ reply.Path points → IsPathOrRefused answered
  refusal : (fault : Bad) → answered ≡ reply.Refused fault → IsPathOrRefused answered

told_path : (version : Version) (ring : List Point) (s t : Point) (answered : Reply) → TellsPath version ring s t answered → IsPathOrRefused answered
told_path version ring s t answered h = path h.value h.told

within_path : (version : Version) (ring points : List Point) (s t : Point) (answered : Reply) → RepliesWithin ring points (TellsPath version ring s t) answered
    → IsPathOrRefused answered
within_path version ring points s t answered (outside fault h e) = refusal fault e
within_path version ring points s t answered (within all h) = told_path version ring s t answered h

reached_path : (version : Version) (ring : List Point) (source : Option Point) (t : Point) (answered : Reply) → IsReachReply version ring source t answered
    → IsPathOrRefused answered
reached_path version ring None t answered e = refusal bad.NoTree e
reached_path version ring (Some s) t answered h = within_path version ring (t ∷ []) s t answered h

paired_path : (version : Version) (ring : List Point) (i j : ℤ) (answered : Reply) → IsPairReply version ring i j answered → IsPathOrRefused answered
paired_path version ring i j answered (too_many _ e) = refusal bad.Large e
paired_path version ring i j answered (first_off _ _ e) = refusal (bad.Index 1) e
paired_path version ring i j answered (second_off _ _ _ e) = refusal (bad.Index 2) e
paired_path version ring i j answered (joined _ k l _ _ h) = told_path version ring _ _ answered h

path_of_kept : (version : Version) (kept : Option Kept) (s t : Point) (answered : Reply) → IsReplyOf version kept (command.Path s t) answered → IsPathOrRefused answered
path_of_kept version None s t answered e = refusal bad.NoPolygon e
path_of_kept version (Some kept) s t answered h = within_path version kept.ring (s ∷ t ∷ []) s t answered h

reach_of_kept : (version : Version) (kept : Option Kept) (t : Point) (answered : Reply) → IsReplyOf version kept (command.Reach t) answered → IsPathOrRefused answered
reach_of_kept version None t answered e = refusal bad.NoPolygon e
reach_of_kept version (Some kept) t answered h = reached_path version kept.ring kept.source t answered h

pair_of_kept : (version : Version) (kept : Option Kept) (i j : ℤ) (answered : Reply) → IsReplyOf version kept (command.Pair i j) answered → IsPathOrRefused answered
pair_of_kept version None i j answered e = refusal bad.NoPolygon e
pair_of_kept version (Some kept) i j answered h = paired_path version kept.ring i j answered h

-- the lines of a path or a refusal take few steps, by what was appended, and none where memory is refused
module _ {E : Type 0} (most : ℕ) (put : Result (Unit {0}) E) (out out' : List ℕ) (steps told done : ℕ) (few : told ≤ steps + most) where
  takes_either : (answered : Reply) → IsPathOrRefused answered → WritesSteps answered told done → OnOk put (out' ≡ out ++ reply_text answered)
      → OnErr put (done ≤ told + refused_steps answered) → TakesPathStepsOrNone most put out out' steps done
  takes_either answered (path points is) more written refused =
      let wrote : done ≤ told + 64 * length points = subst (λ (r : Reply). WritesSteps r told done) is more in (
        on_ok_weaker put (λ line. record { points = points; printed = inl (line ∙ ap (λ (r : Reply). out ++ reply_text r) is); bound = omega (arith, few, wrote) }) written,
        on_err_weaker put (λ none. let same : done ≤ told + 0 = subst (λ (r : Reply). done ≤ told + refused_steps r) is none in omega (arith, few, same)) refused,
      )
  takes_either answered (refusal fault is) more written refused =
      let wrote : done ≤ told + 0 = subst (λ (r : Reply). WritesSteps r told done) is more in (
        ok_since put (record { points = []; printed = inr refl; bound = omega (arith, few, wrote) }),
        err_since put (omega (arith, few, wrote)),
      )

  -- and where no reply was found they take none
  pub takes_none : done ≡ told → (put_fails : OnOk put ⊥) → TakesPathStepsOrNone most put out out' steps done
  takes_none same fails = (on_ok_weaker put (λ none. absurd none) fails, err_since put (omega (arith, few, same)))

-- the lines of a reply are added to it, also where want of memory cuts them off
module _ (seen : Seen) (asked : Command) (steps told done : ℕ) (paced : IsPaced seen asked steps told) where
  pub takes_lines : (answered : Reply) → IsReply seen.state asked answered → WritesSteps answered told done → TakesSteps seen asked steps done
  takes_lines answered h more = λ other g. let same = same_written seen.state asked answered other h g in omega (arith, paced, more, same)

  pub takes_no_lines : done ≡ told → TakesSteps seen asked steps done
  takes_no_lines same = λ other h. omega (arith, paced, same)

module _ {E : Type 0} (seen : Seen) (put : Result (Unit {0}) E) (out out' : List ℕ) (steps told done : ℕ) where
  -- so a command is paced with its lines,
  pub written_paced : (asked : Command) (answered : Reply) → IsReply seen.state asked answered → IsPaced seen asked steps told
      → WritesSteps answered told done → OnOk put (out' ≡ out ++ reply_text answered) → OnErr put (done ≤ told + refused_steps answered)
      → TakesWritingSteps seen asked put out out' steps done
  written_paced (command.Path s t) answered h paced more written refused =
      takes_either _ put out out' steps told done paced answered (path_of_kept seen.state.version seen.state.kept s t answered h) more written refused
  written_paced (command.Tree s) answered h paced more written refused =
      let none = quiet_tree seen.state.version seen.state.kept s answered h in omega (arith, paced, more, none)
  written_paced (command.Reach t) answered h paced more written refused =
      takes_either _ put out out' steps told done paced answered (reach_of_kept seen.state.version seen.state.kept t answered h) more written refused
  written_paced (command.Pair i j) answered h paced more written refused =
      takes_either _ put out out' steps told done paced answered (pair_of_kept seen.state.version seen.state.kept i j answered h) more written refused
  written_paced command.Sights answered h paced more written refused =
      let none = quiet_sights seen.state.version seen.state.kept answered h in omega (arith, paced, more, none)
  written_paced _ answered h paced more written refused = tt

  -- also where no reply was found
  pub unwritten_paced : (asked : Command) → IsPaced seen asked steps told → done ≡ told → OnOk put ⊥ → TakesWritingSteps seen asked put out out' steps done
  unwritten_paced (command.Path s t) paced same fails = takes_none _ put out out' steps told done paced same fails
  unwritten_paced (command.Tree s) paced same fails = omega (arith, paced, same)
  unwritten_paced (command.Reach t) paced same fails = takes_none _ put out out' steps told done paced same fails
  unwritten_paced (command.Pair i j) paced same fails = takes_none _ put out out' steps told done paced same fails
  unwritten_paced command.Sights paced same fails = omega (arith, paced, same)
  unwritten_paced _ paced same fails = tt
