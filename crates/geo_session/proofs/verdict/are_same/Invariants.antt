use Rattle.std.proofs.Common.{◌≡◌, ◌+◌, ◌≤◌, length, take}
use Rattle.geo_session.proofs.verdict.are_same.Given as goal

abbrev pub invariant-loop-k : goal.invariant-loop-k
invariant-loop-k g l = (take l.k l.points ≡ take l.k l.others) × (length l.points ≡ length l.others) × (l.steps ≤ l.fn.steps + l.k)
