use Rattle.std.proofs.Common.{◌≡◌, ◌+◌, ◌-◌, ◌*◌, ◌≤◌, length, take, vec_capacity}
use Rattle.funnel_walk.proofs.funnel.Funnel.go_on.Given as goal
use Rattle.funnel_walk.specs.Walked.{IsWalkedTo}

abbrev pub invariant-loop-self : goal.invariant-loop-self
invariant-loop-self g l = record {
  walked : IsWalkedTo (g.T.Turns.corners l.board) (g.T.Turns.start l.board) (g.T.Turns.goal l.board) l.sleeve l.out.items l.self;
  forward : l.fn.self.at ≤ l.self.at;
  within : l.self.at ≤ l.to;
  same_given : l.self.given ≡ l.fn.self.given;
  before : take l.fn.self.given l.out.items ≡ take l.fn.self.given l.fn.out.items;
  given : l.fn.self.given ≤ length l.out.items;
  few : length l.out.items + length l.self.names.items + l.fn.self.at ≤ length l.fn.out.items + length l.fn.self.names.items + l.self.at;
  same_room : l.self.names.capacity ≡ l.fn.self.names.capacity;
  same_out : vec_capacity l.out ≡ vec_capacity l.fn.out;
  steps : l.steps + length l.self.names.items + 2 * l.fn.self.at ≤ l.fn.steps + length l.fn.self.names.items + 2 * l.self.at;
}

abbrev pub decreases-loop-self : goal.decreases-loop-self
decreases-loop-self g l = l.to - l.self.at
