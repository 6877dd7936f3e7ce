use Rattle.std.proofs.Common.{◌≡◌, map, vec_capacity}
use Rattle.geo_session.proofs.span.put_back.Given as goal
use Rattle.geo_session.specs.Span.{AreTurned}

abbrev pub invariant-loop-c : goal.invariant-loop-c
invariant-loop-c l = record {
  turned : AreTurned l.m l.r l.c (map (λ chain. chain.items) l.fn.chains.items) (map (λ chain. chain.items) l.chains.items);
  same_room : vec_capacity l.chains ≡ vec_capacity l.fn.chains;
}
