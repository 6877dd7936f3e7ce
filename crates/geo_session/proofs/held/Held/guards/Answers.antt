use Rattle.std.proofs.Common.{refl}
use Rattle.geo_session.proofs.Guarded.{guard_ring}
use Rattle.geo_session.proofs.held.Held.guards.Goals as goal

pub returns-clause-guards : goal.returns-clause-guards
returns-clause-guards g c =
    rw (← c.self.view_is)
    (record {
      value = c.of.result;
      holds = rw c.of.ensures
          (guard_ring c.self.inside.ring c.len-is_counterclockwise.ensures.counterclockwise c.in_ok-tris.tris.items c.in_ok-tris.ensures.fits
          c.in_ok-tris.ensures.cut
          c.in_ok-numbers.numbers.items (rw c.deref.ensures.value at c.in_ok-numbers.ensures.guards) c.in_ok-numbers.ensures.few c.in_ok-numbers.ensures.seen);
      told = refl;
    })
