use Rattle.exact_plane.proofs.Overlaps.{overlap_of_meeting}
use Rattle.edge_index.proofs.SlabSides.{ends_beyond, no_meet_beyond}
use Rattle.edge_index.specs.Probes.{at}
use Rattle.edge_index.proofs.cover.Cover.is_apart.Goals.{else-not-overlaps, then-not-overlaps}
use Rattle.edge_index.proofs.cover.Cover.is_apart.Goals as goal

pub returns-then-misses : goal.returns-then-misses
returns-then-misses c = λ h p q is a b in_a in_b meet.
    let edge = c.args.edge.now in
    let cover = c.args.self.now in
    elim c.if-not-overlaps.branch [
      | then-not-overlaps w ↦
          let overlap = overlap_of_meeting edge.bounds cover.bounds p q a b is.from_in_box is.to_in_box in_a.in_box in_b.in_box meet in
          absurd (cc (c.overlaps.ensures.1 overlap, w.if-not-overlaps.true))
      | else-not-overlaps w ↦
          let beyond = w.misses.ensures (rw w.value-is at c.if-misses.true) in
          no_meet_beyond cover.slab p q a b (ends_beyond cover.slab (at edge.from) (at edge.to) p q is.from is.to beyond) in_a.in_slab in_b.in_slab meet
    ]
