use Rattle.std.proofs.Common.{◌≡◌, ◌∙◌, ◌<◌, ℕ, Option, ap, refl, subst, sym, arith, length}
use Rattle.plane.specs.Point.{Point}
use Rattle.geo_c.specs.Held.{talk_of}
use Rattle.geo_c.specs.Many.{ArePathsTold, Buffers, IsPathFound, asked_pairs}
use Rattle.geo_c.specs.Room.{IsPathPut}
use Rattle.geo_c.specs.Told.{TellsResult}
use Rattle.geo_c.specs.declared.status.TheConstants.{MEMORY, OK}
use Rattle.geo_c.proofs.Pairs.{asked_at, asked_fits, length_asked}
use Rattle.geo_c.proofs.Paths.{all_paths, no_paths, no_room, one_path, rest_of, some_told, still_told, with_rest}
use Rattle.geo_c.proofs.many.tell_paths.Goals as goal

pub pairs-init : goal.pairs-init
pairs-init g c =
    let before : Buffers = record { points = c.args.points.now; statuses = c.args.statuses.now; lengths = c.args.lengths.now } in
    record { same = refl; counted = refl; told = no_paths (talk_of c.args.session.now.held) (asked_pairs c.args.ends.now before) before }

pub pairs-preserved : goal.pairs-preserved
pairs-preserved g c =
    let before : Buffers = record { points = c.args.points.now; statuses = c.args.statuses.now; lengths = c.args.lengths.now } in
    let now : Buffers = record { points = c.pairs.points; statuses = c.pairs.statuses; lengths = c.pairs.lengths } in
    let ends = c.args.ends.now in
    let asked = asked_pairs ends before in
    let k = c.pairs.k in
    let s : Point = c.index-ends-k.result in
    let t : Point = c.index-ends-k-in-pairs.result in
    let there : k < length asked = omega (arith, c.pairs-test.true, length_asked ends before c.min.result c.min-k-end.result c.min.ensures c.min-k-end.ensures) in
    let (fits, fits') = asked_fits ends before k there in
    let is = asked_at ends before k s t there c.index-ends-k.is c.index-ends-k-in-pairs.is in
    let talk = talk_of c.args.session.now.held in
    let talk' = talk_of c.pairs.session.held in
    let told = subst (λ (o : Option (ℕ × ℕ)). TellsResult (IsPathFound talk' (s, t)) (IsPathPut o (rest_of c.pairs.used c.pairs.points) c.tell_path.new.points))
    c.in-Ok-Some.field-0-is c.in-Ok-Some.ensures.path in
    record {
      same = c.tell_path.ensures.same ∙ c.pairs.invariant.same;
      counted = refl;
      told = one_path talk talk' asked before now k c.pairs.used (s, t) (c.in-Ok-Some.status, c.in-Ok-Some.length) c.tell_path.new.points fits fits' there is
          (ap talk_of c.pairs.invariant.same) c.pairs.invariant.told told;
    }

pub returns-in-Ok-None-clause-paths : goal.returns-in-Ok-None-clause-paths
returns-in-Ok-None-clause-paths g c =
    let before : Buffers = record { points = c.args.points.now; statuses = c.args.statuses.now; lengths = c.args.lengths.now } in
    let now : Buffers = record { points = c.pairs.points; statuses = c.pairs.statuses; lengths = c.pairs.lengths } in
    let after : Buffers = record now { points = with_rest c.pairs.used c.pairs.points c.tell_path.new.points } in
    let ends = c.args.ends.now in
    let asked = asked_pairs ends before in
    let k = c.pairs.k in
    let s : Point = c.index-ends-k.result in
    let t : Point = c.index-ends-k-in-pairs.result in
    let there : k < length asked = omega (arith, c.pairs-test.true, length_asked ends before c.min.result c.min-k-end.result c.min.ensures c.min-k-end.ensures) in
    let is = asked_at ends before k s t there c.index-ends-k.is c.index-ends-k-in-pairs.is in
    let talk = talk_of c.args.session.now.held in
    let talk' = talk_of c.pairs.session.held in
    let told = subst (λ (o : Option (ℕ × ℕ)). TellsResult (IsPathFound talk' (s, t)) (IsPathPut o (rest_of c.pairs.used c.pairs.points) c.tell_path.new.points))
    c.in-Ok-None.field-0-is c.in-Ok-None.ensures.path in
    subst (λ (d : ℕ). ArePathsTold talk asked OK d before after) (sym c.pairs.invariant.counted)
    (no_room talk talk' asked before now k c.pairs.used (s, t) c.tell_path.new.points there is (ap talk_of c.pairs.invariant.same) c.pairs.invariant.told told)

pub returns-in-Ok-None-clause-progress : goal.returns-in-Ok-None-clause-progress
returns-in-Ok-None-clause-progress g c ok room some =
    let before : Buffers = record { points = c.args.points.now; statuses = c.args.statuses.now; lengths = c.args.lengths.now } in
    let now : Buffers = record { points = c.pairs.points; statuses = c.pairs.statuses; lengths = c.pairs.lengths } in
    let told = some_told (talk_of c.args.session.now.held) (asked_pairs c.args.ends.now before) before now c.pairs.k c.pairs.used _ c.pairs.invariant.told
    (c.in-Ok-None.ensures.few c.in-Ok-None.field-0-is) room in
    subst (λ (d : ℕ). 0 < d) (sym c.pairs.invariant.counted) told

pub returns-in-Err-clause-paths : goal.returns-in-Err-clause-paths
returns-in-Err-clause-paths g c =
    let before : Buffers = record { points = c.args.points.now; statuses = c.args.statuses.now; lengths = c.args.lengths.now } in
    let now : Buffers = record { points = c.pairs.points; statuses = c.pairs.statuses; lengths = c.pairs.lengths } in
    let after : Buffers = record now { points = with_rest c.pairs.used c.pairs.points c.tell_path.new.points } in
    let asked = asked_pairs c.args.ends.now before in
    let talk = talk_of c.args.session.now.held in
    subst (λ (d : ℕ). ArePathsTold talk asked MEMORY d before after) (sym c.pairs.invariant.counted)
    (still_told talk asked before now c.pairs.k c.pairs.used c.tell_path.new.points c.pairs.invariant.told c.in-Err.ensures.memory)

pub returns-clause-paths : goal.returns-clause-paths
returns-clause-paths g c =
    let before : Buffers = record { points = c.args.points.now; statuses = c.args.statuses.now; lengths = c.args.lengths.now } in
    let now : Buffers = record { points = c.pairs.points; statuses = c.pairs.statuses; lengths = c.pairs.lengths } in
    let ends = c.args.ends.now in
    let asked = asked_pairs ends before in
    let talk = talk_of c.args.session.now.held in
    let many = length_asked ends before c.min.result c.min-k-end.result c.min.ensures c.min-k-end.ensures in
    let ended : c.pairs.k ≡ length asked = omega (arith, many, c.pairs.auto.k-end, c.pairs-test.false) in
    subst (λ (d : ℕ). ArePathsTold talk asked OK d before now) (sym c.pairs.invariant.counted)
    (all_paths talk asked before now c.pairs.k c.pairs.used ended c.pairs.invariant.told)
