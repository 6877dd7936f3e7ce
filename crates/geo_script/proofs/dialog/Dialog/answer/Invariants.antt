use Rattle.std.proofs.Common.{length}
use Rattle.geo_script.proofs.dialog.Dialog.answer.Given as goal
use Rattle.geo_script.specs.Progress.{PieceSoFar}

abbrev pub invariant-records : goal.invariant-records
invariant-records g l = PieceSoFar l.fn.self l.piece l.script l.self-inside.begun l.self-inside.known l.self-inside.session.state l.self-inside.text.items

abbrev pub decreases-records : goal.decreases-records
decreases-records g l = length l.script.left
