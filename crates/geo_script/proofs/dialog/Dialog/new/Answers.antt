use Rattle.std.proofs.Common.{rules}
use Rattle.geo_script.proofs.Pieces.{talk_of_nothing}
use Rattle.geo_script.proofs.dialog.Dialog.new.Goals as goal

pub returns-clause-nothing : goal.returns-clause-nothing
returns-clause-nothing c = talk_of_nothing _ (search rules)
