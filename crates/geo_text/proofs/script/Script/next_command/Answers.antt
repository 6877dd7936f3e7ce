use Rattle.std.proofs.Common.{◌≡◌, true, refl, rules}
use Rattle.geo_text.proofs.Readings.{reading_is_well_sized}
use Rattle.geo_text.proofs.script.Script.next_command.Goals as goal
use Rattle.geo_text.specs.Records.{plain_fields}

pub returns-clause-takes : goal.returns-clause-takes
returns-clause-takes c =
    let found : c.in_ok-read.field-0 ≡ true = search rules in
    let taken = rw found at c.in_ok-read.ensures in
    rw (← c.self.view_is) (record {
      fields = plain_fields c.read.new.row;
      first = rw c.if-self-2.false taken.first;
      counted = refl;
      version = c.version-self-inside.ensures;
      reads = c.in_ok-reading.ensures;
    })

pub returns-clause-well_sized : goal.returns-clause-well_sized
returns-clause-well_sized c =
    rw c.in_ok-reading.ensures (reading_is_well_sized c.version-self-inside.result c.self.inside.next (plain_fields c.read.new.row))
