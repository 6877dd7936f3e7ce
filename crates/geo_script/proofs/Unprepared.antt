-- The steps of a reply, whether or not the session has the table of all pairs of vertices.
use Rattle.std.proofs.Common.{◌≤◌, ℕ, Bool, true, false, if◌then◌else◌, Result, Ok, Err, arith}
use Rattle.geo_text.specs.declared.command.Bad.{Bad}
use Rattle.geo_text.specs.declared.command.Command.{Command}
use Rattle.geo_text.specs.declared.command.Command.TheVariants as command
use Rattle.geo_session.specs.Paced.{most_steps}
use Rattle.geo_session.specs.Prepared.{Seen}
use Rattle.geo_script.specs.RecordSteps.{IsReadingPaced, unprepared}

made_at_most : (there : Bool) (most : ℕ) → (if there then 0 else most) ≤ most
made_at_most true most = omega arith
made_at_most false most = omega arith

-- a command takes the most steps where the table is not there
unprepared_most : (seen : Seen) (asked : Command) → most_steps seen asked ≤ most_steps (unprepared seen.state) asked
unprepared_most seen (command.Pair i j) = omega (arith, made_at_most seen.prepared (most_steps (unprepared seen.state) command.Sights))
unprepared_most seen command.Sights = made_at_most seen.prepared (most_steps (unprepared seen.state) command.Sights)
unprepared_most seen _ = omega arith

-- and so does a record that was read
pub unprepared_paced : (seen : Seen) (reading : Result Command Bad) (steps steps' : ℕ) → IsReadingPaced seen reading steps steps'
    → IsReadingPaced (unprepared seen.state) reading steps steps'
unprepared_paced seen (Ok asked) steps steps' paced = omega (arith, paced, unprepared_most seen asked)
unprepared_paced seen (Err fault) steps steps' same = same
