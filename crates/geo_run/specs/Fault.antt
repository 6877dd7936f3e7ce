-- The fault of a run that a refusal below it stands for. This project's own.
use Rattle.std.specs.Prelude.{ℕ}
use Rattle.geo_io.specs.declared.source.ReadEnd.{ReadEnd}
use Rattle.geo_io.specs.declared.source.ReadEnd.TheVariants as end
use Rattle.geo_words.specs.declared.words.WordsFault.{WordsFault}
use Rattle.geo_words.specs.declared.words.WordsFault.TheVariants as refusal
use Rattle.geo_run.specs.declared.run.RunFault.{RunFault}
use Rattle.geo_run.specs.declared.run.RunFault.TheVariants as fault

abbrev pub fault_of : ReadEnd → RunFault
fault_of end.Fault = fault.ReadFault
fault_of end.TooLong = fault.TooLong
fault_of end.Memory = fault.Memory

-- the same where the words of the command line are refused
abbrev pub words_fault : WordsFault → RunFault
words_fault refusal.Usage = fault.Usage
words_fault refusal.Memory = fault.Memory

-- the status that the program ends with
abbrev pub exit_status_of : RunFault → ℕ
exit_status_of fault.Usage = 1
exit_status_of fault.ReadFault = 2
exit_status_of fault.TooLong = 3
exit_status_of fault.WriteFault = 4
exit_status_of fault.Memory = 5
