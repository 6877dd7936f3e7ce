-- What a refusal by the parser of words stands for. This project's own.
use Rattle.clap.specs.declared.error.kind.ErrorKind.{ErrorKind}
use Rattle.clap.specs.declared.error.kind.ErrorKind.TheVariants as kind
use Rattle.geo_words.specs.declared.words.WordsFault.{WordsFault}
use Rattle.geo_words.specs.declared.words.WordsFault.TheVariants as fault

abbrev pub refusal_of : ErrorKind → WordsFault
refusal_of kind.OutOfMemory = fault.Memory
refusal_of _ = fault.Usage
