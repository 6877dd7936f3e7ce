-- The command line as the parser of words sees it. No public clause cites this module.
use Rattle.std.specs.List.{list_any}
use Rattle.std.specs.Prelude.{Bool, List, codes, pos, Some, true}
use Rattle.std.specs.Str.{bytes_eq}
use Rattle.clap.specs.Words.{App, Rule, Text, new_app, new_rule, with_rule}
use Rattle.clap.specs.declared.builder.value_parser.ValueParser.{ValueParser}
use Rattle.clap.specs.declared.builder.value_parser.ValueParser.TheVariants as parser
use Rattle.geo_gen.specs.declared.combs.TheConstants.{MAX_TEETH}

-- a number of teeth that a comb may have
abbrev pub comb_reader : ValueParser
comb_reader = parser.Signed (pos 1) (pos MAX_TEETH)

-- one option, `--comb`, that takes such a number
abbrev pub comb_option : Rule
comb_option = record (new_rule (codes "comb")) { long = Some (codes "comb"); parser = Some comb_reader }

-- a command with no name before its words, without `--help` and `--version`
abbrev pub bare_command : App
bare_command = record (new_app (codes "geo")) { top = record (new_app (codes "geo")).top { no_binary_name = true; disable_help_flag = true; disable_version_flag = true } }

-- the same with the option
abbrev pub comb_command : App
comb_command = with_rule bare_command comb_option

-- some word is `--`
abbrev pub has_dashes : List Text → Bool
has_dashes words = list_any (λ word. bytes_eq word (codes "--")) words
