-- What `clap` reads of the program's command, and what its matches give.
use Rattle.std.specs.Prelude.{ℕ, ◌&&◌, Bool, List, map, not, nat_lt, Some, true, codes}
use Rattle.std.specs.List.{list_all}
use Rattle.std.specs.Str.{bytes_eq}
use Rattle.std.specs.Borrow.{Bor}
use Rattle.clap.specs.Walk.{Rule}
use Rattle.clap.specs.Simple.{App, new_app, new_rule, on_top}
use Rattle.clap.specs.Matches.{first_value, found_of}
use Rattle.clap.specs.declared.builder.action.ArgAction.TheVariants.{Set}
use Rattle.clap.specs.declared.parser.matches.ArgMatches.{ArgMatches}
use Rattle.fx_words.specs.Words.{Given, option_names}

-- an option with one value
abbrev pub value_option : List ℕ → Rule
value_option name = record (new_rule name) { long = Some name; action = Some Set }

-- a command of such options alone, without `--help` and `--version`, whose words begin behind the program's name
abbrev pub words_app : App
words_app =
    on_top (λ s. record s { no_binary_name = true; disable_help_flag = true; disable_version_flag = true; rules = map value_option option_names })
    (new_app (codes "felix-replay"))

-- the texts that are borrowed
abbrev pub texts_of : List (Bor (List ℕ)) → List (List ℕ)
texts_of texts = map (λ s. s.now) texts

-- the value of each option in the matches
abbrev pub given_by : ArgMatches → Given
given_by m = record {
  node = first_value (found_of m) (codes "node");
  seed = first_value (found_of m) (codes "soak");
  count = first_value (found_of m) (codes "count");
}

-- Words that `clap` is given. No option, name or number is `-` or `--`, or has other bytes than those of ASCII.
abbrev pub is_plain : List ℕ → Bool
is_plain word = list_all (λ b. nat_lt b 128) word && (not (bytes_eq word (codes "-")) && not (bytes_eq word (codes "--")))

abbrev pub are_plain : List (List ℕ) → Bool
are_plain words = list_all is_plain words
