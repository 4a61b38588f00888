-- What the words of a table line stand for: what the table is opened with.
-- Words are read from left to right; that the options agree is asked of the whole line, last.
use Rattle.std.specs.Prelude.{ℕ, ◌*◌, Bool, true, false, ◌&&◌, ◌||◌, ◌==◌, nat_le, max, if◌then◌else◌, None, Some, is_some, unwrap_or, Result, Ok, Err, List, [], ◌∷◌, codes}
use Rattle.rht_words.specs.declared.config.Config.{Config}
use Rattle.rht_words.specs.declared.config.Kind.{Kind}
use Rattle.rht_words.specs.declared.config.Kind.TheVariants.{Single, Listed}
use Rattle.rht_words.specs.declared.config.Hash.{Hash}
use Rattle.rht_words.specs.declared.config.Hash.TheVariants.{Mix, Low}
use Rattle.rht_words.specs.declared.limits.Limits.{Limits}
use Rattle.rht_words.specs.Limits.{node_limits, hint_limits, min_limits, max_limits, page_limits, caller_limits, seed_limits, rewalk_limits, least_size, page_words}
use Rattle.rht_words.specs.Settled.{plain_config}
use Rattle.rht_words.specs.Sizes.{rounded_up, rounded_down, first_size}
use Rattle.rht_script.specs.declared.script.TableLine.{TableLine}
use Rattle.rht_script.specs.declared.cause.Cause.{Cause}
use Rattle.rht_script.specs.declared.cause.Cause.TheVariants.{NoTableLine, UnknownWord, OptionsDisagree}
use Rattle.rht_script.specs.declared.options.Setting.{Setting}
use Rattle.rht_script.specs.declared.options.Setting.TheVariants.{Nodes, Hint, Min, Max, Pages, Workers, Seed, Rewalks, Form, Hashing, Shrink, Auto}
use Rattle.rht_script.specs.declared.options.Options.{Options}
use Rattle.rht_script.specs.Spelling.{◌>>=◌, is_word, number_of}
use Rattle.rht_script.specs.PortWords.{one_number, form_limits}

-- a setting with the number that the word stands for
abbrev pub numbered : (ℕ → Setting) → Limits → List ℕ → Result Setting Cause
numbered setting limits value = do
  number ← number_of limits value
  Ok (setting number)

-- the kind of table of this name
abbrev pub kind_of : List ℕ → Result Kind Cause
kind_of word =
    if is_word word (codes "single") then Ok Single
    else if is_word word (codes "listed") then Ok Listed
    else Err UnknownWord

-- the hash of this name
abbrev pub hash_of : List ℕ → Result Hash Cause
hash_of value =
    if is_word value (codes "mix") then Ok Mix
    else if is_word value (codes "low") then Ok Low
    else Err UnknownWord

-- whether something is on
abbrev pub switch_of : List ℕ → Result Bool Cause
switch_of value =
    if is_word value (codes "on") then Ok true
    else if is_word value (codes "off") then Ok false
    else Err UnknownWord

-- whether a worker runs `work` by itself
abbrev pub auto_of : List ℕ → Result Bool Cause
auto_of value =
    if is_word value (codes "auto") then Ok true
    else if is_word value (codes "manual") then Ok false
    else Err UnknownWord

-- what an option of this name is set to by its value
unfoldable pub setting_of : List ℕ → List ℕ → Result Setting Cause
setting_of name value =
    if is_word name (codes "nodes") then numbered Nodes node_limits value
    else if is_word name (codes "hint") then numbered Hint hint_limits value
    else if is_word name (codes "min") then numbered Min min_limits value
    else if is_word name (codes "max") then numbered Max max_limits value
    else if is_word name (codes "pages") then numbered Pages page_limits value
    else if is_word name (codes "workers") then numbered Workers caller_limits value
    else if is_word name (codes "seed") then numbered Seed seed_limits value
    else if is_word name (codes "rewalks") then numbered Rewalks rewalk_limits value
    else if is_word name (codes "form") then numbered Form form_limits value
    else if is_word name (codes "hash") then (hash_of value >>= (λ hash. Ok (Hashing hash)))
    else if is_word name (codes "shrink") then (switch_of value >>= (λ shrink. Ok (Shrink shrink)))
    else if is_word name (codes "work") then (auto_of value >>= (λ auto. Ok (Auto auto)))
    else Err UnknownWord

-- nothing is set
abbrev pub no_options : Options
no_options = record {
  nodes = None;
  hint = None;
  min = None;
  max = None;
  pages = None;
  workers = None;
  seed = None;
  rewalks = None;
  form = None;
  hash = None;
  shrink = None;
  auto = None;
  twice = false;
}

-- the options with a further setting; one that was set already is set twice
abbrev pub with_setting : Options → Setting → Options
with_setting options (Nodes number) =
    record options { nodes = Some number; twice = options.twice || is_some options.nodes }
with_setting options (Hint number) =
    record options { hint = Some number; twice = options.twice || is_some options.hint }
with_setting options (Min number) =
    record options { min = Some number; twice = options.twice || is_some options.min }
with_setting options (Max number) =
    record options { max = Some number; twice = options.twice || is_some options.max }
with_setting options (Pages number) =
    record options { pages = Some number; twice = options.twice || is_some options.pages }
with_setting options (Workers number) =
    record options { workers = Some number; twice = options.twice || is_some options.workers }
with_setting options (Seed number) =
    record options { seed = Some number; twice = options.twice || is_some options.seed }
with_setting options (Rewalks number) =
    record options { rewalks = Some number; twice = options.twice || is_some options.rewalks }
with_setting options (Form number) =
    record options { form = Some number; twice = options.twice || is_some options.form }
with_setting options (Hashing hash) =
    record options { hash = Some hash; twice = options.twice || is_some options.hash }
with_setting options (Shrink shrink) =
    record options { shrink = Some shrink; twice = options.twice || is_some options.shrink }
with_setting options (Auto auto) =
    record options { auto = Some auto; twice = options.twice || is_some options.auto }

-- the options of these words, which are names each with its value
abbrev pub options_from : Options → List (List ℕ) → Result Options Cause
options_from options [] = Ok options
options_from options (name ∷ []) = Err UnknownWord
options_from options (name ∷ value ∷ words) = do
  setting ← setting_of name value
  options_from (with_setting options setting) words

-- the least size, rounded up to a power of two from the least number of buckets on
abbrev pub rounded_min : ℕ → ℕ
rounded_min number = max least_size (rounded_up number)

-- what a table of this kind with these options is opened with: each worker is a caller, and the greatest size is rounded
-- down to a power of two
unfoldable pub configured : Kind → Options → Config
configured kind options = record {
  kind = kind;
  nodes = unwrap_or options.nodes plain_config.nodes;
  pages = unwrap_or options.pages plain_config.pages;
  callers = unwrap_or options.workers plain_config.callers;
  hint = unwrap_or options.hint plain_config.hint;
  min = rounded_min (unwrap_or options.min plain_config.min);
  max = rounded_down (unwrap_or options.max plain_config.max);
  seed = unwrap_or options.seed plain_config.seed;
  rewalks = unwrap_or options.rewalks plain_config.rewalks;
  hash = unwrap_or options.hash plain_config.hash;
  shrink = unwrap_or options.shrink plain_config.shrink;
}

-- the least size isn't above the greatest, where there is one
abbrev pub sizes_agree : Config → Bool
sizes_agree config = config.max == 0 || nat_le config.min config.max

-- the first buckets have room in the pages
abbrev pub has_room : Config → Bool
has_room config = nat_le (first_size config) (page_words * config.pages)

-- the config of a table of this kind with these options, where they agree
unfoldable pub config_of : Kind → Options → Result Config Cause
config_of kind options =
    if options.twice then Err OptionsDisagree
    else if sizes_agree (configured kind options) && has_room (configured kind options)
    then Ok (configured kind options)
    else Err OptionsDisagree

-- what the words of a table line behind its kind say; where they don't say otherwise, a worker runs `work` by itself, and
-- ports are written as one number
abbrev pub table_with : Kind → List (List ℕ) → Result TableLine Cause
table_with kind words = do
  options ← options_from no_options words
  config ← config_of kind options
  Ok (record { config = config; auto = unwrap_or options.auto true; form = unwrap_or options.form one_number })

-- what the words of a table line behind `table` say: the kind, and the options
abbrev pub table_below : List (List ℕ) → Result TableLine Cause
table_below [] = Err UnknownWord
table_below (word ∷ words) = do
  kind ← kind_of word
  table_with kind words

-- what a table line of these words says
unfoldable pub table_of : List (List ℕ) → Result TableLine Cause
table_of [] = Err NoTableLine
table_of (table ∷ words) = if is_word table (codes "table") then table_below words else Err NoTableLine
