-- What the structs that C lays out say, and how they say it.
use Rattle.std.specs.Prelude.{◌==◌, ℕ, Bool, true, false, nat_le, max, if◌then◌else◌, Option, Some, None, List, [], ◌∷◌}
use Rattle.std.specs.List.{list_all}
use Rattle.rht_words.specs.Ports.{port_at, net_of, number_of}
use Rattle.rht_words.specs.Limits.{min_limits, max_limits, least_size}
use Rattle.rht_words.specs.Sizes.{rounded_up, rounded_down}
use Rattle.rht_words.specs.declared.config.Config.{Config}
use Rattle.rht_words.specs.declared.config.Kind.{Kind}
use Rattle.rht_words.specs.declared.config.Kind.TheVariants.{Single, Listed}
use Rattle.rht_words.specs.declared.config.Hash.{Hash}
use Rattle.rht_words.specs.declared.config.Hash.TheVariants.{Mix, Low}
use Rattle.rht_model.specs.declared.history.Cursor.{Cursor}
use Rattle.rht_session.specs.declared.plain.CPort.{CPort}
use Rattle.rht_session.specs.declared.plain.CPair.{CPair}
use Rattle.rht_session.specs.declared.plain.CCursor.{CCursor}
use Rattle.rht_session.specs.declared.plain.CConfig.{CConfig}

-- ---- ports and pairs

abbrev pub port_said : CPort → ℕ
port_said port = port_at port.net port.number

abbrev pub c_pair : ℕ × ℕ → CPair
c_pair pair = record { port = record { number = number_of pair.0; net = net_of pair.0 }; owner = pair.1 }

-- ---- cursors

-- without more it says none
abbrev pub cursor_said : CCursor → Option Cursor
cursor_said cursor = if cursor.more then Some (record { serial = cursor.serial; bucket = cursor.bucket }) else None

abbrev pub c_cursor : Option Cursor → CCursor
c_cursor None = record { serial = 0; bucket = 0; more = false }
c_cursor (Some cursor) = record { serial = cursor.serial; bucket = cursor.bucket; more = true }

-- ---- words for fields to come

abbrev pub no_spare : List ℕ
no_spare = 0 ∷ 0 ∷ 0 ∷ 0 ∷ 0 ∷ 0 ∷ 0 ∷ 0 ∷ []

-- ---- configs

-- whether each spare word is 0, as it has to be
abbrev pub has_no_spare : CConfig → Bool
has_no_spare config = list_all (λ word. word == 0) config.spare

-- sizes within their limits are rounded to powers of two, and others stay
abbrev pub least_said : ℕ → ℕ
least_said min = if nat_le min min_limits.greatest then max least_size (rounded_up min) else min

abbrev pub greatest_said : ℕ → ℕ
greatest_said max = if nat_le max max_limits.greatest then rounded_down max else max

abbrev pub config_said : CConfig → Config
config_said config = record {
  kind = if config.listed then Listed else Single;
  nodes = config.nodes;
  pages = config.pages;
  callers = config.callers;
  hint = config.hint;
  min = least_said config.min;
  max = greatest_said config.max;
  seed = config.seed;
  rewalks = config.rewalks;
  hash = if config.low then Low else Mix;
  shrink = config.shrink;
}

abbrev pub is_listed : Kind → Bool
is_listed Single = false
is_listed Listed = true

abbrev pub is_low : Hash → Bool
is_low Mix = false
is_low Low = true

abbrev pub c_config : Config → CConfig
c_config config = record {
  nodes = config.nodes;
  pages = config.pages;
  callers = config.callers;
  hint = config.hint;
  min = config.min;
  max = config.max;
  seed = config.seed;
  rewalks = config.rewalks;
  listed = is_listed config.kind;
  low = is_low config.hash;
  shrink = config.shrink;
  spare = no_spare;
}
