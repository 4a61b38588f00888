-- Which configs a table can be opened with, and the one that it is opened with where nothing is said.
use Rattle.std.specs.Prelude.{◌≡◌, ◌≢◌, ◌*◌, ◌≤◌, false}
use Rattle.rht_words.specs.Limits.{IsGeometry, hint_limits, seed_limits, rewalk_limits, page_words}
use Rattle.rht_words.specs.Sizes.{IsLeastSize, IsGreatestSize, first_size}
use Rattle.rht_words.specs.declared.config.Config.{Config}
use Rattle.rht_words.specs.declared.config.Kind.TheVariants.{Single}
use Rattle.rht_words.specs.declared.config.Hash.TheVariants.{Mix}
use Rattle.rht_words.specs.declared.geometry.Geometry.{Geometry}
use Rattle.rht_words.specs.declared.ways.Ways.{Ways}

-- each number is within its limits (a hint of 0 says nothing), sizes are rounded and agree, and the first table fits the pages
pub record IsSettled (config : Config) : Type 0 where
  pub geometry : IsGeometry config.nodes config.pages config.callers
  pub hint : config.hint ≤ hint_limits.greatest
  pub least : IsLeastSize config.min
  pub greatest : IsGreatestSize config.max
  pub agree : config.max ≢ 0 → config.min ≤ config.max
  pub seed : config.seed ≤ seed_limits.greatest
  pub rewalks : config.rewalks ≤ rewalk_limits.greatest
  pub starts : first_size config ≤ page_words * config.pages

-- the geometry has the config's numbers
pub record IsGeometryOf (config : Config) (g : Geometry) : Type 0 where
  pub nodes_same : g.nodes ≡ config.nodes
  pub pages_same : g.pages ≡ config.pages
  pub callers_same : g.callers ≡ config.callers

-- what a table is opened with where nothing is said of it
abbrev pub plain_config : Config
plain_config = record {
  kind = Single;
  nodes = 4096;
  pages = 256;
  callers = 1;
  hint = 0;
  min = 4;
  max = 0;
  seed = 1;
  rewalks = 8;
  hash = Mix;
  shrink = false;
}

-- the ways of tables that scripts and replays open: no search begins elsewhere than at the first word
abbrev pub plain_ways : Ways
plain_ways = record { spread = false }
