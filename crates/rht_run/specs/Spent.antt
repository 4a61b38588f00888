-- The table that a spent view names. Nothing is held there.
use Rattle.std.proofs.Common.{lit≤, refl}
use Rattle.rht_words.specs.declared.env.Env.{Env}
use Rattle.rht_words.specs.Settled.{IsSettled, plain_config, plain_ways}
use Rattle.rht_words.specs.Sizes.{rounded_up, powers}

-- its config is settled
pub plain_settled : IsSettled plain_config
unfolding rounded_up powers
plain_settled = record {
  geometry = record {
    nodes_within = (lit≤ tt, lit≤ tt);
    pages_within = (lit≤ tt, lit≤ tt);
    callers_within = (lit≤ tt, lit≤ tt);
  };
  hint = lit≤ tt;
  least = record { within = (lit≤ tt, lit≤ tt); rounded = refl };
  greatest = record { within = λ some. absurd (some refl); rounded = refl };
  agree = λ some. absurd (some refl);
  seed = lit≤ tt;
  rewalks = lit≤ tt;
  starts = lit≤ tt;
}

-- a table that is opened with nothing said of it
abbrev pub plain_env : Env
plain_env = record {
  geometry = record { nodes = 4096; pages = 256; callers = 1; within = plain_settled.geometry };
  config = plain_config;
  ways = plain_ways;
  settled = plain_settled;
  agrees = record { nodes_same = refl; pages_same = refl; callers_same = refl };
}
