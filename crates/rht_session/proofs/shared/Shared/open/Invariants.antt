use Rattle.std.proofs.Common.{◌≡◌, ◌+◌, length, vec_len}
use Rattle.std.specs.Arc.{arc_value}
use Rattle.rht_words.specs.Settled.{plain_ways}
use Rattle.rht_run.specs.Passes.{AreNew}
use Rattle.rht_session.specs.Sessions.{AreNewFrom}
use Rattle.rht_session.proofs.shared.Shared.open.Given as goal

-- the passes that are left have the numbers below this one, and the callers so far have the others
abbrev pub invariant-loop-pass : goal.invariant-loop-pass
invariant-loop-pass g l = record {
  rest : AreNew g.M.Mix.mix_of (arc_value l.first) 0 l.passes.items;
  new : AreNewFrom g.M.Mix.mix_of (arc_value l.first) (length l.passes.items) l.all.items;
  count : vec_len l.all + vec_len l.passes ≡ l.fn.config.callers;
  config_same : (arc_value l.first).env.config ≡ l.fn.config;
  ways_plain : (arc_value l.first).env.ways ≡ plain_ways;
}

-- how many passes are left
abbrev pub decreases-loop-pass : goal.decreases-loop-pass
decreases-loop-pass g l = vec_len l.passes
