use Rattle.std.proofs.Common.{◌≡◌, ◌+◌, length, vec_len}
use Rattle.crossbeam_queue.specs.Passes.{view, IsPassOf}
use Rattle.rht_deal.specs.Numbers.{hand, all_parts}
use Rattle.rht_deal.specs.Workers.{AreReady}
use Rattle.rht_deal.proofs.dealing.ready.Given as goal

-- a worker for each pass so far, and the dealer has given each a part
abbrev pub invariant-loop-pass : goal.invariant-loop-pass
invariant-loop-pass g l = record {
  jobs : AreReady g.M.Mix.mix_of l.deal.table.now l.deal.queue.now l.deal.script.now 1 l.jobs.items;
  many : vec_len l.jobs ≡ length l.yielded;
  queue : IsPassOf l.deal.queue.now l.dealer;
  hand_is : view l.dealer ≡ hand (view l.dealer).parts (length l.deal.script.now.commands.items) (view l.initial.dealer).taken;
  parts : (view l.dealer).parts + length l.yielded ≡ all_parts;
}
