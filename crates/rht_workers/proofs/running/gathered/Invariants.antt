use Rattle.std.proofs.Common.{◌≡◌, length, vec_len}
use Rattle.rht_workers.specs.Jobs.{side_by_side}
use Rattle.rht_workers.proofs.running.gathered.Given as goal

-- so far all have ended well, with these passes and this beside them
abbrev pub invariant-loop-worked : goal.invariant-loop-worked
invariant-loop-worked g l = record {
  all : l.yielded ≡ side_by_side l.passes.items l.all.items;
  passes : vec_len l.passes ≡ length l.yielded;
  own : vec_len l.all ≡ length l.yielded;
}
