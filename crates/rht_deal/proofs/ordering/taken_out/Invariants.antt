use Rattle.std.proofs.Common.{◌≡◌, ℕ, ◌<◌, [], slice_index_or}
use Rattle.rht_deal.specs.Ordering.{kept_items, BeginsWith}
use Rattle.rht_deal.proofs.ordering.taken_out.Given as goal

-- nobody so far has this number first
abbrev pub invariant-loop-i : goal.invariant-loop-i
invariant-loop-i l = record {
  same : l.kept.items ≡ l.initial.kept.items;
  none : (j : ℕ) → j < l.i → ¬ BeginsWith (slice_index_or (kept_items l.kept) j []) l.number;
}
