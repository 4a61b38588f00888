use Rattle.std.proofs.Common.{ap, ◌∙◌}
use Rattle.std.specs.Prelude.{length}
use Rattle.rht_core.proofs.Events.ReachedStates.{IsSound-reached}
use Rattle.rht_core.proofs.state.State.size.Goals as goal

pub current_size-requires : goal.current_size-requires
current_size-requires g c =
    ap length c.deref.ensures.value ∙ (IsSound-reached g.row.M.Denot g.M.Mix.mix_of _ c.self.invariant).all_words
