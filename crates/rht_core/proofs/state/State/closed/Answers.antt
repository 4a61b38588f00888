use Rattle.std.proofs.Common.{ℕ, ap, ◌∙◌, sym, subst}
use Rattle.std.specs.Prelude.{length}
use Rattle.rht_core.specs.Runs.{Core, IsReached}
use Rattle.rht_stands.specs.Closing.{IsListable}
use Rattle.rht_core.proofs.Events.ReachedStates.{IsSound-reached}
use Rattle.rht_core.proofs.Meaning.ListableWords.{run_listable}
use Rattle.rht_core.proofs.state.State.closed.Goals as goal

-- the words of a state are those of a run
reached_listable : (M : Type 0) (mix : ℕ → ℕ → ℕ → ℕ) (core : Core M) → IsReached mix core → IsListable core.env.geometry core.words
reached_listable M mix core reached =
    subst (λ (k : Core M). IsListable core.env.geometry k.words) reached.same (run_listable M mix core.env reached.events reached.admitted)

pub closed-requires-clause-words : goal.closed-requires-clause-words
closed-requires-clause-words g c =
    ap length c.deref.ensures.value ∙ (IsSound-reached g.row.M.Denot g.M.Mix.mix_of _ c.self.invariant).all_words

pub closed-requires-clause-listable : goal.closed-requires-clause-listable
closed-requires-clause-listable g c =
    subst (λ words. IsListable c.self.inside.env.geometry words) (sym c.deref.ensures.value)
    (reached_listable g.row.M.Denot g.M.Mix.mix_of _ c.self.invariant)
