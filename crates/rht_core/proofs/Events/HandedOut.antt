-- The node that a call hands out as it ends is one of the table's.
use Rattle.std.proofs.Common.{◌≡◌, ℕ, ◌<◌, Option, Some, None, refl, sym, ◌∙◌, subst}
use Rattle.rht_words.specs.declared.env.Env.{Env}
use Rattle.rht_words.specs.declared.machine.Next.{Next}
use Rattle.rht_words.specs.declared.machine.Next.TheVariants.{Go, Done}
use Rattle.rht_arena.specs.NewNode.{NewNodeModel, new_node_after}
use Rattle.rht_callers.specs.Batches.{node_out, out_of}
use Rattle.rht_callers.specs.declared.local.Doing.{Doing}
use Rattle.rht_callers.specs.declared.local.Doing.TheVariants.{Releasing, Rebinding}
use Rattle.rht_release.specs.Release.{IsReleaseAtIn}
use Rattle.rht_release.specs.Release as release
use Rattle.rht_release.specs.declared.release.ReleaseAt.{ReleaseAt}
use Rattle.rht_release.specs.declared.release.ReleaseAt.TheVariants as releasing
use Rattle.rht_release.specs.Rebind.{IsRebindAtIn}
use Rattle.rht_release.specs.Rebind as rebind
use Rattle.rht_release.specs.declared.rebind.RebindAt.{RebindAt}
use Rattle.rht_release.specs.declared.rebind.RebindAt.TheVariants as rebinding
use Rattle.rht_release.specs.declared.rebind.RebindEnd.TheVariants as ends
use Rattle.rht_core.specs.Laws.{IsDoingIn}

-- a release hands it out as it closes its section
pub release_out : (mix : ℕ → ℕ → ℕ → ℕ) (own env : Env) (port owner : ℕ) (state : ReleaseAt) (old node : ℕ)
    → IsReleaseAtIn env state
    → node_out (release.after_at mix own port owner state old).1 ≡ Some node → node < env.geometry.nodes
release_out mix own env port owner (releasing.Closing reply (Some removed)) old node within is =
    let same : removed ≡ node = cc in subst (λ n. n < env.geometry.nodes) same within
release_out mix own env port owner _ old node within is = absurd (cc)

-- and so does a rebind; one that found no node hands out none
filled_none : (new : NewNodeModel) (next : Next (Option ℕ)) → node_out (rebind.filled new next).1 ≡ None
filled_none new Go = refl
filled_none new (Done None) = refl
filled_none new (Done (Some node)) = refl

pub rebind_out : (mix : ℕ → ℕ → ℕ → ℕ) (own env : Env) (port owner : ℕ) (state : RebindAt) (old node : ℕ)
    → IsRebindAtIn env state
    → node_out (rebind.after_at mix own port owner state old).1 ≡ Some node → node < env.geometry.nodes
rebind_out mix own env port owner (rebinding.Filling new) old node within is =
    let none = filled_none (new_node_after new old).0 (new_node_after new old).1 in absurd (let both = sym none ∙ is in cc)
rebind_out mix own env port owner (rebinding.Closing (ends.Rebound removed)) old node within is =
    let same : removed ≡ node = cc in subst (λ n. n < env.geometry.nodes) same within
rebind_out mix own env port owner (rebinding.Closing (ends.Absent given)) old node within is = absurd (cc)
rebind_out mix own env port owner _ old node within is = absurd (cc)

pub out_in : {M : Type 0} (mix : ℕ → ℕ → ℕ → ℕ) (env : Env) (c : ℕ) (doing : Doing M) (old node : ℕ) → IsDoingIn env c doing
    → out_of mix doing old ≡ Some node → node < env.geometry.nodes
out_in mix env c (Releasing m) old node within is = release_out mix m.env env m.port m.owner m.at old node within.at_in is
out_in mix env c (Rebinding m) old node within is = rebind_out mix m.env env m.port m.owner m.at old node within.at_in is
out_in mix env c _ old node within is = absurd (cc)
