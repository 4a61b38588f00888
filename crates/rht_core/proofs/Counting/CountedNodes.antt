-- The count of ports is at most the nodes.
-- It is the nodes in chains and the callers that have raised it, and each such caller has a node of its own: what its job holds
-- and knows says so. So no clamp at the greatest number of nodes ever changes what a call makes of the count.
use Rattle.std.proofs.Common.{◌≡◌, ℕ, ◌+◌, ◌%◌, ◌^◌, ◌≤◌, Bool, true, false, List, [], ◌∷◌, ◌++◌, take, inl, inr, refl, sym, ap, ◌∙◌, subst, arith}
use Rattle.std.specs.Prelude.{Option, Some, None}
use Rattle.std.specs.List.{AllByRecursion, slice_get}
use Rattle.std.proofs.lemmas.Option.{slice_get_within, get_or_from_slice_get}
use Rattle.std.proofs.lemmas.Bool.{both_ways}
use Rattle.std.proofs.lemmas.List.Elements.{All-from_recursion}
use Rattle.rht_words.specs.declared.op.Op.{Op}
use Rattle.rht_words.specs.declared.op.Op.TheVariants.{Load, Add, Sub}
use Rattle.rht_words.specs.Operations.{old_of, applied}
use Rattle.rht_words.proofs.EachElement.{AllByRecursion-push}
use Rattle.rht_words.specs.declared.env.Env.{Env}
use Rattle.rht_words.specs.Places.{PortCount, place_of, word_at}
use Rattle.rht_words.proofs.Memory.{Memory, is_write}
use Rattle.rht_chain.specs.Relink.{has_relinked}
use Rattle.rht_bind.specs.BindHeld.{held_of_bind}
use Rattle.rht_bind.specs.declared.bind.BindAt.{BindAt}
use Rattle.rht_bind.specs.declared.bind.BindAt.TheVariants as at
use Rattle.rht_core.specs.Jobs.{Job, binds, releases, job_of, held_of}
use Rattle.rht_release.specs.declared.found_port.FoundPort.{FoundPort}
use Rattle.rht_release.specs.ReleaseHeld.{held_of_release, holds_relinking}
use Rattle.rht_release.specs.declared.release.ReleaseAt.{ReleaseAt}
use Rattle.rht_release.specs.declared.release.ReleaseAt.TheVariants as release_at
use Rattle.rht_core.specs.declared.event.Event.{Event}
use Rattle.rht_core.specs.declared.event.Event.TheVariants.{Step}
use Rattle.rht_core.specs.Runs.{Core, World, local_of, planned_in, run_of, IsAdmitted, IsAdmittedEvent}
use Rattle.rht_core.specs.Traces.{Did}
use Rattle.rht_core.specs.Laws.{IsRecorded}
use Rattle.rht_core.proofs.Counting.FullTables.{front-unraised, relinking-unraised, taken}
use Rattle.rht_core.proofs.Events.Worlds.{run_of-push, stepped_words}
use Rattle.rht_ghost.proofs.Theory.Ghosts.{Ghost, taken_is}
use Rattle.rht_ghost.proofs.Theory.Knowns.{KnownList, LeadsTo}
use Rattle.rht_ghost.proofs.Theory.Knowledge.{HasTakenOut, BucketMeans}
use Rattle.rht_ghost.proofs.Theory.Steps.{mem}
use Rattle.rht_release.proofs.ReleaseKnowledge.{known_relinking}
use Rattle.rht_core.proofs.Machines.JobSteps.{JobKnows}
use Rattle.rht_core.proofs.Machines.NeverHeld.{job-unraised}
use Rattle.rht_core.proofs.Events.Invariants.{Knows, Inv}
use Rattle.rht_core.proofs.Events.InvariantRuns.{has_inv}
use Rattle.rht_core.proofs.Counting.RaisedNodes.{OwnNode, few_used}

module _ (env : Env) (mix : ℕ → ℕ → ℕ → ℕ) (c : ℕ) (M : Memory) (G : Ghost) where
  -- a bind that has raised the count has the node that it links next
  bind-own : (port owner : ℕ) (once : Bool) (state : BindAt)
      → JobKnows env mix c (binds port owner once state) M G
      → (held_of_bind state).raised ≡ true → OwnNode env G c
  bind-own port owner once (at.Replacing list relink) knows is =
      let none = front-unraised list.claimed (has_relinked list.before relink.at) in absurd (cc)
  bind-own port owner once (at.Publish node table relink kick) knows is =
      let has = knows.knowing.means.node.has in
      record {
        node = node;
        among = has.among;
        mine = inl has.mine;
      }
  bind-own port owner once _ knows is = absurd (cc)

  -- a release that is to lower the count has taken the node out
  taken-own : (node : ℕ) → HasTakenOut env mix c G node → OwnNode env G c
  taken-own node took = record { node = node; among = took.among; mine = inr (taken_is c (G.node node) took.taken) }

  unlinking-own : (port owner : ℕ) (found : FoundPort) (known : KnownList) (stored : Bool)
      → BucketMeans env mix c M G (known_relinking port owner found known stored).bucket
      → (holds_relinking found true stored).raised ≡ true → OwnNode env G c
  unlinking-own port owner found known false means is = absurd (cc)
  unlinking-own port owner found known true means is = taken-own found.node means.took

  release-own : (port owner : ℕ) (state : ReleaseAt)
      → JobKnows env mix c (releases port owner state) M G
      → (held_of_release state).raised ≡ true → OwnNode env G c
  release-own port owner (release_at.Promoting found relink) knows is =
      let none = relinking-unraised found (has_relinked found.before relink.at) in absurd (cc)
  release-own port owner (release_at.Unlinking found relink) knows is =
      unlinking-own port owner found (LeadsTo None relink.link owner) (has_relinked found.before relink.at)
      knows.knowing.means.bucket is
  release-own port owner (release_at.Lowering node shape) knows is = taken-own node knows.knowing.means.bucket
  release-own port owner _ knows is = absurd (cc)

  job-own : (job : Job) → JobKnows env mix c job M G → (held_of job).raised ≡ true → OwnNode env G c
  job-own (binds port owner once state) knows is = bind-own port owner once state knows is
  job-own (releases port owner state) knows is = release-own port owner state knows is
  job-own job knows is = absurd (both_ways _ (job-unraised job) is)

  -- who has raised the count has a node of its own
  raised-own : (job : Option Job) → Knows env mix c job M G → G.raised c ≡ true → OwnNode env G c
  raised-own None knows is = let none = knows.only.raising in absurd (cc)
  raised-own (Some job) knows is = job-own job knows (let raised = knows.knowing.only.raising in cc)

-- what holds of each event holds of the one at a number
each_event : (P : Event → Type 0) (events : List Event) (i : ℕ) (event : Event)
    → slice_get events i ≡ Some event
    → AllByRecursion P events → P event
each_event P events i event is all =
    subst P (get_or_from_slice_get events i event event is)
    (All-from_recursion P events all i event (slice_get_within events i event is))

module _ (env : Env) (mix : ℕ → ℕ → ℕ → ℕ) (M : Type 0) where
  -- what the word says is at most the nodes
  pub count_few : (core : Core M) (G : Ghost) → Inv env mix M core G
      → word_at env.geometry core.words PortCount ≤ env.geometry.nodes
  count_few core G inv =
      let few = few_used env mix G (λ c is. raised-own env mix c (mem env mix core.words) G
      (job_of (local_of core c).doing) (inv.each c) is) in
      let counted = inv.whole.counted in
      omega (arith, few, counted)

  -- whoever makes an operation on the count finds it at most the nodes
  found_few : (events : List Event) (c : ℕ) (did : Did) (op : Op) → IsAdmitted events → did.op ≡ op
      → ((words : List ℕ) → old_of words op ≡ word_at env.geometry words PortCount)
      → IsRecorded M mix env events c did → did.old ≤ env.geometry.nodes
  found_few events c did op admitted same reads is =
      let before = take did.index events in
      let core : Core M = (run_of mix env before).core in
      let has = has_inv env mix M before (taken IsAdmittedEvent did.index events admitted) in
      let found : did.old ≡ word_at env.geometry core.words PortCount =
      sym is.found ∙ ap (old_of core.words) same ∙ reads core.words in
      let few = count_few core has.ghost has.inv in
      omega (arith, found, few)

  pub load_few : (events : List Event) (c : ℕ) (did : Did) → IsAdmitted events
      → did.op ≡ Load (place_of env.geometry PortCount) → IsRecorded M mix env events c did
      → did.old ≤ env.geometry.nodes
  load_few events c did admitted loads is =
      found_few events c did (Load (place_of env.geometry PortCount)) admitted loads (λ words. refl) is

  pub lower_few : (events : List Event) (c : ℕ) (did : Did) → IsAdmitted events
      → did.op ≡ Sub (place_of env.geometry PortCount) 1 → IsRecorded M mix env events c did
      → did.old ≤ env.geometry.nodes
  lower_few events c did admitted lowers is =
      found_few events c did (Sub (place_of env.geometry PortCount) 1) admitted lowers (λ words. refl) is

  -- Whoever raises the count found it below the nodes, since it is at most the nodes behind that too.
  pub raise_few : (events : List Event) (c : ℕ) (did : Did) → IsAdmitted events
      → did.op ≡ Add (place_of env.geometry PortCount) 1 → IsRecorded M mix env events c did
      → did.old + 1 ≤ env.geometry.nodes
  raise_few events c did admitted adds is =
      let before = take did.index events in
      let more = before ++ Step c ∷ [] in
      let core : Core M = (run_of mix env before).core in
      let admitted_event : IsAdmittedEvent (Step c) = each_event
      IsAdmittedEvent events did.index (Step c) is.event admitted in
      let admitted_before = taken IsAdmittedEvent did.index events admitted in
      let has = has_inv env mix M before admitted_before in
      let later = has_inv env mix M more (AllByRecursion-push IsAdmittedEvent before
      (Step c) admitted_before admitted_event) in
      let words : (run_of {M = M} mix env more).core.words ≡ applied core.words did.op =
      ap (λ (w : World M). w.core.words) (run_of-push M mix env before (Step c))
      ∙ stepped_words M mix core c did.op (planned_in core c) refl is.plan in
      let op = Add (place_of env.geometry PortCount) 1 in
      let write = is_write env.geometry core.words PortCount op has.all.stays.all_words tt refl in
      let found : word_at env.geometry core.words PortCount ≡ did.old = sym (ap (old_of core.words) adds)
      ∙ is.found in
      let raised : word_at env.geometry (run_of {M = M} mix env more).core.words
      PortCount ≡ (did.old + 1) % 2 ^ 64 =
      ap (λ w. word_at env.geometry w PortCount) (words ∙ ap (applied core.words) adds) ∙ write.same
      ∙ ap (λ old. (old + 1) % 2 ^ 64) found in
      let few = count_few core has.ghost has.inv in
      let few_later = count_few (run_of {M = M} mix env more).core later.ghost later.inv in
      let most = env.geometry.within.nodes_within.1 in
      omega (arith, few, few_later, raised, found, most)
