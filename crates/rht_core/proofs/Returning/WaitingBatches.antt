-- What is kept for the nodes that wait in each caller's batch, whatever its call does and whatever others do.
use Rattle.std.proofs.Common.{◌≡◌, ◌≢◌, ◌⊎◌, ℕ, ◌%◌, ◌<◌, ◌≤◌, List, ◌++◌, drop, Option, Some, None, sym, ◌∙◌, subst, inl, inr, arith}
use Rattle.std.specs.Prelude.{◌==◌, if◌then◌else◌, slice_index}
use Rattle.std.proofs.lemmas.Bool.{cond_both, eqb-true}
use Rattle.rht_words.specs.declared.env.Env.{Env}
use Rattle.rht_words.specs.declared.machine.Next.{Next}
use Rattle.rht_words.specs.declared.machine.Next.TheVariants.{Go, Done}
use Rattle.rht_words.specs.Places.{Section}
use Rattle.rht_words.proofs.Members.{In-append_right}
use Rattle.rht_words.proofs.Memory.{Memory}
use Rattle.rht_model.specs.declared.history.Call.{Call}
use Rattle.rht_model.specs.declared.history.Reply.{Reply}
use Rattle.rht_find.specs.Find.{find_after}
use Rattle.rht_bind.specs.Bind.{bind_after}
use Rattle.rht_release.specs.All.{all_after}
use Rattle.rht_release.specs.Release.{release_after}
use Rattle.rht_release.specs.Rebind.{rebind_after}
use Rattle.rht_move.specs.Work.{work_after}
use Rattle.rht_walk.specs.Walk.{walk_after}
use Rattle.rht_grace.specs.Batch.{BatchModel}
use Rattle.rht_grace.specs.Tidy.{TidyModel, after_at, moved}
use Rattle.rht_grace.specs.declared.tidy.TidyAt.{TidyAt}
use Rattle.rht_grace.specs.declared.tidy.TidyAt.TheVariants as at
use Rattle.rht_callers.specs.Batches.{nodes_in, nodes_left, nodes_held, with_out, node_out, batch_beside, batch_after, batch_given}
use Rattle.rht_callers.specs.Locals.{machine_from, doing_after, doing_next, without_node}
use Rattle.rht_callers.specs.PortCounts.{count_after}
use Rattle.rht_callers.specs.declared.local.Doing.{Doing}
use Rattle.rht_callers.specs.declared.local.Doing.TheVariants.{Idle, Finding, Binding, Listing, Releasing, Rebinding, Working, Counting, Tidying, Walking}
use Rattle.rht_callers.proofs.CallBeginnings.{begins_so}
use Rattle.rht_core.specs.Tidyings.{IsTidyPlace, IsTidyingOf}
use Rattle.rht_ghost.proofs.Theory.Ghosts.{Ghost}
use Rattle.rht_core.proofs.Returning.Batches.{AreOut, KeptFor, kept-left, kept-opened, kept-closed}
use Rattle.rht_core.proofs.Returning.Readers.{Reader, meets_too, opens, reads_nothing}
use Rattle.rht_core.proofs.Returning.WaitingNodes.{KeptTo, waits_at, waits_in, waits_next, tidy_waits, begun_waits}

module _ (env : Env) (mix : ℕ → ℕ → ℕ → ℕ) (L : Type 0) where
  -- a tidying is in range
  abbrev pub tidies_in : Doing L → Type 0
  tidies_in (Tidying m) = IsTidyingOf env m
  tidies_in _ = Unit {0}

  module _ (M : Memory) (readers : ℕ → Reader) where
    abbrev pub waits_own : Option BatchModel → Type 0
    waits_own None = Unit {0}
    waits_own (Some batch) = waits_in env mix M readers batch

    -- of a caller, by what it does, and its batch
    abbrev pub waits_of : Doing L → Option BatchModel → Type 0
    waits_of Idle batch = waits_own batch
    waits_of (Finding m) batch = waits_own batch
    waits_of (Binding m) batch = waits_own batch
    waits_of (Listing m) batch = waits_own batch
    waits_of (Releasing m) batch = waits_own batch
    waits_of (Rebinding m) batch = waits_own batch
    waits_of (Working m) batch = waits_own batch
    waits_of (Counting m) batch = waits_own batch
    waits_of (Walking m) batch = waits_own batch
    waits_of (Tidying m) batch = waits_at env mix M readers m.batch m.at

    -- ---- a call begins

    pub begun_of : (c : ℕ) (batch : Option BatchModel) (start : ℕ) (call : Call) (machine : Doing L) → machine_from env c batch call start ≡ Some machine
        → waits_own batch → waits_of machine (batch_beside machine batch)
    begun_of c batch start call machine is waits =
        begins_so L env c batch start (λ asked first. waits_of first (batch_beside first batch))
        (λ port. waits) (λ port owner once. waits) (λ port. waits) (λ port owner. waits) (λ port owner new. waits) waits waits
        (λ own has. begun_waits env mix M readers own (subst waits_own has waits)) (λ from limit. waits)
        call machine is

    -- ---- an operation

    -- a node that is put in waits for nothing yet
    own-out : (batch : Option BatchModel) (removed : Option ℕ) → waits_own batch → waits_own (with_out batch removed)
    own-out None removed waits = waits
    own-out (Some batch) None waits = waits
    own-out (Some batch) (Some node) waits = waits

    next-own : {A : Type 0} (doing : A → Doing L) (batch : Option BatchModel) → ((m : A) → waits_of (doing m) batch) → waits_own batch
        → (next : A × Next Reply) → waits_of (doing_next doing next).0 batch
    next-own doing batch goes ends (m, Go) = goes m
    next-own doing batch goes ends (m, Done reply) = ends

    tidying-next : (m : TidyModel) (batch : Option BatchModel) (came : BatchModel × TidyAt × Next Reply)
        → waits_next env mix M readers came
        → waits_of (doing_next Tidying (moved m came)).0 (batch_given (moved m came) batch)
    tidying-next m batch (own, state, Go) waits = waits
    tidying-next m batch (own, state, Done reply) waits = waits

    -- a load of a tidying found the word
    abbrev pub has_loaded : Doing L → ℕ → Type 0
    has_loaded (Tidying m) old = (caller : ℕ) → (m.at ≡ at.Keeping caller) ⊎ (m.at ≡ at.Asking caller) → old ≡ M (Section caller)
    has_loaded _ old = Unit {0}

    pub after_of : (doing : Doing L) (batch : Option BatchModel) (old : ℕ) → tidies_in doing → has_loaded doing old → waits_of doing batch
        → waits_of (doing_after mix doing old).0 (batch_after mix doing batch old)
    after_of Idle batch old within loaded waits = waits
    after_of (Finding m) batch old within loaded waits = next-own Finding batch (λ n. waits) waits (find_after mix m old)
    after_of (Binding m) batch old within loaded waits = next-own Binding batch (λ n. waits) waits (bind_after mix m old)
    after_of (Listing m) batch old within loaded waits = next-own Listing batch (λ n. waits) waits (all_after mix m old)
    after_of (Releasing m) batch old within loaded waits =
        let next = release_after mix m old in
        let own = own-out batch (node_out next.1) waits in
        next-own Releasing (with_out batch (node_out next.1)) (λ n. own) own (next.0, without_node next.1)
    after_of (Rebinding m) batch old within loaded waits =
        let next = rebind_after mix m old in
        let own = own-out batch (node_out next.1) waits in
        next-own Rebinding (with_out batch (node_out next.1)) (λ n. own) own (next.0, without_node next.1)
    after_of (Working m) batch old within loaded waits = next-own Working batch (λ n. waits) waits (work_after mix m old)
    after_of (Counting m) batch old within loaded waits = next-own Counting batch (λ n. waits) waits (count_after m old)
    after_of (Walking m) batch old within loaded waits = next-own Walking batch (λ n. waits) waits (walk_after m old)
    after_of (Tidying m) batch old within loaded waits =
        tidying-next m batch (after_at m.geometry m.batch m.at old)
        (subst (λ g. waits_next env mix M readers (after_at g m.batch m.at old)) (sym within.same_geometry)
        (tidy_waits env mix M readers m.batch m.at old within.at_in.words within.at_in.at_in loaded waits))

  -- ---- whatever anybody does

  module _ (M M' : Memory) (readers readers' : ℕ → Reader) (G' : Ghost) (owner : ℕ)
      (turns : (d : ℕ) → d < env.geometry.callers → (M' (Section d) ≡ M (Section d)) ⊎ (M' (Section d) % 2 ≢ M (Section d) % 2))
      (are : (d : ℕ) → readers' d
      ≡ (if M' (Section d) % 2 == 1 then (if M (Section d) % 2 == 1 then meets_too G' (readers d) else opens G') else reads_nothing)) where
    -- what is kept of a caller
    keeps : (d : ℕ) → d < env.geometry.callers → (nodes : List ℕ) (kept : ℕ) → AreOut owner G' nodes
        → KeptFor env mix d nodes M (readers d) kept → KeptFor env mix d nodes M' (readers' d) kept
    keeps d low nodes kept out for =
        subst (λ r. KeptFor env mix d nodes M' r kept) (sym (are d))
        (cond_both (M' (Section d) % 2 == 1) _ _ (λ (r : Reader). KeptFor env mix d nodes M' r kept)
        (λ t. cond_both (M (Section d) % 2 == 1) _ _ (λ (r : Reader). KeptFor env mix d nodes M' r kept)
        (λ was. elim (turns d low) [
          | inl same ↦ kept-left env mix d nodes owner M M' G' (readers d) kept same out for
          | inr turned ↦ absurd (turned (eqb-true (M' (Section d) % 2) 1 t ∙ sym (eqb-true (M (Section d) % 2) 1 was)))
        ])
        (λ f. kept-opened env mix d nodes owner M' G' kept out))
        (λ f. kept-closed env mix d nodes M' kept))

    all-keep : (nodes kept : List ℕ) (k : ℕ) → k ≤ env.geometry.callers → AreOut owner G' nodes → KeptTo env mix M readers nodes kept k
        → KeptTo env mix M' readers' nodes kept k
    all-keep nodes kept k few out for d low = keeps d (omega (arith, few, low)) nodes (slice_index kept d) out (for d low)

    past-fresh : (fresh nodes : List ℕ) → AreOut owner G' (fresh ++ nodes) → AreOut owner G' nodes
    past-fresh fresh nodes out n there = out n (In-append_right n fresh nodes there)

    all_keep : (nodes kept : List ℕ) → AreOut owner G' nodes → KeptTo env mix M readers nodes kept env.geometry.callers
        → KeptTo env mix M' readers' nodes kept env.geometry.callers
    all_keep nodes kept out for = all-keep nodes kept env.geometry.callers (omega arith) out for

    at_stays : (batch : BatchModel) (state : TidyAt) → IsTidyPlace env.geometry batch state → AreOut owner G' (nodes_left batch state)
        → waits_at env mix M readers batch state → waits_at env mix M' readers' batch state
    at_stays batch (at.Keeping caller) place out waits =
        all-keep batch.waiting batch.kept caller (omega (arith, place)) (past-fresh batch.fresh batch.waiting out) waits
    at_stays batch (at.Asking caller) place out (waits, even) =
        (all_keep batch.waiting batch.kept (past-fresh batch.fresh batch.waiting out) waits, even)
    at_stays batch (at.Giving index) place out (waits, even) =
        (all_keep (drop index batch.waiting) batch.kept (past-fresh batch.fresh (drop index batch.waiting) out) waits, even)

    own_stays : (batch : Option BatchModel) → AreOut owner G' (nodes_in batch) → waits_own M readers batch → waits_own M' readers' batch
    own_stays None out waits = waits
    own_stays (Some batch) out waits = all_keep batch.waiting batch.kept (past-fresh batch.fresh batch.waiting out) waits

    -- what is kept for the nodes of a caller that were taken out by it
    pub waits_stay : (doing : Doing L) (batch : Option BatchModel) → tidies_in doing → AreOut owner G' (nodes_held doing batch)
        → waits_of M readers doing batch → waits_of M' readers' doing batch
    waits_stay Idle batch within out waits = own_stays batch out waits
    waits_stay (Finding m) batch within out waits = own_stays batch out waits
    waits_stay (Binding m) batch within out waits = own_stays batch out waits
    waits_stay (Listing m) batch within out waits = own_stays batch out waits
    waits_stay (Releasing m) batch within out waits = own_stays batch out waits
    waits_stay (Rebinding m) batch within out waits = own_stays batch out waits
    waits_stay (Working m) batch within out waits = own_stays batch out waits
    waits_stay (Counting m) batch within out waits = own_stays batch out waits
    waits_stay (Walking m) batch within out waits = own_stays batch out waits
    waits_stay (Tidying m) batch within out waits = at_stays m.batch m.at within.at_in.at_in out waits
