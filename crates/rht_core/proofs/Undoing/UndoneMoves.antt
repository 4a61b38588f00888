-- What each move of a call makes of the bits that the call has turned: none is turned an odd number of times
-- but those of what it holds, those of words of its own node and slot, and those that may be left turned.
use Rattle.std.proofs.Common.{◌≡◌, ◌⊎◌, ℕ, ◌<◌, true, false, List, refl, sym, ap, ◌∙◌, subst, inl, inr}
use Rattle.rht_words.specs.declared.env.Env.{Env}
use Rattle.rht_words.specs.declared.op.Op.TheVariants.{Add}
use Rattle.rht_words.specs.Places.{Section, place_of}
use Rattle.rht_model.specs.declared.history.Call.{Call}
use Rattle.rht_ghost.proofs.Theory.Steps.{bare, Holding, LeavesBits, DoesLinkBehind, Move, Quiet, TakesNode, GivesNode, TakesLock, DropsLock, Raises, Links, Lowers, Rebinds, LinksBehind, Arms, TakesSlot, GivesSlot, TakesPages, GivesPages, TakesWork, GivesWork, BeginsMoving, Withdraws, TakesBack, Opens, Closes, ReturnsNode, mem, Does, ReadyFor, SaysChange}
use Rattle.rht_ghost.proofs.Theory.Steps as moves
use Rattle.rht_core.proofs.Undoing.GoingBack.{GoesBack, Kept}
use Rattle.rht_core.proofs.Undoing.UndoneHoldings.{quiet, take_node, give_node, take_lock, drop_lock, take_work, give_work, take_slot, give_slot, turn_section}
use Rattle.rht_core.proofs.Undoing.UndonePages.{take_pages, give_pages}
use Rattle.rht_core.proofs.Undoing.UndoneTables.{attach, enter}

module _ {env : Env} {mix : ℕ → ℕ → ℕ → ℕ} {words_at : ℕ → List ℕ} {call : Call}
    (step : GoesBack env mix words_at call) where
  -- a store of the link of a node behind a first one keeps the lock, so here it can only be an operation that leaves its word
  behind_leaves : (n : ℕ)
      → DoesLinkBehind env.geometry n step.did.op step.before (bare step.after)
      → LeavesBits step.did.op step.did.old
  behind_leaves n does = elim (step.may.locked_leaves does.locked does.none) [
    | inl leaves ↦ leaves
    | inr dropped ↦ absurd (does.locked (sym (ap (λ (x : Holding). x.lock) does.holds) ∙ dropped))
  ]

  -- the operation changed bindings, by the answer, or it keeps what the call undoes, which gives back no node that was taken out, nor what
  -- was a retired table's
  pub kept_by : (move : Move) → ((n : ℕ) → move ≡ ReturnsNode n → ⊥) → ((j p : ℕ) → move ≡ Withdraws j p → ⊥)
      → ((s index pages_bits : ℕ) → move ≡ TakesBack s index pages_bits → ⊥)
      → ReadyFor env mix step.caller (mem env mix step.words) step.ghost move
      → Does env mix move step.did.op step.did.old step.before step.after
      → SaysChange step.after.answer ⊎ Kept step
  kept_by Quiet returns withdraws takes ready does = inr (quiet step does)
  kept_by (Arms j) returns withdraws takes ready does = inr (quiet step does)
  kept_by (TakesNode n) returns withdraws takes ready does = inr (take_node step n does)
  kept_by (GivesNode n) returns withdraws takes ready does = inr (give_node step n ready does)
  kept_by (ReturnsNode n) returns withdraws takes ready does = absurd (returns n refl)
  kept_by (TakesLock j) returns withdraws takes ready does = inr (take_lock step j does)
  kept_by (DropsLock j) returns withdraws takes ready does = inr (drop_lock step j does)
  kept_by Raises returns withdraws takes ready does =
      let high = ap (λ (x : Holding). x.raised) does.holds in
      absurd (let e = sym step.may.low_then ∙ high in cc)
  kept_by (Links n port j) returns withdraws takes ready does = absurd (let e = sym step.may.low ∙ does.raised in cc)
  kept_by Lowers returns withdraws takes ready does = absurd (let e = sym step.may.low ∙ does.high in cc)
  kept_by (Rebinds change) returns withdraws takes ready does = inl does.changes
  kept_by (LinksBehind n) returns withdraws takes ready does =
      inr (quiet step (record { holds = does.holds; leaves = inl (behind_leaves n does) }))
  kept_by (TakesSlot s) returns withdraws takes ready does = inr (take_slot step s does)
  kept_by (GivesSlot s) returns withdraws takes ready does = inr (give_slot step s (step.may.slot_mine s does.has) does)
  kept_by (TakesPages index pages_bits) returns withdraws takes ready does = inr (take_pages step index pages_bits ready does)
  kept_by (GivesPages index pages_bits) returns withdraws takes ready does = inr (give_pages step index pages_bits ready does)
  kept_by (moves.Attaches slot shape seed serial) returns withdraws takes ready does = inr (attach step slot does)
  kept_by (moves.Enters j p) returns withdraws takes ready does = inr (enter step j p ready does)
  kept_by (Withdraws j p) returns withdraws takes ready does = absurd (withdraws j p refl)
  kept_by (TakesBack s index pages_bits) returns withdraws takes ready does = absurd (takes s index pages_bits refl)
  kept_by TakesWork returns withdraws takes ready does = inr (take_work step does)
  kept_by GivesWork returns withdraws takes ready does = inr (give_work step ready does)
  kept_by BeginsMoving returns withdraws takes ready does =
      let moving = ap (λ (x : Holding). x.moving) does.holds in
      absurd (let e = sym step.may.still_then ∙ moving in cc)
  kept_by (Opens d) returns withdraws takes ready does =
      inr (turn_section step false true refl (subst (λ c. c < 16) ready.0 does.within)
      (does.turns ∙ ap (λ c. Add (place_of env.geometry (Section c)) 1) ready.0) does.outside does.holds)
  kept_by (Closes d) returns withdraws takes ready does =
      inr (turn_section step true false refl (subst (λ c. c < 16) ready does.within)
      (does.turns ∙ ap (λ c. Add (place_of env.geometry (Section c)) 1) ready) does.inside does.holds)
  kept_by _ returns withdraws takes ready does = absurd (let e = sym step.may.still ∙ does.moves in cc)
