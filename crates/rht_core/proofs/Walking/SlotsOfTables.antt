-- Where a slot has a table, it has the same one behind an operation; so what is said of a walk's table may name it by its slot.
use Rattle.std.proofs.Common.{◌≡◌, ℕ, ◌+◌, ◌<◌, ◌≤◌, Bool, true, Some, None, sym, ◌∙◌, ap, subst, arith}
use Rattle.rht_words.specs.declared.env.Env.{Env}
use Rattle.rht_words.proofs.Memory.{Memory}
use Rattle.rht_ghost.proofs.Theory.Ghosts.{Ghost, has_table, index_at}
use Rattle.rht_ghost.proofs.Theory.Passed.{GrowsFrom, less-grown, there_from-from}
use Rattle.rht_ghost.proofs.Theory.Wholes.{Whole, IsThere, AreThereFrom, IsAt, home, slot-there, at-there}
use Rattle.rht_core.proofs.Finding.Deaths.{DeathsRight}
use Rattle.rht_core.proofs.Finding.Places.{Places, PlacesRight}
use Rattle.rht_core.proofs.Finding.Stages.{Stage, Reaching, Heading, Ending, StageMeans}
use Rattle.rht_core.proofs.Finding.StageSteps as steps

-- the slot has a table that has been attached, and all behind it are there
pub record IsAttached (G : Ghost) (slot : ℕ) : Type 0 where
  pub table : has_table (G.slot slot) ≡ true
  pub attached : index_at G slot < G.attached
  pub on : AreThereFrom G (index_at G slot)

module _ (env : Env) (mix : ℕ → ℕ → ℕ → ℕ) (M : Memory) (G : Ghost) (whole : Whole env mix M G) where
  -- the slot of a table that a caller knows has it
  pub index_is : (slot : ℕ) (at : IsAt G slot) → index_at G slot ≡ at.table
  index_is slot at = ap (index_at G) (sym at.slot_is) ∙ (at-there at).index

  pub attached_at : (slot : ℕ) → IsAt G slot → IsAttached G slot
  attached_at slot at = record {
    table = subst (λ s. has_table (G.slot s) ≡ true) at.slot_is (at-there at).has_slot;
    attached = omega (arith, index_is slot at, at.attached);
    on = subst (AreThereFrom G) (sym (index_is slot at)) at.on;
  }

  abbrev pub at_attached : (slot : ℕ) → IsAttached G slot → IsAt G slot
  at_attached slot of =
      let is = whole.tables.slots slot of.table in
      record { table = index_at G slot; attached = is.attached; slot_is = is.slot; on = of.on }

  -- and behind an operation
  module _ (low : ℕ) (G' : Ghost) (grow : GrowsFrom env mix low G G') (slot : ℕ) (of : IsAttached G slot)
      (from : low ≤ index_at G slot) where
    abbrev τ : ℕ
    τ = index_at G slot

    there_still : IsThere G' τ
    there_still = grow.there τ from (less-grown env mix of.attached grow.attached) (λ l. slot-there env mix whole.tables slot of.table)

    slot_still : (G'.table τ).slot ≡ slot
    slot_still = (grow.tables τ of.attached).slot ∙ (whole.tables.slots slot of.table).slot

    pub index_stays : index_at G' slot ≡ τ
    index_stays = ap (index_at G') (sym slot_still) ∙ there_still.index

    pub attached_stays : IsAttached G' slot
    attached_stays = record {
      table = subst (λ s. has_table (G'.slot s) ≡ true) slot_still there_still.has_slot;
      attached = let more = grow.attached in let low = of.attached in omega (arith, index_stays, more, low);
      on = subst (AreThereFrom G') (sym index_stays) (there_from-from env mix low G G' grow τ from of.on);
    }

-- ---- stages by slots

module _ (env : Env) (mix : ℕ → ℕ → ℕ → ℕ) (port : ℕ) (seen : ℕ → Bool) (since now : ℕ) (M : Memory) (G : Ghost) (P : Places)
    (whole : Whole env mix M G) (right : PlacesRight env mix G P M now) (deaths : DeathsRight env M G P now)
    (Said : Type 0) where
  abbrev Means : Stage → Type 0
  Means = StageMeans env mix port seen since Said M G P

  pub reached : (slot j : ℕ) → Means (Reaching slot) → home env mix G port (index_at G slot) ≡ Some j → Means (Heading slot j)
  reached slot j means here =
      steps.reached env mix port seen since now M G P whole right deaths Said slot j means
      (subst (λ τ. home env mix G port τ ≡ Some j) (index_is env mix M G whole slot means.0) here)

  pub missed : (slot : ℕ) → Means (Reaching slot) → home env mix G port (index_at G slot) ≡ None → Means (Ending slot)
  missed slot means missing =
      steps.missed env mix port seen since now M G P whole right deaths Said slot means
      (subst (λ τ. home env mix G port τ ≡ None) (index_is env mix M G whole slot means.0) missing)

  pub none_behind : (slot : ℕ) → Means (Ending slot) → index_at G slot + 1 ≡ G.attached → Said
  none_behind slot means last =
      steps.none_behind env mix port seen since now M G P whole right deaths Said slot means
      (subst (λ τ. τ + 1 ≡ G.attached) (index_is env mix M G whole slot means.0) last)
