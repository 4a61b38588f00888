-- Where a caller's section word stays from one event up to another, its section stays open there, and begins with the same table. So the
-- tables to which it comes stay.
use Rattle.std.proofs.Common.{◌≡◌, ℕ, suc, ◌+◌, ◌%◌, ◌<◌, ◌≤◌, Bool, true, false, List, Option, Some, None, refl, sym, ◌∙◌, ap, subst, inl, inr, arith}
use Rattle.std.proofs.lemmas.Bool.{cases_lt}
use Rattle.rht_words.specs.declared.env.Env.{Env}
use Rattle.rht_words.specs.declared.geometry.Geometry.{Geometry}
use Rattle.rht_words.specs.Places.{Section, word_at}
use Rattle.rht_words.proofs.Memory.{Memory}
use Rattle.rht_core.specs.declared.event.Event.{Event}
use Rattle.rht_core.specs.Jobs.{Job, job_of}
use Rattle.rht_core.specs.Runs.{Core, World, local_of, world_step, IsAdmittedEvent}
use Rattle.rht_core.proofs.Events.Invariants.{Inv, Knows, kept}
use Rattle.rht_core.proofs.Events.KeptAtEvents.{ghosts_kept}
use Rattle.rht_core.proofs.Events.RangesInRuns.{AllIn}
use Rattle.rht_core.proofs.Events.SectionsInRuns.{AreRight, odd_by, in_section, event_right}
use Rattle.rht_ghost.proofs.Theory.Frames.{still}
use Rattle.rht_ghost.proofs.Theory.Ghosts.{Ghost, IsSince}
use Rattle.rht_ghost.proofs.Theory.Knowledge.{ReadsFrom, reads-turned}
use Rattle.rht_ghost.proofs.Theory.Reliance.{TablesStay}
use Rattle.rht_ghost.proofs.Theory.Steps.{mem, SectionTurns, section_turns}
use Rattle.rht_ghost.proofs.Theory.Wholes.{IsTurned, Whole}

-- ---- the words before each event

module _ (g : Geometry) (words_at : ℕ → List ℕ) (c : ℕ) where
  -- the caller's section word before the event with this number
  abbrev pub section_at : ℕ → ℕ
  section_at k = word_at g (words_at k) (Section c)

  -- from this event up to that one it stays
  pub record IsUnturned (from upto : ℕ) : Type 0 where
    pub later : from ≤ upto
    pub same : (k : ℕ) → from ≤ k → k ≤ upto → section_at k ≡ section_at from

  pub unturned-now : (from : ℕ) → IsUnturned from from
  unturned-now from = record { later = omega arith; same = λ k low high. ap section_at (omega (arith, low, high)) }

  pub unturned-next : (from upto : ℕ) → IsUnturned from upto → section_at (upto + 1) ≡ section_at upto → IsUnturned from (upto + 1)
  unturned-next from upto calm same =
      let later = calm.later in
      record {
        later = omega (arith, later);
        same = λ k low high. elim (cases_lt upto k) [
          | inl more ↦
              let last : k ≡ upto + 1 = omega (arith, more, high) in
              ap section_at last ∙ same ∙ calm.same upto later (omega arith)
          | inr least ↦ calm.same k low least
        ];
      }

  -- so it does up to any event between, and from there on
  pub unturned-first : (from upto last : ℕ) → IsUnturned from last → from ≤ upto → upto ≤ last → IsUnturned from upto
  unturned-first from upto last calm later within = record {
    later = later;
    same = λ k low high. calm.same k low (omega (arith, high, within));
  }

  pub unturned-last : (first from upto : ℕ) → IsUnturned first upto → first ≤ from → from ≤ upto → IsUnturned from upto
  unturned-last first from upto calm later within = record {
    later = within;
    same = λ k low high. calm.same k (omega (arith, later, low)) high ∙ sym (calm.same from later within);
  }

  pub unturned-on : (from between upto : ℕ) → IsUnturned from between → IsUnturned between upto → IsUnturned from upto
  unturned-on from between upto one other =
      let first = one.later in
      let last = other.later in
      record {
        later = omega (arith, first, last);
        same = λ k low high. elim (cases_lt between k) [
          | inl more ↦ other.same k (omega (arith, more)) high ∙ one.same between first (omega arith)
          | inr least ↦ one.same k low least
        ];
      }

-- the same words up to an event say the same
pub unturned-same : (g : Geometry) (one other : ℕ → List ℕ) (c n : ℕ) → ((i : ℕ) → i ≤ n → one i ≡ other i) → (from upto : ℕ) → upto ≤ n
    → IsUnturned g one c from upto → IsUnturned g other c from upto
unturned-same g one other c n same from upto within calm =
    let later = calm.later in
    let of : (k : ℕ) → k ≤ n → section_at g one c k ≡ section_at g other c k = λ k low. ap (λ words. word_at g words (Section c)) (same k low) in
    record {
      later = later;
      same = λ k low high. sym (of k (omega (arith, high, within))) ∙ calm.same k low high ∙ of from (omega (arith, later, within));
    }

-- ---- events

-- a caller knows whether it is in its section
pub knows-reads : (env : Env) (mix : ℕ → ℕ → ℕ → ℕ) (c : ℕ) (job : Option Job) (M : Memory) (G : Ghost) → Knows env mix c job M G
    → ReadsFrom (in_section job) (G.from c) G.current
knows-reads env mix c None M G knows = knows.only.reads
knows-reads env mix c (Some job) M G knows = knows.knowing.only.reads

module _ (env : Env) (mix : ℕ → ℕ → ℕ → ℕ) (L : Type 0) where
  -- what an event leaves of tables, and of sections
  pub record EventLeaves (G G' : Ghost) : Type 0 where
    pub stay : TablesStay env mix G G'
    pub turned : (c : ℕ) → SectionTurns env mix c G G'

  all_left : (M : Memory) (G : Ghost) → Whole env mix M G → EventLeaves G G
  all_left M G whole = record {
    stay = ((still env mix 0 M G whole).others 1 (λ e. absurd (omega (arith, e)))).tables;
    turned = λ c. inl refl;
  }

  pub event_leaves : (w : World L) (G : Ghost) (event : Event) (all : AllIn L mix env w.core) (inv : Inv env mix L w.core G)
      → EventLeaves G (kept env mix L w.core G event all inv).ghost
  event_leaves w G event all inv =
      ghosts_kept L mix env w (EventLeaves G) G all inv (all_left (mem env mix w.core.words) G inv.whole)
      (λ c op of. record {
        stay = (of.step.made.others (suc c) (λ e. absurd (omega (arith, e)))).tables;
        turned = λ k. section_turns env mix c k of.step.move (mem env mix w.core.words) G of.step.ready;
      })
      event

  -- a section is open exactly while its word is odd
  module _ (core : Core L) (G : Ghost) (inv : Inv env mix L core G) (right : AreRight env mix L core) (c : ℕ) (low : c < 16) where
    abbrev inside : Bool
    inside = in_section (job_of (local_of core c).doing)

    reads : ReadsFrom inside (G.from c) G.current
    reads = knows-reads env mix c (job_of (local_of core c).doing) (mem env mix core.words) G (inv.each c)

    -- an odd word is that of an open one
    pub open_odd : word_at env.geometry core.words (Section c) % 2 ≡ 1 → ReadsFrom true (G.from c) G.current
    open_odd odd = go (G.from c) (inv.whole.sections.words c low) reads
      where
        go : (from : Option ℕ) → IsTurned env mix from (word_at env.geometry core.words (Section c)) → ReadsFrom inside from G.current
            → ReadsFrom true from G.current
        go None even reads = absurd (omega (arith, even, odd))
        go (Some first) turned reads = reads-turned inside true (Some first) G.current tt reads

    pub since_odd : (τ : ℕ) → IsSince (G.from c) τ → word_at env.geometry core.words (Section c) % 2 ≡ 1
    since_odd τ since = go (G.from c) (inv.whole.sections.words c low) since
      where
        go : (from : Option ℕ) → IsTurned env mix from (word_at env.geometry core.words (Section c)) → IsSince from τ
            → word_at env.geometry core.words (Section c) % 2 ≡ 1
        go None turned since = absurd since
        go (Some first) turned since = turned

  -- ---- a section word that an event leaves

  module _ (w : World L) (G : Ghost) (event : Event) (may : IsAdmittedEvent event) (all : AllIn L mix env w.core)
      (inv : Inv env mix L w.core G) (right : AreRight env mix L w.core) where
    abbrev core' : Core L
    core' = (world_step mix w event).core

    abbrev G' : Ghost
    G' = (kept env mix L w.core G event all inv).ghost

    pub right_then : AreRight env mix L core'
    right_then = event_right env mix L w.core event (record { ghost = G; inv = inv; all = all })

    -- an open one begins with the table with which it began
    pub from_stays : (c : ℕ) → c < 16 → word_at env.geometry w.core.words (Section c) % 2 ≡ 1
        → word_at env.geometry core'.words (Section c) ≡ word_at env.geometry w.core.words (Section c) → G'.from c ≡ G.from c
    from_stays c low odd same = elim ((event_leaves w G event all inv).turned c) [
      | inl stays ↦ stays
      | inr (inl opened) ↦
          absurd (subst (λ from. ReadsFrom true from G.current) opened.0 (open_odd w.core G inv right c low odd))
      | inr (inr closed) ↦
          absurd (subst (λ from. ReadsFrom true from G'.current) closed
          (open_odd core' G' (kept env mix L w.core G event all inv).inv right_then c low (ap (λ word. word % 2) same ∙ odd)))
    ]
