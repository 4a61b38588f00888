-- A caller opens its read section, and closes it: an addition to its section word, of which nothing else in the whole speaks, nor
-- what callers know. What a caller knows of itself changes with it: to which tables it may come.
use Rattle.std.proofs.Common.{◌≡◌, ◌≢◌, ℕ, ◌<◌, ◌≤◌, Option, Some, refl, sym, ◌∙◌, subst, arith}
use Rattle.rht_words.specs.declared.env.Env.{Env}
use Rattle.rht_words.specs.Places.{Section, Node, Slot, LoadedSection, PortCount}
use Rattle.rht_words.proofs.Memory.{Memory, IsWrite}
use Rattle.rht_ghost.proofs.Theory.Ghosts.{put-all, Ghost, IsSince, with_from, table_at}
use Rattle.rht_ghost.proofs.Theory.Wholes.{IsTurned, SectionsRight, Whole}
use Rattle.rht_ghost.proofs.Theory.Reliance.{Rely}
use Rattle.rht_ghost.proofs.Theory.SectionFrames.{open-within, retired-before, SectionsStay}
use Rattle.rht_ghost.proofs.Theory.Frames.{Made, SameTables, UsedStay, Rely-same, chains_stay, used_stay, stale_write, same_owners}
use Rattle.rht_ghost.proofs.Theory.WholeFrames.{SameChains, Whole-around, locks_stay, arena_stays}

module _ (env : Env) (mix : ℕ → ℕ → ℕ → ℕ) (d v : ℕ) (from : Option ℕ) (M M' : Memory) (G : Ghost) where
  -- What is known where the section word of a caller is turned: that it says then whether the section is open, which comes to no
  -- table before the current one, but to those of the buckets that the caller has locked.
  pub record IsTurn : Type 0 where
    pub caller : d < env.geometry.callers
    pub turned : IsTurned env mix from v
    pub later : (τ : ℕ) → IsSince from τ → G.current ≤ τ
    pub locked : (j : ℕ) → (G.bucket j).holder ≡ Some d → IsSince from (table_at G j)

  module _ (whole : Whole env mix M G) (write : IsWrite env.geometry M M' (Section d) v) (is : IsTurn) where
    abbrev G' : Ghost
    G' = with_from G d from

    same : SameTables env mix G G'
    same = record { table = refl; attached = refl; current = refl; slot = refl; page = refl; worker = refl }

    chains : SameChains env mix G G'
    chains = record {
      tables = same;
      nodes = λ j. refl;
      plain = λ j. refl;
      out = λ j. refl;
      armed = λ j c is. (is, refl);
      kept = λ i c k entry holds is out. refl;
      used = λ n used. refl;
      used_before = λ n used. refl;
      bound = λ port. refl;
    }

    words : UsedStay env mix M G M'
    words = used_stay env mix M M' G (Section d) v whole write (λ n w e. cc)

    -- no other caller's word is written
    other_word : (c τ : ℕ) → c ≢ d → IsSince (G.from c) τ → M' (Section c) ≡ M (Section c)
    other_word c τ ne since =
        write.others (Section c) (open-within env mix M G whole.sections c τ since) (λ e. ne (cc))

    sections_right : SectionsRight env mix M' G'
    sections_right = record {
      words = put-all (λ c f. c < 16 → IsTurned env mix f (M' (Section c))) G.from d from
          (λ l. subst (IsTurned env mix from) (sym write.same) is.turned)
          (λ c ne l. subst (IsTurned env mix (G.from c)) (sym (write.others (Section c) l (λ e. ne (cc))))
          (whole.sections.words c l));
      callers = λ c low. put-all (λ k f. f ≡ Some low → k < env.geometry.callers) G.from d from (λ e. is.caller)
          (λ k ne. whole.sections.callers k low) c;
      kept = λ s τ c l retired. put-all (λ k f. IsSince f τ → M' (Slot s (LoadedSection k)) ≡ M' (Section k)) G.from d from
          (λ since.
          let before = retired-before env mix M G whole.tables s τ retired in
          let later = is.later τ since in
          absurd (omega (arith, before, later)))
          (λ k ne since.
          let within = open-within env mix M G whole.sections k τ since in
          write.others (Slot s (LoadedSection k)) (l, within) (λ e. cc) ∙ whole.sections.kept s τ k l retired since
          ∙ sym (other_word k τ ne since)) c;
      locked = λ j. put-all (λ k f. (G.bucket j).holder ≡ Some k → IsSince f (table_at G j)) G.from d from (is.locked j)
          (λ k ne. whole.sections.locked j k);
    }

    -- who does the work sees no section come to a table before the current one
    none_comes : SectionsStay env mix M G M' G'
    none_comes c τ before =
        put-all (λ k f. IsSince f τ → IsSince (G.from k) τ × (M' (Section k) ≡ M (Section k))) G.from d from
        (λ since. let later = is.later τ since in absurd (omega (arith, before, later)))
        (λ k ne since. (since, other_word k τ ne since)) c

    -- others can rely on what they know, and so can the caller itself
    pub turn_rely : (c : ℕ) → Rely env mix c M G M' G'
    turn_rely c =
        Rely-same env mix c M M' G G' whole same refl refl refl refl words
        (chains_stay env mix c M M' G (Section d) v whole write (λ n used e. cc))
        (λ s w l is. write.others (Slot s w) (l, is) (λ e. cc)) none_comes
        (λ n w has. write.others (Node n w) has.among (λ e. cc))

    -- and the whole holds again
    pub turn_section : Made env mix d M G M' G'
    turn_section = record {
      whole = Whole-around env mix M M' G G' (Section d) v whole write
          (record { current = λ e. cc; slots = λ s w has e. cc }) (λ e. cc) (λ s e. cc) (λ i e. cc) (λ j entry e. cc) chains
          words (λ j blank. refl) sections_right (locks_stay env mix M M' G (Section d) v whole write (λ j e. cc))
          (arena_stays env mix M M' G (Section d) v whole write G' refl (λ i e. cc))
          (write.others PortCount tt (λ e. cc) ∙ whole.counted);
      others = λ c ne. turn_rely c;
      stale = stale_write env mix M M' G G' (Section d) v write (same_owners env mix G G' refl) (λ n u f e. cc)
          (λ n u f e. cc);
    }
