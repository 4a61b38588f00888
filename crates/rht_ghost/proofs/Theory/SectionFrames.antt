-- What a step leaves of read sections: who has one open, the words that say so, those that are kept in the slots of retired
-- tables, and that the section of a caller that has locked a bucket comes to the bucket's table.
use Rattle.std.proofs.Common.{◌≡◌, ◌≢◌, ℕ, ◌<◌, Option, Some, None, true, refl, sym, ◌∙◌, ap, subst, inl, inr, arith}
use Rattle.std.proofs.lemmas.Bool.{cases_lt}
use Rattle.rht_words.specs.declared.env.Env.{Env}
use Rattle.rht_words.specs.Places.{Address, Section, Slot, LoadedSection}
use Rattle.rht_words.proofs.Memory.{Memory, IsWrite}
use Rattle.rht_ghost.proofs.Theory.Ghosts.{SlotOwner, Live, Retiring, Retired, IsSince, Ghost, has_table, table_of_slot, index_at, table_at}
use Rattle.rht_ghost.proofs.Theory.Wholes.{TablesRight, IsTurned, SectionsRight, Whole}

-- the address is no section word, and no word of a slot that keeps one
pub record IsNoSectionWord (a : Address) : Type 0 where
  pub own : (c : ℕ) → Section c ≢ a
  pub kept : (s c : ℕ) → Slot s (LoadedSection c) ≢ a

-- an owner that is being retired, or is retired, isn't in use
retiring-not_live : (owner : SlotOwner) (τ σ : ℕ) → owner ≡ Retiring τ → owner ≢ Live σ
retiring-not_live owner τ σ is live = let z : Retiring τ ≡ Live σ = sym is ∙ live in cc

retired-not_live : (owner : SlotOwner) (τ σ : ℕ) → owner ≡ Retired τ → owner ≢ Live σ
retired-not_live owner τ σ is live = let z : Retired τ ≡ Live σ = sym is ∙ live in cc

module _ (env : Env) (mix : ℕ → ℕ → ℕ → ℕ) where
  -- ---- which tables are before the current one

  -- those that aren't in use
  pub not_live-before : (M : Memory) (G : Ghost) → TablesRight env mix M G → (s : ℕ) → has_table (G.slot s) ≡ true
      → G.slot s ≢ Live (index_at G s) → index_at G s < G.current
  not_live-before M G tables s has other = elim (cases_lt (index_at G s) G.current) [
    | inl l ↦ l
    | inr from ↦
        let of = tables.slots s has in
        absurd (other (ap G.slot (sym of.slot) ∙ tables.force (index_at G s) from of.attached))
  ]

  -- so those that are being retired, and those that are retired
  pub retiring-before : (M : Memory) (G : Ghost) → TablesRight env mix M G → (s τ : ℕ) → G.slot s ≡ Retiring τ → τ < G.current
  retiring-before M G tables s τ is =
      let index : index_at G s ≡ τ = ap table_of_slot is in
      let before = not_live-before M G tables s (ap has_table is) (retiring-not_live (G.slot s) τ (index_at G s) is) in
      omega (arith, index, before)

  pub retired-before : (M : Memory) (G : Ghost) → TablesRight env mix M G → (s τ : ℕ) → G.slot s ≡ Retired τ → τ < G.current
  retired-before M G tables s τ is =
      let index : index_at G s ≡ τ = ap table_of_slot is in
      let before = not_live-before M G tables s (ap has_table is) (retired-not_live (G.slot s) τ (index_at G s) is) in
      omega (arith, index, before)

  -- ---- whose section is open

  -- a caller whose section comes to some table is one of the callers
  pub open-among : (M : Memory) (G : Ghost) → SectionsRight env mix M G → (c τ : ℕ) → IsSince (G.from c) τ
      → c < env.geometry.callers
  open-among M G right c τ = go (G.from c) refl
    where
      go : (from : Option ℕ) → G.from c ≡ from → IsSince from τ → c < env.geometry.callers
      go None is since = absurd since
      go (Some low) is since = right.callers c low is

  -- so it has a section word
  pub open-within : (M : Memory) (G : Ghost) → SectionsRight env mix M G → (c τ : ℕ) → IsSince (G.from c) τ → c < 16
  open-within M G right c τ since =
      let few = env.geometry.within.callers_within in
      let below = open-among M G right c τ since in
      omega (arith, below, few.1)

  -- What a caller that does the work can count on of sections: one that comes to a table before the current one did so before,
  -- and its word is the same.
  abbrev pub SectionsStay : Memory → Ghost → Memory → Ghost → Type 0
  SectionsStay M G M' G' = (d τ : ℕ) → τ < G.current → IsSince (G'.from d) τ
      → IsSince (G.from d) τ × (M' (Section d) ≡ M (Section d))

  -- so it is where no section is opened or closed
  pub sections_stay : (M M' : Memory) (G G' : Ghost) → Whole env mix M G → G'.from ≡ G.from
      → ((c : ℕ) → c < 16 → M' (Section c) ≡ M (Section c)) → SectionsStay M G M' G'
  sections_stay M M' G G' whole from words d τ before since =
      let was = subst (λ f. IsSince (f d) τ) from since in
      (was, words d (open-within M G whole.sections d τ was))

  -- Section words say who has one open still, where they stay, as does who has one, and the words that are kept; what is retired
  -- was so before; and the sections of those that have locked buckets come to the tables of these.
  pub SectionsRight-frame : (M M' : Memory) (G G' : Ghost) → SectionsRight env mix M G → G'.from ≡ G.from
      → ((c : ℕ) → c < 16 → M' (Section c) ≡ M (Section c))
      → ((s c : ℕ) → s < 8 → c < 16 → M' (Slot s (LoadedSection c)) ≡ M (Slot s (LoadedSection c)))
      → ((s τ : ℕ) → G'.slot s ≡ Retired τ → G.slot s ≡ Retired τ)
      → ((j c : ℕ) → (G'.bucket j).holder ≡ Some c → IsSince (G.from c) (table_at G' j))
      → SectionsRight env mix M' G'
  SectionsRight-frame M M' G G' right from own stored was_retired locked = record {
    words = λ c l. subst (IsTurned env mix (G'.from c)) (sym (own c l))
        (subst (λ f. IsTurned env mix (f c) (M (Section c))) (sym from) (right.words c l));
    callers = λ c low is. right.callers c low (ap (λ f. f c) (sym from) ∙ is);
    kept = λ s τ c l is since.
        let was = subst (λ f. IsSince (f c) τ) from since in
        let within = open-within M G right c τ was in
        stored s c l within ∙ right.kept s τ c l (was_retired s τ is) was ∙ sym (own c within);
    locked = λ j c holds. subst (λ f. IsSince (f c) (table_at G' j)) (sym from) (locked j c holds);
  }

  -- the same of a store to another word
  pub SectionsRight-write : (M M' : Memory) (G G' : Ghost) (a : Address) (v : ℕ) → IsWrite env.geometry M M' a v
      → IsNoSectionWord a → SectionsRight env mix M G → G'.from ≡ G.from
      → ((s τ : ℕ) → G'.slot s ≡ Retired τ → G.slot s ≡ Retired τ)
      → ((j c : ℕ) → (G'.bucket j).holder ≡ Some c → IsSince (G.from c) (table_at G' j))
      → SectionsRight env mix M' G'
  SectionsRight-write M M' G G' a v write apart right from was_retired locked =
      SectionsRight-frame M M' G G' right from (λ c l. write.others (Section c) l (apart.own c))
      (λ s c l m. write.others (Slot s (LoadedSection c)) (l, m) (apart.kept s c)) was_retired locked
