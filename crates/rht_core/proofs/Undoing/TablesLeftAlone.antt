-- What an operation leaves of a retired table to which no open section comes: it has its slot still, no section comes to it, and what it has of
-- pages and of entries it had before. One operation alone takes it out of its slot.
use Rattle.std.proofs.Common.{◌≡◌, ◌≢◌, ℕ, ◌<◌, Bool, true, false, Option, Some, None, refl, sym, ap, ◌∙◌, subst, inl, inr, arith}
use Rattle.std.proofs.lemmas.Bool.{cases_eq}
use Rattle.rht_words.specs.declared.env.Env.{Env}
use Rattle.rht_words.proofs.Memory.{Memory}
use Rattle.rht_ghost.proofs.Theory.Ghosts.{put, put-same, put-other, put_in, put_in-there, put_in-other, PageOwner, PageFree, PageHeld, PageOf, SlotOwner, SlotFree, SlotHeld, Live, Retiring, Retired, Back, slot_holder, is_page_for, has_bit, made_table, IsSince, IsOver, Ghost, table_at, index_at, none-some}
use Rattle.rht_ghost.proofs.Theory.Ways.{entered_table}
use Rattle.rht_ghost.proofs.Theory.Wholes.{Whole}
use Rattle.rht_ghost.proofs.Theory.SectionFrames.{retired-before}
use Rattle.rht_ghost.proofs.Theory.Departures.{is_page_of, withdrawn_table}
use Rattle.rht_ghost.proofs.Theory.Steps.{Move, ReadyFor, ghost_after, TakesSlot, GivesSlot, TakesPages, GivesPages, Attaches, Enters, Retires, Settles, Withdraws, TakesBack, Opens, Closes}

module _ (env : Env) (mix : ℕ → ℕ → ℕ → ℕ) (s τ : ℕ) where
  -- the table is left so, and has nothing else than before
  pub record IsLeftAlone (G G' : Ghost) : Type 0 where
    pub retired : G'.slot s ≡ Retired τ
    pub over : IsOver G' τ
    pub shape : (G'.table τ).shape ≡ (G.table τ).shape
    pub parts : (p : ℕ) → (G'.table τ).part p ≡ (G.table τ).part p
    pub entries : (j q : ℕ) → (G'.table τ).entry j ≡ Some q → (G.table τ).entry j ≡ Some q
    pub pages : (p : ℕ) → G'.page p ≡ PageOf τ → G.page p ≡ PageOf τ

  -- and so it is over two operations
  pub left_on : {G G' G'' : Ghost} → IsLeftAlone G G' → IsLeftAlone G' G'' → IsLeftAlone G G''
  left_on first then = record {
    retired = then.retired;
    over = then.over;
    shape = then.shape ∙ first.shape;
    parts = λ p. then.parts p ∙ first.parts p;
    entries = λ j q is. first.entries j q (then.entries j q is);
    pages = λ p is. first.pages p (then.pages p is);
  }

  pub left_now : {G : Ghost} → G.slot s ≡ Retired τ → IsOver G τ → IsLeftAlone G G
  left_now retired over = record {
    retired = retired;
    over = over;
    shape = refl;
    parts = λ p. refl;
    entries = λ j q is. is;
    pages = λ p is. is;
  }

  module _ (c : ℕ) (M : Memory) (G : Ghost) (whole : Whole env mix M G) (retired : G.slot s ≡ Retired τ) (over : IsOver G τ) where
    abbrev Left : Ghost → Type 0
    Left = IsLeftAlone G

    before : τ < G.current
    before = retired-before env mix M G whole.tables s τ retired

    -- ---- what an operation changes of slots, of pages and of sections

    -- a slot that another one has is another slot
    other_slot : (t : ℕ) (owner : SlotOwner) → (G.slot t ≢ Retired τ) → put G.slot t owner s ≡ Retired τ
    other_slot t owner unlike = put-other G.slot t owner s (λ e. unlike (ap G.slot (sym e) ∙ retired)) ∙ retired

    slots_stay : (t : ℕ) (owner : SlotOwner) (G' : Ghost) → G'.slot ≡ put G.slot t owner → G'.table ≡ G.table → G'.page ≡ G.page
        → G'.from ≡ G.from → (G.slot t ≢ Retired τ) → Left G'
    slots_stay t owner G' slots tables pages from unlike = record {
      retired = ap (λ f. f s) slots ∙ other_slot t owner unlike;
      over = λ d since. over d (subst (λ f. IsSince (f d) τ) from since);
      shape = ap (λ f. (f τ).shape) tables;
      parts = λ p. ap (λ f. (f τ).part p) tables;
      entries = λ j q is. sym (ap (λ f. (f τ).entry j) tables) ∙ is;
      pages = λ p is. sym (ap (λ f. f p) pages) ∙ is;
    }

    -- pages that are nobody's table's now are none of the table's
    given_pages : (there : ℕ → Bool) (owner : PageOwner) → (owner ≢ PageOf τ) → (p : ℕ) → put_in there owner G.page p ≡ PageOf τ
        → G.page p ≡ PageOf τ
    given_pages there owner other p = go (there p) refl
      where
        go : (t : Bool) → there p ≡ t → put_in there owner G.page p ≡ PageOf τ → G.page p ≡ PageOf τ
        go true e is = absurd (other (sym (put_in-there there owner G.page p e) ∙ is))
        go false e is = sym (put_in-other there owner G.page p e) ∙ is

    pages_given : (index bits : ℕ) (owner : PageOwner) → (owner ≢ PageOf τ)
        → Left (record G { page = put_in (has_bit index bits) owner G.page })
    pages_given index bits owner other = record {
      retired = retired;
      over = over;
      shape = refl;
      parts = λ p. refl;
      entries = λ j q is. is;
      pages = given_pages (has_bit index bits) owner other;
    }

    -- a section begins with the current table, or comes to none
    turned_over : (d : ℕ) (from : Option ℕ) → (IsSince from τ → ⊥) → IsOver (record G { from = put G.from d from }) τ
    turned_over d from none k since = elim (cases_eq k d) [
      | inl e ↦ none (subst (λ f. IsSince f τ) (ap (put G.from d from) e ∙ put-same G.from d from) since)
      | inr ne ↦ over k (subst (λ f. IsSince f τ) (put-other G.from d from k ne) since)
    ]

    turned_left : (d : ℕ) (from : Option ℕ) → (IsSince from τ → ⊥) → Left (record G { from = put G.from d from })
    turned_left d from none = record {
      retired = retired;
      over = turned_over d from none;
      shape = refl;
      parts = λ p. refl;
      entries = λ j q is. is;
      pages = λ p is. is;
    }

    -- ---- each move

    -- a table that is attached is behind this one
    attached_left : (slot shape seed serial : ℕ) → ReadyFor env mix c M G (Attaches slot shape seed serial)
        → Left (ghost_after env mix c (Attaches slot shape seed serial) G)
    attached_left slot shape seed serial ready =
        let later : τ ≢ G.attached = (λ e. let in_it = whole.tables.current_in in let l = before in absurd (omega (arith, e, l, in_it))) in
        let table = put-other G.table G.attached (made_table slot shape seed serial) τ later in
        record {
          retired = other_slot slot (Live G.attached) (λ e. let both = sym ready.made.has.mine ∙ e in cc);
          over = over;
          shape = ap (λ t. t.shape) table;
          parts = λ p. ap (λ t. t.part p) table;
          entries = λ j q is. sym (ap (λ t. t.entry j) table) ∙ is;
          pages = given_pages (is_page_for shape) (PageOf G.attached) (λ e. later (let same : G.attached ≡ τ = cc in sym same));
        }

    -- a page is entered in a table to which the caller's section comes
    entered_left : (j p : ℕ) → ReadyFor env mix c M G (Enters j p) → Left (ghost_after env mix c (Enters j p) G)
    entered_left j p ready =
        let other : τ ≢ table_at G j = (λ e. over c (subst (IsSince (G.from c)) (sym e) ready.since)) in
        let table = put-other G.table (table_at G j) (entered_table (G.table (table_at G j)) j p) τ other in
        record {
          retired = retired;
          over = over;
          shape = ap (λ t. t.shape) table;
          parts = λ i. ap (λ t. t.part i) table;
          entries = λ i q is. sym (ap (λ t. t.entry i) table) ∙ is;
          pages = λ q is. elim (cases_eq q p) [
            | inl e ↦ absurd (other (let same = sym (put-same G.page p (PageOf (table_at G j))) ∙ ap (put G.page p (PageOf (table_at G j))) (sym e) ∙ is in cc))
            | inr ne ↦ sym (put-other G.page p (PageOf (table_at G j)) q ne) ∙ is
          ];
        }

    -- an entry that is cleared leads nowhere
    withdrawn_left : (j p : ℕ) → ReadyFor env mix c M G (Withdraws j p) → Left (ghost_after env mix c (Withdraws j p) G)
    withdrawn_left j p ready = elim (cases_eq τ (table_at G j)) [
      | inr other ↦
          let table = put-other G.table (table_at G j) (withdrawn_table (G.table (table_at G j)) j) τ other in
          record {
            retired = retired;
            over = over;
            shape = ap (λ t. t.shape) table;
            parts = λ i. ap (λ t. t.part i) table;
            entries = λ i q is. sym (ap (λ t. t.entry i) table) ∙ is;
            pages = pages_then;
          }
      | inl same ↦
          let here = withdrawn_table (G.table (table_at G j)) j in
          let table : put G.table (table_at G j) here τ ≡ withdrawn_table (G.table τ) j =
          ap (put G.table (table_at G j) here) same ∙ put-same G.table (table_at G j) here
          ∙ ap (λ t. withdrawn_table (G.table t) j) (sym same) in
          record {
            retired = retired;
            over = over;
            shape = ap (λ t. t.shape) table;
            parts = λ i. ap (λ t. t.part i) table;
            entries = λ i q is. entry_was i q (sym (ap (λ t. t.entry i) table) ∙ is);
            pages = pages_then;
          }
    ]
      where
        pages_then : (q : ℕ) → put G.page p (PageHeld c) q ≡ PageOf τ → G.page q ≡ PageOf τ
        pages_then q is = elim (cases_eq q p) [
          | inl e ↦ absurd (let held = sym (put-same G.page p (PageHeld c)) ∙ ap (put G.page p (PageHeld c)) (sym e) ∙ is in cc)
          | inr ne ↦ sym (put-other G.page p (PageHeld c) q ne) ∙ is
        ]

        entry_was : (i q : ℕ) → put (G.table τ).entry j None i ≡ Some q → (G.table τ).entry i ≡ Some q
        entry_was i q is = elim (cases_eq i j) [
          | inl e ↦ absurd (none-some (ap (put (G.table τ).entry j None) e ∙ put-same (G.table τ).entry j None) is)
          | inr ne ↦ sym (put-other (G.table τ).entry j None i ne) ∙ is
        ]

    -- so each leaves it, but for the one that takes it out of its slot
    pub left_alone : (move : Move) → ReadyFor env mix c M G move → ((index bits : ℕ) → move ≡ TakesBack s index bits → ⊥)
        → Left (ghost_after env mix c move G)
    left_alone (TakesSlot t) ready spared =
        slots_stay t (SlotHeld c) (ghost_after env mix c (TakesSlot t) G) refl refl refl refl (λ e. let both = sym ready ∙ e in cc)
    left_alone (GivesSlot t) ready spared =
        slots_stay t SlotFree (ghost_after env mix c (GivesSlot t) G) refl refl refl refl
        (λ e. let both = sym ready ∙ ap slot_holder e in cc)
    left_alone (TakesPages index bits) ready spared = pages_given index bits (PageHeld c) (λ e. cc)
    left_alone (GivesPages index bits) ready spared = pages_given index bits PageFree (λ e. cc)
    left_alone (Attaches slot shape seed serial) ready spared = attached_left slot shape seed serial ready
    left_alone (Enters j p) ready spared = entered_left j p ready
    left_alone (Retires t) ready spared =
        slots_stay t (Retiring (index_at G t)) (ghost_after env mix c (Retires t) G) refl refl refl refl
        (λ e. let both = sym ready.live ∙ e in cc)
    left_alone (Settles t d word) ready spared =
        slots_stay t (Retired (index_at G t)) (ghost_after env mix c (Settles t d word) G) refl refl refl refl
        (λ e. let both = sym ready.retiring ∙ e in cc)
    left_alone (Withdraws j p) ready spared = withdrawn_left j p ready
    left_alone (TakesBack t index bits) ready spared =
        let apart : s ≢ t = (λ e. spared index bits (ap (λ x. TakesBack x index bits) (sym e))) in
        record {
          retired = put-other G.slot t (Back c) s apart ∙ retired;
          over = over;
          shape = refl;
          parts = λ p. refl;
          entries = λ j q is. is;
          pages = λ p is. taken_pages t index bits p is;
        }
      where
        taken_pages : (t index bits p : ℕ)
            → put_in (has_bit index bits) PageFree (put_in (λ q. is_page_of (index_at G t) (G.page q)) (PageHeld c) G.page) p ≡ PageOf τ
            → G.page p ≡ PageOf τ
        taken_pages t index bits p is =
            given_pages (λ q. is_page_of (index_at G t) (G.page q)) (PageHeld c) (λ e. cc) p
            (free_pages (put_in (λ q. is_page_of (index_at G t) (G.page q)) (PageHeld c) G.page) (has_bit index bits) p is)
          where
            free_pages : (page : ℕ → PageOwner) (there : ℕ → Bool) (p : ℕ) → put_in there PageFree page p ≡ PageOf τ → page p ≡ PageOf τ
            free_pages page there p = go (there p) refl
              where
                go : (t : Bool) → there p ≡ t → put_in there PageFree page p ≡ PageOf τ → page p ≡ PageOf τ
                go true e is = absurd (let both = sym (put_in-there there PageFree page p e) ∙ is in cc)
                go false e is = sym (put_in-other there PageFree page p e) ∙ is
    left_alone (Opens d) ready spared =
        turned_left d (Some G.current) (λ low. let l = before in absurd (omega (arith, low, l)))
    left_alone (Closes d) ready spared = turned_left d None (λ none. none)
    left_alone _ ready spared = record {
      retired = retired;
      over = over;
      shape = refl;
      parts = λ p. refl;
      entries = λ j q is. is;
      pages = λ p is. is;
    }
