-- The invariant holds at opening, and so after each event of each run whose events are admitted.
use Rattle.std.proofs.Common.{◌≡◌, ℕ, ◌+◌, ◌*◌, ◌/◌, ◌%◌, ◌<◌, ◌≤◌, List, [], replicate, true, false, refl, sym, ap, ◌∙◌, subst, inl, inr, arith, ◌≢◌, ◌⊎◌, ◌↔◌, ◌%◌, max, cond, nat_lt}
use Rattle.std.specs.Prelude.{Some, None}
use Rattle.std.specs.Int.{bit_at}
use Rattle.std.proofs.lemmas.Bool.{cases_eq, cases_lt, lt-ltb, le-ltb, ne_eqb}
use Rattle.std.proofs.lemmas.List.{length-replicate}
use Rattle.rht_words.specs.declared.env.Env.{Env}
use Rattle.rht_words.specs.Places.{Address, CurrentTable, PortCount, Section, Slot, ShapeWord, SeedWord, FutureWord, SerialWord, NodeMap, PageWord, IsAddress, WorkLock, StateWord, PageMap}
use Rattle.rht_words.specs.declared.shape.Shape.{Shape}
use Rattle.rht_words.specs.Shapes.{size_of, unpacked}
use Rattle.rht_words.specs.Opening.{opening_word, opening_words, first_pages, first_shape}
use Rattle.rht_words.proofs.OpeningLaws.{stand_in_place, opens_flat, opens_free}
use Rattle.rht_words.proofs.Members.{count_below-none}
use Rattle.rht_words.proofs.EachElement.{each_replicate}
use Rattle.rht_core.specs.declared.event.Event.{Event}
use Rattle.rht_callers.specs.declared.local.Local.{Local}
use Rattle.rht_callers.specs.Locals.{fresh}
use Rattle.rht_core.specs.Runs.{Core, World, local_in, opening, opening_core, run_of, IsAdmitted}
use Rattle.rht_core.proofs.Events.Worlds.{run_keeps_admitted}
use Rattle.rht_core.proofs.Events.RangesInRuns.{AllIn, opens-all, event-all}
use Rattle.rht_ghost.proofs.Theory.Ghosts.{Free, is_taken_by, Ghost, Table, PageOf, SlotFree, Live, Back, is_first, has_table, table_of_slot, slot_holder, put, put-same, put-other, blank_bucket, PageOwner, PageFree, PageHeld, state_word, put-all, Row, is_entry, is_entry_of}
use Rattle.rht_ghost.proofs.Theory.Wholes.{Whole, TableRight, PagesRight, IsThere, live-there}
use Rattle.rht_ghost.proofs.Theory.Steps.{mem}
use Rattle.rht_core.specs.Jobs.{job_of}
use Rattle.rht_core.proofs.Events.SectionMoves.{odd_by, is_inside}
use Rattle.rht_core.proofs.Events.Invariants.{Inv, kept}

-- the first table, which stands in slot 0 and has its buckets in a row from the first page on
abbrev pub first_table : Env → Table
first_table env = record {
  slot = 0;
  shape = opening_word env (Slot 0 ShapeWord);
  seed = env.config.seed;
  serial = 0;
  place = λ b. Some b;
  part = λ p. Row;
  entry = λ j. None;
}

-- the first pages are the first table's, and nobody has the others
abbrev pub opening_page : Env → ℕ → PageOwner
opening_page env p = cond (nat_lt p (first_pages env)) (PageOf 0) PageFree

-- the ghost at opening: the first table is there, and nothing else is anybody's
abbrev pub opening_ghost : Env → Ghost
opening_ghost env = record {
  table = λ τ. first_table env;
  attached = 1;
  current = 0;
  bucket = λ j. blank_bucket;
  node = λ n. Free;
  bound = λ port. [];
  page = opening_page env;
  slot = put (λ s. SlotFree) 0 (Live 0);
  worker = None;
  raised = λ c. false;
  from = λ c. None;
}

first_page : (env : Env) (p : ℕ) → p < first_pages env → opening_page env p ≡ PageOf 0
first_page env p l = ap (λ t. cond t (PageOf 0) PageFree) (lt-ltb p (first_pages env) l)

other_page : (env : Env) (p : ℕ) → first_pages env ≤ p → opening_page env p ≡ PageFree
other_page env p l = ap (λ t. cond t (PageOf 0) PageFree) (le-ltb p (first_pages env) l)

module _ (env : Env) (mix : ℕ → ℕ → ℕ → ℕ) where
  opened : (a : Address) → IsAddress env.geometry a → mem env mix (opening_words env) a ≡ opening_word env a
  opened a l = (stand_in_place env).each a l

  -- slot 0 has the first table, and no other slot has any
  slots_at_opening : (s : ℕ) → has_table ((opening_ghost env).slot s) ≡ true → s ≡ 0
  slots_at_opening s has = elim (cases_eq s 0) [
    | inl zero ↦ zero
    | inr other ↦ absurd (let free : false ≡ true = subst (λ o. has_table o ≡ true)
        (put-other (λ s. SlotFree) 0 (Live 0) s other) has in cc)
  ]

  -- a page that a table has is one of the first ones, and the first table's
  page_below : (p τ : ℕ) → opening_page env p ≡ PageOf τ → (p < first_pages env) × (0 ≡ τ)
  page_below p τ is = elim (cases_lt p (first_pages env)) [
    | inl below ↦
        let same : ◌≡◌ {A = PageOwner} (PageOf 0) (PageOf τ) = sym (first_page env p below) ∙ is in (below, cc)
    | inr past ↦ let same : ◌≡◌ {A = PageOwner} PageFree (PageOf τ) = sym (other_page env p past) ∙ is in absurd (cc)
  ]

  -- no word is an entry
  no_entry : (j : ℕ) → is_entry (opening_ghost env) j ≡ true → ⊥
  no_entry j = go (opening_page env (j / 64))
    where
      go : (owner : PageOwner) → is_entry_of (opening_ghost env).table owner (j / 64) ≡ true → ⊥
      go PageFree is = cc
      go (PageHeld c) is = cc
      go (PageOf τ) is = cc

  -- it is the only table
  opening_live : (τ : ℕ) → τ < 1 → (opening_ghost env).slot ((opening_ghost env).table τ).slot ≡ Live τ
  opening_live τ first =
      let zero : τ ≡ 0 = omega arith in
      put-same (λ s. SlotFree) 0 (Live 0) ∙ ap Live (sym zero)

  only_there : (τ : ℕ) → IsThere (opening_ghost env) τ → τ ≡ 0
  only_there τ there = sym there.index ∙ ap table_of_slot (put-same (λ s. SlotFree) 0 (Live 0))

  opening_table : (τ : ℕ) → IsThere (opening_ghost env) τ
      → TableRight env mix (mem env mix (opening_words env)) (opening_ghost env) τ
  opening_table τ there =
      let zero : τ ≡ 0 = only_there τ there in
      let opens = opens_flat env in
      rw zero (record {
        slot_in = omega arith;
        shape_is = opened (Slot 0 ShapeWord) (omega arith, tt);
        seed_is = opened (Slot 0 SeedWord) (omega arith, tt);
        serial_is = opened (Slot 0 SerialWord) (omega arith, tt);
        seeded = let seed = env.settled.seed in omega (arith, seed);
        future_is = opened (Slot 0 FutureWord) (omega arith, tt);
        placed = inl (record {
          flat = subst (λ (s : Shape). s.nest ≡ 0) (sym opens.shape) opens.flat;
          fits =
              subst (λ (s : Shape). 64 * s.page + size_of s ≤ 64 * env.geometry.pages) (sym opens.shape)
              (subst (λ size. 0 + size ≤ 64 * env.geometry.pages) (sym opens.size)
              (omega (arith, opens.holds, opens.fits)));
          places = λ b l. subst (λ (s : Shape). Some b ≡ Some (64 * s.page + b)) (sym opens.shape)
              (ap Some (omega arith));
          pages = λ b l. first_page env ((64 * (unpacked (first_table env).shape).page + b) / 64)
              (subst (λ (s : Shape). (64 * s.page + b) / 64 < first_pages env) (sym opens.shape)
              (first_within (subst (λ (s : Shape). b < size_of s) opens.shape l)));
          run = λ p is.
              let below = page_below p 0 is in
              record {
                from = subst (λ (s : Shape). s.page ≤ p) (sym opens.shape) (omega arith);
                below = subst (λ (s : Shape). p < s.page + max 1 (size_of s / 64)) (sym opens.shape)
                    (subst (λ size. p < 0 + max 1 (size / 64)) (sym opens.size) (omega (arith, below.0)));
              };
          rows = λ p is. refl;
        });
      })
    where
      first_within : {b : ℕ} → b < size_of (first_shape env) → (64 * 0 + b) / 64 < first_pages env
      first_within {b} l = let opens = opens_flat env in omega (arith, opens.size, opens.holds, l)

  -- the state words of slots
  opening_states : (s : ℕ) → s < 8
      → mem env mix (opening_words env) (Slot s StateWord) ≡ state_word ((opening_ghost env).slot s)
  opening_states s l = opened (Slot s StateWord) (l, tt) ∙ go (cases_eq s 0)
    where
      go : (s ≡ 0) ⊎ (s ≢ 0) → opening_word env (Slot s StateWord) ≡ state_word ((opening_ghost env).slot s)
      go (inl zero) = rw zero (sym (ap state_word (put-same (λ s. SlotFree) 0 (Live 0))))
      go (inr other) = ap (λ t. cond t 1 0) (ne_eqb s 0 other)
          ∙ sym (ap state_word (put-other (λ s. SlotFree) 0 (Live 0) s other))

  -- the pages of the first table
  opening_pages : PagesRight env mix (mem env mix (opening_words env)) (opening_ghost env)
  opening_pages = record {
    bits = λ p l. rw (opened (PageMap (p / 64)) (omega arith)) (page_bit p l);
    page_of = λ p τ is. let zero = (page_below p τ is).1 in omega (arith, zero);
    there = λ p τ is.
        let zero = (page_below p τ is).1 in
        live-there env mix (opening_ghost env) τ (opening_live τ (omega (arith, zero)));
    blank = λ j is. refl;
  }
    where
      page_bit : (p : ℕ) → p < env.geometry.pages
          → (bit_at (opening_word env (PageMap (p / 64))) (p % 64) ≡ 1) ↔ (opening_page env p ≡ PageFree)
      page_bit p l =
          let free = (opens_free env).pages p in (
            (λ set. other_page env p (free.0 set).0),
            (λ is. elim (cases_lt p (first_pages env)) [
              | inl below ↦
                  let same : ◌≡◌ {A = PageOwner} (PageOf 0) PageFree = sym (first_page env p below) ∙ is in
                  absurd (cc)
              | inr past ↦ free.1 (past, l)
            ]),
          )

  -- no slot is given back
  not_back : (s c : ℕ) → (opening_ghost env).slot s ≡ Back c → (opening_ghost env).worker ≡ Some c
  not_back s c = put-all (λ s o. o ≡ Back c → (opening_ghost env).worker ≡ Some c) (λ s. SlotFree) 0 (Live 0) (λ e. absurd (cc))
      (λ s ne e. absurd (cc)) s

  pub opening_whole : Whole env mix (mem env mix (opening_words env)) (opening_ghost env)
  opening_whole = record {
    slots = record {
      states = opening_states;
      worker_is = opened WorkLock tt;
      retired = λ idle s τ live l. absurd (omega (arith, l));
      back = not_back;
    };
    sections = record {
      words = λ c low. ap (λ w. w % 2) (opened (Section c) low);
      callers = λ c low is. absurd (cc);
      kept = λ s τ c low is since. absurd since;
      locked = λ j c is. absurd (cc);
    };
    pages = opening_pages;
    moving = record { armed = λ j c is. absurd (cc); out = λ j entry is. absurd (cc) };
    tables = record {
      current_in = omega arith;
      current_is = opened CurrentTable tt;
      force = λ τ from l. opening_live τ l;
      each = opening_table;
      slots = λ s has. rw (slots_at_opening s has) (record {
        attached =
            rw (put-same (λ s. SlotFree) 0 (Live 0)) (omega arith);
        slot = refl;
      });
    };
    buckets = λ j l plain. record {
      locked = record { word_is = opened (PageWord j) l; even = refl };
      chained = record { segment = refl; distinct = tt };
    };
    entries = λ j l is. absurd (no_entry j is);
    owned = record {
      member = λ j n i. absurd i;
      first_at = λ n j f. absurd (cc);
      leaving_at = λ n j f. absurd (cc);
      behind_in = λ n port f. absurd (cc);
      bound_to = λ port n behind b. absurd (cc);
      single = λ one port n behind b. absurd (cc);
      small = λ port n behind b. absurd (cc);
    };
    arena = record {
      built = λ n. tt;
      bits = λ n l. let free = (opens_free env).nodes n in
          rw (opened (NodeMap (n / 64)) (omega arith)) ((λ set. refl), (λ e. free.1 l));
    };
    counted = opened PortCount tt ∙ sym (omega (
      arith,
      count_below-none (λ n. is_first Free) env.geometry.nodes (λ n l. refl),
      count_below-none (λ c. false) env.geometry.callers (λ c l. refl),
    ));
  }

  -- nobody has a slot or a page
  no_slot_held : (s c : ℕ) → slot_holder ((opening_ghost env).slot s) ≡ Some c → ⊥
  no_slot_held s c = put-all (λ s o. slot_holder o ≡ Some c → ⊥) (λ s. SlotFree) 0 (Live 0) (λ e. absurd (cc))
      (λ s ne e. absurd (cc)) s

  no_page_held : (p c : ℕ) → opening_page env p ≡ PageHeld c → ⊥
  no_page_held p c held = elim (cases_lt p (first_pages env)) [
    | inl below ↦
        let same : ◌≡◌ {A = PageOwner} (PageOf 0) (PageHeld c) = sym (first_page env p below) ∙ held in absurd (cc)
    | inr past ↦
        let same : ◌≡◌ {A = PageOwner} PageFree (PageHeld c) = sym (other_page env p past) ∙ held in absurd (cc)
  ]

  module _ (L : Type 0) where
    pub idle_at_opening : (c : ℕ) → ◌≡◌ {A = Local L}
        (local_in env (replicate env.geometry.callers (fresh env)) c) (fresh env)
    idle_at_opening c = each_replicate (λ (local : Local L). local ≡ fresh env) env.geometry.callers c
        (fresh env) refl

    pub opening_inv : Inv env mix L (opening_core env) (opening_ghost env)
    opening_inv = record {
      same_env = refl;
      whole = opening_whole;
      each = λ c. rw (idle_at_opening c) (record {
        only = record {
          nodes = λ n held. absurd (cc);
          locks = λ j holds. absurd (cc);
          raising = refl;
          slots = λ s held. absurd (no_slot_held s c held);
          pages_in = λ p held. absurd (no_page_held p c held);
          works = λ works. absurd (cc);
          reads = tt;
        };
        means = record { node = tt; table = tt; bucket = tt; making = tt; work = tt };
      });
      batches = λ c. rw (idle_at_opening c) (record {
        out = λ n there. absurd there;
        sound = record { among = tt; distinct = tt; callers = length-replicate env.geometry.callers 0 };
        apart = λ n taken. absurd (cc);
        many = count_below-none (λ n. is_taken_by c Free) env.geometry.nodes (λ n l. refl);
        answered = tt;
      });
      right = λ c low.
          ap (λ w. w % 2) ((stand_in_place env).each (Section c) low)
          ∙ sym (ap (λ (local : Local L). odd_by (is_inside env mix local)) (idle_at_opening c));
      holds = λ c. rw (idle_at_opening c) tt;
      rests = λ c. rw (idle_at_opening c) refl;
    }

    -- the invariant, with some ghost, and all that is in range
    pub record HasInv (core : Core L) : Type 0 where
      pub ghost : Ghost
      pub inv : Inv env mix L core ghost
      pub all : AllIn L mix env core

    pub has_inv : (events : List Event) → IsAdmitted events
        → HasInv (run_of {M = L} mix env events).core
    has_inv events admitted =
        run_keeps_admitted L mix (λ (w : World L). HasInv w.core)
        (λ w event may has.
        let k = kept env mix L w.core has.ghost event has.all has.inv in
        record { ghost = k.ghost; inv = k.inv; all = event-all L mix env w event may has.all })
        (opening env) events admitted
        (record { ghost = opening_ghost env; inv = opening_inv; all = opens-all L mix env })
