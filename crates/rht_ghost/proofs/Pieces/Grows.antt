-- The operations of the growing of a nested table, for a caller that holds such a machine: a page is taken, and entered behind an entry
-- or, where the entry leads to one already, given back.
--
-- What the caller knows of the table says that the entry is one in use, and what follows once it leads to a page.
use Rattle.std.proofs.Common.{◌≡◌, ◌≢◌, ℕ, ◌*◌, ◌/◌, ◌%◌, ◌<◌, ◌==◌, List, [], ◌∷◌, length, Option, Some, None, cond, true, refl, sym, ◌∙◌, ap, subst, inl, inr, arith}
use Rattle.std.specs.List.{range_with_len}
use Rattle.std.proofs.lemmas.Bool.{cond_both, eqb-true, eqb-false, ne_eqb}
use Rattle.rht_words.specs.declared.env.Env.{Env}
use Rattle.rht_words.specs.declared.op.Op.{Op}
use Rattle.rht_words.specs.declared.op.Op.TheVariants.{Exchange}
use Rattle.rht_words.specs.declared.geometry.Geometry.{Geometry}
use Rattle.rht_words.specs.declared.machine.Next.{Next}
use Rattle.rht_words.specs.declared.machine.Next.TheVariants.{Go, Done}
use Rattle.rht_words.specs.Links.{entry_of}
use Rattle.rht_words.specs.Members.{In}
use Rattle.rht_words.specs.Operations.{old_of, word_after, applied}
use Rattle.rht_words.specs.Places.{PageWord, words_in}
use Rattle.rht_words.proofs.Memory.{Memory, IsWrite, is_write}
use Rattle.rht_arena.specs.TakeRun.{TakeRunModel, take_run_plan, take_run_after, pages_of_take_run}
use Rattle.rht_arena.specs.GiveRun.{GiveRunModel, give_run_new, give_run_plan, give_run_after, pages_of_give_run}
use Rattle.rht_arena.proofs.RunsStay.{take_run_stays}
use Rattle.rht_nest.specs.Grow.{GrowModel, grow_new, grow_plan, grow_plan_at, grow_after_at, page_taken, page_there, page_entered, page_given, pages_of_grow, IsGrowAtIn, IsGrowIn}
use Rattle.rht_nest.specs.declared.grow.GrowAt.{GrowAt}
use Rattle.rht_nest.specs.declared.grow.GrowAt.TheVariants as at
use Rattle.rht_ghost.proofs.Theory.Ghosts.{put, put-all, PageHeld, PageOf, IsSince, Ghost, is_entry, entry_word, table_at}
use Rattle.rht_ghost.proofs.Theory.Ways.{IsInUse, entered_table}
use Rattle.rht_ghost.proofs.Theory.Wholes.{place_at, Whole}
use Rattle.rht_ghost.proofs.Theory.Entries.{entry_in, entry_nested}
use Rattle.rht_ghost.proofs.Theory.Knowns.{Known, KnownTable, KnownMaking, MakesNothing, HasPages}
use Rattle.rht_ghost.proofs.Theory.Knowledge.{TableMeans}
use Rattle.rht_ghost.proofs.Theory.TableFrames.{Knowing-retabled}
use Rattle.rht_ghost.proofs.Theory.Readiness.{IsEntering, entered}
use Rattle.rht_ghost.proofs.Theory.Steps.{Enters, Holding, mem, SilentStep, silent, silent-map, loads}
use Rattle.rht_ghost.proofs.Moves.Entering.{words_apart, entered_kept, leads_to, enter}
use Rattle.rht_words.proofs.FilteredLists.{filter-none, false_from}
use Rattle.rht_ghost.proofs.Pieces.RunPages.{is_between, between-is, given-range}
use Rattle.rht_ghost.proofs.Pieces.Holdings.{holding, knowing}
use Rattle.rht_ghost.proofs.Pieces.PageRuns.{RunMoved, run_step, GiveMoved, give_run_step}

-- it begins with no page
pub grows_from_none : (g : Geometry) (entry : ℕ) → pages_of_grow (grow_new g entry).at ≡ []
grows_from_none g entry =
    filter-none (is_between 0 (64 * 0)) (range_with_len 0 g.pages)
    (λ x. false_from (is_between 0 (64 * 0) x) (λ is. let range = between-is 0 (64 * 0) x is in omega (arith, range.1)))

-- the pages that it has behind an operation, and what is known of them; once it has ended, none
abbrev pub pages_grown : GrowAt × Next (Option ℕ) → List ℕ
pages_grown (state, Go) = pages_of_grow state
pages_grown (state, Done answer) = []

abbrev pub known_grown : GrowAt × Next (Option ℕ) → KnownMaking
known_grown (state, Go) = HasPages (pages_of_grow state)
known_grown (state, Done answer) = MakesNothing

-- the entry with this number is in use
pub record IsOpenEntry (env : Env) (G : Ghost) (j : ℕ) : Type 0 where
  pub within : j < 64 * env.geometry.pages
  pub entry : is_entry G j ≡ true
  pub used : IsInUse (G.table (table_at G j)).shape ((G.table (table_at G j)).part (j / 64)) (j % 64)

-- and leads to this page
abbrev pub LeadsTo : Ghost → ℕ → ℕ → Type 0
LeadsTo G j page = (G.table (table_at G j)).entry j ≡ Some page

-- `near` is known of the table before, and once the entry leads to a page, `behind` that page
module _ (env : Env) (mix : ℕ → ℕ → ℕ → ℕ) (c : ℕ) (h : Holding) (known : Known) (near : KnownTable) (behind : ℕ → KnownTable) where
  -- of the table in a state
  abbrev pub table_of_grow : GrowAt → KnownTable
  table_of_grow (at.Taking take) = near
  table_of_grow (at.Entering page) = near
  table_of_grow (at.Giving there give) = behind there

  abbrev pub table_grown : GrowAt × Next (Option ℕ) → KnownTable
  table_grown (state, Go) = table_of_grow state
  table_grown (state, Done None) = near
  table_grown (state, Done (Some page)) = behind page

  abbrev pub with_table : KnownTable → Known
  with_table table = record known { table = table }

  abbrev pub holds : List ℕ → Holding
  holds pages = holding env mix c h known None pages

  abbrev pub knows_that : KnownTable → List ℕ → KnownMaking → Memory → Ghost → Type 0
  knows_that table pages making = knowing env mix c h (with_table table) None pages making

  -- more of the table
  knows_more : (table more : KnownTable) (pages : List ℕ) (making : KnownMaking) (M : Memory) (G : Ghost)
      → knows_that table pages making M G → TableMeans env mix c G more → knows_that more pages making M G
  knows_more table more pages making M G knows means = record {
    only = knows.only;
    means = record {
      node = knows.means.node;
      table = means;
      bucket = knows.means.bucket;
      making = knows.means.making;
      work = knows.means.work;
    };
  }

  module _ (words : List ℕ) (G : Ghost) (all : length words ≡ words_in env.geometry) (whole : Whole env mix (mem env mix words) G)
      (j : ℕ) (usable : TableMeans env mix c G near → IsOpenEntry env G j)
      (since : TableMeans env mix c G near → IsSince (G.from c) (table_at G j))
      (leads : (M : Memory) (G' : Ghost) (page : ℕ) → Whole env mix M G' → TableMeans env mix c G' near → LeadsTo G' j page
      → TableMeans env mix c G' (behind page)) where
    abbrev M : Memory
    M = mem env mix words

    -- what an operation of the growing leads to
    abbrev pub GrowMoved : List ℕ → Op → GrowAt × Next (Option ℕ) → Type 0
    GrowMoved pages op r = SilentStep env mix c words G op (holds pages) (holds (pages_grown r))
        (knows_that (table_grown r) (pages_grown r) (known_grown r))

    -- with no pages left it makes nothing
    ended : (table : KnownTable) (pages : List ℕ) (op : Op)
        → SilentStep env mix c words G op (holds pages) (holds []) (knows_that table [] (HasPages []))
        → SilentStep env mix c words G op (holds pages) (holds []) (knows_that table [] MakesNothing)
    ended table pages op step =
        silent-map env mix (λ M' G' now k. record {
          only = k.only;
          means = record {
            node = k.means.node;
            table = k.means.table;
            bucket = k.means.bucket;
            making = tt;
            work = k.means.work;
          };
        }) step

    -- ---- a page is taken

    taken : (pages : List ℕ) (op : Op) (r : TakeRunModel × Next (Option ℕ)) → r.0.pages ≡ 1
        → RunMoved env mix c h (with_table near) words G all whole None pages op r
        → GrowMoved pages op (page_taken r.0 r.1)
    taken pages op (take, Go) one step = step
    taken pages op (take, Done None) one step = ended near pages op step
    taken pages op (take, Done (Some page)) one step =
        subst (λ m. SilentStep env mix c words G op (holds pages) (holds (range_with_len page m))
        (knows_that near (range_with_len page m) (HasPages (range_with_len page m)))) one step

    -- ---- it is entered

    abbrev entering : ℕ → Op
    entering page = Exchange (place_at env mix j) 0 (entry_of page)

    abbrev own : ℕ → List ℕ
    own page = page ∷ []

    enter_step : (page : ℕ) → page < env.geometry.pages → old_of words (entering page) ≡ 0
        → knows_that near (own page) (HasPages (own page)) M G
        → SilentStep env mix c words G (entering page) (holds (own page)) (holds []) (knows_that (behind page) [] MakesNothing)
    enter_step page among found knows =
        let op = entering page in
        let M' = mem env mix (applied words op) in
        let here = usable knows.means.table in
        let ready : IsEntering env mix c j page G = record {
          within = here.within;
          entry = here.entry;
          used = here.used;
          since = since knows.means.table;
          among = among;
          mine = knows.means.making page (inl refl);
        } in
        let value : word_after (old_of words op) op ≡ entry_of page = ap (λ w. cond (w == 0) (entry_of page) w) found in
        let write : IsWrite env.geometry M M' (PageWord j) (entry_of page) =
        subst (λ v. IsWrite env.geometry M M' (PageWord j) v) value
        (is_write env.geometry words (PageWord j) op all here.within refl) in
        let made = enter env mix c j page M M' G whole ready found write in
        let τ = table_at G j in
        let kept : knows_that near [] MakesNothing M' (entered G j page) =
        Knowing-retabled env mix M M' G (put G.table τ (entered_table (G.table τ) j page)) G.attached G.slot
        (put G.page page (PageOf τ)) whole (entered_kept env mix c j page M M' G whole ready found write) (PageWord j)
        (entry_of page) write (words_apart env mix c j page M M' G whole ready found write) c (holds (own page))
        (record (with_table near) { making = HasPages (own page) }) None [] MakesNothing knows knows.only.slots
        (put-all (λ q o. o ≡ PageHeld c → In q []) G.page page (PageOf τ) (λ e. absurd (cc))
        (λ q ne held. elim (knows.only.pages_in q held) [ inl e ↦ absurd (ne e) | inr none ↦ none ]))
        tt in
        silent env mix c words G op (holds (own page)) (holds []) (knows_that (behind page) [] MakesNothing) (Enters j page)
        whole ready tt made
        (record {
          entering = refl;
          found = found;
          had = inl refl;
          pages = λ q. (
            λ i. absurd i,
            λ both. elim both.0 [ inl e ↦ absurd (both.1 e) | inr none ↦ none ],
          );
          holds = refl;
        })
        (knows_more near (behind page) [] MakesNothing M' (entered G j page) kept
        (leads M' (entered G j page) page made.whole kept.means.table
        (leads_to env mix c j page M M' G whole ready found write)))

    -- or another one is there, and it is given back

    -- the page to which the entry leads
    found_there : (word : ℕ) → M (PageWord j) ≡ word → word ≢ 0 → IsOpenEntry env G j
        → LeadsTo G j (page_there env.geometry word)
    found_there word is some here = go ((G.table (table_at G j)).entry j) refl
      where
        go : (entry : Option ℕ) → (G.table (table_at G j)).entry j ≡ entry → LeadsTo G j (page_there env.geometry word)
        go None e =
            absurd (some (sym is ∙ whole.entries j here.within here.entry ∙ ap entry_word e))
        go (Some q) e =
            let at = entry_in env mix G j here.entry in
            let within = ((entry_nested env mix M G whole j at).leads j q at.of at.has e).within in
            let entry_is : word ≡ entry_of q = sym is ∙ whole.entries j here.within here.entry ∙ ap entry_word e in
            e ∙ ap Some (omega (arith, within, entry_is))

    lose_step : (page : ℕ) → page < env.geometry.pages → old_of words (entering page) ≢ 0
        → knows_that near (own page) (HasPages (own page)) M G
        → let there = page_there env.geometry (old_of words (entering page)) in
        let pages = pages_of_give_run (give_run_new env.geometry page 1) in
        SilentStep env mix c words G (entering page) (holds (own page)) (holds pages)
        (knows_that (behind there) pages (HasPages pages))
    lose_step page among found knows =
        let op = entering page in
        let there = page_there env.geometry (old_of words op) in
        let lead = found_there (old_of words op) refl found (usable knows.means.table) in
        subst (λ ps. SilentStep env mix c words G op (holds (own page)) (holds ps) (knows_that (behind there) ps (HasPages ps)))
        (sym (given-range env.geometry page 1 (omega (arith, among))))
        (loads env mix c words G op (holds (own page)) (holds (own page))
        (knows_that (behind there) (own page) (HasPages (own page))) whole
        (ap (λ t. cond t (entry_of page) (old_of words op)) (ne_eqb (old_of words op) 0 found)) refl
        (knows_more near (behind there) (own page) (HasPages (own page)) M G knows
        (leads M G there whole knows.means.table lead)))

    exchange_step : (page : ℕ) → page < env.geometry.pages → knows_that near (own page) (HasPages (own page)) M G
        → GrowMoved (own page) (entering page) (page_entered env.geometry page (old_of words (entering page)))
    exchange_step page among knows =
        let op = entering page in
        let word = old_of words op in
        cond_both (word == 0) _ _ (λ r. GrowMoved (own page) op r)
        (λ t. enter_step page among (eqb-true word 0 t) knows) (λ f. lose_step page among (eqb-false word 0 f) knows)

    -- ---- it is given back

    given : (there : ℕ) (pages : List ℕ) (op : Op) (r : GiveRunModel × Next (Unit {0}))
        → GiveMoved env mix c h (with_table (behind there)) words G all whole None pages op r
        → GrowMoved pages op (page_given there r.0 r.1)
    given there pages op (give, Go) step = step
    given there pages op (give, Done done) step = ended (behind there) pages op step

    -- ---- state by state

    grow_step_at : (state : GrowAt) → IsGrowAtIn env.geometry state
        → knows_that (table_of_grow state) (pages_of_grow state) (HasPages (pages_of_grow state)) M G
        → let op = grow_plan_at (place_at env mix j) state in
        GrowMoved (pages_of_grow state) op (grow_after_at env.geometry state (old_of words op))
    grow_step_at (at.Taking take) is knows =
        let op = take_run_plan take in
        let word = old_of words op in
        taken (pages_of_take_run take) op (take_run_after take word)
        ((take_run_stays env.geometry take word is.take_in).pages_same ∙ is.one)
        (run_step env mix c h (with_table near) words G all whole None take is.take_in knows)
    grow_step_at (at.Entering page) is knows = exchange_step page is knows
    grow_step_at (at.Giving there give) is knows =
        let op = give_run_plan give in
        given there (pages_of_give_run give) op (give_run_after give (old_of words op))
        (give_run_step env mix c h (with_table (behind there)) words G all whole None give is.give_in knows)

    -- an operation of the growing at this entry: what the caller knows at its state leads to what it knows behind it
    pub grow_step : (m : GrowModel) → IsGrowIn env.geometry m → m.entry ≡ place_at env mix j
        → knows_that (table_of_grow m.at) (pages_of_grow m.at) (HasPages (pages_of_grow m.at)) M G
        → GrowMoved (pages_of_grow m.at) (grow_plan m) (grow_after_at m.geometry m.at (old_of words (grow_plan m)))
    grow_step m is there knows =
        subst (λ (g : Geometry). GrowMoved (pages_of_grow m.at) (grow_plan m)
        (grow_after_at g m.at (old_of words (grow_plan m)))) (sym is.geometry_same)
        (subst (λ entry. let op = grow_plan_at entry m.at in
        GrowMoved (pages_of_grow m.at) op (grow_after_at env.geometry m.at (old_of words op))) (sym there)
        (grow_step_at m.at is.at_in knows))
