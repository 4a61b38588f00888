-- Which pages the taking of a run has taken: none from the place on at which it stands. So of the page that it sees taken there, it has
-- taken none before.
use Rattle.std.proofs.Common.{◌≡◌, ◌≢◌, ℕ, ◌+◌, ◌*◌, ◌/◌, ◌%◌, ◌<◌, ◌≤◌, List, refl, sym, ap, ◌∙◌, subst, bit_and, max, min, arith}
use Rattle.std.specs.Prelude.{Option, ◌==◌, nat_le, nat_lt}
use Rattle.std.specs.List.{AllByRecursion}
use Rattle.std.specs.Int.{bit_at, bit_not, w64}
use Rattle.std.proofs.lemmas.Bool.{cond_both}
use Rattle.std.proofs.lemmas.Nat.Bits.{bit_at_and, bit_at_or, bit_at_not, bit_at-lt}
use Rattle.rht_words.specs.declared.op.Op.TheVariants.{Load}
use Rattle.rht_words.specs.declared.geometry.Geometry.{Geometry}
use Rattle.rht_words.specs.declared.machine.Next.{Next}
use Rattle.rht_words.specs.declared.machine.Next.TheVariants.{Go, Done}
use Rattle.rht_words.specs.Machines.{Performed}
use Rattle.rht_words.specs.Operations.{op_place, word_after}
use Rattle.rht_words.specs.Places.{PageMap, place_of}
use Rattle.rht_words.proofs.EachElement.{AllByRecursion-weaker}
use Rattle.rht_words.proofs.MachineRuns.{performed}
use Rattle.rht_arena.specs.Laws.{IsLook}
use Rattle.rht_arena.specs.PageRuns.{run_bits}
use Rattle.rht_arena.specs.TakeRun.{TakeRunModel, take_run_plan, take_run_plan_at, take_run_after, take_run_after_at, next_run, given_below, given_from, claimed, has_run, IsTakeRunAtIn}
use Rattle.rht_arena.specs.RunLaws.{page_place, page_bit, TakesPage, SeesRunTaken}
use Rattle.rht_arena.specs.declared.take_run.TakeRunAt.{TakeRunAt}
use Rattle.rht_arena.specs.declared.take_run.TakeRunAt.TheVariants.{MapWord, Claim, GiveBack}
use Rattle.rht_arena.proofs.RunBits.{run_bits-fits, bit_at-run_until}
use Rattle.rht_arena.proofs.RunsSeen.{next_unseen}

-- the page from which on none was taken
abbrev pub none_from : ℕ → TakeRunAt → ℕ
none_from pages (MapWord first index) = max first (64 * index)
none_from pages (Claim first index) = max first (64 * index)
none_from pages (GiveBack first index bits) = first + pages

module _ (g : Geometry) where
  -- the operation takes no page from this one on
  abbrev pub TakesNoneFrom : ℕ → Performed → Type 0
  TakesNoneFrom from step = (page : ℕ) → from ≤ page → page < g.pages → TakesPage g page step → ⊥

  -- a load takes none
  pub load_takes_none : (place page : ℕ) (step : Performed) → step.op ≡ Load place → TakesPage g page step → ⊥
  load_takes_none place page step is takes =
      let same : word_after step.old step.op ≡ step.old = ap (word_after step.old) is in
      let clear = takes.clears in
      let set = takes.free in
      let both = sym set ∙ sym (ap (λ w. bit_at w (page_bit page)) same) ∙ clear in
      absurd (omega (arith, both))

  -- nor does an operation on another place
  pub off_map_takes_none : (step : Performed) → ((page : ℕ) → page < g.pages → op_place step.op ≢ page_place g page)
      → TakesNoneFrom 0 step
  off_map_takes_none step apart page low within takes = apart page within takes.place

  -- those that took none from a page on took none from a later one on
  pub none_later : (from later : ℕ) (steps : List Performed) → from ≤ later → AllByRecursion (TakesNoneFrom from) steps
      → AllByRecursion (TakesNoneFrom later) steps
  none_later from later steps l none =
      AllByRecursion-weaker (TakesNoneFrom from) (TakesNoneFrom later)
      (λ step takes page low within is. takes page (omega (arith, l, low)) within is) steps none

  -- none of these took this page
  pub none_took : (from page : ℕ) (steps : List Performed) → from ≤ page → page < g.pages
      → AllByRecursion (TakesNoneFrom from) steps → AllByRecursion (λ step. TakesPage g page step → ⊥) steps
  none_took from page steps low within none =
      AllByRecursion-weaker (TakesNoneFrom from) (λ step. TakesPage g page step → ⊥)
      (λ step takes is. takes page low within is) steps none

-- the machine stands at this page or behind it
abbrev pub StandsFrom : ℕ → ℕ → TakeRunModel × Next (Option ℕ) → Type 0
StandsFrom pages from (m, Go) = from ≤ none_from pages m.at
StandsFrom pages from (m, Done answer) = Unit {0}

module _ (m : TakeRunModel) where
  abbrev g : Geometry
  g = m.geometry

  abbrev pages : ℕ
  pages = m.pages

  next_run-from : (first from : ℕ) → from ≤ first + pages → StandsFrom pages from (next_run m first)
  next_run-from first from low =
      cond_both (nat_le (first + 2 * pages) g.pages) _ _ (StandsFrom pages from) (λ t. omega (arith, low)) (λ f. tt)

  given_below-from : (first index from : ℕ) → from ≤ first + pages → StandsFrom pages from (given_below m first index)
  given_below-from first index from low =
      cond_both (nat_le (64 * index) first) _ _ (StandsFrom pages from) (λ t. next_run-from first from low) (λ f. low)

  given_from-from : (first index bits from : ℕ) → from ≤ first + pages → StandsFrom pages from (given_from m first index bits)
  given_from-from first index bits from low =
      cond_both (bits == 0) _ _ (StandsFrom pages from) (λ t. given_below-from first index from low) (λ f. low)

  claimed-from : (first index from : ℕ) → from ≤ max first (64 * (index + 1)) → StandsFrom pages from (claimed m first index)
  claimed-from first index from low =
      cond_both (nat_lt (64 * (index + 1)) (first + pages)) _ _ (StandsFrom pages from) (λ t. low) (λ f. tt)

  -- what it took before, and what an operation takes, lies before a page at which the machine stands then or behind it
  pub record Passes (state : TakeRunAt) (step : Performed) : Type 0 where
    pub from : ℕ
    pub before : none_from pages state ≤ from
    pub takes : TakesNoneFrom g from step
    pub stands : StandsFrom pages from (take_run_after_at m state step.old)

  passes : (state : TakeRunAt) (step : Performed) → step.op ≡ take_run_plan_at g pages state → IsTakeRunAtIn g pages state
      → Passes state step
  passes (MapWord first index) step is here =
      let until = here.word.until in
      record {
        from = max first (64 * index);
        before = omega arith;
        takes = λ page low within takes. load_takes_none g _ page step is takes;
        stands =
            cond_both (has_run first pages index step.old) _ _ (StandsFrom pages (max first (64 * index))) (λ t. omega arith)
            (λ f. given_below-from first index (max first (64 * index)) (omega (arith, until)));
      }
  passes (Claim first index) step is here =
      let until = here.word.until in
      let bits = run_bits first pages index in
      let from = min (first + pages) (max first (64 * (index + 1))) in
      record {
        from = from;
        before = omega (arith, until);
        takes = λ page low within takes.
            let bit = page % 64 in
            let place : page_place g page ≡ place_of g (PageMap index) = sym takes.place ∙ ap op_place is in
            let same : page / 64 ≡ index = omega (arith, place) in
            let after : bit_at (bit_and step.old (bit_not w64 bits)) bit ≡ 0 =
            sym (ap (λ w. bit_at w bit) (ap (word_after step.old) is)) ∙ takes.clears in
            let wanted : bit_at bits bit ≡ 1 =
            omega (
              arith,
              after,
              takes.free,
              bit_at_and step.old (bit_not w64 bits) bit,
              bit_at_not w64 bits bit (run_bits-fits first pages index) (omega arith),
              bit_at-lt bits bit,
            ) in
            let until = bit_at-run_until first pages index bit (omega arith) wanted in
            absurd (omega (arith, low, until, same, place));
        stands =
            cond_both (has_run first pages index step.old) _ _ (StandsFrom pages from)
            (λ t. claimed-from first index from (omega arith))
            (λ f. given_from-from first index (bit_and step.old bits) from (omega arith));
      }
  passes (GiveBack first index bits) step is here = record {
    from = first + pages;
    before = omega arith;
    takes = λ page low within takes.
        let after = sym (ap (λ w. bit_at w (page_bit page)) (ap (word_after step.old) is)) ∙ takes.clears in
        absurd (omega (arith, after, takes.free, bit_at_or step.old bits (page_bit page)));
    stands = given_below-from first index (first + pages) (omega arith);
  }

  -- the page that an operation sees taken lies there
  pub record LiesAhead (state : TakeRunAt) (page : ℕ) : Type 0 where
    pub from : none_from pages state ≤ page
    pub within : page < g.pages

  lies_ahead : (state : TakeRunAt) (step : Performed) → step.op ≡ take_run_plan_at g pages state → IsTakeRunAtIn g pages state
      → (sees : SeesRunTaken g pages (next_unseen pages state) step) → LiesAhead state sees.page
  lies_ahead (MapWord first index) step is here sees =
      let place : page_place g sees.page ≡ place_of g (PageMap index) = sym sees.sees.place ∙ ap op_place is in
      let from = sees.of_run.from in
      let below = sees.of_run.below in
      let within = here.run.within in
      record { from = omega (arith, place, from); within = omega (arith, below, within) }
  lies_ahead (Claim first index) step is here sees =
      let place : page_place g sees.page ≡ place_of g (PageMap index) = sym sees.sees.place ∙ ap op_place is in
      let from = sees.of_run.from in
      let below = sees.of_run.below in
      let within = here.run.within in
      record { from = omega (arith, place, from); within = omega (arith, below, within) }
  lies_ahead (GiveBack first index bits) step is here sees = absurd (subst IsLook is sees.sees.looks)

-- what an operation of the taking of a run passes, and what it sees
pub record PassesIn (g : Geometry) (pages : ℕ) (m : TakeRunModel) (old : ℕ) : Type 0 where
  pub from : ℕ
  pub before : none_from pages m.at ≤ from
  pub takes : TakesNoneFrom g from (performed take_run_plan take_run_after m old)
  pub stands : StandsFrom pages from (take_run_after m old)
  pub ahead :
      (sees : SeesRunTaken g pages (next_unseen pages m.at) (performed take_run_plan take_run_after m old))
      → (none_from pages m.at ≤ sees.page) × (sees.page < g.pages)

-- of a machine of this table that takes so many pages
pub passes_in : (g : Geometry) (pages : ℕ) (m : TakeRunModel) (old : ℕ) → m.geometry ≡ g → m.pages ≡ pages
    → IsTakeRunAtIn g pages m.at → PassesIn g pages m old
passes_in g pages m old table many here =
    let step = performed take_run_plan take_run_after m old in
    let own : IsTakeRunAtIn m.geometry m.pages m.at =
    subst (λ p. IsTakeRunAtIn m.geometry p m.at) (sym many)
    (subst (λ (h : Geometry). IsTakeRunAtIn h pages m.at) (sym table) here) in
    let past = passes m m.at step refl own in
    subst (λ p. PassesIn g p m old) many
    (subst (λ (h : Geometry). PassesIn h m.pages m old) table (record {
      from = past.from;
      before = past.before;
      takes = past.takes;
      stands = past.stands;
      ahead = λ sees. let lies = lies_ahead m m.at step refl own sees in (lies.from, lies.within);
    }))
