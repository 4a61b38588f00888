-- The bucket of a walk, and the way to it, are those of the table that it walks, by what its operations found. That outlives whatever leaves
-- tables what they are.
use Rattle.std.proofs.Common.{◌≡◌, ℕ, ◌+◌, ◌<◌, ◌≤◌, nat_lt, nat_le, List, Option, Some, None, refl, sym, ◌∙◌, ap, subst, inl, arith}
use Rattle.std.specs.Prelude.{◌==◌}
use Rattle.std.proofs.lemmas.Bool.{cond_both, and_parts, ltb-true}
use Rattle.rht_words.specs.declared.env.Env.{Env}
use Rattle.rht_words.specs.declared.geometry.Geometry.{Geometry}
use Rattle.rht_words.specs.declared.machine.Start.{Start}
use Rattle.rht_words.specs.declared.machine.Start.TheVariants as starts
use Rattle.rht_words.specs.declared.op.Op.TheVariants.{Load}
use Rattle.rht_words.specs.Links.{node_of, slot_of, table_of, head_of, marker_of, page_of}
use Rattle.rht_words.specs.Operations.{old_of}
use Rattle.rht_words.specs.Places.{CurrentTable, PageWord, place_of}
use Rattle.rht_words.specs.Shapes.{unpacked, size_of}
use Rattle.rht_words.proofs.Memory.{Memory}
use Rattle.rht_nest.specs.Place.{PlaceModel, flat_place, nested_place, place_plan, place_or_last, entered, entry_seen, went_behind}
use Rattle.rht_nest.specs.Tables.{is_nested}
use Rattle.rht_model.specs.declared.history.Cursor.{Cursor}
use Rattle.rht_walk.specs.Walk.{plan_at, fits, begun, visiting, next_bucket, bucket_ended, reached, chain_ended, led_to, unless_behind, chain_of, one_more, goes, IsVisitIn, IsWalkAtIn}
use Rattle.rht_walk.specs.declared.walk.Visit.{Visit}
use Rattle.rht_walk.specs.declared.walk.Chain.{Chain}
use Rattle.rht_walk.specs.declared.walk.WalkEnd.TheVariants as ends
use Rattle.rht_walk.specs.declared.walk.WalkAt.{WalkAt}
use Rattle.rht_walk.specs.declared.walk.WalkAt.TheVariants as at
use Rattle.rht_walk.proofs.WalkStays.{some_buckets}
use Rattle.rht_ghost.proofs.Pieces.TableLoads.{shape_word}
use Rattle.rht_ghost.proofs.Theory.Ghosts.{Ghost}
use Rattle.rht_ghost.proofs.Theory.Knowledge.{IsWayIn}
use Rattle.rht_ghost.proofs.Theory.Passed.{GrowsFrom, at-from}
use Rattle.rht_ghost.proofs.Theory.Steps.{mem}
use Rattle.rht_ghost.proofs.Theory.WaysRead.{words_of_pages, read_by_entry, flat_read, way_read, way_next, place_of_bucket}
use Rattle.rht_ghost.proofs.Theory.WaysStay.{IsWayIn-from}
use Rattle.rht_walk.specs.WalkStanding.{standing_of_walk}
use Rattle.rht_ghost.proofs.Theory.Wholes.{AreFrom, Whole, word_index, IsThere, IsAt, current-at, current-there, at-there}

module _ (env : Env) (mix : ℕ → ℕ → ℕ → ℕ) (G : Ghost) where
  -- the bucket is in a table that was attached, of this shape
  pub record IsWalked (visit : Visit) : Type 0 where
    pub of : IsAt G visit.table
    pub shape_is : (G.table of.table).shape ≡ visit.shape

  -- the entry is on the way to it
  pub record IsOnWayTo (visit : Visit) (way : PlaceModel) : Type 0 where
    pub walked : IsWalked visit
    pub to : IsWayIn env mix G visit.bucket walked.of.table way

  -- and its word is here
  pub record IsAtBucket (visit : Visit) (place : ℕ) : Type 0 where
    pub walked : IsWalked visit
    pub here : (G.table walked.of.table).place visit.bucket ≡ Some (word_index env mix place)

  abbrev pub tied_of_walk : WalkAt → Type 0
  tied_of_walk at.Opening = Unit {0}
  tied_of_walk at.CurrentTable = Unit {0}
  tied_of_walk (at.Serial table) = IsAt G table
  tied_of_walk (at.Shape table serial) = IsAt G table
  tied_of_walk (at.Entry visit way) = IsOnWayTo visit way
  tied_of_walk (at.Heading visit place) = IsAtBucket visit place
  tied_of_walk (at.Key chain node) = IsWalked chain.visit
  tied_of_walk (at.Owner chain node port) = IsWalked chain.visit
  tied_of_walk (at.Link chain node) = IsWalked chain.visit
  tied_of_walk (at.StrangeEnd visit) = IsWalked visit
  tied_of_walk (at.TableEnd table) = Unit {0}
  tied_of_walk (at.Closing end) = Unit {0}

-- ---- it outlives whatever leaves the tables what they are in which a walk stands

module _ (env : Env) (mix : ℕ → ℕ → ℕ → ℕ) (low : ℕ) (G G' : Ghost) (grow : GrowsFrom env mix low G G') where
  abbrev walked-stays : (visit : Visit) → ((at : IsAt G visit.table) → low ≤ at.table) → IsWalked env mix G visit
      → IsWalked env mix G' visit
  walked-stays visit from is = record {
    of = at-from env mix low G G' grow visit.table is.of (from is.of);
    shape_is = (grow.tables is.of.table is.of.attached).shape ∙ is.shape_is;
  }

  way-stays : (visit : Visit) (way : PlaceModel) → ((at : IsAt G visit.table) → low ≤ at.table) → IsOnWayTo env mix G visit way
      → IsOnWayTo env mix G' visit way
  way-stays visit way from is =
      let of = is.walked.of in
      record {
        walked = walked-stays visit from is.walked;
        to = IsWayIn-from env mix low G G' grow visit.bucket of.table way of.attached (from of) is.to;
      }

  bucket-stays : (visit : Visit) (place : ℕ) → ((at : IsAt G visit.table) → low ≤ at.table) → IsAtBucket env mix G visit place
      → IsAtBucket env mix G' visit place
  bucket-stays visit place from is =
      let of = is.walked.of in
      record {
        walked = walked-stays visit from is.walked;
        here = grow.places of.table visit.bucket (word_index env mix place) of.attached (from of) is.here;
      }

  pub walk-stays : (state : WalkAt) → AreFrom low G (standing_of_walk state).tables → tied_of_walk env mix G state
      → tied_of_walk env mix G' state
  walk-stays at.Opening from tied = tt
  walk-stays at.CurrentTable from tied = tt
  walk-stays (at.Serial table) from tied = at-from env mix low G G' grow table tied (from table (inl refl) tied)
  walk-stays (at.Shape table serial) from tied = at-from env mix low G G' grow table tied (from table (inl refl) tied)
  walk-stays (at.Entry visit way) from tied = way-stays visit way (from visit.table (inl refl)) tied
  walk-stays (at.Heading visit place) from tied = bucket-stays visit place (from visit.table (inl refl)) tied
  walk-stays (at.Key chain node) from tied = walked-stays chain.visit (from chain.visit.table (inl refl)) tied
  walk-stays (at.Owner chain node port) from tied = walked-stays chain.visit (from chain.visit.table (inl refl)) tied
  walk-stays (at.Link chain node) from tied = walked-stays chain.visit (from chain.visit.table (inl refl)) tied
  walk-stays (at.StrangeEnd visit) from tied = walked-stays visit (from visit.table (inl refl)) tied
  walk-stays (at.TableEnd table) from tied = tt
  walk-stays (at.Closing end) from tied = tt

-- ---- an operation

module _ (env : Env) (mix : ℕ → ℕ → ℕ → ℕ) (words : List ℕ) (G : Ghost) (whole : Whole env mix (mem env mix words) G) where
  abbrev M : Memory
  M = mem env mix words

  abbrev Tied : WalkAt → Type 0
  Tied = tied_of_walk env mix G

  -- the number of the bucket is one of the table's
  pub number_below : (visit : Visit) → IsVisitIn visit → (is : IsWalked env mix G visit)
      → visit.bucket < size_of (unpacked (G.table is.of.table).shape)
  number_below visit within is = subst (λ s. visit.bucket < size_of (unpacked s)) (sym is.shape_is) within.bucket_in

  current_attached : IsAt G (table_of (M CurrentTable))
  current_attached =
      let right = whole.tables.each G.current (current-there env mix whole.tables) in
      current-at env mix whole.tables (table_of (M CurrentTable))
      (let word = whole.tables.current_is in omega (arith, right.slot_in, word))

  module _ (from : Option Cursor) (limit shown : ℕ) where
    visiting-tied : (visit : Visit) → IsVisitIn visit → IsWalked env mix G visit → Tied (visiting env.geometry visit)
    visiting-tied visit within is =
        let τ = is.of.table in
        let is_there = at-there is.of in
        let number = visit.bucket in
        cond_both (is_nested visit.shape) _ _ Tied
        (λ nested. record {
          walked = is;
          to = record {
            nested = ap is_nested is.shape_is ∙ nested;
            way = inl (ap (λ s. nested_place env.geometry s number) (sym is.shape_is));
          };
        })
        (λ flat.
        let below = number_below visit within is in
        let there = flat_read env mix M G whole τ number is_there below (ap is_nested is.shape_is ∙ flat)
        ∙ ap (λ s. Some (flat_place env.geometry s number)) is.shape_is in
        record {
          walked = is;
          here = (place_of_bucket env mix M G whole τ number is_there below (flat_place env.geometry visit.shape number) there).here;
        })

    begun-tied : (start : Option Cursor) (table serial shape : ℕ) → table < 8 → (of : IsAt G table)
        → (G.table of.table).shape ≡ shape → Tied (begun env.geometry start table serial shape)
    begun-tied None table serial shape low of is =
        visiting-tied _ (record { table_in = low; bucket_in = some_buckets shape }) (record { of = of; shape_is = is })
    begun-tied (Some cursor) table serial shape low of is =
        cond_both (fits serial shape cursor) _ _ Tied
        (λ t.
        let parts = and_parts (cursor.serial == serial) (nat_lt cursor.bucket (size_of (unpacked shape))) t in
        visiting-tied _ (record {
          table_in = low;
          bucket_in = ltb-true cursor.bucket (size_of (unpacked shape)) parts.1;
        }) (record { of = of; shape_is = is }))
        (λ f. tt)

    next_bucket-tied : (visit : Visit) → IsVisitIn visit → IsWalked env mix G visit → Tied (next_bucket env.geometry limit shown visit)
    next_bucket-tied visit within is =
        cond_both (nat_le limit shown) _ _ Tied (λ t. tt) (λ f. visiting-tied visit within is)

    bucket_ended-tied : (visit : Visit) → IsVisitIn visit → IsWalked env mix G visit → Tied (bucket_ended env.geometry limit shown visit)
    bucket_ended-tied visit within is =
        cond_both (nat_lt (visit.bucket + 1) (size_of (unpacked visit.shape))) _ _ Tied
        (λ t. next_bucket-tied (record visit { bucket = visit.bucket + 1 })
        (record { table_in = within.table_in; bucket_in = ltb-true (visit.bucket + 1) (size_of (unpacked visit.shape)) t })
        (record { of = is.of; shape_is = is.shape_is }))
        (λ f. tt)

    chain_ended-tied : (chain : Chain) (link : ℕ) → IsVisitIn chain.visit → IsWalked env mix G chain.visit
        → Tied (chain_ended env.geometry limit shown chain link)
    chain_ended-tied chain link within is =
        cond_both (link == marker_of chain.place) _ _ Tied (λ t. bucket_ended-tied chain.visit within is) (λ f. is)

    led_to-tied : (chain : Chain) (link : ℕ) (node : Option ℕ) → IsVisitIn chain.visit → IsWalked env mix G chain.visit
        → Tied (led_to env.geometry limit shown chain link node)
    led_to-tied chain link None within is = chain_ended-tied chain link within is
    led_to-tied chain link (Some node) within is =
        cond_both (nat_lt chain.visited env.geometry.nodes) _ _ Tied (λ t. is) (λ f. chain_ended-tied chain link within is)

    unless_behind-tied : (future : Option ℕ) (next : WalkAt) → Tied next → Tied (unless_behind future next)
    unless_behind-tied None next tied = tied
    unless_behind-tied (Some table) next tied = tt

    -- ---- behind an entry

    module _ (visit : Visit) (way : PlaceModel) (within : IsVisitIn visit) (same : way.geometry ≡ env.geometry)
        (is : IsOnWayTo env mix G visit way) where
      abbrev τ : ℕ
      τ = is.walked.of.table

      below : visit.bucket < size_of (unpacked (G.table τ).shape)
      below = number_below visit within is.walked

      is_there : IsThere G τ
      is_there = at-there is.walked.of

      abbrev led_by : Option ℕ
      led_by = page_of env.geometry.pages (M (PageWord way.entry))

      -- one that leads to a page: the next entry, or the bucket
      entered-tied : (page : ℕ) → led_by ≡ Some page → (start : Start PlaceModel ℕ) → entered way page ≡ start
          → let next = went_behind way start in Tied (reached env.geometry limit shown visit next.0 next.1)
      entered-tied page leads (starts.Running next) e = record {
        walked = is.walked;
        to = way_next env mix M G whole τ visit.bucket is_there below way is.to next page leads e;
      }
      entered-tied page leads (starts.Done there) e = record {
        walked = is.walked;
        here =
            (place_of_bucket env mix M G whole τ visit.bucket is_there below there
            (sym (way_read env mix M G whole τ visit.bucket is_there below way is.to)
            ∙ read_by_entry (words_of_pages M) way env.geometry (Some page) same leads
            ∙ ap (place_or_last (words_of_pages M)) e)).here;
      }

      -- and one that leads to none: the bucket is empty
      entry-tied : (entry : Option ℕ) → led_by ≡ entry
          → let next = entry_seen way entry in Tied (reached env.geometry limit shown visit next.0 next.1)
      entry-tied None none = bucket_ended-tied visit within is.walked
      entry-tied (Some page) leads = entered-tied page leads (entered way page) refl

    -- ---- each state

    pub walk_ties : (c : ℕ) (state : WalkAt) → IsWalkAtIn env.geometry state → Tied state
        → Tied (goes env.geometry from limit shown state (old_of words (plan_at env.geometry c state)))
    walk_ties c at.Opening within tied = tt
    walk_ties c at.CurrentTable within tied = current_attached
    walk_ties c (at.Serial table) within tied = tied
    walk_ties c (at.Shape table serial) within tied =
        begun-tied from table serial _ within tied (sym (shape_word env mix M G whole table tied))
    walk_ties c (at.Entry visit way) within tied =
        let led = ap (λ (g : Geometry). page_of g.pages (old_of words (Load (place_of g (PageWord way.entry))))) within.way_in.geometry_same in
        entry-tied visit way within.visit_in within.way_in.geometry_same tied (page_of way.geometry.pages (old_of words (place_plan way))) (sym led)
    walk_ties c (at.Heading visit place) within tied =
        let word = old_of words (plan_at env.geometry c (at.Heading visit place)) in
        led_to-tied (chain_of visit place) (head_of place word) (node_of env.geometry.nodes (head_of place word)) within.visit_in tied.walked
    walk_ties c (at.Key chain node) within tied = tied
    walk_ties c (at.Owner chain node port) within tied = tied
    walk_ties c (at.Link chain node) within tied =
        let word = old_of words (plan_at env.geometry c (at.Link chain node)) in
        led_to-tied (one_more chain) word (node_of env.geometry.nodes word) within.visit_in tied
    walk_ties c (at.StrangeEnd visit) within tied =
        unless_behind-tied (slot_of (old_of words (plan_at env.geometry c (at.StrangeEnd visit)))) (bucket_ended env.geometry limit shown visit)
        (bucket_ended-tied visit within tied)
    walk_ties c (at.TableEnd table) within tied =
        unless_behind-tied (slot_of (old_of words (plan_at env.geometry c (at.TableEnd table)))) (at.Closing (ends.Walked None)) tt
    walk_ties c (at.Closing end) within tied = tt
