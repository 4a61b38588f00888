-- Whatever words they are told, the making of a table and the giving back of one stay among the slots and pages that
-- there are, and a table that is made is one of the table of words.
use Rattle.std.proofs.Common.{◌≡◌, ℕ, Bool, true, ◌+◌, ◌/◌, ◌<◌, ◌≤◌, max, refl, sym, subst, arith}
use Rattle.std.specs.Prelude.{Option, Some, None, ◌==◌, nat_le, nat_lt}
use Rattle.std.proofs.lemmas.Bool.{cond_both, ltb-true, leb-true}
use Rattle.rht_words.specs.declared.geometry.Geometry.{Geometry}
use Rattle.rht_words.specs.declared.shape.Shape.{Shape}
use Rattle.rht_words.specs.declared.machine.Next.{Next}
use Rattle.rht_words.specs.declared.machine.Next.TheVariants.{Go, Done}
use Rattle.rht_words.specs.declared.machine.Start.TheVariants as starts
use Rattle.rht_words.specs.Planned.{IsWord}
use Rattle.rht_words.specs.Shapes.{unpacked, size_of}
use Rattle.rht_arena.specs.PageRuns.{IsRunIn}
use Rattle.rht_arena.specs.TakeRun.{TakeRunModel, take_run_new, take_run_after, run_length, first_run}
use Rattle.rht_arena.specs.GiveRun.{GiveRunModel, give_run_after, IsGiveRunIn}
use Rattle.rht_arena.proofs.RunsStay.{TakeRunIsIn, take_run_stays, give_run_stays}
use Rattle.rht_arena.proofs.RunsSeen.{begins-in}
use Rattle.rht_nest.specs.Tables.{table_pages, run_first, run_pages}
use Rattle.rht_nest.specs.Make.{MakeModel, make_after, make_after_at, may_nest, made_pages, run_found, no_run, run_taken, run_started, top_taken, slot_seen, IsTakingIn, IsMakeAtIn, IsMakeIn, IsMakeEndIn}
use Rattle.rht_nest.specs.declared.make.MakeAt.{MakeAt}
use Rattle.rht_nest.specs.declared.make.MakeAt.TheVariants as at
use Rattle.rht_nest.specs.Unmake.{UnmakeModel, unmake_new, unmake_after, unmake_after_at, run_given, IsUnmakeAtIn, IsUnmakeIn}
use Rattle.rht_nest.specs.declared.unmake.UnmakeAt.{UnmakeAt}
use Rattle.rht_nest.specs.declared.unmake.UnmakeAt.TheVariants as gives

-- a table takes a page at least
pub made_pages-some : (exponent : ℕ) → 1 ≤ made_pages exponent
made_pages-some exponent = omega arith

pub table_pages-some : (shape : Shape) → 1 ≤ table_pages shape
table_pages-some shape =
    cond_both (nat_lt 0 shape.nest) 1 (max 1 (size_of shape / 64)) (λ pages. 1 ≤ pages) (λ t. omega arith) (λ f. omega arith)

-- the state stays in this table, and a table that is answered is one
pub record MakeStays (g : Geometry) (exponent : ℕ) (allowed : Bool) (next : MakeAt × Next (Option (ℕ × ℕ))) : Type 0 where
  pub at_in : IsMakeAtIn g exponent allowed next.0
  pub made_in : IsMakeEndIn g exponent allowed next.1

-- the taking of so many pages begins in range, where there are as many
pub begins_taking : (g : Geometry) (pages slot : ℕ) → slot < 8 → 1 ≤ pages → pages ≤ g.pages
    → IsTakingIn g pages slot (first_run g pages)
begins_taking g pages slot slot_in some fits = record {
  slot_in = slot_in;
  pages_same = refl;
  take_in = record {
    geometry_same = refl;
    at_in = begins-in g pages (record { some = omega (arith, some); within = omega (arith, fits) });
  };
}

module _ (g : Geometry) (exponent : ℕ) (allowed : Bool) where
  abbrev pages : ℕ
  pages = made_pages exponent

  abbrev nests : Bool
  nests = may_nest exponent allowed

  abbrev StaysIn : MakeAt → Type 0
  StaysIn state = IsMakeAtIn g exponent allowed state

  -- where there is no run a page is taken, or the slot is given back
  no_run-in : (slot : ℕ) → slot < 8 → StaysIn (no_run g nests slot)
  no_run-in slot slot_in =
      let some = g.within.pages_within.0 in
      cond_both nests (at.TakingTop slot (first_run g 1)) (at.SlotBack slot) StaysIn
      (λ t. record { kind = t; taking = begins_taking g 1 slot slot_in (omega arith) (omega (arith, some)) })
      (λ f. slot_in)

  -- with a run taken
  run_found-in : (slot page : ℕ) → slot < 8 → IsRunIn g page pages → StaysIn (run_found slot page)
  run_found-in slot page slot_in run = record { slot_in = slot_in; kind = tt; run_in = run }

  run_started-in : (slot : ℕ) → slot < 8 → StaysIn (run_started g nests slot (take_run_new g pages))
  run_started-in slot slot_in =
      let some = made_pages-some exponent in
      let same : run_length pages ≡ pages = omega (arith, some) in
      cond_both (nat_le (run_length pages) g.pages) (starts.Running (first_run g (run_length pages)))
      (starts.Done None)
      (λ start. StaysIn (run_started g nests slot start))
      (λ t.
      let fits : run_length pages ≤ g.pages = leb-true (run_length pages) g.pages t in
      subst (λ p. IsTakingIn g pages slot (first_run g p)) (sym same)
      (begins_taking g pages slot slot_in some (omega (arith, fits, same))))
      (λ f. no_run-in slot slot_in)

  slot_seen-in : (slot state : ℕ) → slot < 8 → MakeStays g exponent allowed (slot_seen g exponent nests slot state)
  slot_seen-in slot state slot_in =
      cond_both (state == 0) _ _ (MakeStays g exponent allowed)
      (λ t. record { at_in = run_started-in slot slot_in; made_in = tt })
      (λ f.
      cond_both (nat_lt (slot + 1) 8) _ _ (MakeStays g exponent allowed)
      (λ t. record { at_in = ltb-true (slot + 1) 8 t; made_in = tt })
      (λ f. record { at_in = slot_in; made_in = tt }))

  run_taken-in : (slot : ℕ) (take : TakeRunModel) (next : Next (Option ℕ)) → slot < 8
      → TakeRunIsIn g pages (take, next) → StaysIn (run_taken g nests slot take next)
  run_taken-in slot take Go slot_in stays =
      record { slot_in = slot_in; pages_same = stays.pages_same; take_in = stays.take_in }
  run_taken-in slot take (Done None) slot_in stays = no_run-in slot slot_in
  run_taken-in slot take (Done (Some page)) slot_in stays = run_found-in slot page slot_in stays.run_in

  top_taken-in : (slot : ℕ) (take : TakeRunModel) (next : Next (Option ℕ)) → slot < 8 → nests ≡ true
      → TakeRunIsIn g 1 (take, next) → StaysIn (top_taken slot take next)
  top_taken-in slot take Go slot_in may stays = record {
    kind = may;
    taking = record { slot_in = slot_in; pages_same = stays.pages_same; take_in = stays.take_in };
  }
  top_taken-in slot take (Done None) slot_in may stays = slot_in
  top_taken-in slot take (Done (Some page)) slot_in may stays =
      record { slot_in = slot_in; kind = may; run_in = stays.run_in }

  -- the taking of so many pages after an operation
  took-in : (many slot : ℕ) (take : TakeRunModel) (word : ℕ) → IsTakingIn g many slot take
      → TakeRunIsIn g many (take_run_after take word)
  took-in many slot take word here =
      subst (λ p. TakeRunIsIn g p (take_run_after take word)) here.pages_same
      (take_run_stays g take word here.take_in)

  pub make_stays_at : (at : MakeAt) (word : ℕ) → IsWord word → StaysIn at
      → MakeStays g exponent allowed (make_after_at g exponent allowed at word)
  make_stays_at (at.Slot slot) word told here = slot_seen-in slot word here
  make_stays_at (at.Taking slot take) word told here = record {
    at_in =
        run_taken-in slot (take_run_after take word).0 (take_run_after take word).1 here.slot_in
        (took-in pages slot take word here);
    made_in = tt;
  }
  make_stays_at (at.TakingTop slot take) word told here = record {
    at_in =
        top_taken-in slot (take_run_after take word).0 (take_run_after take word).1 here.taking.slot_in here.kind
        (took-in 1 slot take word here.taking);
    made_in = tt;
  }
  make_stays_at (at.SlotBack slot) word told here = record { at_in = here; made_in = tt }
  make_stays_at (at.NextSerial slot nested page) word told here =
      record { at_in = record { taken = here; serial_in = told }; made_in = tt }
  make_stays_at (at.Shape slot nested page serial) word told here = record { at_in = here; made_in = tt }
  make_stays_at (at.Seed slot nested page serial) word told here = record { at_in = here; made_in = tt }
  make_stays_at (at.Future slot nested page serial) word told here = record { at_in = here; made_in = tt }
  make_stays_at (at.Serial slot nested page serial) word told here = record {
    at_in = here;
    made_in = record {
      slot_in = here.taken.slot_in;
      nested = nested;
      page = page;
      kind = here.taken.kind;
      shape_is = refl;
      run_in = here.taken.run_in;
    };
  }

-- and so does the machine
pub record MakeIsIn (g : Geometry) (exponent : ℕ) (allowed : Bool) (next : MakeModel × Next (Option (ℕ × ℕ))) : Type 0 where
  pub make_in : IsMakeIn g next.0
  pub made_in : IsMakeEndIn g exponent allowed next.1

pub make_stays : (g : Geometry) (m : MakeModel) (word : ℕ) → IsMakeIn g m → IsWord word
    → MakeIsIn g m.exponent m.nested (make_after m word)
make_stays g m word within told =
    let stays = make_stays_at g m.exponent m.nested m.at word told within.at_in in
    subst
    (λ (h : Geometry). MakeIsIn g m.exponent m.nested (
      record m { at = (make_after_at h m.exponent m.nested m.at word).0 },
      (make_after_at h m.exponent m.nested m.at word).1,
    ))
    (sym within.geometry_same)
    (record {
      make_in = record {
        geometry_same = within.geometry_same;
        least = within.least;
        greatest = within.greatest;
        at_in = stays.at_in;
      };
      made_in = stays.made_in;
    })

-- ---- giving a table back

module _ (g : Geometry) where
  run_given-in : (give : GiveRunModel) (next : Next (Unit {0})) → IsGiveRunIn g give
      → IsUnmakeAtIn g (run_given give next)
  run_given-in give Go stays = stays
  run_given-in give (Done answer) stays = tt

  pub unmake_stays_at : (at : UnmakeAt) (word : ℕ) → IsUnmakeAtIn g at
      → IsUnmakeAtIn g (unmake_after_at at word).0
  unmake_stays_at (gives.Giving give) word here =
      run_given-in (give_run_after give word).0 (give_run_after give word).1 (give_run_stays g give word here)
  unmake_stays_at gives.SlotBack word here = tt

  pub unmake_stays : (m : UnmakeModel) (word : ℕ) → IsUnmakeIn g m → IsUnmakeIn g (unmake_after m word).0
  unmake_stays m word within = record {
    geometry_same = within.geometry_same;
    slot_in = within.slot_in;
    at_in = unmake_stays_at m.at word within.at_in;
  }

  -- the run that is read from a shape is one
  pub run_of-in : (shape : ℕ) → IsRunIn g (run_first g shape) (run_pages g shape)
  run_of-in shape =
      let some = g.within.pages_within in
      let takes = table_pages-some (unpacked shape) in
      record { some = omega (arith, some, takes); within = omega (arith, some) }

  -- whatever the shape, the giving back of a table begins in range
  pub unmake_begins : (slot shape : ℕ) → slot < 8 → IsUnmakeIn g (unmake_new g slot shape)
  unmake_begins slot shape slot_in =
      let run = run_of-in shape in
      record {
        geometry_same = refl;
        slot_in = slot_in;
        at_in = record {
          geometry_same = refl;
          run = run;
          word = record { from = omega arith; until = omega (arith, run.some) };
        };
      }
