-- Whatever words it is told, the taking of a run stays at a run of the table, and the giving back in its run.
use Rattle.std.proofs.Common.{◌≡◌, ℕ, ◌+◌, ◌-◌, ◌*◌, ◌<◌, ◌≤◌, refl, sym, subst, ◌∙◌, arith}
use Rattle.std.specs.Prelude.{Option, ◌==◌, nat_lt, nat_le, bit_and}
use Rattle.std.specs.Int.Bits.{and_self}
use Rattle.std.proofs.lemmas.Bool.{cond_both, ltb-true, leb-true, leb-false}
use Rattle.rht_words.specs.declared.geometry.Geometry.{Geometry}
use Rattle.rht_words.specs.declared.machine.Next.{Next}
use Rattle.rht_arena.specs.PageRuns.{run_bits, IsRunIn}
use Rattle.rht_arena.specs.TakeRun.{TakeRunModel, take_run_after, take_run_after_at, next_run, given_below, given_from, claimed, looked, cleared, has_run, IsRunAt, IsTakeRunAtIn, IsTakeRunIn, IsRunEndIn}
use Rattle.rht_arena.specs.declared.take_run.TakeRunAt.{TakeRunAt}
use Rattle.rht_arena.specs.declared.take_run.TakeRunAt.TheVariants.{MapWord, Claim, GiveBack}
use Rattle.rht_arena.specs.GiveRun.{GiveRunModel, give_run_after, IsGiveRunIn}
use Rattle.rht_arena.proofs.RunBits.{of_bits}

-- the machine stays at a run of its table, and a run that it answers is one
pub record TakeRunStays (m : TakeRunModel) (next : TakeRunModel × Next (Option ℕ)) : Type 0 where
  pub geometry_same : next.0.geometry ≡ m.geometry
  pub pages_same : next.0.pages ≡ m.pages
  pub range : IsTakeRunAtIn m.geometry m.pages next.0.at
  pub run : IsRunEndIn m.geometry m.pages next.1

module _ (m : TakeRunModel) (at_in : IsTakeRunAtIn m.geometry m.pages m.at) where
  -- to the next run
  next_run-in : (first : ℕ) → IsRunIn m.geometry first m.pages → TakeRunStays m (next_run m first)
  next_run-in first run =
      cond_both (nat_le (first + 2 * m.pages) m.geometry.pages) _ _ (TakeRunStays m)
      (λ t.
      let more : first + 2 * m.pages ≤ m.geometry.pages =
      leb-true (first + 2 * m.pages) m.geometry.pages t in
      record {
        geometry_same = refl;
        pages_same = refl;
        range = record {
          run = record { some = run.some; within = omega arith };
          word = record { from = omega arith; until = omega (arith, run.some) };
        };
        run = tt;
      })
      (λ f. record { geometry_same = refl; pages_same = refl; range = at_in; run = tt })

  -- to the word before, and to the next run where there is none
  given_below-in : (first index : ℕ) → IsRunAt m.geometry m.pages first index
      → TakeRunStays m (given_below m first index)
  given_below-in first index here =
      cond_both (nat_le (64 * index) first) _ _ (TakeRunStays m)
      (λ t. next_run-in first here.run)
      (λ f.
      let later : first < 64 * index = leb-false (64 * index) first f in
      record {
        geometry_same = refl;
        pages_same = refl;
        range = record {
          run = record {
            run = here.run;
            word = record { from = omega arith; until = omega (arith, here.word.until) };
          };
          of_run = and_self (run_bits first m.pages (index - 1));
        };
        run = tt;
      })

  given_from-in : (first index word : ℕ) → IsRunAt m.geometry m.pages first index
      → TakeRunStays m (given_from m first index (bit_and word (run_bits first m.pages index)))
  given_from-in first index word here =
      cond_both (bit_and word (run_bits first m.pages index) == 0) _ _ (TakeRunStays m)
      (λ t. given_below-in first index here)
      (λ f. record {
        geometry_same = refl;
        pages_same = refl;
        range = record { run = here; of_run = of_bits word (run_bits first m.pages index) };
        run = tt;
      })

  -- to the next word, or to the end
  claimed-in : (first index : ℕ) → IsRunAt m.geometry m.pages first index
      → TakeRunStays m (claimed m first index)
  claimed-in first index here =
      cond_both (nat_lt (64 * (index + 1)) (first + m.pages)) _ _ (TakeRunStays m)
      (λ t. record {
        geometry_same = refl;
        pages_same = refl;
        range = record {
          run = here.run;
          word = record {
            from = omega (arith, here.word.from);
            until = ltb-true (64 * (index + 1)) (first + m.pages) t;
          };
        };
        run = tt;
      })
      (λ f. record { geometry_same = refl; pages_same = refl; range = at_in; run = here.run })

  looked-in : (first index word : ℕ) → IsRunAt m.geometry m.pages first index
      → TakeRunStays m (looked m first index word)
  looked-in first index word here =
      cond_both (has_run first m.pages index word) _ _ (TakeRunStays m)
      (λ t. record { geometry_same = refl; pages_same = refl; range = here; run = tt })
      (λ f. given_below-in first index here)

  cleared-in : (first index word : ℕ) → IsRunAt m.geometry m.pages first index
      → TakeRunStays m (cleared m first index word)
  cleared-in first index word here =
      cond_both (has_run first m.pages index word) _ _ (TakeRunStays m)
      (λ t. claimed-in first index here)
      (λ f. given_from-in first index word here)

  take_run_stays_at : (at : TakeRunAt) (word : ℕ) → IsTakeRunAtIn m.geometry m.pages at
      → TakeRunStays m (take_run_after_at m at word)
  take_run_stays_at (MapWord first index) word here = looked-in first index word here
  take_run_stays_at (Claim first index) word here = cleared-in first index word here
  take_run_stays_at (GiveBack first index bits) word here = given_below-in first index here.run

-- the state stays in range, told any word
pub take_run_after-in : (m : TakeRunModel) (word : ℕ) → IsTakeRunAtIn m.geometry m.pages m.at
    → TakeRunStays m (take_run_after m word)
take_run_after-in m word here = take_run_stays_at m here m.at word here

-- the machine stays in this table, and a run that is answered is one of its runs
pub record TakeRunIsIn (g : Geometry) (pages : ℕ) (next : TakeRunModel × Next (Option ℕ)) : Type 0 where
  pub take_in : IsTakeRunIn g next.0
  pub pages_same : next.0.pages ≡ pages
  pub run_in : IsRunEndIn g pages next.1

pub take_run_stays : (g : Geometry) (m : TakeRunModel) (word : ℕ) → IsTakeRunIn g m
    → TakeRunIsIn g m.pages (take_run_after m word)
take_run_stays g m word within =
    let here : IsTakeRunAtIn m.geometry m.pages m.at =
    subst (λ (h : Geometry). IsTakeRunAtIn h m.pages m.at) (sym within.geometry_same) within.at_in in
    let stays = take_run_after-in m word here in
    let left = (take_run_after m word).0 in
    let in_table : IsTakeRunAtIn g m.pages left.at =
    subst (λ (h : Geometry). IsTakeRunAtIn h m.pages left.at) within.geometry_same stays.range in
    record {
      take_in = record {
        geometry_same = stays.geometry_same ∙ within.geometry_same;
        at_in = subst (λ p. IsTakeRunAtIn g p left.at) (sym stays.pages_same) in_table;
      };
      pages_same = stays.pages_same;
      run_in = subst (λ (h : Geometry). IsRunEndIn h m.pages (take_run_after m word).1) within.geometry_same
          stays.run;
    }

-- and so does the giving back
pub give_run_stays : (g : Geometry) (m : GiveRunModel) (word : ℕ) → IsGiveRunIn g m
    → IsGiveRunIn g (give_run_after m word).0
give_run_stays g m word within =
    cond_both {A = GiveRunModel × Next (Unit {0})} (nat_lt (64 * (m.index + 1)) (m.first + m.pages)) _ _
    (λ next. IsGiveRunIn g next.0)
    (λ t. record {
      geometry_same = within.geometry_same;
      run = within.run;
      word = record {
        from = omega (arith, within.word.from);
        until = ltb-true (64 * (m.index + 1)) (m.first + m.pages) t;
      };
    })
    (λ f. within)
