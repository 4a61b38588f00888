-- How the making of a table ends once a slot is taken: its operations are those of the taking of a run; then, where there is none
-- and the table may be nested, those of the taking of a page; and then those that store the words of the table, or the one that gives
-- the slot back.
use Rattle.std.proofs.Common.{◌≡◌, ℕ, Bool, true, false, ◌<◌, ◌≤◌, List, [], ◌∷◌, ◌++◌, Some, None, refl, sym, subst, arith}
use Rattle.std.specs.Prelude.{Option, nat_le}
use Rattle.std.proofs.lemmas.Bool.{cond_both, leb-true, leb-false}
use Rattle.rht_words.specs.declared.machine.Next.{Next}
use Rattle.rht_words.specs.declared.machine.Next.TheVariants.{Go, Done}
use Rattle.rht_words.specs.declared.machine.Start.TheVariants as starts
use Rattle.rht_words.specs.declared.geometry.Geometry.{Geometry}
use Rattle.rht_words.specs.Machines.{Performed, Ran, ran}
use Rattle.rht_arena.specs.PageRuns.{IsRunIn}
use Rattle.rht_arena.specs.TakeRun.{TakeRunModel, take_run_new, take_run_plan, take_run_after, run_length, first_run}
use Rattle.rht_arena.specs.RunLaws.{run_taking_ran}
use Rattle.rht_nest.specs.Make.{MakeModel, make_plan, make_plan_at, make_after, may_nest, made_pages, made_shape, run_found, no_run, run_taken, run_started, top_taken}
use Rattle.rht_nest.specs.declared.make.MakeAt.{MakeAt}
use Rattle.rht_nest.specs.declared.make.MakeAt.TheVariants as at
use Rattle.rht_nest.proofs.MakesStay.{made_pages-some}
use Rattle.rht_nest.proofs.PieceRuns.{on_piece, behind, piece_ended}
use Rattle.rht_nest.proofs.TurnsJoined.{AreBlind}
use Rattle.rht_nest.proofs.RunsLooked.{LookedThrough, looked_through, looked_none}

module _ (g : Geometry) (exponent seed : ℕ) (allowed : Bool) where
  abbrev pages : ℕ
  pages = made_pages exponent

  abbrev nests : Bool
  nests = may_nest exponent allowed

  -- the making of a table, in a state
  abbrev pub making : MakeAt → MakeModel
  making state = record { geometry = g; exponent = exponent; seed = seed; nested = allowed; at = state }

  -- what comes of it
  abbrev pub making_from : MakeAt → List ℕ → Ran (Option (ℕ × ℕ))
  making_from state olds = ran make_plan make_after (making state) olds

  -- its next operation, where it finds this word
  abbrev pub step_at : MakeAt → ℕ → Performed
  step_at state old = record { op = make_plan_at g exponent seed state; old = old }

  -- ---- the last operations

  -- those that store the words of the table
  abbrev pub stores : ℕ → Bool → ℕ → ℕ → ℕ → ℕ → ℕ → ℕ → List Performed
  stores slot nested page serial a b c d =
      step_at (at.NextSerial slot nested page) serial
      ∷ step_at (at.Shape slot nested page serial) a
      ∷ step_at (at.Seed slot nested page serial) b
      ∷ step_at (at.Future slot nested page serial) c
      ∷ step_at (at.Serial slot nested page serial) d
      ∷ []

  -- the table was made with this serial. The last four words that were found don't matter
  pub record Stored (slot : ℕ) (nested : Bool) (page : ℕ) (answer : Option (ℕ × ℕ)) (steps : List Performed) : Type 0
    where
      pub serial : ℕ
      pub a : ℕ
      pub b : ℕ
      pub c : ℕ
      pub d : ℕ
      pub answer_is : answer ≡ Some (slot, made_shape exponent nested page)
      pub are : steps ≡ stores slot nested page serial a b c d

  stores_end : (slot : ℕ) (nested : Bool) (page : ℕ) (olds : List ℕ) (answer : Option (ℕ × ℕ))
      → (making_from (at.NextSerial slot nested page) olds).next ≡ Done answer
      → Stored slot nested page answer (making_from (at.NextSerial slot nested page) olds).steps
  stores_end slot nested page [] answer done = absurd (cc)
  stores_end slot nested page (serial ∷ []) answer done = absurd (cc)
  stores_end slot nested page (serial ∷ a ∷ []) answer done = absurd (cc)
  stores_end slot nested page (serial ∷ a ∷ b ∷ []) answer done = absurd (cc)
  stores_end slot nested page (serial ∷ a ∷ b ∷ c ∷ []) answer done = absurd (cc)
  stores_end slot nested page (serial ∷ a ∷ b ∷ c ∷ d ∷ olds) answer done =
      record { serial = serial; a = a; b = b; c = c; d = d; answer_is = cc; are = refl }

  -- or the one that gives the slot back
  pub record SlotGivenBack (slot : ℕ) (answer : Option (ℕ × ℕ)) (steps : List Performed) : Type 0 where
    pub last : ℕ
    pub answer_is : answer ≡ None
    pub are : steps ≡ step_at (at.SlotBack slot) last ∷ []

  back_ends : (slot : ℕ) (olds : List ℕ) (answer : Option (ℕ × ℕ))
      → (making_from (at.SlotBack slot) olds).next ≡ Done answer
      → SlotGivenBack slot answer (making_from (at.SlotBack slot) olds).steps
  back_ends slot [] answer done = absurd (cc)
  back_ends slot (last ∷ olds) answer done = record { last = last; answer_is = cc; are = refl }

  -- none of them looks at a page
  pub stores_blind : (slot : ℕ) (nested : Bool) (page : ℕ) (answer : Option (ℕ × ℕ)) (steps : List Performed)
      → Stored slot nested page answer steps → AreBlind steps
  stores_blind slot nested page answer steps stored =
      subst AreBlind (sym stored.are) (
        λ looks. looks,
        (λ looks. looks, (λ looks. looks, (λ looks. looks, (λ looks. looks, tt)))),
      )

  -- ---- a page is taken

  abbrev pub TopEnds : ℕ → Option (ℕ × ℕ) → List Performed → Option ℕ → Type 0
  TopEnds slot answer steps None = SlotGivenBack slot answer steps
  TopEnds slot answer steps (Some page) = Stored slot true page answer steps

  -- the operations of the taking of a page, and those behind
  pub record TopEnded (slot : ℕ) (answer : Option (ℕ × ℕ)) (steps : List Performed) : Type 0 where
    pub page : Option ℕ
    pub looking : List Performed
    pub rest : List Performed
    pub looked : LookedThrough g 1 page looking
    pub ends : TopEnds slot answer rest page
    pub are : steps ≡ looking ++ rest

  module _ (slot : ℕ) where
    -- while a page is taken, and once that has ended
    abbrev topping : TakeRunModel → MakeModel
    topping take = making (at.TakingTop slot take)

    abbrev topped : TakeRunModel → Option ℕ → MakeModel × Next (Option (ℕ × ℕ))
    topped take None = (making (at.SlotBack slot), Go)
    topped take (Some page) = (making (at.NextSerial slot true page), Go)

    on_top : (next : TakeRunModel × Next (Option ℕ))
        → (making (top_taken slot next.0 next.1), Go)
        ≡ on_piece take_run_plan take_run_after make_plan make_after topping topped next
    on_top (take, Go) = refl
    on_top (take, Done None) = refl
    on_top (take, Done (Some page)) = refl

    -- there is a page
    one_page : IsRunIn g 0 1
    one_page = let some = g.within.pages_within.0 in record { some = omega arith; within = omega (arith, some) }

    topped_ends : (first rest : List ℕ) (left : TakeRunModel) (page : Option ℕ) (answer : Option (ℕ × ℕ))
        → (run_taking_ran g 1 first).next ≡ Done page
        → (behind take_run_plan take_run_after make_plan make_after topping topped (run_taking_ran g 1 first).steps
        (topped left page) rest).next ≡ Done answer
        → TopEnded slot answer (behind take_run_plan take_run_after make_plan make_after topping topped
        (run_taking_ran g 1 first).steps (topped left page) rest).steps
    topped_ends first rest left None answer ended done = record {
      page = None;
      looking = (run_taking_ran g 1 first).steps;
      rest = (making_from (at.SlotBack slot) rest).steps;
      looked = looked_through g 1 first None one_page ended;
      ends = back_ends slot rest answer done;
      are = refl;
    }
    topped_ends first rest left (Some page) answer ended done = record {
      page = Some page;
      looking = (run_taking_ran g 1 first).steps;
      rest = (making_from (at.NextSerial slot true page) rest).steps;
      looked = looked_through g 1 first (Some page) one_page ended;
      ends = stores_end slot true page rest answer done;
      are = refl;
    }

    top_ends : (olds : List ℕ) (answer : Option (ℕ × ℕ))
        → (making_from (at.TakingTop slot (first_run g 1)) olds).next ≡ Done answer
        → TopEnded slot answer (making_from (at.TakingTop slot (first_run g 1)) olds).steps
    top_ends olds answer done =
        let piece = piece_ended take_run_plan take_run_after make_plan make_after topping topped (λ take. refl)
        (λ take old. on_top (take_run_after take old)) olds (first_run g 1) answer done in
        subst (λ (run : Ran (Option (ℕ × ℕ))). run.next ≡ Done answer → TopEnded slot answer run.steps) (sym piece.is)
        (topped_ends piece.first piece.rest piece.left piece.answer answer piece.ended) done

  -- ---- a run is taken

  -- where there is none
  abbrev pub NoRunEnds : Bool → ℕ → Option (ℕ × ℕ) → List Performed → Type 0
  NoRunEnds true slot answer steps = TopEnded slot answer steps
  NoRunEnds false slot answer steps = SlotGivenBack slot answer steps

  no_run_ends : (nested : Bool) (slot : ℕ) (olds : List ℕ) (answer : Option (ℕ × ℕ))
      → (making_from (no_run g nested slot) olds).next ≡ Done answer
      → NoRunEnds nested slot answer (making_from (no_run g nested slot) olds).steps
  no_run_ends true slot olds answer done = top_ends slot olds answer done
  no_run_ends false slot olds answer done = back_ends slot olds answer done

  abbrev pub RunEnds : ℕ → Option (ℕ × ℕ) → List Performed → Option ℕ → Type 0
  RunEnds slot answer steps None = NoRunEnds nests slot answer steps
  RunEnds slot answer steps (Some page) = Stored slot false page answer steps

  -- the operations of the taking of a run, and those behind
  pub record RunEnded (slot : ℕ) (answer : Option (ℕ × ℕ)) (steps : List Performed) : Type 0 where
    pub page : Option ℕ
    pub looking : List Performed
    pub rest : List Performed
    pub looked : LookedThrough g pages page looking
    pub ends : RunEnds slot answer rest page
    pub are : steps ≡ looking ++ rest

  module _ (slot : ℕ) where
    abbrev running : TakeRunModel → MakeModel
    running take = making (at.Taking slot take)

    abbrev ran_out : TakeRunModel → Option ℕ → MakeModel × Next (Option (ℕ × ℕ))
    ran_out take None = (making (no_run g nests slot), Go)
    ran_out take (Some page) = (making (run_found slot page), Go)

    on_run : (next : TakeRunModel × Next (Option ℕ))
        → (making (run_taken g nests slot next.0 next.1), Go)
        ≡ on_piece take_run_plan take_run_after make_plan make_after running ran_out next
    on_run (take, Go) = refl
    on_run (take, Done None) = refl
    on_run (take, Done (Some page)) = refl

    ran_ends : (run : IsRunIn g 0 pages) (first rest : List ℕ) (left : TakeRunModel) (page : Option ℕ)
        (answer : Option (ℕ × ℕ))
        → (run_taking_ran g pages first).next ≡ Done page
        → (behind take_run_plan take_run_after make_plan make_after running ran_out
        (run_taking_ran g pages first).steps (ran_out left page) rest).next ≡ Done answer
        → RunEnded slot answer (behind take_run_plan take_run_after make_plan make_after running ran_out
        (run_taking_ran g pages first).steps (ran_out left page) rest).steps
    ran_ends run first rest left None answer ended done = record {
      page = None;
      looking = (run_taking_ran g pages first).steps;
      rest = (making_from (no_run g nests slot) rest).steps;
      looked = looked_through g pages first None run ended;
      ends = no_run_ends nests slot rest answer done;
      are = refl;
    }
    ran_ends run first rest left (Some page) answer ended done = record {
      page = Some page;
      looking = (run_taking_ran g pages first).steps;
      rest = (making_from (run_found slot page) rest).steps;
      looked = looked_through g pages first (Some page) run ended;
      ends = stores_end slot false page rest answer done;
      are = refl;
    }

    run_ends : IsRunIn g 0 pages → (olds : List ℕ) (answer : Option (ℕ × ℕ))
        → (making_from (at.Taking slot (first_run g pages)) olds).next ≡ Done answer
        → RunEnded slot answer (making_from (at.Taking slot (first_run g pages)) olds).steps
    run_ends run olds answer done =
        let piece = piece_ended take_run_plan take_run_after make_plan make_after running ran_out (λ take. refl)
        (λ take old. on_run (take_run_after take old)) olds (first_run g pages) answer done in
        subst (λ (run : Ran (Option (ℕ × ℕ))). run.next ≡ Done answer → RunEnded slot answer run.steps) (sym piece.is)
        (ran_ends run piece.first piece.rest piece.left piece.answer answer piece.ended) done

    -- from the taking of the slot on
    pub started_ends : (olds : List ℕ) (answer : Option (ℕ × ℕ))
        → (making_from (run_started g nests slot (take_run_new g pages)) olds).next ≡ Done answer
        → RunEnded slot answer (making_from (run_started g nests slot (take_run_new g pages)) olds).steps
    started_ends olds answer =
        let some = made_pages-some exponent in
        let same : run_length pages ≡ pages = omega (arith, some) in
        cond_both (nat_le (run_length pages) g.pages) (starts.Running (first_run g (run_length pages)))
        (starts.Done None)
        (λ start. (making_from (run_started g nests slot start) olds).next ≡ Done answer
        → RunEnded slot answer (making_from (run_started g nests slot start) olds).steps)
        (λ t.
        let fits : run_length pages ≤ g.pages = leb-true (run_length pages) g.pages t in
        subst
        (λ p. (making_from (at.Taking slot (first_run g p)) olds).next ≡ Done answer
        → RunEnded slot answer (making_from (at.Taking slot (first_run g p)) olds).steps)
        (sym same)
        (run_ends (record { some = omega (arith, some); within = omega (arith, fits, same) }) olds answer))
        (λ f done.
        let few : g.pages < run_length pages = leb-false (run_length pages) g.pages f in
        record {
          page = None;
          looking = [];
          rest = (making_from (no_run g nests slot) olds).steps;
          looked = looked_none g pages (omega (arith, few, same));
          ends = no_run_ends nests slot olds answer done;
          are = refl;
        })
