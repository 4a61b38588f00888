-- A run that is answered was taken page by page, each of which was free until then.
--
-- The invariant (`TookAt`): at a run, the pages in the words before the machine's were each taken by one of the operations.
-- It goes on to the next word only by an And that found all bits of the run's pages in its word.
use Rattle.std.proofs.Common.{◌≡◌, ℕ, ◌+◌, ◌*◌, ◌/◌, ◌%◌, ◌^◌, ◌<◌, ◌≤◌, List, [], ◌∷◌, ◌++◌, Some, None, inl, inr, refl, sym, ap, ◌∙◌, subst, bit_and, arith}
use Rattle.std.proofs.lemmas.Bool.{cases_lt, cond_both, eqb-true, ltb-true, ltb-false}
use Rattle.std.proofs.lemmas.Nat.Bits.{bit_at_and, bit_at_not}
use Rattle.std.proofs.lemmas.List.Quantifiers.{Any-push}
use Rattle.std.proofs.lemmas.List.Elements.{All-from_recursion}
use Rattle.std.specs.Prelude.{Option, ◌==◌, nat_le, nat_lt}
use Rattle.std.specs.Int.{bit_not, w64}
use Rattle.std.specs.List.{AllByRecursion, Any}
use Rattle.rht_words.specs.declared.machine.Next.{Next}
use Rattle.rht_words.specs.declared.machine.Next.TheVariants.{Go, Done}
use Rattle.rht_words.specs.declared.geometry.Geometry.{Geometry}
use Rattle.rht_words.specs.Places.{PageMap, place_of}
use Rattle.rht_words.specs.Machines.{Performed}
use Rattle.rht_words.proofs.EachElement.{Any-append_left}
use Rattle.rht_words.proofs.MachineRuns.{performed, kept_to_end}
use Rattle.rht_arena.specs.declared.take_run.TakeRunAt.{TakeRunAt}
use Rattle.rht_arena.specs.declared.take_run.TakeRunAt.TheVariants.{MapWord, Claim, GiveBack}
use Rattle.rht_arena.specs.PageRuns.{run_bits, IsRunIn}
use Rattle.rht_arena.specs.TakeRun.{TakeRunModel, first_run, take_run_plan, take_run_plan_at, take_run_after, take_run_after_at, next_run, given_below, given_from, claimed, looked, cleared, has_run, IsRunAt, IsTakeRunAtIn}
use Rattle.rht_arena.specs.RunLaws.{IsOfRun, TakesPage, RunWasTaken, TakenRunWasFree}
use Rattle.rht_arena.proofs.RunBits.{run_bits-fits, bit_at-run, has_each}
use Rattle.rht_arena.proofs.RunsStay.{take_run_after-in}
use Rattle.rht_arena.proofs.RunsSeen.{begins-in}

-- the run's pages in the words before this one were each taken
abbrev pub TookBelow : Geometry → List Performed → ℕ → ℕ → Type 0
TookBelow g steps first index = (page : ℕ) → first ≤ page → page < 64 * index → Any (TakesPage g page) steps

-- and so it is at the state, but where pages are given back
abbrev pub TookAtState : Geometry → List Performed → TakeRunAt → Type 0
TookAtState g steps (MapWord first index) = TookBelow g steps first index
TookAtState g steps (Claim first index) = TookBelow g steps first index
TookAtState g steps (GiveBack first index bits) = Unit {0}

-- the first page of the state's run
abbrev pub run_of : TakeRunAt → ℕ
run_of (MapWord first index) = first
run_of (Claim first index) = first
run_of (GiveBack first index bits) = first

pub record TookAt (g : Geometry) (pages : ℕ) (steps : List Performed) (at : TakeRunAt) : Type 0 where
  pub multiple : ℕ
  pub aligned : run_of at ≡ multiple * pages
  pub took : TookAtState g steps at

-- so it stays, and gives at the end that the answer's run was taken
abbrev pub KeepsTook : Geometry → ℕ → List Performed → TakeRunModel × Next (Option ℕ) → Type 0
KeepsTook g pages steps (m, Go) = TookAt g pages steps m.at
KeepsTook g pages steps (m, Done None) = Unit {0}
KeepsTook g pages steps (m, Done (Some first)) = RunWasTaken g pages first steps

-- an And with all ones but the run's bits takes each page of the run in its word, where it finds them all
takes_page : (g : Geometry) (pages first index page old : ℕ) → IsOfRun first pages page → page / 64 ≡ index
    → bit_and old (run_bits first pages index) ≡ run_bits first pages index
    → TakesPage g page (record { op = take_run_plan_at g pages (Claim first index); old = old })
takes_page g pages first index page old of_run is all =
    let bits = run_bits first pages index in
    let bit = page % 64 in
    let low : bit < 64 = omega arith in
    let from : first ≤ 64 * index + bit = omega (arith, of_run.from, is) in
    let until : 64 * index + bit < first + pages = omega (arith, of_run.below, is) in
    let wanted = bit_at-run first pages index bit low from until in
    let fits : bits < 2 ^ 64 = run_bits-fits first pages index in
    record {
      place = ap (λ w. place_of g (PageMap w)) (sym is);
      free = has_each old bits bit all wanted;
      clears = omega (arith, bit_at_and old (bit_not w64 bits) bit, bit_at_not w64 bits bit fits low, wanted);
    }

module _ (m : TakeRunModel) (steps : List Performed) (step : Performed) where
  abbrev g : Geometry
  g = m.geometry

  -- the operations with this one
  abbrev done : List Performed
  done = steps ++ step ∷ []

  -- what was taken stays so
  TookBelow-push : (first index : ℕ) → TookBelow g steps first index → TookBelow g done first index
  TookBelow-push first index took page from below =
      Any-append_left (TakesPage g page) steps (step ∷ []) (took page from below)

  -- at a new run there is no word before
  next_run-took : (first multiple : ℕ) → first ≡ multiple * m.pages → KeepsTook g m.pages done (next_run m first)
  next_run-took first multiple aligned =
      cond_both (nat_le (first + 2 * m.pages) g.pages) _ _ (KeepsTook g m.pages done)
      (λ t. record {
        multiple = multiple + 1;
        aligned = omega (arith, aligned);
        took = λ page from below. absurd (omega (arith, from, below));
      })
      (λ f. tt)

  given_below-took : (first index multiple : ℕ) → first ≡ multiple * m.pages
      → KeepsTook g m.pages done (given_below m first index)
  given_below-took first index multiple aligned =
      cond_both (nat_le (64 * index) first) _ _ (KeepsTook g m.pages done)
      (λ t. next_run-took first multiple aligned)
      (λ f. record { multiple = multiple; aligned = aligned; took = tt })

  given_from-took : (first index bits multiple : ℕ) → first ≡ multiple * m.pages
      → KeepsTook g m.pages done (given_from m first index bits)
  given_from-took first index bits multiple aligned =
      cond_both (bits == 0) _ _ (KeepsTook g m.pages done)
      (λ t. given_below-took first index multiple aligned)
      (λ f. record { multiple = multiple; aligned = aligned; took = tt })

  -- the pages in the words up to this one are taken
  claimed-took : (first index multiple : ℕ) → IsRunAt g m.pages first index → first ≡ multiple * m.pages
      → ((page : ℕ) → IsOfRun first m.pages page → page < 64 * (index + 1) → Any (TakesPage g page) done)
      → KeepsTook g m.pages done (claimed m first index)
  claimed-took first index multiple here aligned took =
      cond_both (nat_lt (64 * (index + 1)) (first + m.pages)) _ _ (KeepsTook g m.pages done)
      (λ t.
      let more : 64 * (index + 1) < first + m.pages = ltb-true (64 * (index + 1)) (first + m.pages) t in
      record {
        multiple = multiple;
        aligned = aligned;
        took = λ page from below.
            took page (record { from = from; below = omega (arith, below, more) }) below;
      })
      (λ f.
      let last : first + m.pages ≤ 64 * (index + 1) = ltb-false (64 * (index + 1)) (first + m.pages) f in
      record {
        run = here.run;
        multiple = multiple;
        aligned = aligned;
        taken = λ page of_run. took page of_run (omega (arith, of_run.below, last));
      })

  cleared-took : (first index multiple : ℕ) → IsRunAt g m.pages first index → first ≡ multiple * m.pages
      → TookBelow g steps first index
      → step.op ≡ take_run_plan_at g m.pages (Claim first index)
      → KeepsTook g m.pages done (cleared m first index step.old)
  cleared-took first index multiple here aligned took is =
      let bits = run_bits first m.pages index in
      cond_both (has_run first m.pages index step.old) _ _ (KeepsTook g m.pages done)
      (λ t.
      let all : bit_and step.old bits ≡ bits = eqb-true (bit_and step.old bits) bits t in
      claimed-took first index multiple here aligned
      (λ page of_run below. elim (cases_lt page (64 * index)) [
        | inl earlier ↦ TookBelow-push first index took page of_run.from earlier
        | inr in_word ↦
            let same : page / 64 ≡ index = omega (arith, below, in_word) in
            let takes = takes_page g m.pages first index page step.old of_run same all in
            Any-push (TakesPage g page) steps step
            (subst (λ op. TakesPage g page (record { op = op; old = step.old })) (sym is) takes)
      ]))
      (λ f. given_from-took first index (bit_and step.old bits) multiple aligned)

  looked-took : (first index multiple : ℕ) → first ≡ multiple * m.pages → TookBelow g steps first index
      → KeepsTook g m.pages done (looked m first index step.old)
  looked-took first index multiple aligned took =
      cond_both (has_run first m.pages index step.old) _ _ (KeepsTook g m.pages done)
      (λ t. record {
        multiple = multiple;
        aligned = aligned;
        took = TookBelow-push first index took;
      })
      (λ f. given_below-took first index multiple aligned)

  took_at : (state : TakeRunAt) → IsTakeRunAtIn g m.pages state → TookAt g m.pages steps state
      → step.op ≡ take_run_plan_at g m.pages state
      → KeepsTook g m.pages done (take_run_after_at m state step.old)
  took_at (MapWord first index) here so_far is = looked-took first index so_far.multiple so_far.aligned so_far.took
  took_at (Claim first index) here so_far is =
      cleared-took first index so_far.multiple here so_far.aligned so_far.took is
  took_at (GiveBack first index bits) here so_far is =
      given_below-took first index so_far.multiple so_far.aligned

-- ---- a run of the machine

-- The invariant, of a machine of this table that takes so many pages.
pub record TookSoFar (g : Geometry) (pages : ℕ) (steps : List Performed) (m : TakeRunModel) : Type 0 where
  pub geometry_same : m.geometry ≡ g
  pub pages_same : m.pages ≡ pages
  pub here : IsTakeRunAtIn g pages m.at
  pub took : TookAt g pages steps m.at

-- what is said of an answer
abbrev IsTakenRun : Geometry → ℕ → List Performed → Option ℕ → Type 0
IsTakenRun g pages steps None = Unit {0}
IsTakenRun g pages steps (Some first) = RunWasTaken g pages first steps

module _ (g : Geometry) (pages : ℕ) (steps : List Performed) (m : TakeRunModel) (old : ℕ)
    (so_far : TookSoFar g pages steps m) where
  abbrev step_of : Performed
  step_of = performed take_run_plan take_run_after m old

  abbrev with_it : List Performed
  with_it = steps ++ step_of ∷ []

  -- what is so of the machine in its own terms
  own : IsTakeRunAtIn m.geometry m.pages m.at × TookAt m.geometry m.pages steps m.at
  own =
      subst (λ p. IsTakeRunAtIn m.geometry p m.at × TookAt m.geometry p steps m.at) (sym so_far.pages_same)
      (subst (λ (h : Geometry). IsTakeRunAtIn h pages m.at × TookAt h pages steps m.at) (sym so_far.geometry_same)
      (so_far.here, so_far.took))

  kept : KeepsTook g pages with_it (take_run_after m old)
  kept =
      subst (λ p. KeepsTook g p with_it (take_run_after m old)) so_far.pages_same
      (subst (λ (h : Geometry). KeepsTook h m.pages with_it (take_run_after m old)) so_far.geometry_same
      (took_at m steps step_of m.at own.0 own.1 refl))

  kept_as : (next : Next (Option ℕ)) → (take_run_after m old).1 ≡ next
      → KeepsTook g pages with_it ((take_run_after m old).0, next)
  kept_as next is = subst (λ n. KeepsTook g pages with_it ((take_run_after m old).0, n)) is kept

  pub took_goes_on : (take_run_after m old).1 ≡ Go → TookSoFar g pages with_it (take_run_after m old).0
  took_goes_on is =
      let stays = take_run_after-in m old own.0 in
      let left = (take_run_after m old).0 in
      record {
        geometry_same = stays.geometry_same ∙ so_far.geometry_same;
        pages_same = stays.pages_same ∙ so_far.pages_same;
        here =
            subst (λ p. IsTakeRunAtIn g p left.at) so_far.pages_same
            (subst (λ (h : Geometry). IsTakeRunAtIn h m.pages left.at) so_far.geometry_same stays.range);
        took = kept_as Go is;
      }

  -- and a run that is answered was taken
  pub took_after : (first : ℕ) → (take_run_after m old).1 ≡ Done (Some first) → RunWasTaken g pages first with_it
  took_after first is = kept_as (Done (Some first)) is

  answers : (answer : Option ℕ) → (take_run_after m old).1 ≡ Done answer → IsTakenRun g pages with_it answer
  answers None is = tt
  answers (Some first) is = took_after first is

-- what was taken stays so
pub RunWasTaken-push : (g : Geometry) (pages first : ℕ) (steps : List Performed) (step : Performed)
    → RunWasTaken g pages first steps → RunWasTaken g pages first (steps ++ step ∷ [])
RunWasTaken-push g pages first steps step was = record {
  run = was.run;
  multiple = was.multiple;
  aligned = was.aligned;
  taken = λ page of_run. Any-append_left (TakesPage g page) steps (step ∷ []) (was.taken page of_run);
}

-- a machine that begins has taken nothing
pub took_so_far-begins : (g : Geometry) (pages : ℕ) (steps : List Performed) → IsRunIn g 0 pages
    → TookSoFar g pages steps (first_run g pages)
took_so_far-begins g pages steps run = record {
  geometry_same = refl;
  pages_same = refl;
  here = begins-in g pages run;
  took = record {
    multiple = 0;
    aligned = omega arith;
    took = λ page from below. absurd (omega (arith, below));
  };
}

-- nothing is asked of the words that the operations find
pub anything : (olds : List ℕ) → AllByRecursion (λ (old : ℕ). Unit {0}) olds
anything [] = tt
anything (old ∷ olds) = (tt, anything olds)

pub taken_run_was_free : TakenRunWasFree
taken_run_was_free g pages olds first run done =
    kept_to_end take_run_plan take_run_after (λ old. Unit {0}) (TookSoFar g pages) (IsTakenRun g pages)
    (λ steps m old known so_far is. took_goes_on g pages steps m old so_far is)
    (λ steps m old answer known so_far is. answers g pages steps m old so_far answer is)
    [] (first_run g pages) olds (Some first)
    (All-from_recursion (λ (old : ℕ). Unit {0}) olds (anything olds))
    (took_so_far-begins g pages [] run)
    done
