-- None is answered exactly where each run was seen taken in its turn.
--
-- The machine stands at one run, and goes to the next one exactly by an operation that sees a page of its own run taken: a
-- load or an And that doesn't find all bits of the run's pages in a word. While it gives pages back it stands at the next
-- run already. So where it finds none, each run was seen in turn. And where runs are seen in turn, the machine stands at
-- the next one that is to be seen or behind it (`in_turn-none`), so it has none left to answer.
use Rattle.std.proofs.Common.{◌≡◌, ℕ, zero, suc, ◌+◌, ◌*◌, ◌/◌, ◌%◌, ◌<◌, ◌≤◌, List, [], ◌∷◌, Some, None, inl, inr, refl, sym, ap, subst, bit_and, arith}
use Rattle.std.proofs.lemmas.Bool.{cond_both, eqb-true, eqb-false, leb-false}
use Rattle.std.specs.Prelude.{Option, ◌⊎◌, ◌==◌, nat_le, nat_lt, if◌then◌else◌}
use Rattle.std.specs.List.{Any}
use Rattle.rht_words.specs.declared.machine.Next.{Next}
use Rattle.rht_words.specs.declared.machine.Next.TheVariants.{Go, Done}
use Rattle.rht_words.specs.declared.geometry.Geometry.{Geometry}
use Rattle.rht_words.specs.Places.{PageMap, place_of}
use Rattle.rht_words.specs.Operations.{op_place}
use Rattle.rht_words.specs.Machines.{Performed, Ran, went_on, ran}
use Rattle.rht_words.proofs.MachineRuns.{performed}
use Rattle.rht_arena.specs.declared.take_run.TakeRunAt.{TakeRunAt}
use Rattle.rht_arena.specs.declared.take_run.TakeRunAt.TheVariants.{MapWord, Claim, GiveBack}
use Rattle.rht_arena.specs.Laws.{IsLook}
use Rattle.rht_arena.specs.PageRuns.{run_bits, IsRunIn, IsRunWord}
use Rattle.rht_arena.specs.TakeRun.{TakeRunModel, first_run, take_run_plan, take_run_plan_at, take_run_after, take_run_after_at, next_run, given_below, given_from, claimed, has_run, IsRunAt, IsTakeRunAtIn}
use Rattle.rht_arena.specs.RunLaws.{SeesRunTaken, AreRunsSeenInTurn, run_taking_ran, NoneOnlyWhereRunsTaken, NoneWhereRunsTakenInTurn}
use Rattle.rht_arena.proofs.RunBits.{run_bits-fits, bit_at-run, bit_at-run_from, bit_at-run_until, has_each, lacks_bit}
use Rattle.rht_arena.proofs.RunsStay.{take_run_after-in}
use Rattle.rht_arena.proofs.NodesInTurn.{Any-behind}

-- the run at which the machine stands
abbrev pub next_unseen : ℕ → TakeRunAt → ℕ
next_unseen pages (MapWord first index) = first
next_unseen pages (Claim first index) = first
next_unseen pages (GiveBack first index bits) = first + pages

-- ---- what one operation sees

-- an operation that doesn't find all bits of the run in a word sees it taken
sees_run : (g : Geometry) (pages first index : ℕ) (step : Performed) → IsRunWord first pages index
    → IsLook step.op → op_place step.op ≡ place_of g (PageMap index)
    → (bit_and step.old (run_bits first pages index) ≡ run_bits first pages index → ⊥)
    → SeesRunTaken g pages first step
sees_run g pages first index step word looks is other =
    let lacks = lacks_bit step.old (run_bits first pages index) (run_bits-fits first pages index) other in
    let bit = lacks.bit in
    let low = lacks.low in
    let of_word : (64 * index + bit) / 64 ≡ index = omega (arith, low) in
    let of_bit : (64 * index + bit) % 64 ≡ bit = omega (arith, low) in
    record {
      page = 64 * index + bit;
      of_run = record {
        from = bit_at-run_from first pages index bit low lacks.wanted;
        below = bit_at-run_until first pages index bit low lacks.wanted;
      };
      sees = record { looks = looks; place = rw of_word is; taken = rw of_bit lacks.clear };
    }

-- and one that finds them all doesn't
sees_no_run : (g : Geometry) (pages first index : ℕ) (step : Performed)
    → op_place step.op ≡ place_of g (PageMap index)
    → bit_and step.old (run_bits first pages index) ≡ run_bits first pages index
    → SeesRunTaken g pages first step → ⊥
sees_no_run g pages first index step is all sees =
    let page = sees.page in
    let of_run = sees.of_run in
    let bit = page % 64 in
    let same : page / 64 ≡ index = omega (arith, is, sees.sees.place) in
    let from : first ≤ 64 * index + bit = omega (arith, of_run.from, same) in
    let until : 64 * index + bit < first + pages = omega (arith, of_run.below, same) in
    let wanted = bit_at-run first pages index bit (omega arith) from until in
    let set = has_each step.old (run_bits first pages index) bit all wanted in
    absurd (omega (arith, set, sees.sees.taken))

-- where the machine stands after an operation
abbrev pub StandsAt : Geometry → ℕ → ℕ → TakeRunModel × Next (Option ℕ) → Type 0
StandsAt g pages end (m, Go) = next_unseen pages m.at ≡ end
StandsAt g pages end (m, Done None) = g.pages < end + pages
StandsAt g pages end (m, Done (Some first)) = end + pages ≤ g.pages

-- an operation goes to the next run where it sees the machine's own taken, and else stays
abbrev pub Went : Geometry → ℕ → ℕ → ℕ → Performed → Type 0
Went g pages stand end step =
    ((end ≡ stand) × (SeesRunTaken g pages stand step → ⊥))
    ⊎ ((end ≡ stand + pages) × SeesRunTaken g pages stand step)

pub record GoesOn (g : Geometry) (pages stand : ℕ) (step : Performed) (next : TakeRunModel × Next (Option ℕ)) : Type 0 where
  pub end : ℕ
  pub went : Went g pages stand end step
  pub stands : StandsAt g pages end next

-- the place is that of a run so many runs behind the first
abbrev pub IsAhead : ℕ → ℕ → ℕ → Type 0
IsAhead pages first place = (ahead : ℕ) × (place ≡ first + ahead * pages)

module _ (g : Geometry) (pages stand end : ℕ) (step : Performed) where
  -- where the runs behind are seen in turn, so are those from the machine's own on
  pub turn_before : (steps : List Performed) → Went g pages stand end step
      → AreRunsSeenInTurn g pages end steps → AreRunsSeenInTurn g pages stand (step ∷ steps)
  turn_before steps (inl stays) behind = inl (subst (λ e. AreRunsSeenInTurn g pages e steps) stays.0 behind)
  turn_before steps (inr goes) behind =
      inr (goes.1, subst (λ e. AreRunsSeenInTurn g pages e steps) goes.0 behind)

  -- where the machine stands at the next run that is to be seen or behind it, it does so after the operation
  ahead_of_turn : (first ahead : ℕ) → stand ≡ first + ahead * pages → Went g pages stand end step
      → (Behind : ℕ → Type 0) → Behind first ⊎ (SeesRunTaken g pages first step × Behind (first + pages))
      → (next : ℕ) × (Behind next × IsAhead pages next end)
  ahead_of_turn first ahead is (inl stays) Behind (inl turn) =
      (first, (turn, (ahead, omega (arith, is, stays.0))))
  ahead_of_turn first ahead is (inr goes) Behind (inl turn) =
      (first, (turn, (ahead + 1, omega (arith, is, goes.0))))
  ahead_of_turn first zero is (inl stays) Behind (inr (sees, turn)) =
      let same : first ≡ stand = omega (arith, is) in
      absurd (stays.1 (subst (λ f. SeesRunTaken g pages f step) same sees))
  ahead_of_turn first (suc ahead) is (inl stays) Behind (inr (sees, turn)) =
      (first + pages, (turn, (ahead, omega (arith, is, stays.0))))
  ahead_of_turn first ahead is (inr goes) Behind (inr (sees, turn)) =
      (first + pages, (turn, (ahead, omega (arith, is, goes.0))))

  pub ahead_after : (first : ℕ) → IsAhead pages first stand → Went g pages stand end step
      → (Behind : ℕ → Type 0) → Behind first ⊎ (SeesRunTaken g pages first step × Behind (first + pages))
      → (next : ℕ) × (Behind next × IsAhead pages next end)
  ahead_after first at went Behind turn = ahead_of_turn first at.0 at.1 went Behind turn

module _ (m : TakeRunModel) where
  abbrev g : Geometry
  g = m.geometry

  -- behind a run comes the next one
  next_run-at : (first : ℕ) → StandsAt g m.pages (first + m.pages) (next_run m first)
  next_run-at first =
      cond_both (nat_le (first + 2 * m.pages) g.pages) _ _ (StandsAt g m.pages (first + m.pages)) (λ t. refl)
      (λ f.
      let past = leb-false (first + 2 * m.pages) g.pages f in
      omega (arith, past))

  given_below-at : (first index : ℕ) → StandsAt g m.pages (first + m.pages) (given_below m first index)
  given_below-at first index =
      cond_both (nat_le (64 * index) first) _ _ (StandsAt g m.pages (first + m.pages))
      (λ t. next_run-at first) (λ f. refl)

  given_from-at : (first index bits : ℕ)
      → StandsAt g m.pages (first + m.pages) (given_from m first index bits)
  given_from-at first index bits =
      cond_both (bits == 0) _ _ (StandsAt g m.pages (first + m.pages)) (λ t. given_below-at first index)
      (λ f. refl)

  claimed-at : (first index : ℕ) → IsRunIn g first m.pages → StandsAt g m.pages first (claimed m first index)
  claimed-at first index run =
      cond_both (nat_lt (64 * (index + 1)) (first + m.pages)) _ _ (StandsAt g m.pages first) (λ t. refl)
      (λ f. run.within)

  -- a step that looks at a word of its run, by what comes after it where the word has all bits of the run, and where not
  looks-at : (first index : ℕ) (step : Performed) (all some : TakeRunModel × Next (Option ℕ))
      → IsRunAt g m.pages first index → IsLook step.op → op_place step.op ≡ place_of g (PageMap index)
      → StandsAt g m.pages first all → StandsAt g m.pages (first + m.pages) some
      → GoesOn g m.pages first step (if has_run first m.pages index step.old then all else some)
  looks-at first index step all some here looks is stays goes =
      let bits = run_bits first m.pages index in
      cond_both (has_run first m.pages index step.old) all some (GoesOn g m.pages first step)
      (λ t.
      let found : bit_and step.old bits ≡ bits = eqb-true (bit_and step.old bits) bits t in
      record {
        end = first;
        went = inl (refl, sees_no_run g m.pages first index step is found);
        stands = stays;
      })
      (λ f.
      let other : (bit_and step.old bits ≡ bits → ⊥) = eqb-false (bit_and step.old bits) bits f in
      record {
        end = first + m.pages;
        went = inr (refl, sees_run g m.pages first index step here.word looks is other);
        stands = goes;
      })

  goes_on_at : (state : TakeRunAt) (step : Performed) → step.op ≡ take_run_plan_at g m.pages state
      → IsTakeRunAtIn g m.pages state
      → GoesOn g m.pages (next_unseen m.pages state) step (take_run_after_at m state step.old)
  goes_on_at (MapWord first index) step is here =
      looks-at first index step _ _ here (subst IsLook (sym is) tt) (ap op_place is) refl
      (given_below-at first index)
  goes_on_at (Claim first index) step is here =
      looks-at first index step _ _ here (subst IsLook (sym is) tt) (ap op_place is)
      (claimed-at first index here.run)
      (given_from-at first index (bit_and step.old (run_bits first m.pages index)))
  goes_on_at (GiveBack first index bits) step is here = record {
    end = first + m.pages;
    went = inl (refl, λ sees. subst IsLook is sees.sees.looks);
    stands = given_below-at first index;
  }

-- and so it is of a machine of this table that takes so many pages
pub goes_on_in : (g : Geometry) (pages : ℕ) (m : TakeRunModel) (old : ℕ) → m.geometry ≡ g → m.pages ≡ pages
    → IsTakeRunAtIn g pages m.at
    → GoesOn g pages (next_unseen pages m.at) (performed take_run_plan take_run_after m old) (take_run_after m old)
goes_on_in g pages m old table many here =
    let step = performed take_run_plan take_run_after m old in
    let next = take_run_after m old in
    let own : IsTakeRunAtIn m.geometry m.pages m.at =
    subst (λ p. IsTakeRunAtIn m.geometry p m.at) (sym many)
    (subst (λ (h : Geometry). IsTakeRunAtIn h pages m.at) (sym table) here) in
    subst (λ p. GoesOn g p (next_unseen p m.at) step next) many
    (subst (λ (h : Geometry). GoesOn h m.pages (next_unseen m.pages m.at) step next) table
    (goes_on_at m m.at step refl own))

-- ---- a run of the machine

-- what comes of a machine
abbrev taken : TakeRunModel → List ℕ → Ran (Option ℕ)
taken m olds = ran take_run_plan take_run_after m olds

module _ (m : TakeRunModel) (old : ℕ) (rest : Ran (Option ℕ)) (here : IsTakeRunAtIn m.geometry m.pages m.at) where
  abbrev table : Geometry
  table = m.geometry

  abbrev step : Performed
  step = performed take_run_plan take_run_after m old

  abbrev left : TakeRunModel
  left = (take_run_after m old).0

  abbrev stand : ℕ
  stand = next_unseen m.pages m.at

  -- what its first operation does
  goes : (next : Next (Option ℕ)) → (take_run_after m old).1 ≡ next
      → GoesOn table m.pages stand step (left, next)
  goes next is = subst (λ n. GoesOn table m.pages stand step (left, n)) is (goes_on_at m m.at step refl here)

  none_step : (next : Next (Option ℕ)) → (take_run_after m old).1 ≡ next
      → (rest.next ≡ Done None → AreRunsSeenInTurn table m.pages (next_unseen m.pages left.at) rest.steps)
      → (went_on step next rest).next ≡ Done None
      → AreRunsSeenInTurn table m.pages stand (went_on step next rest).steps
  none_step Go is later none =
      let on = goes Go is in
      turn_before table m.pages stand on.end step rest.steps on.went
      (subst (λ e. AreRunsSeenInTurn table m.pages e rest.steps) on.stands (later none))
  none_step (Done None) is later none =
      let on = goes (Done None) is in
      turn_before table m.pages stand on.end step [] on.went on.stands
  none_step (Done (Some first)) is later none = absurd (cc)

  none_follows : (next : Next (Option ℕ)) → (take_run_after m old).1 ≡ next
      → (first : ℕ) → IsAhead m.pages first stand
      → ((first : ℕ) → IsAhead m.pages first (next_unseen m.pages left.at)
      → AreRunsSeenInTurn table m.pages first rest.steps
      → (answer : Option ℕ) → rest.next ≡ Done answer → answer ≡ None)
      → AreRunsSeenInTurn table m.pages first (went_on step next rest).steps
      → (answer : Option ℕ) → (went_on step next rest).next ≡ Done answer → answer ≡ None
  none_follows Go is first at later turn answer done =
      let on = goes Go is in
      let after = ahead_after table m.pages stand on.end step first at on.went
      (λ f. AreRunsSeenInTurn table m.pages f rest.steps) turn in
      later after.0 (subst (IsAhead m.pages after.0) (sym on.stands) after.1.1) after.1.0 answer done
  none_follows (Done None) is first at later turn answer done = cc
  none_follows (Done (Some answered)) is first at later turn answer done =
      let on = goes (Done (Some answered)) is in
      let after = ahead_after table m.pages stand on.end step first at on.went
      (λ f. table.pages < f + m.pages) turn in
      absurd (omega (arith, on.stands, after.1.0, after.1.1.1))

-- the machine after an operation, in its own table and with its own number of pages
module _ (m : TakeRunModel) (old : ℕ) (here : IsTakeRunAtIn m.geometry m.pages m.at) where
  abbrev behind : TakeRunModel
  behind = (take_run_after m old).0

  behind-in : IsTakeRunAtIn behind.geometry behind.pages behind.at
  behind-in =
      let stays = take_run_after-in m old here in
      subst (λ p. IsTakeRunAtIn behind.geometry p behind.at) (sym stays.pages_same)
      (subst (λ (h : Geometry). IsTakeRunAtIn h m.pages behind.at) (sym stays.geometry_same) stays.range)

  -- what is seen of its runs is seen of those of this machine
  to_own : (first : ℕ → ℕ) (steps : List Performed)
      → AreRunsSeenInTurn behind.geometry behind.pages (first behind.pages) steps
      → AreRunsSeenInTurn m.geometry m.pages (first m.pages) steps
  to_own first steps turn =
      let stays = take_run_after-in m old here in
      subst (λ p. AreRunsSeenInTurn m.geometry p (first p) steps) stays.pages_same
      (subst (λ (h : Geometry). AreRunsSeenInTurn h behind.pages (first behind.pages) steps)
      stays.geometry_same turn)

  from_own : (first : ℕ) (steps : List Performed) → AreRunsSeenInTurn m.geometry m.pages first steps
      → AreRunsSeenInTurn behind.geometry behind.pages first steps
  from_own first steps turn =
      let stays = take_run_after-in m old here in
      subst (λ p. AreRunsSeenInTurn behind.geometry p first steps) (sym stays.pages_same)
      (subst (λ (h : Geometry). AreRunsSeenInTurn h m.pages first steps) (sym stays.geometry_same) turn)

  -- and it stands as many runs ahead
  ahead_of : (first : ℕ) → IsAhead m.pages first (next_unseen m.pages behind.at)
      → IsAhead behind.pages first (next_unseen behind.pages behind.at)
  ahead_of first ahead =
      let stays = take_run_after-in m old here in
      subst (λ p. IsAhead p first (next_unseen p behind.at)) (sym stays.pages_same) ahead

-- By induction over the words that the operations find.
none-in_turn : (m : TakeRunModel) (olds : List ℕ) → IsTakeRunAtIn m.geometry m.pages m.at
    → (taken m olds).next ≡ Done None
    → AreRunsSeenInTurn m.geometry m.pages (next_unseen m.pages m.at) (taken m olds).steps
none-in_turn m [] here none = absurd (cc)
none-in_turn m (old ∷ olds) here none =
    let left = (take_run_after m old).0 in
    let rest = taken left olds in
    none_step m old rest here (take_run_after m old).1 refl
    (λ later.
    to_own m old here (λ p. next_unseen p left.at) rest.steps
    (none-in_turn left olds (behind-in m old here) later))
    none

in_turn-none : (m : TakeRunModel) (olds : List ℕ) → IsTakeRunAtIn m.geometry m.pages m.at
    → (first : ℕ) → IsAhead m.pages first (next_unseen m.pages m.at)
    → AreRunsSeenInTurn m.geometry m.pages first (taken m olds).steps
    → (answer : Option ℕ) → (taken m olds).next ≡ Done answer → answer ≡ None
in_turn-none m [] here first at turn answer done = absurd (cc)
in_turn-none m (old ∷ olds) here first at turn answer done =
    let left = (take_run_after m old).0 in
    let rest = taken left olds in
    none_follows m old rest here (take_run_after m old).1 refl first at
    (λ f is_ahead seen found is.
    in_turn-none left olds (behind-in m old here) f (ahead_of m old here f is_ahead)
    (from_own m old here f rest.steps seen) found is)
    turn answer done

-- ---- the laws

-- a machine begins at the first run
pub begins-in : (g : Geometry) (pages : ℕ) → IsRunIn g 0 pages → IsTakeRunAtIn g pages (first_run g pages).at
begins-in g pages run = record {
  run = run;
  word = record { from = omega arith; until = omega (arith, run.some) };
}

pub none_where_runs_taken_in_turn : NoneWhereRunsTakenInTurn
none_where_runs_taken_in_turn g pages olds answer run done = (
  λ none.
      none-in_turn (first_run g pages) olds (begins-in g pages run)
      (subst (λ (a : Option ℕ). (run_taking_ran g pages olds).next ≡ Done a) none done),
  λ turn.
      in_turn-none (first_run g pages) olds (begins-in g pages run) 0 (0, omega arith) turn answer done,
)

-- runs that are seen in turn are each seen
in_turn-seen : (g : Geometry) (pages first : ℕ) (steps : List Performed)
    → AreRunsSeenInTurn g pages first steps → (multiple : ℕ) → IsRunIn g (first + multiple * pages) pages
    → Any (SeesRunTaken g pages (first + multiple * pages)) steps
in_turn-seen g pages first [] turn multiple run = absurd (omega (arith, turn, run.within))
in_turn-seen g pages first (step ∷ steps) (inl turn) multiple run =
    Any-behind (SeesRunTaken g pages (first + multiple * pages)) step steps
    (in_turn-seen g pages first steps turn multiple run)
in_turn-seen g pages first (step ∷ steps) (inr (sees, turn)) zero run =
    let same : first ≡ first + zero * pages = omega arith in
    (0, step, omega arith, refl, subst (λ f. SeesRunTaken g pages f step) same sees)
in_turn-seen g pages first (step ∷ steps) (inr (sees, turn)) (suc multiple) run =
    let same : first + pages + multiple * pages ≡ first + suc multiple * pages = omega arith in
    Any-behind (SeesRunTaken g pages (first + suc multiple * pages)) step steps
    (subst (λ f. Any (SeesRunTaken g pages f) steps) same
    (in_turn-seen g pages (first + pages) steps turn multiple
    (subst (λ f. IsRunIn g f pages) (sym same) run)))

pub none_only_where_runs_taken : NoneOnlyWhereRunsTaken
none_only_where_runs_taken g pages olds run none multiple there =
    let turn = none-in_turn (first_run g pages) olds (begins-in g pages run) none in
    let same : 0 + multiple * pages ≡ multiple * pages = omega arith in
    subst (λ f. Any (SeesRunTaken g pages f) (run_taking_ran g pages olds).steps) same
    (in_turn-seen g pages 0 (run_taking_ran g pages olds).steps turn multiple
    (subst (λ f. IsRunIn g f pages) (sym same) there))
