-- A small run that is written out, with a history that fits it and five that don't. Two callers look ports up in a table of four buckets
-- in which nothing is bound: caller 0 port 5, caller 1 port 6, one beside the other, and then caller 0 port 7. All are answered `Missing`.
-- So each of these histories is legal, whatever its order, and what is refused is refused for what the run says of its calls.
use Rattle.std.proofs.Common.{◌≡◌, ℕ, zero, suc, ◌+◌, ◌*◌, ◌<◌, ◌≤◌, List, [], ◌∷◌, length, lit≤, refl, sym, ap, ◌∙◌, subst, inl, inr, arith}
use Rattle.std.specs.Prelude.{Option, None, map, unwrap_or}
use Rattle.std.specs.List.{Any}
use Rattle.std.proofs.lemmas.Bool.{cases_eq, ne_eqb}
use Rattle.rht_words.specs.declared.config.Config.{Config}
use Rattle.rht_words.specs.declared.config.Hash.TheVariants.{Low}
use Rattle.rht_words.specs.declared.config.Kind.TheVariants.{Single}
use Rattle.rht_words.specs.declared.env.Env.{Env}
use Rattle.rht_words.specs.declared.op.Op.{Op}
use Rattle.rht_words.specs.declared.op.Op.TheVariants.{Load, Add}
use Rattle.rht_words.specs.Places.{page_map_at, nodes_at, pages_at, first_address, slot_address, node_word, address_at}
use Rattle.rht_words.specs.Settled.{IsSettled, plain_config, plain_ways}
use Rattle.rht_words.specs.Sizes.{rounded_up, powers}
use Rattle.rht_model.specs.declared.history.Call.{Call}
use Rattle.rht_model.specs.declared.history.Call.TheVariants.{Find}
use Rattle.rht_model.specs.declared.history.Reply.TheVariants.{Missing}
use Rattle.rht_model.specs.Answers.{port_of}
use Rattle.rht_model.specs.Endings.{plain_ending, ended_with}
use Rattle.rht_model.specs.Histories.{IsLegal, bindings_left}
use Rattle.rht_model.specs.Multimap.{Agree, unbound}
use Rattle.rht_core.specs.declared.book.Book.{Book}
use Rattle.rht_core.specs.declared.event.Event.{Event}
use Rattle.rht_core.specs.declared.event.Event.TheVariants.{Enroll, Begin, Step}
use Rattle.rht_core.specs.Numbered.{Numbered, NeverFalls, history_of, numbered_to, entries_of}
use Rattle.rht_core.specs.RunHistories.{Fits, AreOfCalls, ChangesBindings, about_bindings, bindings_behind}
use Rattle.rht_core.specs.Runs.{World, View, run_of, new_book, IsAdmitted}
use Rattle.rht_core.specs.Traces.{Did, Past, Traced, traced_of}
use Rattle.rht_core.proofs.Events.CallersNotEnrolled.{not_enrolled}
use Rattle.rht_core.proofs.Tracing.TracedRuns.{world-traced_of}
use Rattle.rht_core.proofs.Tracing.TracesInRuns.{traces_of_books}

-- ---- the run

abbrev pub config : Config
config = record plain_config { nodes = 1; pages = 4; callers = 2; max = 4; hash = Low }

config_settled : IsSettled config
unfolding rounded_up powers
config_settled = record {
  geometry = record {
    nodes_within = (lit≤ tt, lit≤ tt);
    pages_within = (lit≤ tt, lit≤ tt);
    callers_within = (lit≤ tt, lit≤ tt);
  };
  hint = lit≤ tt;
  least = record { within = (lit≤ tt, lit≤ tt); rounded = refl };
  greatest = record { within = λ some. (lit≤ tt, lit≤ tt); rounded = refl };
  agree = λ some. lit≤ tt;
  seed = lit≤ tt;
  rewalks = lit≤ tt;
  starts = lit≤ tt;
}

abbrev env : Env
env = record {
  geometry = record { nodes = 1; pages = 4; callers = 2; within = config_settled.geometry };
  config = config;
  ways = plain_ways;
  settled = config_settled;
  agrees = record { nodes_same = refl; pages_same = refl; callers_same = refl };
}

-- each port's bucket is that of its own number
abbrev itself : ℕ → ℕ → ℕ → ℕ
itself port second seed = port

-- two enrollings; the look-ups of ports 5 and 6, by turns; and that of port 7
abbrev events : List Event
events =
    Enroll ∷ Enroll ∷ Begin 0 (Find 5) 0 ∷ Begin 1 (Find 6) 0
    ∷ Step 0 ∷ Step 1 ∷ Step 0 ∷ Step 1 ∷ Step 0 ∷ Step 1 ∷ Step 0 ∷ Step 1 ∷ Step 0 ∷ Step 1 ∷ Step 0 ∷ Step 1 ∷ Step 0 ∷ Step 1
    ∷ Begin 0 (Find 7) 0 ∷ Step 0 ∷ Step 0 ∷ Step 0 ∷ Step 0 ∷ Step 0 ∷ Step 0 ∷ Step 0 ∷ []

abbrev did : ℕ → Op → ℕ → Did
did index op old = record { index = index; op = op; old = old }

-- This caller's look-up of a port in an empty bucket, begun at this event, whose first operation is made at that one and each further one
-- so many events later. It opens its section, whose word it finds so, loads which table is the current one, its shape, its seed, the bucket
-- and the future, and closes its section.
abbrev looked_up : ℕ → ℕ → ℕ → ℕ → ℕ → ℕ → ℕ → Past
looked_up caller even port begin first later bucket = record {
  done = ended_with (Find port) (plain_ending Missing);
  begin = begin;
  steps =
      did first (Add (8 + caller) 1) even ∷ did (first + later) (Load 0) 0
      ∷ did (first + 2 * later) (Load 24) 2 ∷ did (first + 3 * later) (Load 25) 1
      ∷ did (first + 4 * later) (Load bucket) 0 ∷ did (first + 5 * later) (Load 26) 0
      ∷ did (first + 6 * later) (Add (8 + caller) 1) (even + 1) ∷ [];
}

-- an entry of this caller, whose look-up of this port misses, with the number of an event
abbrev misses : ℕ → ℕ → ℕ → Numbered
misses number caller port =
    record { number = number; entry = record { caller = caller; call = Find port; reply = Missing; owners = [] } }

-- it holds of all numbers below this one
AllBelow : (ℕ → Type 0) → ℕ → Type 0
AllBelow P zero = Unit {0}
AllBelow P (suc n) = AllBelow P n × P n

each_below : (P : ℕ → Type 0) (n : ℕ) → AllBelow P n → (i : ℕ) → i < n → P i
unfolding AllBelow
each_below P zero all i low = absurd (omega (arith, low))
each_below P (suc n) all i low = elim (cases_eq i n) [
  | inl same ↦ subst P (sym same) all.1
  | inr other ↦ each_below P n all.0 i (omega (arith, low, other))
]

module _ (M : Type 0) where
  abbrev run : Traced M
  run = traced_of itself env events

  -- the calls of both callers
  calls_of_first : (run.traces 0).past ≡ looked_up 0 0 5 2 4 2 287 ∷ looked_up 0 2 7 18 19 1 289 ∷ []
  unfolding page_map_at nodes_at pages_at first_address slot_address node_word address_at lib.Count.count_trailing_zeros
  calls_of_first = refl

  calls_of_second : (run.traces 1).past ≡ looked_up 1 0 6 3 5 2 288 ∷ []
  unfolding page_map_at nodes_at pages_at first_address slot_address node_word address_at lib.Count.count_trailing_zeros
  calls_of_second = refl

  -- and nobody is in one at the end
  none_open : ((run.world.books 0).call ≡ None) × ((run.world.books 1).call ≡ None)
  unfolding page_map_at nodes_at pages_at first_address slot_address node_word address_at lib.Count.count_trailing_zeros
  none_open = (refl, refl)

  -- ---- who is neither of the two is in no call, and has made none

  admitted : IsAdmitted events
  admitted = (
    tt,
    (
      tt,
      (
        (lit≤ tt, lit≤ tt),
        (
          (lit≤ tt, lit≤ tt),
          (
            lit≤ tt,
            (
              lit≤ tt,
              (
                lit≤ tt,
                (
                  lit≤ tt,
                  (
                    lit≤ tt,
                    (
                      lit≤ tt,
                      (
                        lit≤ tt,
                        (
                          lit≤ tt,
                          (
                            lit≤ tt,
                            (
                              lit≤ tt,
                              (
                                lit≤ tt,
                                (
                                  lit≤ tt,
                                  (
                                    lit≤ tt,
                                    (
                                      lit≤ tt,
                                      ((lit≤ tt, lit≤ tt), (lit≤ tt, (lit≤ tt, (lit≤ tt, (lit≤ tt, (lit≤ tt, (lit≤ tt, (lit≤ tt, tt)))))))),
                                    ),
                                  ),
                                ),
                              ),
                            ),
                          ),
                        ),
                      ),
                    ),
                  ),
                ),
              ),
            ),
          ),
        ),
      ),
    ),
  )

  both_enrolled : (run_of {M = M} itself env events).core.enrolled ≡ 2
  unfolding page_map_at nodes_at pages_at first_address slot_address node_word address_at lib.Count.count_trailing_zeros
  both_enrolled = refl

  no_book : (c : ℕ) → 2 ≤ c → run.world.books c ≡ new_book
  no_book c other =
      ap (λ (w : World M). w.books c) (world-traced_of M itself env events)
      ∙ ap (λ (v : View M). v.book) (not_enrolled M itself env events admitted c (subst (λ n. n ≤ c) (sym both_enrolled) other))

  no_past : (c : ℕ) → 2 ≤ c → (run.traces c).past ≡ []
  no_past c other =
      none_in (run.traces c).past
      ((traces_of_books M itself env events c admitted).past ∙ ap (λ (b : Book). b.finished) (no_book c other))
    where
      none_in : (calls : List Past) → map (λ (past : Past). past.done) calls ≡ [] → calls ≡ []
      none_in [] is = refl
      none_in (past ∷ calls) is = absurd (cc)

  -- ---- a history that fits

  -- what a history has to say of a caller, with these calls
  abbrev Tells : ℕ → Option Call → List Past → List Numbered → Type 0
  Tells c call calls history =
      AreOfCalls (Any (ChangesBindings M itself env events) (run.traces c).steps) call (run.traces c).begin (length events)
      (about_bindings calls) (entries_of c history)

  abbrev TellsOf : List Numbered → ℕ → Type 0
  TellsOf history c = Tells c (run.world.books c).call (run.traces c).past history

  abbrev right : List Numbered
  right = misses 8 0 5 ∷ misses 9 1 6 ∷ misses 20 0 7 ∷ []

  tells_of_first : TellsOf right 0
  tells_of_first =
      subst (λ calls. Tells 0 (run.world.books 0).call calls right) (sym calls_of_first)
      (subst (λ call. Tells 0 call (looked_up 0 0 5 2 4 2 287 ∷ looked_up 0 2 7 18 19 1 289 ∷ []) right) (sym none_open.0) (
        record { call = refl; reply = refl; owners = refl; begun = lit≤ tt; ended = lit≤ tt },
        (record { call = refl; reply = refl; owners = refl; begun = lit≤ tt; ended = lit≤ tt }, refl),
      ))

  tells_of_second : TellsOf right 1
  tells_of_second =
      subst (λ calls. Tells 1 (run.world.books 1).call calls right) (sym calls_of_second)
      (subst (λ call. Tells 1 call (looked_up 1 0 6 3 5 2 288 ∷ []) right) (sym none_open.1)
      (record { call = refl; reply = refl; owners = refl; begun = lit≤ tt; ended = lit≤ tt }, refl))

  tells_of_others : (c : ℕ) → 2 ≤ c → TellsOf right c
  tells_of_others c other =
      let none : entries_of c right ≡ [] = rw (ne_eqb 0 c (omega (arith, other)), ne_eqb 1 c (omega (arith, other))) refl in
      let Is : Option Call → List Past → List Numbered → Type 0 = λ call calls entries.
      AreOfCalls (Any (ChangesBindings M itself env events) (run.traces c).steps) call (run.traces c).begin (length events)
      (about_bindings calls) entries in
      subst (λ calls. Is (run.world.books c).call calls (entries_of c right)) (sym (no_past c other))
      (subst (λ call. Is call [] (entries_of c right)) (sym (ap (λ (b : Book). b.call) (no_book c other)))
      (subst (λ entries. Is None [] entries) (sym none) refl))

  -- nothing is bound behind any event
  abbrev Agreed : ℕ → Type 0
  Agreed i = Agree (bindings_left Single unbound (numbered_to i right)) (bindings_behind M itself env events (i + 1))

  agreed : AllBelow Agreed 26
  unfolding AllBelow page_map_at nodes_at pages_at first_address slot_address node_word address_at lib.Count.count_trailing_zeros
  agreed = ((((((((((((((((((((((((((tt, λ port. refl), λ port. refl), λ port. refl), λ port. refl), λ port. refl), λ port. refl), λ port. refl), λ port. refl), λ port. refl), λ port. refl), λ port. refl), λ port. refl), λ port. refl), λ port. refl), λ port. refl), λ port. refl), λ port. refl), λ port. refl), λ port. refl), λ port. refl), λ port. refl), λ port. refl), λ port. refl), λ port. refl), λ port. refl), λ port. refl)

  right_fits : Fits M itself env events right
  right_fits = record {
    legal = (inl refl, (inl refl, (inl refl, tt)));
    rising = (lit≤ tt, (lit≤ tt, (lit≤ tt, tt)));
    calls = λ c. elim (cases_eq c 0) [
      | inl same ↦ subst (TellsOf right) (sym same) tells_of_first
      | inr other ↦ elim (cases_eq c 1) [
        | inl same ↦ subst (TellsOf right) (sym same) tells_of_second
        | inr more ↦ tells_of_others c (omega (arith, other, more))
      ]
    ];
    agrees = λ i low. each_below Agreed 26 agreed i low;
  }

  -- ---- histories that don't: one thing is wrong in each, and that isn't their order of answers

  abbrev first_told : (history : List Numbered) → Fits M itself env events history
      → Tells 0 (run.world.books 0).call (looked_up 0 0 5 2 4 2 287 ∷ looked_up 0 2 7 18 19 1 289 ∷ []) history
  first_told history fits = subst (λ calls. Tells 0 (run.world.books 0).call calls history) calls_of_first (fits.calls 0)

  abbrev second_told : (history : List Numbered) → Fits M itself env events history
      → Tells 1 (run.world.books 1).call (looked_up 1 0 6 3 5 2 288 ∷ []) history
  second_told history fits = subst (λ calls. Tells 1 (run.world.books 1).call calls history) calls_of_second (fits.calls 1)

  -- the last look-up begins at 18, and its entry has the number before
  abbrev early : List Numbered
  early = misses 8 0 5 ∷ misses 9 1 6 ∷ misses 17 0 7 ∷ []

  early_entry : ¬ Fits M itself env events early
  early_entry fits = let begun = (first_told early fits).1.0.begun in absurd (omega (arith, begun))

  -- the first look-up's last operation is that of event 16, and its entry has the number behind
  abbrev late : List Numbered
  late = misses 9 1 6 ∷ misses 17 0 5 ∷ misses 20 0 7 ∷ []

  late_entry : ¬ Fits M itself env events late
  late_entry fits = let ended = (first_told late fits).0.ended in absurd (omega (arith, ended))

  -- each number lies within its call, but they fall
  abbrev falling : List Numbered
  falling = misses 9 1 6 ∷ misses 8 0 5 ∷ misses 20 0 7 ∷ []

  falling_numbers : ¬ Fits M itself env events falling
  falling_numbers fits = let rises = fits.rising.1.0 in absurd (omega (arith, rises))

  -- the entries of caller 0 have changed places
  abbrev swapped : List Numbered
  swapped = misses 8 0 7 ∷ misses 9 1 6 ∷ misses 20 0 5 ∷ []

  swapped_entries : ¬ Fits M itself env events swapped
  swapped_entries fits =
      let same = ap (λ call. unwrap_or (port_of call) 0) (first_told swapped fits).0.call in absurd (omega (arith, same))

  -- the entry of caller 1 is missing
  abbrev left_out : List Numbered
  left_out = misses 8 0 5 ∷ misses 20 0 7 ∷ []

  left_out_entry : ¬ Fits M itself env events left_out
  left_out_entry fits = absurd (second_told left_out fits)

  -- all five are legal, and all but the third have numbers that never fall
  all_legal : IsLegal Single (history_of early) × IsLegal Single (history_of late) × IsLegal Single (history_of falling)
      × IsLegal Single (history_of swapped) × IsLegal Single (history_of left_out)
  all_legal = (
    (inl refl, (inl refl, (inl refl, tt))),
    (inl refl, (inl refl, (inl refl, tt))),
    (inl refl, (inl refl, (inl refl, tt))),
    (inl refl, (inl refl, (inl refl, tt))),
    (inl refl, (inl refl, tt)),
  )

  all_rising : NeverFalls 0 early × NeverFalls 0 late × NeverFalls 0 swapped × NeverFalls 0 left_out
  all_rising = (
    (lit≤ tt, (lit≤ tt, (lit≤ tt, tt))),
    (lit≤ tt, (lit≤ tt, (lit≤ tt, tt))),
    (lit≤ tt, (lit≤ tt, (lit≤ tt, tt))),
    (lit≤ tt, (lit≤ tt, tt)),
  )
