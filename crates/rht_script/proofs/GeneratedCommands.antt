-- The script that is made from a number: it can be said, and how many commands of each kind it has.
-- Both go by induction over the rounds of a worker and over the workers, so that no list of so many commands is ever
-- written out: what holds of the commands of each round holds of all, and what is counted in each is added up. Of two
-- rounds that follow each other the first is even and the second is odd.
use Rattle.std.proofs.Common.{◌≡◌, ℕ, zero, suc, ◌+◌, ◌*◌, ◌%◌, ◌^◌, ◌<◌, ◌≤◌, ◌==◌, Bool, true, false, cond, List, [], ◌++◌, length, length-append, append-nil, append_assoc, add-one, inr, refl, sym, ap, ◌∙◌, subst, arith}
use Rattle.std.specs.List.{AllByRecursion, flat_map, range_with_len}
use Rattle.std.proofs.lemmas.List.Elements.{All-from_recursion, All-nil}
use Rattle.std.proofs.lemmas.List.Sums.{sum_by-append}
use Rattle.rht_words.specs.Limits.{IsWithinLimits}
use Rattle.rht_words.specs.Settled.{IsSettled}
use Rattle.rht_words.specs.Sizes.{rounded_up, powers}
use Rattle.rht_words.proofs.Rounding.{IsGreatestSize-zero}
use Rattle.rht_words.proofs.EachElement.{AllByRecursion-append}
use Rattle.rht_model.specs.declared.history.Call.{Call}
use Rattle.rht_model.specs.declared.history.Call.TheVariants.{Bind, Find}
use Rattle.rht_script.specs.CommandLines.{owner_limits, worker_limits}
use Rattle.rht_script.specs.PortWords.{one_number, IsPortIn}
use Rattle.rht_script.specs.Plain.{IsSayableCall, IsSayableCommand, IsSayableSched}
use Rattle.rht_script.specs.Generated.{generated_config, middle_call, round_commands, round_port, worker_commands, generated_commands, GeneratedSayable, is_bind, is_find, is_release, how_many, GeneratedCounts}

-- ---- lists of ranges

module _ {X : Type 0} (f : ℕ → List X) where
  -- one number more, at the end of a range
  flat_map-range_more : (a n : ℕ)
      → flat_map f (range_with_len a (suc n)) ≡ flat_map f (range_with_len a n) ++ f (a + n)
  flat_map-range_more a zero = append-nil (f a) ∙ ap f (omega arith)
  flat_map-range_more a (suc n) =
      let same : a + 1 + n ≡ a + suc n = omega arith in
      ap (λ (l : List X). f a ++ l) (flat_map-range_more (a + 1) n)
      ∙ sym (append_assoc (f a) (flat_map f (range_with_len (a + 1) n)) (f (a + 1 + n)))
      ∙ ap (λ k. flat_map f (range_with_len a (suc n)) ++ f k) same

  -- behind what was there before, and the lists of the numbers so far, comes that of the next number
  pub added_more : (a n k : ℕ) (before so_far after : List X) → a + n ≡ k
      → so_far ≡ before ++ flat_map f (range_with_len a n) → after ≡ so_far ++ f k
      → after ≡ before ++ flat_map f (range_with_len a (n + 1))
  added_more a n k before so_far after next so added =
      let numbers = flat_map f (range_with_len a n) in
      let more : flat_map f (range_with_len a (n + 1)) ≡ numbers ++ f k =
      ap (λ count. flat_map f (range_with_len a count)) (add-one n)
      ∙ flat_map-range_more a n ∙ ap (λ (x : ℕ). numbers ++ f x) next in
      added ∙ ap (λ (l : List X). l ++ f k) so ∙ append_assoc before numbers (f k)
      ∙ ap (λ (l : List X). before ++ l) (sym more)

-- what holds of the list of each number of a range holds of all lists joined
each_of_range : {X : Type 0} (P : X → Type 0) (f : ℕ → List X) (a n : ℕ)
    → ((x : ℕ) → a ≤ x → x < a + n → AllByRecursion P (f x))
    → AllByRecursion P (flat_map f (range_with_len a n))
each_of_range P f a zero holds = tt
each_of_range P f a (suc n) holds =
    AllByRecursion-append P (f a) (flat_map f (range_with_len (a + 1) n)) (holds a (omega arith) (omega arith))
    (each_of_range P f (a + 1) n (λ x low high. holds x (omega (arith, low)) (omega (arith, high))))

-- ---- it can be said

module _ (number : ℕ) where
  abbrev IsSaid : ℕ × Call → Type 0
  IsSaid command = IsSayableCommand one_number (generated_config number) command

  round_sayable : (worker port : ℕ) (even : Bool) → 1 ≤ worker → worker ≤ 8 → port < 100000
      → AllByRecursion IsSaid (round_commands worker port even)
  round_sayable worker port even first last low =
      let one_of : IsWithinLimits (worker_limits (generated_config number)) worker = (first, last) in
      let port_is : IsPortIn one_number port = (omega (arith, low), inr (omega (arith, low))) in
      let other_is : IsPortIn one_number (port + 5000) = (omega (arith, low), inr (omega (arith, low))) in
      let owner_is : IsWithinLimits owner_limits worker = (omega arith, omega (arith, last)) in
      let bind : IsSaid (worker, Bind port worker false) = (one_of, (port_is, owner_is, refl)) in
      let find : IsSaid (worker, Find port) = (one_of, port_is) in
      (bind, (find, ((one_of, middle even port_is owner_is), (find, ((one_of, other_is), tt)))))
    where
      middle : (b : Bool) → IsPortIn one_number port → IsWithinLimits owner_limits worker
          → IsSayableCall one_number (generated_config number) (middle_call worker port b)
      middle true port_is owner_is = (port_is, owner_is, refl)
      middle false port_is owner_is = (port_is, owner_is)

  worker_sayable : (offset worker : ℕ) → offset < 1000 → 1 ≤ worker → worker ≤ 8
      → AllByRecursion IsSaid (worker_commands offset worker)
  unfolding worker_commands
  worker_sayable offset worker within first last =
      each_of_range IsSaid
      (λ round. round_commands worker (round_port offset worker round) (round % 2 == 0)) 0 500
      (λ round low high. round_sayable worker (round_port offset worker round) (round % 2 == 0) first last
      (omega (arith, within, last, high)))

  commands_sayable : AllByRecursion IsSaid (generated_commands number)
  unfolding generated_commands
  commands_sayable =
      each_of_range IsSaid (worker_commands (number % 1000)) 1 8
      (λ worker low high. worker_sayable (number % 1000) worker (omega arith) low (omega (arith, high)))

  config_settled : number < 2 ^ 32 → IsSettled (generated_config number)
  unfolding rounded_up powers
  config_settled small = record {
    geometry = record {
      nodes_within = (omega arith, omega arith);
      pages_within = (omega arith, omega arith);
      callers_within = (omega arith, omega arith);
    };
    hint = omega arith;
    least = record { within = (omega arith, omega arith); rounded = refl };
    greatest = IsGreatestSize-zero;
    agree = λ some. absurd (some refl);
    seed = omega (arith, small);
    rewalks = omega arith;
    starts = omega arith;
  }

-- ---- how many there are

-- What is counted in a list: nothing in none, and in two lists joined the sum.
record Counts (m : List (ℕ × Call) → ℕ) : Type 0 where
  none : m [] ≡ 0
  joined : (xs ys : List (ℕ × Call)) → m (xs ++ ys) ≡ m xs + m ys

length-counts : Counts (λ commands. length commands)
length-counts = record { none = refl; joined = length-append }

how_many-counts : (is : Call → Bool) → Counts (how_many is)
how_many-counts is = record {
  none = refl;
  joined = sum_by-append (λ (command : ℕ × Call). cond (is command.1) 1 0);
}

-- twice a number, as so many pairs
double : ℕ → ℕ
double zero = zero
double (suc pairs) = suc (suc (double pairs))

double-is : (pairs : ℕ) → double pairs ≡ 2 * pairs
unfolding double
double-is zero = refl
double-is (suc pairs) = omega (arith, double-is pairs)

module _ (m : List (ℕ × Call) → ℕ) (counts : Counts m) (f : ℕ → List (ℕ × Call)) where
  -- where it is the same in the list of each number
  count_alike : (c : ℕ) → ((x : ℕ) → m (f x) ≡ c) → (a n : ℕ) → m (flat_map f (range_with_len a n)) ≡ n * c
  count_alike c each a zero = counts.none ∙ omega arith
  count_alike c each a (suc n) =
      let behind = flat_map f (range_with_len (a + 1) n) in
      let sum = counts.joined (f a) behind in
      let others : m behind ≡ n * c = count_alike c each (a + 1) n in
      omega (arith, sum, each a, others)

  -- where it is the same at even numbers, and at odd ones
  count_by_turns : (even odd : ℕ) → ((k : ℕ) → m (f (2 * k)) ≡ even) → ((k : ℕ) → m (f (2 * k + 1)) ≡ odd)
      → (k pairs : ℕ) → m (flat_map f (range_with_len (2 * k) (double pairs))) ≡ pairs * (even + odd)
  unfolding double
  count_by_turns even odd at_even at_odd k zero = counts.none ∙ omega arith
  count_by_turns even odd at_even at_odd k (suc pairs) =
      let behind = flat_map f (range_with_len (2 * k + 1 + 1) (double pairs)) in
      let first = counts.joined (f (2 * k)) (f (2 * k + 1) ++ behind) in
      let second = counts.joined (f (2 * k + 1)) behind in
      let next : 2 * (k + 1) ≡ 2 * k + 1 + 1 = omega arith in
      let others : m behind ≡ pairs * (even + odd) =
      subst (λ a. m (flat_map f (range_with_len a (double pairs))) ≡ pairs * (even + odd)) next
      (count_by_turns even odd at_even at_odd (k + 1) pairs) in
      omega (arith, first, second, at_even k, at_odd k, others)

-- even numbers and odd ones are told apart
test_even : (k : ℕ) → ((2 * k) % 2 == 0) ≡ true
test_even k = let none : (2 * k) % 2 ≡ 0 = omega arith in rw none refl

test_odd : (k : ℕ) → ((2 * k + 1) % 2 == 0) ≡ false
test_odd k = let one : (2 * k + 1) % 2 ≡ 1 = omega arith in rw one refl

module _ (m : List (ℕ × Call) → ℕ) (counts : Counts m) (even odd : ℕ)
    (at_even : (worker port : ℕ) → m (round_commands worker port true) ≡ even)
    (at_odd : (worker port : ℕ) → m (round_commands worker port false) ≡ odd) where
  -- 250 even rounds and 250 odd ones
  count_worker : (offset worker : ℕ) → m (worker_commands offset worker) ≡ 250 * (even + odd)
  unfolding worker_commands
  count_worker offset worker =
      let rounds = λ (round : ℕ). round_commands worker (round_port offset worker round) (round % 2 == 0) in
      subst (λ n. m (flat_map rounds (range_with_len 0 n)) ≡ 250 * (even + odd)) (double-is 250)
      (count_by_turns m counts rounds even odd
      (λ k. rw (test_even k) (at_even worker (round_port offset worker (2 * k))))
      (λ k. rw (test_odd k) (at_odd worker (round_port offset worker (2 * k + 1)))) 0 250)

  -- of eight workers
  count_all : (number : ℕ) → m (generated_commands number) ≡ 8 * (250 * (even + odd))
  unfolding generated_commands
  count_all number =
      count_alike m counts (worker_commands (number % 1000)) (250 * (even + odd))
      (count_worker (number % 1000)) 1 8

pub generated_counts : GeneratedCounts
generated_counts number = record {
  all = count_all (λ commands. length commands) length-counts 5 5 (λ worker port. refl) (λ worker port. refl) number;
  binds = count_all (how_many is_bind) (how_many-counts is_bind) 2 1 (λ worker port. refl) (λ worker port. refl) number;
  finds = count_all (how_many is_find) (how_many-counts is_find) 3 3 (λ worker port. refl) (λ worker port. refl) number;
  releases =
      count_all (how_many is_release) (how_many-counts is_release) 0 1 (λ worker port. refl) (λ worker port. refl) number;
}

pub generated_sayable : GeneratedSayable
generated_sayable number small = record {
  config = config_settled number small;
  form = (omega arith, omega arith);
  commands = All-from_recursion (IsSayableCommand one_number (generated_config number)) (generated_commands number)
      (commands_sayable number);
  schedule = All-nil (IsSayableSched (generated_config number));
  few = (let counted = (generated_counts number).all in omega (arith, counted));
}
