-- Where one of the calls that serve commands found no node, more commands need one than there are nodes. The calls that had taken a
-- node before are no fewer than the nodes. Each is of a command that needs one, and no two are of one command; and the call that found
-- none is of another such command, of which no call had taken one.
use Rattle.std.proofs.Common.{◌≡◌, ◌≢◌, ℕ, zero, suc, ◌+◌, ◌<◌, ◌≤◌, ◌==◌, Bool, true, false, cond, List, [], ◌∷◌, ◌++◌, refl, sym, ◌∙◌, ap, subst, inl, inr, arith}
use Rattle.std.specs.Prelude.{◌&&◌, not, sum_by, count_by}
use Rattle.std.specs.List.{AllByRecursion, range_with_len}
use Rattle.std.proofs.lemmas.Bool.{cases_eq, eq-eqb, ne_eqb}
use Rattle.std.proofs.lemmas.List.Sums.{sum_by-cons, sum_by-le-sum_by}
use Rattle.rht_words.proofs.Members.{one_if}
use Rattle.rht_model.specs.declared.history.Call.{Call}
use Rattle.rht_model.specs.declared.history.Reply.TheVariants.{NoNode}
use Rattle.rht_model.specs.declared.finished.Finished.{Finished}
use Rattle.rht_model.specs.Endings.{Ending}
use Rattle.rht_core.specs.NodesUsed.{needs_node, is_no_node, took_node}
use Rattle.rht_core.specs.Serving.{asks_for_work, calls_of, AreBehind, AreTries, Serves}
use Rattle.rht_core.proofs.Counting.NodesOut.{sum_by-same}
use Rattle.rht_core.proofs.Histories.ToldEntries.{command_parts, AllByRecursion-behind}

-- ---- sums over callers

-- one term is less, and none is more
pub sum-below : (f g : ℕ → ℕ) (c from n : ℕ) → from ≤ c → c < from + n → f c < g c → ((d : ℕ) → f d ≤ g d)
    → sum_by f (range_with_len from n) < sum_by g (range_with_len from n)
sum-below f g c from zero low high less each = absurd (omega arith)
sum-below f g c from (suc n) low high less each = elim (cases_eq c from) [
  | inl same ↦
      let ds = range_with_len (from + 1) n in
      let here : f from < g from = subst (λ d. f d < g d) same less in
      let rest = sum_by-le-sum_by f g ds each in
      let all : sum_by f (from ∷ ds) < sum_by g (from ∷ ds) = omega (arith, here, rest, sum_by-cons f from ds, sum_by-cons g from ds) in
      all
  | inr other ↦
      let ds = range_with_len (from + 1) n in
      let here = each from in
      let rest = sum-below f g c (from + 1) n (omega arith) (omega arith) less each in
      let all : sum_by f (from ∷ ds) < sum_by g (from ∷ ds) = omega (arith, here, rest, sum_by-cons f from ds, sum_by-cons g from ds) in
      all
]

-- a worker's command adds to the term of its own caller alone
module _ (worker more : ℕ) (g : ℕ → ℕ) where
  abbrev with_more : ℕ → ℕ
  with_more d = cond (worker == d + 1) more 0 + g d

  other-term : (d : ℕ) → worker ≢ d + 1 → with_more d ≡ g d
  other-term d other =
      let here : with_more d ≡ 0 + g d = ap (λ t. cond t more 0 + g d) (ne_eqb worker (d + 1) other) in
      omega (arith, here)

  own-term : (d : ℕ) → worker ≡ d + 1 → with_more d ≡ more + g d
  own-term d own = ap (λ t. cond t more 0 + g d) (eq-eqb worker (d + 1) own)

  no_term : (from n : ℕ) → worker < from + 1
      → sum_by with_more (range_with_len from n) ≡ sum_by g (range_with_len from n)
  no_term from zero low = refl
  no_term from (suc n) low =
      let ds = range_with_len (from + 1) n in
      let here = other-term from (λ same. omega arith) in
      let rest = no_term (from + 1) n (omega arith) in
      let all : sum_by with_more (from ∷ ds) ≡ sum_by g (from ∷ ds) =
      omega (arith, here, rest, sum_by-cons with_more from ds, sum_by-cons g from ds) in
      all

  sum-with_more : (from n : ℕ)
      → sum_by with_more (range_with_len from n) ≤ more + sum_by g (range_with_len from n)
  sum-with_more from zero = omega arith
  sum-with_more from (suc n) = elim (cases_eq worker (from + 1)) [
    | inl own ↦
        let ds = range_with_len (from + 1) n in
        let here = own-term from own in
        let rest = no_term (from + 1) n (omega arith) in
        let all : sum_by with_more (from ∷ ds) ≤ more + sum_by g (from ∷ ds) =
        omega (arith, here, rest, sum_by-cons with_more from ds, sum_by-cons g from ds) in
        all
    | inr other ↦
        let ds = range_with_len (from + 1) n in
        let here = other-term from other in
        let rest = sum-with_more (from + 1) n in
        let all : sum_by with_more (from ∷ ds) ≤ more + sum_by g (from ∷ ds) =
        omega (arith, here, rest, sum_by-cons with_more from ds, sum_by-cons g from ds) in
        all
  ]

-- the calls of the first callers with a property are no more than the commands that have it
module _ (has : Call → Bool) where
  counted-command : (worker d : ℕ) (call : Call) (commands : List (ℕ × Call))
      → count_by has (calls_of (d + 1) ((worker, call) ∷ commands))
      ≡ with_more worker (one_if (has call)) (λ e. count_by has (calls_of (e + 1) commands)) d
  counted-command worker d call commands = go (worker == d + 1)
    where
      go : (t : Bool) → count_by has (cond t (call ∷ calls_of (d + 1) commands) (calls_of (d + 1) commands))
          ≡ cond t (one_if (has call)) 0 + count_by has (calls_of (d + 1) commands)
      go true = sum_by-cons (λ k. one_if (has k)) call (calls_of (d + 1) commands)
      go false = omega arith

  pub sum-calls_of : (n : ℕ) (commands : List (ℕ × Call))
      → sum_by (λ d. count_by has (calls_of (d + 1) commands)) (range_with_len 0 n)
      ≤ count_by (λ command. has command.1) commands
  sum-calls_of n [] = sum-none 0 n
    where
      sum-none : (from n : ℕ) → sum_by (λ d. 0) (range_with_len from n) ≤ 0
      sum-none from zero = omega arith
      sum-none from (suc n) =
          let rest = sum-none (from + 1) n in
          let all : sum_by (λ d. 0) (from ∷ range_with_len (from + 1) n) ≤ 0 = omega (arith, rest) in
          all
  sum-calls_of n ((worker, call) ∷ commands) =
      let rest = sum-calls_of n commands in
      let same = sum_by-same (λ d. count_by has (calls_of (d + 1) ((worker, call) ∷ commands)))
      (with_more worker (one_if (has call)) (λ e. count_by has (calls_of (e + 1) commands)))
      (λ d. counted-command worker d call commands) (range_with_len 0 n) in
      let all = sum-with_more worker (one_if (has call)) (λ e. count_by has (calls_of (e + 1) commands)) 0 n in
      let counts = sum_by-cons (λ (command : ℕ × Call). one_if (has command.1)) (worker, call) commands in
      omega (arith, same, all, rest, counts)

-- ---- the calls of one caller

-- a call that found no node needs one
abbrev pub NeedsNode : Finished → Type 0
NeedsNode done = done.reply ≡ NoNode → needs_node done.call ≡ true

-- With so many that took a node before, no more of these calls take one than are needed; and where one finds none, fewer did before it.
abbrev pub TakesFew : ℕ → ℕ → List Finished → Type 0
TakesFew needed before [] = before ≤ needed
TakesFew needed before (done ∷ dones) =
    (done.reply ≡ NoNode → before < needed) × TakesFew needed (before + one_if (took_node done)) dones

-- one call more
took-cons : (d : Finished) (done : List Finished) → count_by took_node (d ∷ done) ≡ one_if (took_node d) + count_by took_node done
took-cons d done = sum_by-cons (λ (k : Finished). one_if (took_node k)) d done

-- so all together are no more
pub few-took : (needed before : ℕ) (dones : List Finished) → TakesFew needed before dones → before + count_by took_node dones ≤ needed
few-took needed before [] few = omega (arith, few)
few-took needed before (d ∷ dones) few =
    let rest = few-took needed (before + one_if (took_node d)) dones few.1 in
    omega (arith, rest, took-cons d dones)

-- and fewer than are needed took one before a call that found none
pub few-before : (needed before : ℕ) (front rest : List Finished) (done : Finished) → TakesFew needed before (front ++ done ∷ rest)
    → done.reply ≡ NoNode → before + count_by took_node front < needed
few-before needed before [] rest done few none = let less = few.0 none in omega (arith, less)
few-before needed before (d ∷ front) rest done few none =
    let less = few-before needed (before + one_if (took_node d)) front rest done few.1 none in
    omega (arith, less, took-cons d front)

-- a call that needs no node takes none, and finds none wanting
one_if-and : (needs found : Bool) → one_if (needs && not found) ≤ one_if needs
one_if-and true true = omega arith
one_if-and true false = omega arith
one_if-and false found = omega arith

and_none : (needs : Bool) → one_if (needs && not true) ≡ 0
and_none true = refl
and_none false = refl

few-other : (needed before : ℕ) (d : Finished) (dones : List Finished) → needs_node d.call ≡ false → NeedsNode d
    → TakesFew needed before dones → TakesFew needed before (d ∷ dones)
few-other needed before d dones other needs few =
    let none : one_if (took_node d) ≡ 0 = ap (λ t. one_if (t && not (is_no_node d.reply))) other in (
      λ is. absurd (let both = sym other ∙ needs is in cc),
      subst (λ n. TakesFew needed n dones) (omega (arith, none)) few,
    )

-- so it is of `work`
few-behind : (needed before : ℕ) (asked : Bool) (behind rest : List Finished) → AreBehind asked behind
    → AllByRecursion NeedsNode (behind ++ rest) → TakesFew needed before rest → TakesFew needed before (behind ++ rest)
few-behind needed before true [] rest works needs few = absurd works
few-behind needed before true (d ∷ []) rest works needs few =
    few-other needed before d rest (ap needs_node works.0) needs.0 few
few-behind needed before true (d ∷ next ∷ behind) rest works needs few =
    few-other needed before d (next ∷ behind ++ rest) (ap needs_node works.0) needs.0
    (few-behind needed before true (next ∷ behind) rest works.2 needs.1 few)
few-behind needed before false behind rest none needs few =
    subst (λ front. TakesFew needed before (front ++ rest)) (sym none) few

-- of the calls that are made until a command has its reply one takes a node, where the command needs one, or none does
few-tries : (needed before : ℕ) (call : Call) (ending : Ending) (tries rest : List Finished) → AreTries call ending tries
    → AllByRecursion NeedsNode (tries ++ rest) → before + one_if (needs_node call) ≤ needed
    → ((now : ℕ) → now ≤ before + one_if (needs_node call) → TakesFew needed now rest) → TakesFew needed before (tries ++ rest)
few-tries needed before call ending [] rest are needs room others = absurd are
few-tries needed before call ending (done ∷ []) rest are needs room others =
    let most = one_if-and (needs_node done.call) (is_no_node done.reply) in
    let own : one_if (needs_node done.call) ≡ one_if (needs_node call) = ap (λ (d : Finished). one_if (needs_node d.call)) are.0 in (
      λ none. absurd (are.1 (sym (ap (λ (d : Finished). d.reply) are.0) ∙ none)),
      others (before + one_if (took_node done)) (omega (arith, most, own)),
    )
few-tries needed before call ending (first ∷ tidy ∷ []) rest are needs room others = absurd are
few-tries needed before call ending (first ∷ tidy ∷ done ∷ []) rest are needs room others =
    let one : one_if (needs_node call) ≡ 1 = ap (λ k. one_if (needs_node k)) (sym are.0) ∙ ap one_if (needs.0 are.1) in
    let none : one_if (took_node first) ≡ 0 =
    ap (λ r. one_if (needs_node first.call && not (is_no_node r))) are.1 ∙ and_none (needs_node first.call) in
    let most = one_if-and (needs_node done.call) (is_no_node done.reply) in
    let own : one_if (needs_node done.call) ≡ one_if (needs_node call) = ap (λ (d : Finished). one_if (needs_node d.call)) are.3 in
    let last : TakesFew needed before (done ∷ rest) =
    ((λ is. omega (arith, room, one)), others (before + one_if (took_node done)) (omega (arith, most, own))) in (
      λ is. omega (arith, room, one),
      subst (λ n. TakesFew needed n (tidy ∷ done ∷ rest)) (omega (arith, none))
          (few-other needed before tidy (done ∷ rest) (ap needs_node are.2) needs.1.0 last),
    )
few-tries needed before call ending (first ∷ tidy ∷ done ∷ next ∷ dones) rest are needs room others = absurd are

module _ (auto : Bool) where
  -- By induction over the commands: the calls that serve them take no more nodes than commands need one.
  pub few-serves : (calls : List Call) (endings : List Ending) (done : List Finished) (needed before : ℕ) → Serves auto calls endings done
      → AllByRecursion NeedsNode done → before + count_by needs_node calls ≤ needed → TakesFew needed before done
  few-serves [] [] done needed before serves needs room =
      subst (TakesFew needed before) (sym serves) (omega (arith, room))
  few-serves [] (ending ∷ endings) done needed before serves needs room = absurd serves
  few-serves (call ∷ calls) [] done needed before serves needs room = absurd serves
  few-serves (call ∷ calls) (ending ∷ endings) done needed before serves needs room =
      let tries = serves.first_is.tries in
      let behind = serves.first_is.behind in
      let parts = command_parts auto call ending (Serves auto calls endings) done serves in
      let all : AllByRecursion NeedsNode (tries ++ (behind ++ serves.rest)) = subst (AllByRecursion NeedsNode) parts needs in
      let later = AllByRecursion-behind NeedsNode tries (behind ++ serves.rest) all in
      let counted = sum_by-cons (λ (k : Call). one_if (needs_node k)) call calls in
      subst (TakesFew needed before) (sym parts)
      (few-tries needed before call ending tries (behind ++ serves.rest) serves.first_is.are_tries all
      (omega (arith, room, counted))
      (λ now low. few-behind needed now (auto && asks_for_work call ending.answer.reply) behind serves.rest serves.first_is.works later
      (few-serves calls endings serves.rest needed now serves.rest_is (AllByRecursion-behind NeedsNode behind serves.rest later)
      (omega (arith, room, counted, low)))))
