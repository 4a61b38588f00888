-- What each step of a machine keeps holds at its end.
use Rattle.std.proofs.Common.{◌≡◌, ℕ, List, [], ◌∷◌, ◌++◌, refl, subst, append_assoc}
use Rattle.std.proofs.lemmas.List.Elements.{All-head, All-tail}
use Rattle.std.specs.List.{All}
use Rattle.rht_words.specs.declared.op.Op.{Op}
use Rattle.rht_words.specs.declared.machine.Next.{Next}
use Rattle.rht_words.specs.declared.machine.Next.TheVariants.{Go, Done}
use Rattle.rht_words.specs.Operations.{old_of, applied}
use Rattle.rht_words.specs.Machines.{GoesOrEnds, Performed, Ran, went_on, ran, EndsAlone}

module _ {M R : Type 0} (plan : M → Op) (after : M → ℕ → M × Next R) where
  -- the next operation, where it finds this value
  abbrev pub performed : M → ℕ → Performed
  performed m old = record { op = plan m; old = old }

  -- What holds of the steps so far and of the machine is kept by each step (`keeps`), and gives at an answer what is
  -- to be shown (`ends`). `Old` is what is known of each old value.
  module _ (Old : ℕ → Type 0) (Kept : List Performed → M → Type 0) (Ended : List Performed → R → Type 0)
      (keeps : (steps : List Performed) (m : M) (old : ℕ) → Old old → Kept steps m → (after m old).1 ≡ Go
      → Kept (steps ++ performed m old ∷ []) (after m old).0)
      (ends : (steps : List Performed) (m : M) (old : ℕ) (answer : R) → Old old → Kept steps m
      → (after m old).1 ≡ Done answer → Ended (steps ++ performed m old ∷ []) answer) where
    -- one step, with what comes of the machine after it
    step_kept : (steps : List Performed) (m : M) (old : ℕ) (answer : R) (rest : Ran R) → Old old
        → Kept steps m
        → (Kept (steps ++ performed m old ∷ []) (after m old).0 → rest.next ≡ Done answer
        → Ended ((steps ++ performed m old ∷ []) ++ rest.steps) answer)
        → (next : Next R) → (after m old).1 ≡ next → (went_on (performed m old) next rest).next ≡ Done answer
        → Ended (steps ++ (went_on (performed m old) next rest).steps) answer
    step_kept steps m old answer rest known kept later Go is done =
        subst (λ s. Ended s answer) (append_assoc steps (performed m old ∷ []) rest.steps)
        (later (keeps steps m old known kept is) done)
    step_kept steps m old answer rest known kept later (Done last) is done = ends steps m old answer
        known kept (cc)

    -- By induction over the old values.
    pub kept_to_end : (steps : List Performed) (m : M) (olds : List ℕ) (answer : R) → All Old olds
        → Kept steps m → (ran plan after m olds).next ≡ Done answer
        → Ended (steps ++ (ran plan after m olds).steps) answer
    kept_to_end steps m [] answer known kept done = absurd (cc)
    kept_to_end steps m (old ∷ olds) answer known kept done =
        step_kept steps m old answer (ran plan after (after m old).0 olds) (All-head Old old olds known) kept
        (λ k d. kept_to_end (steps ++ performed m old ∷ []) (after m old).0 olds answer
        (All-tail Old old olds known) k d)
        (after m old).1 refl done

  -- A machine that answers at its next operation ends there.
  pub ends_now : (m : M) (words : List ℕ) (answer : R) → (after m (old_of words (plan m))).1 ≡ Done answer
      → EndsAlone plan after m words answer (applied words (plan m))
  ends_now m words answer is =
      let old = old_of words (plan m) in
      record {
        olds = old ∷ [];
        finds = rw is (refl, tt);
        ends = rw is refl;
        leaves = rw is refl;
      }

  -- A machine that goes on ends as it does after its next operation.
  pub ends_later : (m : M) (words : List ℕ) (answer : R) (left : List ℕ)
      → (after m (old_of words (plan m))).1 ≡ Go
      → EndsAlone plan after (after m (old_of words (plan m))).0 (applied words (plan m)) answer left
      → EndsAlone plan after m words answer left
  ends_later m words answer left is rest =
      let old = old_of words (plan m) in
      record {
        olds = old ∷ rest.olds;
        finds = rw is (refl, rest.finds);
        ends = rw is rest.ends;
        leaves = rw is rest.leaves;
      }

-- where it goes on, or ends, something weaker holds
pub GoesOrEnds-weaker : {S R : Type 0} (Goes Went : S → Type 0) (Ends Ended : R → Type 0)
    → ((state : S) → Goes state → Went state)
    → ((answer : R) → Ends answer → Ended answer)
    → (next : S × Next R) → GoesOrEnds Goes Ends next → GoesOrEnds Went Ended next
GoesOrEnds-weaker Goes Went Ends Ended goes ends (state, Go) so = goes state so
GoesOrEnds-weaker Goes Went Ends Ended goes ends (state, Done answer) so = ends answer so
