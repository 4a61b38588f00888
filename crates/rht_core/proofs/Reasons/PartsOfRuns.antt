-- The operations of a machine that has not yet ended are the first ones of each run of it that goes on from its state. So once it has ended they
-- are those of one that has, and what its law says of such a run is so of them.
use Rattle.std.proofs.Common.{◌≡◌, ℕ, List, [], ◌∷◌, ◌++◌, append_assoc, refl, sym, ap, ◌∙◌}
use Rattle.rht_words.specs.declared.machine.Next.{Next}
use Rattle.rht_words.specs.declared.machine.Next.TheVariants.{Go, Done}
use Rattle.rht_words.specs.declared.op.Op.{Op}
use Rattle.rht_words.specs.Machines.{Performed, Ran, went_on, ran}

-- these operations, and then those that the rest performed
abbrev joined : List Performed → Ran (Unit {0}) → Ran (Unit {0})
joined steps rest = record { steps = steps ++ rest.steps; next = rest.next }

-- a machine that says nothing but that it has ended, by what it performs and what it makes of an old value
module _ {S : Type 0} (plan : S → Op) (after : S → ℕ → S × Next (Unit {0})) (first : S) where
  -- it has come with these operations to this state: whatever its next ones find, they and those are such of a whole run
  pub record IsWithRest (steps : List Performed) (state : S) (olds : List ℕ) : Type 0 where
    pub all : List ℕ
    pub is : ran plan after first all ≡ joined steps (ran plan after state olds)

  abbrev pub IsPart : List Performed → S → Type 0
  IsPart steps state = (olds : List ℕ) → IsWithRest steps state olds

  -- it begins with none
  pub part-begins : IsPart [] first
  part-begins olds = record { all = olds; is = refl }

  -- the operation of its state, which found this word
  abbrev pub step_of : S → ℕ → Performed
  step_of state old = record { op = plan state; old = old }

  -- an operation more, behind which it goes on
  pub part-goes : (steps : List Performed) (state : S) (old : ℕ) → (after state old).1 ≡ Go → IsPart steps state
      → IsPart (steps ++ step_of state old ∷ []) (after state old).0
  part-goes steps state old goes part olds =
      let step = step_of state old in
      let rest = ran plan after (after state old).0 olds in
      let before = part (old ∷ olds) in
      record {
        all = before.all;
        is = before.is
            ∙ ap (λ (n : Next (Unit {0})). joined steps (went_on step n rest)) goes
            ∙ ap (λ (l : List Performed). record { steps = l; next = rest.next }) (sym (append_assoc steps (step ∷ []) rest.steps));
      }

  -- a whole run that ended has these operations
  pub record IsWhole (steps : List Performed) : Type 0 where
    pub all : List ℕ
    pub is : ran plan after first all ≡ record { steps = steps; next = Done tt }

  -- so it is with an operation with which it ends
  pub part-ended : (steps : List Performed) (state : S) (old : ℕ) → (after state old).1 ≡ Done tt → IsPart steps state
      → IsWhole (steps ++ step_of state old ∷ [])
  part-ended steps state old ends part =
      let before = part (old ∷ []) in
      record {
        all = before.all;
        is = before.is ∙ ap (λ (n : Next (Unit {0})). joined steps (went_on (step_of state old) n (ran plan after (after state old).0 []))) ends;
      }
