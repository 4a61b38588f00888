-- What the operations of a tidying have given back, by its state, beside the batch that its caller had before. The nodes that were due
-- wait, and those before the tidying's place are given back, and no others.
-- And the tidying of that batch that finds the words which these operations found has made them, and goes on from the present state. So what
-- is shown of the machine, whatever it finds, is so of these operations.
use Rattle.std.proofs.Common.{◌≡◌, ◌↔◌, ℕ, zero, suc, ◌+◌, ◌<◌, ◌≤◌, ◌++◌, ◌∷◌, ◌==◌, List, [], length, map, take, get_or, Option, Some, None, refl, sym, ap, ◌∙◌, subst, inl, inr, arith}
use Rattle.std.specs.Prelude.{nat_lt, if◌then◌else◌}
use Rattle.std.specs.Int.{bit_at}
use Rattle.std.proofs.lemmas.Bool.{cases_eq}
use Rattle.std.proofs.lemmas.List.{append-nil, append_assoc, length-append, length-map, map-append, nil_from_length, take_more, take_all}
use Rattle.std.proofs.lemmas.List.Quantifiers.{Any-push}
use Rattle.rht_words.specs.declared.geometry.Geometry.{Geometry}
use Rattle.rht_words.specs.declared.machine.Next.{Next}
use Rattle.rht_words.specs.declared.machine.Next.TheVariants.{Go, Done}
use Rattle.rht_words.specs.Machines.{Performed, Ran}
use Rattle.rht_words.specs.Members.{In}
use Rattle.rht_words.specs.Operations.{op_place, word_after}
use Rattle.rht_words.proofs.BitChanges.{bit_at-set, bit_at-set_other}
use Rattle.rht_words.proofs.EachElement.{Any-append_left}
use Rattle.rht_words.proofs.Members.{in-middle, In-append_left, In-append_cases}
use Rattle.rht_model.specs.declared.history.Reply.{Reply}
use Rattle.rht_model.specs.declared.history.Reply.TheVariants.{Clear, Pending}
use Rattle.rht_arena.specs.Laws.{map_place, map_bit}
use Rattle.rht_grace.specs.Batch.{BatchModel, IsBatch, with_word, first_odd}
use Rattle.rht_grace.specs.Tidy.{load_of, give_of, plan_at, after_at, giving, asking, asked_at, begun}
use Rattle.rht_grace.specs.TidyLaws.{Tidied, tidying_ran, due_of, left_of, EndsRightly, tidy_bound}
use Rattle.rht_grace.specs.declared.tidy.TidyAt.{TidyAt}
use Rattle.rht_grace.specs.declared.tidy.TidyAt.TheVariants as at
use Rattle.rht_grace.proofs.TidyAnswers.{tidies_rightly}
use Rattle.rht_grace.proofs.TidyBounds.{tidies_soon}
use Rattle.rht_grace.proofs.TidyRuns.{run_at, goes_on, by_step, begun-some, begun-none}
use Rattle.rht_core.specs.Reach.{SetsBit}
use Rattle.rht_core.specs.Tidied.{GivesNode}
use Rattle.rht_core.specs.Tidyings.{IsTidyPlace}
use Rattle.rht_core.specs.Traces.{Did, performed_of}
use Rattle.rht_core.proofs.Histories.Behind.{Any-push_cases}
use Rattle.rht_core.proofs.Machines.TidyRanges.{Came, giving-so, asking-so}
use Rattle.rht_ghost.proofs.Theory.Steps.{by_test}

-- where some wait they are due, and the fresh ones are left
due-some : (fresh waiting : List ℕ) → 0 < length waiting → (due_of fresh waiting ≡ waiting) × (left_of fresh waiting ≡ fresh)
due-some fresh [] some = absurd (omega arith)
due-some fresh (node ∷ nodes) some = (refl, refl)

abbrev with_steps : List Performed → Next Tidied → Ran Tidied
with_steps steps next = record { steps = steps; next = next }

module _ (g : Geometry) where
  abbrev pub GivesNone : List Did → Type 0
  GivesNone steps = (node : ℕ) → GivesNode g steps node → ⊥

  abbrev pub GivesThese : List ℕ → List Did → Type 0
  GivesThese nodes steps = (node : ℕ) → In node nodes ↔ GivesNode g steps node

  none-these : (steps : List Did) → GivesNone steps → GivesThese [] steps
  none-these steps none node = ((λ there. absurd there), none node)

  -- ---- one operation

  -- one that sets no bit gives none back
  sets-none : (steps : List Did) (did : Did) → ((place bit : ℕ) → SetsBit place bit did → ⊥) → GivesNone steps → GivesNone (steps ++ did ∷ [])
  sets-none steps did still none node gives =
      elim (Any-push_cases (SetsBit (map_place g node) (map_bit node)) steps did gives.1) [
        | inl before ↦ none node (gives.0, before)
        | inr now ↦ still (map_place g node) (map_bit node) now
      ]

  load-sets : (did : Did) (caller : ℕ) → did.op ≡ load_of caller → (place bit : ℕ) → SetsBit place bit did → ⊥
  load-sets did caller is place bit sets =
      let same : word_after did.old did.op ≡ did.old = ap (word_after did.old) is in
      let set : bit_at did.old bit ≡ 1 = sym (ap (λ w. bit_at w bit) same) ∙ sets.set in
      let clear = sets.clear in
      absurd (omega (arith, set, clear))

  -- one that gives this node back, which was taken, gives no other one back
  module _ (did : Did) (n : ℕ) (is : did.op ≡ give_of g n) (taken : bit_at did.old (map_bit n) ≡ 0) where
    after : word_after did.old did.op ≡ word_after did.old (give_of g n)
    after = ap (word_after did.old) is

    sets-it : SetsBit (map_place g n) (map_bit n) did
    sets-it = record {
      on = ap op_place is;
      clear = taken;
      set = ap (λ w. bit_at w (map_bit n)) after ∙ bit_at-set did.old (map_bit n);
    }

    sets-one : (node : ℕ) → SetsBit (map_place g node) (map_bit node) did → node ≡ n
    sets-one node sets = elim (cases_eq (map_bit node) (map_bit n)) [
      | inl bit ↦
          let place : map_place g node ≡ map_place g n = sym sets.on ∙ ap op_place is in
          omega (arith, place, bit)
      | inr other ↦
          let kept = bit_at-set_other did.old (map_bit n) (map_bit node) other in
          let set = sym (ap (λ w. bit_at w (map_bit node)) after) ∙ sets.set in
          let clear = sets.clear in
          absurd (omega (arith, kept, set, clear))
    ]

    gives-more : (nodes : List ℕ) (steps : List Did) → n < g.nodes → GivesThese nodes steps → GivesThese (nodes ++ n ∷ []) (steps ++ did ∷ [])
    gives-more nodes steps low these node = (
      λ there. elim (In-append_cases node nodes (n ∷ []) there) [
        | inl before ↦
            let gave = (these node).0 before in
            (gave.0, Any-append_left (SetsBit (map_place g node) (map_bit node)) steps (did ∷ []) gave.1)
        | inr now ↦ elim now [
          | inl same ↦
              subst (GivesNode g (steps ++ did ∷ [])) (sym same)
              (low, Any-push (SetsBit (map_place g n) (map_bit n)) steps did sets-it)
          | inr none ↦ absurd none
        ]
      ],
      λ gives. elim (Any-push_cases (SetsBit (map_place g node) (map_bit node)) steps did gives.1) [
        | inl before ↦ In-append_left node nodes (n ∷ []) ((these node).1 (gives.0, before))
        | inr now ↦ subst (λ m. In m (nodes ++ n ∷ [])) (sym (sets-one node now)) (in-middle n nodes [])
      ],
    )

  -- ---- by the state

  module _ (own : BatchModel) where
    abbrev due : List ℕ
    due = due_of own.fresh own.waiting

    abbrev left : List ℕ
    left = left_of own.fresh own.waiting

    abbrev HasGiven : BatchModel → TidyAt → List Did → Type 0
    HasGiven batch (at.Keeping caller) steps = GivesNone steps
    HasGiven batch (at.Asking caller) steps = GivesNone steps
    HasGiven batch (at.Giving index) steps = GivesThese (take index batch.waiting) steps

    pub record HasCome (batch : BatchModel) (state : TidyAt) (steps : List Did) : Type 0 where
      pub waiting : batch.waiting ≡ due
      pub fresh : batch.fresh ≡ left
      pub gave : HasGiven batch state steps

    -- and once it has ended
    pub record HasCleared (batch : BatchModel) (count : ℕ) (steps : List Did) : Type 0 where
      pub many : count ≡ length due
      pub none_waits : batch.waiting ≡ []
      pub fresh : batch.fresh ≡ left
      pub gave : GivesThese due steps

    -- or where they wait
    pub record HasWaited (batch : BatchModel) (steps : List Did) : Type 0 where
      pub waiting : batch.waiting ≡ due
      pub fresh : batch.fresh ≡ left
      pub gave : GivesNone steps

    abbrev pub EndsSo : BatchModel → Reply → List Did → Type 0
    EndsSo batch (Clear count) steps = HasCleared batch count steps
    EndsSo batch (Pending caller section) steps = HasWaited batch steps
    EndsSo batch _ steps = ⊥

    abbrev pub ComesTo : List Did → Came → Type 0
    ComesTo steps (batch, state, Go) = HasCome batch state steps
    ComesTo steps (batch, state, Done reply) = EndsSo batch reply steps

    giving_comes : (batch : BatchModel) (index : ℕ) (steps : List Did) → batch.waiting ≡ due → batch.fresh ≡ left
        → GivesThese (take index batch.waiting) steps
        → ComesTo steps (giving batch index)
    giving_comes batch index steps waiting fresh gave =
        giving-so (ComesTo steps) batch index (λ more. record { waiting = waiting; fresh = fresh; gave = gave })
        (λ past. record {
          many = ap length waiting;
          none_waits = refl;
          fresh = fresh;
          gave = subst (λ nodes. GivesThese nodes steps) (take_all index batch.waiting past ∙ waiting) gave;
        })

    asking_comes : (batch : BatchModel) (from : ℕ) (steps : List Did) → batch.waiting ≡ due → batch.fresh ≡ left → GivesNone steps
        → ComesTo steps (asking batch from)
    asking_comes batch from steps waiting fresh none =
        asking-so (ComesTo steps) batch from (λ caller there odd. record { waiting = waiting; fresh = fresh; gave = none })
        (λ some. record { waiting = waiting; fresh = fresh; gave = none-these steps none })
        (λ empty. record {
          many = ap length waiting;
          none_waits = refl;
          fresh = fresh;
          gave =
              subst (λ nodes. GivesThese nodes steps) (sym (nil_from_length batch.waiting (omega (arith, empty))) ∙ waiting)
              (none-these steps none);
        })

    -- an operation of a tidying, by which a node that is given back was taken until then
    pub comes : (batch : BatchModel) (state : TidyAt) (steps : List Did) (did : Did) → IsTidyPlace g batch state → did.op ≡ plan_at g batch state
        → ((index : ℕ) → state ≡ at.Giving index
        → (get_or batch.waiting index 0 < g.nodes) × (bit_at did.old (map_bit (get_or batch.waiting index 0)) ≡ 0))
        → HasCome batch state steps → ComesTo (steps ++ did ∷ []) (after_at g batch state did.old)
    comes batch (at.Keeping caller) steps did at_in is taken come =
        let all = steps ++ did ∷ [] in
        let next = with_word batch caller did.old in
        let none : GivesNone all = sets-none steps did (load-sets did caller is) come.gave in
        by_test (λ t. ComesTo all (if t then (next, at.Keeping (caller + 1), Go) else asking next 0)) (nat_lt (caller + 1) g.callers)
        (λ low. record { waiting = come.waiting; fresh = come.fresh; gave = none })
        (λ past. asking_comes next 0 all come.waiting come.fresh none)
    comes batch (at.Asking caller) steps did at_in is taken come =
        let all = steps ++ did ∷ [] in
        let next = with_word batch caller 0 in
        let none : GivesNone all = sets-none steps did (load-sets did caller is) come.gave in
        by_test (λ t. ComesTo all (if t then (batch, at.Asking caller, Done (Pending caller did.old)) else asking next (caller + 1)))
        (did.old == get_or batch.kept caller 0)
        (λ kept. record { waiting = come.waiting; fresh = come.fresh; gave = none })
        (λ other. asking_comes next (caller + 1) all come.waiting come.fresh none)
    comes batch (at.Giving index) steps did at_in is taken come =
        let n = get_or batch.waiting index 0 in
        let was = taken index refl in
        giving_comes batch (index + 1) (steps ++ did ∷ []) come.waiting come.fresh
        (subst (λ nodes. GivesThese nodes (steps ++ did ∷ [])) (sym (take_more batch.waiting index 0 at_in))
        (gives-more did n is was.1 (take index batch.waiting) steps was.0 come.gave))

  -- it begins so
  pub begins_so : (own : BatchModel) → HasCome own (begun own).0 (begun own).1 []
  begins_so own = go (length own.waiting) refl
    where
      nothing : GivesNone []
      nothing node gives = let within = gives.1.2 in absurd (omega (arith, within))

      waits : (found : Option ℕ) → first_odd own.kept 0 ≡ found → 0 < length own.waiting → HasCome own own (asked_at found) []
      waits None is some =
          let are = due-some own.fresh own.waiting some in
          record { waiting = sym are.0; fresh = sym are.1; gave = none-these [] nothing }
      waits (Some caller) is some =
          let are = due-some own.fresh own.waiting some in record { waiting = sym are.0; fresh = sym are.1; gave = nothing }

      go : (count : ℕ) → length own.waiting ≡ count → HasCome own (begun own).0 (begun own).1 []
      go zero none =
          let empty = nil_from_length own.waiting none in
          subst (λ (b : BatchModel × TidyAt). HasCome own b.0 b.1 []) (sym (begun-none own none))
          (record { waiting = sym (ap (due_of own.fresh) empty); fresh = sym (ap (left_of own.fresh) empty); gave = nothing })
      go (suc count) some =
          subst (λ (b : BatchModel × TidyAt). HasCome own b.0 b.1 []) (sym (begun-some own (omega (arith, some))))
          (waits (first_odd own.kept 0) refl (omega (arith, some)))

  -- ---- the run of the machine

  -- operations, and then a run
  abbrev further : List Performed → Ran Tidied → Ran Tidied
  further steps rest = record { steps = steps ++ rest.steps; next = rest.next }

  abbrev words_of : List Did → List ℕ
  words_of steps = map (λ (did : Did). did.old) steps

  module _ (own : BatchModel) where
    -- the tidying of this batch that finds these words has made these operations, and goes on so
    abbrev pub RunsOn : List Did → Came → Type 0
    RunsOn steps came =
        (olds : List ℕ) → run_at g (begun own).0 (begun own).1 (words_of steps ++ olds)
        ≡ further (map performed_of steps) (goes_on g came olds)

    -- one operation further
    pub runs_on : (batch : BatchModel) (state : TidyAt) (steps : List Did) (did : Did) → did.op ≡ plan_at g batch state
        → RunsOn steps (batch, state, Go) → RunsOn (steps ++ did ∷ []) (after_at g batch state did.old)
    runs_on batch state steps did is runs olds =
        let came = after_at g batch state did.old in
        let before = map performed_of steps in
        let all = map performed_of (steps ++ did ∷ []) in
        let words : words_of (steps ++ did ∷ []) ++ olds ≡ words_of steps ++ did.old ∷ olds =
        ap (λ xs. xs ++ olds) (map-append (λ (d : Did). d.old) steps (did ∷ [])) ∙ append_assoc (words_of steps) (did.old ∷ []) olds in
        let made : before ++ record { op = plan_at g batch state; old = did.old } ∷ [] ≡ all =
        ap (λ op. before ++ record { op = op; old = did.old } ∷ []) (sym is) ∙ sym (map-append performed_of steps (did ∷ [])) in
        let rest = goes_on g came olds in
        ap (run_at g (begun own).0 (begun own).1) words ∙ runs (did.old ∷ olds)
        ∙ by_step g (λ run. further before run ≡ further all rest) batch state did.old olds
        (ap (λ steps. with_steps steps rest.next)
        (sym (append_assoc before (record { op = plan_at g batch state; old = did.old } ∷ []) rest.steps) ∙ ap (λ xs. xs ++ rest.steps) made))

    -- what is shown of the machine is so of these operations
    module _ (sound : IsBatch own) (same : own.geometry ≡ g) (steps : List Did) where
      abbrev found : List ℕ
      found = words_of steps ++ []

      ran_so : (came : Came) → RunsOn steps came → tidying_ran own found ≡ further (map performed_of steps) (goes_on g came [])
      ran_so came runs =
          subst (λ (h : Geometry). run_at h (begun own).0 (begun own).1 found ≡ further (map performed_of steps) (goes_on g came [])) (sym same)
          (runs [])

      pub ends_rightly : (batch : BatchModel) (state : TidyAt) (reply : Reply) → RunsOn steps (batch, state, Done reply)
          → EndsRightly own (record { reply = reply; batch = batch }) (map performed_of steps)
      ends_rightly batch state reply runs =
          let end : Tidied = record { reply = reply; batch = batch } in
          let is = ran_so (batch, state, Done reply) runs in
          subst (EndsRightly own end) (ap (λ (r : Ran Tidied). r.steps) is ∙ append-nil (map performed_of steps))
          (tidies_rightly own found end sound (ap (λ (r : Ran Tidied). r.next) is))

      pub is_soon : (came : Came) → RunsOn steps came → length steps ≤ tidy_bound g
      is_soon came runs =
          let few = (tidies_soon own found sound).few in
          let long = ap (λ (r : Ran Tidied). length r.steps) (ran_so came runs) in
          let both = length-append (map performed_of steps) (goes_on g came []).steps in
          let as_many = length-map steps performed_of in
          let bound = ap tidy_bound same in
          omega (arith, few, long, both, as_many, bound)
