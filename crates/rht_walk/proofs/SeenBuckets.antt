-- What was found at buckets and nodes, where one more is found; and the way to a bucket, cut at an entry.
use Rattle.std.proofs.Common.{◌≡◌, ℕ, ◌+◌, ◌<◌, ◌≤◌, ◌⊎◌, nat_lt, List, [], ◌∷◌, ◌++◌, length, map, take, append_assoc, append-nil, true, false, Some, refl, sym, ◌∙◌, ap, subst, inl, inr, arith}
use Rattle.std.proofs.lemmas.Bool.{cases_lt}
use Rattle.std.proofs.lemmas.Grind.{flat_map-append}
use Rattle.std.proofs.lemmas.List.{take_all, take-append-le, length-take-le, length-append}
use Rattle.std.proofs.lemmas.Bool.Decides.{nat_tests}
use Rattle.rht_words.specs.declared.geometry.Geometry.{Geometry}
use Rattle.rht_words.specs.declared.machine.Next.TheVariants.{Go, Done}
use Rattle.rht_words.specs.Links.{node_of}
use Rattle.rht_words.specs.Machines.{Performed, Ran, ran}
use Rattle.rht_nest.specs.Place.{PlaceModel, place_plan, place_after, nested_place, flat_place}
use Rattle.rht_nest.specs.PlaceLaws.{finding_ran}
use Rattle.rht_nest.specs.Tables.{is_nested}
use Rattle.rht_nest.specs.declared.place.Bucket.{Bucket}
use Rattle.rht_nest.specs.declared.place.Bucket.TheVariants as buckets
use Rattle.rht_model.specs.Rooms.{with_kept}
use Rattle.rht_walk.specs.Walk.{Pairs}
use Rattle.rht_walk.specs.WalkLaws.{NodeSeen, pair_of, LeadsOver, BucketSeen, nodes_of, pairs_at, pairs_of, AreTooFew, bucket_steps, IsBucketSeen, FindsNone, AreSeen, steps_of}

-- ---- lists

-- the first so many of these pairs, in a room for so many
abbrev pub kept_of : ℕ → List (ℕ × ℕ) → Pairs
kept_of most pairs = record { items = take most pairs; limit = most }

-- one pair more is kept, where there is room
pub kept_of-push : (most : ℕ) (pairs : List (ℕ × ℕ)) (pair : ℕ × ℕ)
    → with_kept (kept_of most pairs) pair ≡ kept_of most (pairs ++ pair ∷ [])
kept_of-push most pairs pair = elim (cases_lt (length pairs) most) [ inl low ↦ room low | inr high ↦ full high ]
  where
    room : length pairs < most → with_kept (kept_of most pairs) pair ≡ kept_of most (pairs ++ pair ∷ [])
    room low =
        let all = take_all most pairs (omega (arith, low)) in
        let longer : length (pairs ++ pair ∷ []) ≤ most = rw (length-append pairs (pair ∷ [])) (omega (arith, low)) in
        let more = take_all most (pairs ++ pair ∷ []) longer in
        rw all (rw more (rw (lt_true (length pairs) most low) refl))
      where
        lt_true : (a b : ℕ) → a < b → nat_lt a b ≡ true
        lt_true a b l = grind (arith, nat_tests)

    full : most ≤ length pairs → with_kept (kept_of most pairs) pair ≡ kept_of most (pairs ++ pair ∷ [])
    full high =
        let same = take-append-le most pairs (pair ∷ []) high in
        let len = length-take-le most pairs high in
        rw same (go (take most pairs) len)
      where
        go : (items : List (ℕ × ℕ)) → length items ≡ most
            → with_kept (record { items = items; limit = most }) pair ≡ record { items = items; limit = most }
        go items is = rw (lt_false (length items) most (omega (arith, is))) refl
          where
            lt_false : (a b : ℕ) → b ≤ a → nat_lt a b ≡ false
            lt_false a b l = grind (arith, nat_tests)

-- one operation more behind two parts
pub push : (steps front middle behind : List Performed) (step : Performed) → steps ≡ front ++ (middle ++ behind)
    → steps ++ step ∷ [] ≡ front ++ (middle ++ (behind ++ step ∷ []))
push steps front middle behind step is =
    ap (λ s. s ++ step ∷ []) is ∙ append_assoc front (middle ++ behind) (step ∷ [])
    ∙ ap (λ s. front ++ s) (append_assoc middle behind (step ∷ []))

module _ (g : Geometry) (table shape : ℕ) where
  -- one bucket more
  pub steps_of-push : (first : ℕ) (seen : List BucketSeen) (more : BucketSeen) (upto : ℕ) → AreSeen g table shape first seen upto
      → steps_of g table shape first (seen ++ more ∷ []) ≡ steps_of g table shape first seen ++ bucket_steps g table shape upto more
  steps_of-push first [] more upto are =
      append-nil (bucket_steps g table shape first more) ∙ ap (λ b. bucket_steps g table shape b more) (sym are)
  steps_of-push first (one ∷ seen) more upto are =
      ap (λ s. bucket_steps g table shape first one ++ s) (steps_of-push (first + 1) seen more upto are.2)
      ∙ sym (append_assoc (bucket_steps g table shape first one) _ _)

  pub AreSeen-push : (first : ℕ) (seen : List BucketSeen) (more : BucketSeen) (upto : ℕ) → AreSeen g table shape first seen upto
      → IsBucketSeen g table shape upto more
      → FindsNone g table shape more
      → AreSeen g table shape first (seen ++ more ∷ []) (upto + 1)
  AreSeen-push first [] more upto are is none =
      (subst (λ b. IsBucketSeen g table shape b more) are is, none, ap (λ b. b + 1) are)
  AreSeen-push first (one ∷ seen) more upto are is none =
      (are.0, are.1, AreSeen-push (first + 1) seen more upto are.2 is none)

  -- a bucket to which it has come isn't before the first one
  pub AreSeen-from : (first : ℕ) (seen : List BucketSeen) (upto : ℕ) → AreSeen g table shape first seen upto → first ≤ upto
  AreSeen-from first [] upto are = omega (arith, are)
  AreSeen-from first (one ∷ seen) upto are =
      let later = AreSeen-from (first + 1) seen upto are.2 in omega (arith, later)

pub pairs_of-push : (seen : List BucketSeen) (more : BucketSeen)
    → pairs_of (seen ++ more ∷ []) ≡ pairs_of seen ++ map pair_of (nodes_of more)
pairs_of-push seen more =
    flat_map-append pairs_at seen (more ∷ [])
    ∙ ap (λ s. pairs_of seen ++ s) (append-nil (map pair_of (nodes_of more)))

-- Where too few pairs were shown before it, one bucket more is walked.
module _ (limit most : ℕ) where
  -- none was walked before, or there were too few pairs behind them
  abbrev pub IsOpen : List (ℕ × ℕ) → List BucketSeen → Type 0
  IsOpen pairs seen = (seen ≡ []) ⊎ (length (take most (pairs ++ pairs_of seen)) < limit)

  pub AreTooFew-push : (pairs : List (ℕ × ℕ)) (seen : List BucketSeen) (more : BucketSeen) → AreTooFew limit most pairs seen
      → IsOpen pairs seen
      → AreTooFew limit most pairs (seen ++ more ∷ [])
  AreTooFew-push pairs [] more few open_now = tt
  AreTooFew-push pairs (one ∷ []) more few (inl none) = absurd (cc)
  AreTooFew-push pairs (one ∷ []) more few (inr less) =
      (subst (λ s. length (take most (pairs ++ s)) < limit) (append-nil (pairs_at one)) less, tt)
  AreTooFew-push pairs (one ∷ next ∷ seen) more few (inl none) = absurd (cc)
  AreTooFew-push pairs (one ∷ next ∷ seen) more few (inr less) = (
    few.0,
    AreTooFew-push (pairs ++ pairs_at one) (next ∷ seen) more few.1
        (inr (subst (λ s. length (take most s) < limit) (sym (append_assoc pairs (pairs_at one) (pairs_of (next ∷ seen)))) less)),
  )

-- one node more
pub LeadsOver-push : (g : Geometry) (link last : ℕ) (nodes : List NodeSeen) (seen : NodeSeen) → LeadsOver g link nodes last
    → node_of g.nodes last ≡ Some seen.node
    → LeadsOver g link (nodes ++ seen ∷ []) seen.link
LeadsOver-push g link last [] seen leads is = (subst (λ l. node_of g.nodes l ≡ Some seen.node) leads is, refl)
LeadsOver-push g link last (one ∷ nodes) seen leads is = (leads.0, LeadsOver-push g one.link last nodes seen leads.1 is)

-- ---- the way to a bucket

module _ (g : Geometry) (shape bucket : ℕ) where
  -- It has come to this entry behind those: what a finding makes of more words is what comes from here on.
  pub record OnWay (entries : List ℕ) (steps : List Performed) (way : PlaceModel) : Type 0 where
    pub later : (olds : List ℕ)
        → finding_ran g shape bucket (entries ++ olds)
        ≡ record { steps = steps ++ (ran place_plan place_after way olds).steps; next = (ran place_plan place_after way olds).next }

  -- where it ends
  pub record AtEnd (entries : List ℕ) (steps : List Performed) (found : Bucket) : Type 0 where
    pub is : finding_ran g shape bucket entries ≡ record { steps = steps; next = Done found }

  pub begins_nested : is_nested shape ≡ true → OnWay [] [] (nested_place g shape bucket)
  begins_nested nested = record { later = λ olds. rw nested refl }

  pub begins_flat : is_nested shape ≡ false → AtEnd [] [] (buckets.At (flat_place g shape bucket))
  begins_flat flat = record { is = rw flat refl }

  -- an entry
  abbrev pub entry_step : PlaceModel → ℕ → Performed
  entry_step way word = record { op = place_plan way; old = word }

  pub further : (entries : List ℕ) (steps : List Performed) (way next : PlaceModel) (word : ℕ) → OnWay entries steps way
      → place_after way word ≡ (next, Go)
      → OnWay (entries ++ word ∷ []) (steps ++ entry_step way word ∷ []) next
  further entries steps way next word on is = record {
    later = λ olds.
        let same = ap (finding_ran g shape bucket) (append_assoc entries (word ∷ []) olds) in
        same ∙ on.later (word ∷ olds) ∙ go olds;
  }
    where
      go : (olds : List ℕ)
          → ◌≡◌ {A = Ran Bucket} (record { steps = steps ++ (ran place_plan place_after way (word ∷ olds)).steps; next = (ran place_plan place_after way (word ∷ olds)).next })
          (record {
            steps = (steps ++ entry_step way word ∷ []) ++ (ran place_plan place_after next olds).steps;
            next = (ran place_plan place_after next olds).next;
          })
      go olds = rw is (rw (append_assoc steps (entry_step way word ∷ []) (ran place_plan place_after next olds).steps) refl)

  pub ends_way : (entries : List ℕ) (steps : List Performed) (way next : PlaceModel) (word : ℕ) (found : Bucket)
      → OnWay entries steps way
      → place_after way word ≡ (next, Done found)
      → AtEnd (entries ++ word ∷ []) (steps ++ entry_step way word ∷ []) found
  ends_way entries steps way next word found on is = record { is = on.later (word ∷ []) ∙ (rw is refl) }
