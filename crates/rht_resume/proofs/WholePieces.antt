-- What a resumed walk shows over buckets that stay as they are: the pairs of all of them, in order, each once. A turn takes pairs from the front of
-- those that are left, and leaves the others to the spot where the walk is then.
use Rattle.std.proofs.Common.{◌≡◌, ℕ, ◌+◌, ◌-◌, ◌<◌, ◌≤◌, ◌==◌, nat_lt, Bool, true, false, if◌then◌else◌, Option, Some, None, List, [], ◌∷◌, ◌++◌, length, map, take, drop, refl, sym, ◌∙◌, ap, subst, append_assoc, arith, zero, suc}
use Rattle.std.specs.List.{AllByRecursion, flat_map, range_with_len}
use Rattle.std.proofs.lemmas.Bool.{ltb-true}
use Rattle.std.proofs.lemmas.List.{append-nil, drop-append-le, drop-drop, length-drop, take-append-drop, take-append-le}
use Rattle.rht_walk.specs.WalkLaws.{first_bucket}
use Rattle.rht_model.specs.declared.history.Call.TheVariants.{Walk}
use Rattle.rht_model.specs.declared.history.Cursor.{Cursor}
use Rattle.rht_model.specs.declared.history.Reply.{Reply}
use Rattle.rht_model.specs.declared.history.Reply.TheVariants as replies
use Rattle.rht_model.specs.Endings.{ending_in}
use Rattle.rht_core.specs.Traces.{Past}
use Rattle.rht_resume.specs.declared.resume.Piece.{Piece}
use Rattle.rht_resume.specs.declared.resume.Piece.TheVariants.{Part, End, Again}
use Rattle.rht_resume.specs.declared.resumed.Spot.{Spot}
use Rattle.rht_resume.specs.Pieces.{Outcome, Turn, On, Over, Never, start, before, behind_answer, taking, turn_by, turn_of, outcome_by, outcome_from, walks_by, walks_from}
use Rattle.rht_resume.specs.Laws.{NextMade, IsNextFrom, IsLastPiece, IsResumedWalk, walks_in, endings_in, all_walks, all_pairs}
use Rattle.rht_resume.proofs.StillBuckets.{AnswersBy, pairs_up}

-- ---- lists

some_in : {A : Type 0} {one other : A} → Some one ≡ Some other → one ≡ other
some_in {A} {one} {other} same = cc

cons_in : {A : Type 0} {one other : A} {ones others : List A} → one ∷ ones ≡ other ∷ others → (one ≡ other) × (ones ≡ others)
cons_in {A} {one} {other} {ones} {others} same = (cc, cc)

-- what is so of two lists together is so of each
all-first : {A : Type 0} (P : A → Type 0) (ones others : List A) → AllByRecursion P (ones ++ others) → AllByRecursion P ones
all-first P [] others all = tt
all-first P (one ∷ ones) others all = (all.0, all-first P ones others all.1)

all-second : {A : Type 0} (P : A → Type 0) (ones others : List A) → AllByRecursion P (ones ++ others) → AllByRecursion P others
all-second P [] others all = all
all-second P (one ∷ ones) others all = all-second P ones others all.1

module _ (f : ℕ → List (ℕ × ℕ)) (size : ℕ) (AtEnd : Type 0) where
  -- a walk of limit 1 that has ended and hasn't to begin anew answers by these buckets
  abbrev pub WalkedBy : Past → Type 0
  WalkedBy past =
      (from : Option Cursor) (len : ℕ) (next : Option Cursor) → past.done.call ≡ Walk from 1 → past.done.reply ≡ replies.Walked len next
      → AnswersBy f size AtEnd from past.done.pairs next

  -- ---- what is left of the buckets

  -- the pairs of the buckets from this one on, and those that a walk at this spot hasn't shown
  abbrev up_from : ℕ → List (ℕ × ℕ)
  up_from b = pairs_up f size AtEnd b

  abbrev left : Spot → List (ℕ × ℕ)
  left spot = drop spot.shown (up_from (first_bucket spot.cursor))

  -- those that an answer with this cursor leaves
  abbrev left_behind : Option Cursor → List (ℕ × ℕ)
  left_behind None = []
  left_behind (Some cursor) = left (before cursor)

  -- a bucket's pairs stand before those of the later ones
  up_from-step : (b : ℕ) → b < size → up_from b ≡ f b ++ up_from (b + 1)
  up_from-step b within =
      let one : size - b ≡ suc (size - (b + 1)) = omega arith in
      ap (λ n. flat_map f (range_with_len b n)) one

  -- By induction over the empty buckets between: the last bucket's pairs come first.
  up_from-over : (count b upto : ℕ) → b + count + 1 ≡ upto → upto ≤ size → ((c : ℕ) → b ≤ c → c + 1 < upto → f c ≡ [])
      → up_from b ≡ f (upto - 1) ++ up_from upto
  up_from-over zero b upto is within empty =
      let at : b ≡ upto - 1 = omega arith in
      let behind : b + 1 ≡ upto = omega arith in
      up_from-step b (omega arith) ∙ ap (λ n. f n ++ up_from (b + 1)) at ∙ ap (λ n. f (upto - 1) ++ up_from n) behind
  up_from-over (suc count) b upto is within empty =
      up_from-step b (omega arith)
      ∙ ap (λ l. l ++ up_from (b + 1)) (empty b (omega arith) (omega arith))
      ∙ up_from-over count (b + 1) upto (omega arith) within (λ c from less. empty c (omega (arith, from)) less)

  module _ (from : Option Cursor) (pairs : List (ℕ × ℕ)) (next : Option Cursor) (by : AnswersBy f size AtEnd from pairs next) where
    -- an answer shows the first pairs of the buckets that the walk goes over
    up_from-answer : up_from (first_bucket from) ≡ pairs ++ up_from by.upto
    up_from-answer =
        let later = by.later in
        up_from-over (by.upto - suc (first_bucket from)) (first_bucket from) by.upto (omega (arith, later)) by.within by.empty
        ∙ ap (λ l. l ++ up_from by.upto) (sym by.shows)

  -- behind its last bucket stand the pairs that it leaves
  up_from-behind : (from : Option Cursor) (pairs : List (ℕ × ℕ)) (next : Option Cursor) (by : AnswersBy f size AtEnd from pairs next)
      → up_from by.upto ≡ left_behind next
  up_from-behind from pairs None by =
      let end : by.upto ≡ size = by.ends.0 in
      let none : size - by.upto ≡ 0 = omega arith in
      ap (λ n. flat_map f (range_with_len by.upto n)) none
  up_from-behind from pairs (Some cursor) by = ap up_from (sym by.ends.0)

  -- at the end that is so
  at-end : (from : Option Cursor) (pairs : List (ℕ × ℕ)) (next : Option Cursor) → AnswersBy f size AtEnd from pairs next → next ≡ None → AtEnd
  at-end from pairs None by none = by.ends.1
  at-end from pairs (Some cursor) by none = absurd (cc)

  -- an answer that has come no farther than a bucket that is empty has no pairs, and only one at the end is so
  not_farther : (from : Option Cursor) (pairs : List (ℕ × ℕ)) (next : Option Cursor) (by : AnswersBy f size AtEnd from pairs next)
      → f (by.upto - 1) ≡ [] → by.upto ≡ size
  not_farther from pairs None by empty = by.ends.0
  not_farther from pairs (Some cursor) by empty = absurd (by.ends.2 (by.shows ∙ empty))

  -- two answers of walks from one cursor have the same pairs, where one has some
  module _ (from : Option Cursor) (pairs others : List (ℕ × ℕ)) (next later : Option Cursor) (one : AnswersBy f size AtEnd from pairs next)
      (other : AnswersBy f size AtEnd from others later) where
    not_less : 0 < length pairs → one.upto < other.upto → ⊥
    not_less some less =
        let behind = one.later in
        let none : pairs ≡ [] = one.shows ∙ other.empty (one.upto - 1) (omega (arith, behind)) (omega (arith, behind, less)) in
        let no : length pairs ≡ 0 = ap length none in
        omega (arith, no, some)

    not_more : other.upto < one.upto → ⊥
    not_more more =
        let behind = other.later in
        let none : f (other.upto - 1) ≡ [] = one.empty (other.upto - 1) (omega (arith, behind)) (omega (arith, behind, more)) in
        let end = not_farther from others later other none in
        let within = one.within in
        omega (arith, more, end, within)

    same-pairs : 0 < length pairs → pairs ≡ others
    same-pairs some =
        let less = not_less some in
        let upto : one.upto ≡ other.upto = omega (arith, less, not_more) in
        one.shows ∙ ap (λ n. f (n - 1)) upto ∙ sym other.shows

  -- ---- one turn

  -- each answer of a walk from the spot's cursor has as many pairs as were shown, or more
  abbrev IsWithin : Spot → Type 0
  IsWithin spot =
      (pairs : List (ℕ × ℕ)) (next : Option Cursor) → AnswersBy f size AtEnd spot.cursor pairs next → spot.shown ≤ length pairs

  within-before : (cursor : Cursor) → IsWithin (before cursor)
  within-before cursor = λ pairs next by. omega arith

  -- Of all these pairs a piece shows the first ones, and the walk behind it has the others left; a last piece shows them all.
  abbrev LeavesBy : List (ℕ × ℕ) → List (ℕ × ℕ) → Option Spot → Piece → Type 0
  LeavesBy all pairs spot Part = (later : Spot) → spot ≡ Some later → (all ≡ pairs ++ left later) × IsWithin later
  LeavesBy all pairs spot (End len) = (all ≡ pairs) × AtEnd
  LeavesBy all pairs spot (Again table) = Unit {0}

  abbrev Leaves : List (ℕ × ℕ) → Outcome → Type 0
  Leaves all outcome = LeavesBy all outcome.pairs outcome.spot outcome.piece

  -- a turn leaves none of them out
  abbrev Turns : List (ℕ × ℕ) → Turn → Type 0
  Turns all (On spot pairs) = (all ≡ pairs ++ left spot) × IsWithin spot
  Turns all (Over outcome) = Leaves all outcome
  Turns all Never = Unit {0}

  turns-either : (all : List (ℕ × ℕ)) (case : Bool) (one other : Turn) → (case ≡ true → Turns all one) → (case ≡ false → Turns all other)
      → Turns all (if case then one else other)
  turns-either all true one other first second = first refl
  turns-either all false one other first second = second refl

  -- a part that leaves the walk at this spot
  leaves-part : (all pairs : List (ℕ × ℕ)) (spot : Spot) → all ≡ pairs ++ left spot → IsWithin spot → LeavesBy all pairs (Some spot) Part
  leaves-part all pairs spot whole within =
      λ later is. subst (λ (s : Spot). (all ≡ pairs ++ left s) × IsWithin s) (some_in is) (whole, within)

  turns-behind : (all : List (ℕ × ℕ)) (limit : ℕ) (pairs : List (ℕ × ℕ)) (next : Option Cursor) → all ≡ pairs ++ left_behind next
      → (next ≡ None → AtEnd) → Turns all (behind_answer limit pairs next)
  turns-behind all limit pairs None whole end = (whole ∙ append-nil pairs, end refl)
  turns-behind all limit pairs (Some cursor) whole end =
      turns-either all (length pairs == limit) (Over (record { piece = Part; spot = Some (before cursor); pairs = pairs }))
      (On (before cursor) pairs) (λ enough. leaves-part all pairs (before cursor) whole (within-before cursor))
      (λ few. (whole, within-before cursor))

  module _ (limit : ℕ) (spot : Spot) (pairs seen : List (ℕ × ℕ)) (next : Option Cursor) (by : AnswersBy f size AtEnd spot.cursor seen next)
      (within : IsWithin spot) where
    -- the pairs of the answer that weren't shown before, and how many of them are wanted
    abbrev fresh : List (ℕ × ℕ)
    fresh = drop spot.shown seen

    abbrev wanted : ℕ
    wanted = limit - length pairs

    -- they are the first ones of those that are left
    left-fresh : left spot ≡ fresh ++ left_behind next
    left-fresh =
        ap (drop spot.shown) (up_from-answer spot.cursor seen next by)
        ∙ drop-append-le spot.shown seen (up_from by.upto) (within seen next by)
        ∙ ap (λ l. fresh ++ l) (up_from-behind spot.cursor seen next by)

    -- the spot within the bucket, where not all of them are wanted
    abbrev inside : Spot
    inside = record { cursor = spot.cursor; shown = spot.shown + wanted }

    left-inside : wanted < length fresh → pairs ++ left spot ≡ (pairs ++ take wanted fresh) ++ left inside
    left-inside less =
        let first : take wanted (left spot) ≡ take wanted fresh =
        ap (take wanted) left-fresh ∙ take-append-le wanted fresh (left_behind next) (omega (arith, less)) in
        ap (λ l. pairs ++ l)
        (sym (take-append-drop wanted (left spot))
        ∙ ap (λ l. l ++ drop wanted (left spot)) first
        ∙ ap (λ l. take wanted fresh ++ l) (drop-drop wanted spot.shown (up_from (first_bucket spot.cursor))))
        ∙ sym (append_assoc pairs (take wanted fresh) (left inside))

    within-inside : wanted < length fresh → IsWithin inside
    within-inside less others later other =
        let fresh_is = length-drop spot.shown seen in
        let some : 0 < length seen = omega (arith, less, fresh_is) in
        let same : length seen ≡ length others = ap length (same-pairs spot.cursor seen others next later by other some) in
        omega (arith, less, fresh_is, same)

    turns-taking : Turns (pairs ++ left spot) (taking limit spot pairs (limit - length pairs) (drop spot.shown seen) next)
    turns-taking =
        turns-either (pairs ++ left spot) (nat_lt wanted (length fresh))
        (Over (record { piece = Part; spot = Some inside; pairs = pairs ++ take wanted fresh })) (behind_answer limit (pairs ++ fresh) next)
        (λ more.
        let less = ltb-true wanted (length fresh) more in
        leaves-part (pairs ++ left spot) (pairs ++ take wanted fresh) inside (left-inside less) (within-inside less))
        (λ few.
        turns-behind (pairs ++ left spot) limit (pairs ++ fresh) next
        (ap (λ l. pairs ++ l) left-fresh ∙ sym (append_assoc pairs fresh (left_behind next))) (at-end spot.cursor seen next by))

  -- by the reply, which is that of a walk or makes nothing of a `next`
  turns-by : (limit : ℕ) (spot : Spot) (pairs : List (ℕ × ℕ)) (reply : Reply) (seen : List (ℕ × ℕ)) → IsWithin spot
      → ((len : ℕ) (next : Option Cursor) → reply ≡ replies.Walked len next → AnswersBy f size AtEnd spot.cursor seen next)
      → Turns (pairs ++ left spot) (turn_by limit spot pairs reply seen)
  turns-by limit spot pairs (replies.Walked len next) seen within by = turns-taking limit spot pairs seen next (by len next refl) within
  turns-by limit spot pairs (replies.Again table) seen within by = tt
  turns-by limit spot pairs _ seen within by = tt

  -- ---- a whole `next`

  module _ (limit : ℕ) (outcome : Outcome) where
    -- by what the first answer makes of it; the others are said by the induction
    leaves-turn : (all : List (ℕ × ℕ)) (pasts : List Past)
        → ((spot : Spot) (pairs : List (ℕ × ℕ)) → IsWithin spot → outcome_from limit spot pairs (endings_in pasts) ≡ Some outcome
        → map (λ past. past.done.call) pasts ≡ walks_from limit spot pairs (endings_in pasts) → Leaves (pairs ++ left spot) outcome)
        → (turn : Turn) → Turns all turn
        → outcome_by turn (endings_in pasts) (λ s p. outcome_from limit s p (endings_in pasts)) ≡ Some outcome
        → map (λ past. past.done.call) pasts ≡ walks_by turn (λ s p. walks_from limit s p (endings_in pasts)) → Leaves all outcome
    leaves-turn all pasts others (On spot pairs) turns is calls =
        subst (λ (l : List (ℕ × ℕ)). Leaves l outcome) (sym turns.0) (others spot pairs turns.1 is calls)
    leaves-turn all [] others (Over over) turns is calls = subst (λ (o : Outcome). Leaves all o) (some_in is) turns
    leaves-turn all (past ∷ pasts) others (Over over) turns is calls = absurd (cc)
    leaves-turn all pasts others Never turns is calls = absurd (cc)

    -- By induction over its walks.
    leaves-from : (spot : Spot) (pairs : List (ℕ × ℕ)) (pasts : List Past) → AllByRecursion WalkedBy pasts → IsWithin spot
        → outcome_from limit spot pairs (endings_in pasts) ≡ Some outcome
        → map (λ past. past.done.call) pasts ≡ walks_from limit spot pairs (endings_in pasts) → Leaves (pairs ++ left spot) outcome
    leaves-from spot pairs [] walked within is calls = absurd (cc)
    leaves-from spot pairs (past ∷ pasts) walked within is calls =
        let called = cons_in calls in
        leaves-turn (pairs ++ left spot) pasts (λ s p inside. leaves-from s p pasts walked.1 inside)
        (turn_of limit spot pairs (ending_in past.done))
        (turns-by limit spot pairs past.done.reply past.done.pairs within (λ len next reply. walked.0 spot.cursor len next called.0 reply))
        is called.1

  leaves-next : (spot : Spot) (made : NextMade) → IsWithin spot → IsNextFrom spot made → AllByRecursion WalkedBy (walks_in made)
      → Leaves (left spot) made.outcome
  leaves-next spot made within next walked = leaves-from made.limit made.outcome spot [] (walks_in made) walked within next.outcome next.calls

  -- ---- a whole walk

  leaves-last : (all pairs : List (ℕ × ℕ)) (spot : Option Spot) (piece : Piece) → IsLastPiece piece → LeavesBy all pairs spot piece
      → (pairs ≡ all) × AtEnd
  leaves-last all pairs spot Part last leaves = absurd last
  leaves-last all pairs spot (End len) last leaves = (sym leaves.0, leaves.1)
  leaves-last all pairs spot (Again table) last leaves = absurd last

  -- By induction over its pieces: it shows what is left.
  whole-from : (spot : Spot) (nexts : List NextMade) → IsWithin spot → IsResumedWalk spot nexts → AllByRecursion WalkedBy (all_walks nexts)
      → (all_pairs nexts ≡ left spot) × AtEnd
  whole-from spot [] within resumed walked = absurd resumed
  whole-from spot (made ∷ []) within resumed walked =
      let leaves = leaves-next spot made within resumed.0 (all-first WalkedBy (walks_in made) [] walked) in
      let last = leaves-last (left spot) made.outcome.pairs made.outcome.spot made.outcome.piece resumed.1 leaves in
      (append-nil made.outcome.pairs ∙ last.0, last.1)
  whole-from spot (made ∷ next ∷ others) within resumed walked =
      let leaves = leaves-next spot made within resumed.1 (all-first WalkedBy (walks_in made) (all_walks (next ∷ others)) walked) in
      let part = subst (λ (p : Piece). LeavesBy (left spot) made.outcome.pairs made.outcome.spot p) resumed.2 leaves in
      let goes_on = part resumed.0 resumed.3 in
      let behind = whole-from resumed.0 (next ∷ others) goes_on.1 resumed.4
      (all-second WalkedBy (walks_in made) (all_walks (next ∷ others)) walked) in
      (ap (λ l. made.outcome.pairs ++ l) behind.0 ∙ sym goes_on.0, behind.1)

  -- a resumed walk over buckets that stay shows the pairs of all of them, in order, each once; and at its end that is so
  pub whole : (nexts : List NextMade) → IsResumedWalk start nexts → AllByRecursion WalkedBy (all_walks nexts)
      → (all_pairs nexts ≡ pairs_up f size AtEnd 0) × AtEnd
  whole nexts resumed walked = whole-from start nexts (λ pairs next by. omega arith) resumed walked
