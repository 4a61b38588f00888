-- What a walk of limit 1 answers, where each of its operations found these words: what the words show at its buckets.
--
-- No word that it loads is a section word. So the way to a bucket ends at the bucket's place by the words, and the nodes that it visits
-- there are those of the words' chain. It goes on behind a bucket only where that has no pairs. So its pairs are those of the last one.
use Rattle.std.proofs.Common.{◌≡◌, ◌≢◌, ℕ, zero, suc, ◌+◌, ◌-◌, ◌/◌, ◌<◌, ◌≤◌, ◌⊎◌, false, Option, Some, None, List, [], ◌∷◌, ◌++◌, length, map, take, slice_index, inl, inr, refl, sym, ◌∙◌, ap, subst, append-nil, arith}
use Rattle.std.specs.Prelude.{IfSome}
use Rattle.std.specs.List.{AllByRecursion, flat_map}
use Rattle.std.proofs.lemmas.Bool.{cases_lt, cond_both}
use Rattle.std.proofs.lemmas.List.{take_all, length-map}
use Rattle.std.proofs.lemmas.List.Elements.{All-from_recursion}
use Rattle.rht_words.specs.declared.geometry.Geometry.{Geometry}
use Rattle.rht_words.specs.declared.machine.Next.{Next}
use Rattle.rht_words.specs.declared.machine.Next.TheVariants.{Go, Done}
use Rattle.rht_words.specs.declared.machine.Start.{Start}
use Rattle.rht_words.specs.declared.machine.Start.TheVariants as starts
use Rattle.rht_words.specs.declared.op.Op.TheVariants.{Load}
use Rattle.rht_words.specs.Links.{table_of, slot_of, node_of, head_of, marker_of}
use Rattle.rht_words.specs.Machines.{Performed, Ran, ran, went_on}
use Rattle.rht_words.specs.Operations.{old_of}
use Rattle.rht_words.specs.Places.{CurrentTable, Slot, FutureWord, ShapeWord, SlotWord, Node, NodeWord, KeyWord, OwnerWord, ChainLink, PageWord, place_of, word_at}
use Rattle.rht_words.specs.Ports.{port_of, owner_of}
use Rattle.rht_words.specs.Shapes.{unpacked, size_of}
use Rattle.rht_words.proofs.EachElement.{AllByRecursion-cut}
use Rattle.rht_words.proofs.LinksRead.{links_tell_apart}
use Rattle.rht_words.proofs.PlacesApart.{parts_in_order}
use Rattle.rht_model.specs.declared.history.Cursor.{Cursor}
use Rattle.rht_model.specs.declared.history.Reply.TheVariants.{Walked}
use Rattle.rht_nest.specs.Place.{PlaceModel, place_new, place_plan, place_after, entry_place, picked, entered, behind_entry, place_at_once, place_or_last, read_last, read_place, nested_place, flat_place, place_in}
use Rattle.rht_nest.specs.PlaceLaws.{finding_from, finding_ran, page_words, FoundAmong}
use Rattle.rht_nest.specs.Tables.{is_nested}
use Rattle.rht_nest.specs.declared.place.Bucket.{Bucket}
use Rattle.rht_nest.specs.declared.place.Bucket.TheVariants as buckets
use Rattle.rht_nest.proofs.PlacesRead.{finds_place_of_words}
use Rattle.rht_walk.specs.WalkLaws.{NodeSeen, pair_of, node_steps, loaded, LeadsOver, BucketSeen, MissingPage, OwnChain, StrangeChain, nodes_of, pairs_at, pairs_of, AreTooFew, bucket_steps, chain_steps, IsBucketSeen, AreSeen, steps_of, first_bucket, Fits, StopsBefore, EndsThere, WalkedTo, EndsRightly}
use Rattle.rht_walk.proofs.WalkStays.{some_buckets}
use Rattle.rht_stands.specs.StandsFor.{chain_from, bucket_in, bucket_nodes, shape_of}
use Rattle.rht_resume.proofs.StillBuckets.{EndsSo, AnswersBy, pair_at, size_now, bucket_pairs, IsNoneBehind, FindsHere}

-- ---- places that are no section word's

-- behind the section words
abbrev IsBehind : ℕ → Type 0
IsBehind place = 24 ≤ place

-- and so are the words of nodes, pages and slots
node-behind : (g : Geometry) (node : ℕ) (word : NodeWord) → IsBehind (place_of g (Node node word))
node-behind g node word = let parts = parts_in_order g in omega (arith, parts.page_map, parts.nodes)

page-behind : (g : Geometry) (index : ℕ) → IsBehind (place_of g (PageWord index))
page-behind g index = let parts = parts_in_order g in omega (arith, parts.page_map, parts.nodes, parts.pages)

slot-behind : (g : Geometry) (slot : ℕ) (word : SlotWord) → IsBehind (place_of g (Slot slot word))
slot-behind g slot word = omega arith

-- a bucket's place too, if there is one, whatever the words of the pages are
abbrev EndsBehind : Option ℕ → Type 0
EndsBehind found = IfSome found IsBehind

module _ (read : ℕ → ℕ) where
  -- behind an entry, if it is so behind each page
  entry-behind : (go : Start PlaceModel ℕ → Option ℕ) (m : PlaceModel) (page : Option ℕ)
      → ((p : ℕ) → EndsBehind (go (entered m p))) → EndsBehind (behind_entry go m page)
  entry-behind go m None each = tt
  entry-behind go m (Some page) each = each page

  -- behind the last entry
  at_once-behind : (m : PlaceModel) (page : ℕ) → EndsBehind (place_at_once (entered m page))
  at_once-behind m page =
      cond_both m.deep _ _ (λ start. EndsBehind (place_at_once start)) (λ t. tt) (λ f. page-behind m.geometry (picked m page))

  last-behind : (m : PlaceModel) → EndsBehind (read_last read m)
  last-behind m = entry-behind place_at_once m _ (at_once-behind m)

  -- behind the first one
  or_last-behind : (m : PlaceModel) (page : ℕ) → EndsBehind (place_or_last read (entered m page))
  or_last-behind m page =
      let next : PlaceModel = record { geometry = m.geometry; entry = picked m page; rest = m.rest / 64; deep = false } in
      cond_both m.deep _ _ (λ start. EndsBehind (place_or_last read start)) (λ t. last-behind next)
      (λ f. page-behind m.geometry (picked m page))

  -- be the table nested or flat
  place_in-behind : (g : Geometry) (shape bucket : ℕ) → EndsBehind (place_in read g shape bucket)
  place_in-behind g shape bucket =
      cond_both (is_nested shape) (read_place read (nested_place g shape bucket)) (Some (flat_place g shape bucket)) EndsBehind
      (λ t. let m = nested_place g shape bucket in entry-behind (place_or_last read) m _ (or_last-behind m))
      (λ f. page-behind g _)

-- ---- what operations that find these words find

module _ (g : Geometry) (words : List ℕ) where
  -- each of these operations finds the word here
  abbrev AllFindHere : List Performed → Type 0
  AllFindHere steps = AllByRecursion (FindsHere g words) steps

  -- a load that found this word, which is that of its place
  found_at : (place word : ℕ) → IsBehind place → FindsHere g words (record { op = Load place; old = word })
      → word ≡ slice_index words place
  found_at place word behind finds = finds place refl (λ caller few same. omega (arith, behind, few, same))

  found_node : (node : ℕ) (kind : NodeWord) (word : ℕ) → FindsHere g words (loaded g (Node node kind) word)
      → word ≡ word_at g words (Node node kind)
  found_node node kind word = found_at (place_of g (Node node kind)) word (node-behind g node kind)

  found_slot : (slot : ℕ) (kind : SlotWord) (word : ℕ) → FindsHere g words (loaded g (Slot slot kind) word)
      → word ≡ word_at g words (Slot slot kind)
  found_slot slot kind word = found_at (place_of g (Slot slot kind)) word (slot-behind g slot kind)

  found_current : (word : ℕ) → FindsHere g words (loaded g CurrentTable word) → word ≡ word_at g words CurrentTable
  found_current word finds = finds (place_of g CurrentTable) refl (λ caller few same. omega (arith, few, same))

  -- ---- the way to a bucket

  -- each of these operations found its word as it is among the words
  abbrev AllAmong : List Performed → Type 0
  AllAmong steps = AllByRecursion (λ step. step.old ≡ old_of words step.op) steps

  -- a first operation, and those behind it
  went-among : (step : Performed) (next : Next Bucket) (rest : Ran Bucket) → (FindsHere g words step → step.old ≡ old_of words step.op)
      → (AllFindHere rest.steps → AllAmong rest.steps) → AllFindHere (went_on step next rest).steps
      → AllAmong (went_on step next rest).steps
  went-among step Go rest here later all = (here all.0, later all.1)
  went-among step (Done answer) rest here later all = (here all.0, tt)

  -- the entries on the way
  way-among : (olds : List ℕ) (m : PlaceModel) → AllFindHere (ran place_plan place_after m olds).steps
      → AllAmong (ran place_plan place_after m olds).steps
  way-among [] m all = tt
  way-among (old ∷ olds) m all =
      let after = place_after m old in
      went-among (record { op = place_plan m; old = old }) after.1 (ran place_plan place_after after.0 olds)
      (found_at (entry_place m) old (page-behind m.geometry m.entry)) (way-among olds after.0) all

  finding-among : (start : Start PlaceModel Bucket) (olds : List ℕ) → AllFindHere (finding_from start olds).steps
      → AllAmong (finding_from start olds).steps
  finding-among (starts.Running m) olds all = way-among olds m all
  finding-among (starts.Done bucket) olds all = tt

  -- it ends at a place exactly where that is the bucket's by the words
  place_found : (shape bucket : ℕ) (olds : List ℕ) (answer : Bucket) → (finding_ran g shape bucket olds).next ≡ Done answer
      → AllFindHere (finding_ran g shape bucket olds).steps
      → (place : ℕ) → (answer ≡ buckets.At place → bucket_in g words shape bucket ≡ Some place)
      × (bucket_in g words shape bucket ≡ Some place → answer ≡ buckets.At place)
  place_found shape bucket olds answer done all place =
      let steps = (finding_ran g shape bucket olds).steps in
      let among : FoundAmong words steps =
      All-from_recursion (λ step. step.old ≡ old_of words step.op) steps (finding-among (place_new g shape bucket) olds all) in
      finds_place_of_words g shape bucket words olds answer done among place

  -- ---- the nodes of a chain

  -- it is over: the last link leads to no node, or as many nodes as may be were visited
  over : (left : ℕ) (next : Option ℕ) → (next ≡ None) ⊎ (0 ≡ left) → chain_from g words left next ≡ []
  over zero next ends = refl
  over (suc left) None ends = refl
  over (suc left) (Some node) (inl none) = absurd (cc)
  over (suc left) (Some node) (inr spent) = absurd (omega arith)

  -- the nodes that it visited are those of the words' chain
  chain_shows : (nodes : List NodeSeen) (link last left : ℕ) → LeadsOver g link nodes last
      → AllFindHere (flat_map (node_steps g) nodes) → length nodes ≤ left
      → (node_of g.nodes last ≡ None) ⊎ (length nodes ≡ left)
      → map pair_of nodes ≡ map (pair_at g words) (chain_from g words left (node_of g.nodes link))
  chain_shows [] link last left leads all few ends =
      ap (map (pair_at g words)) (sym (over left (node_of g.nodes link) (subst (λ l. (node_of g.nodes l ≡ None) ⊎ (0 ≡ left)) leads ends)))
  chain_shows (seen ∷ nodes) link last zero leads all few ends = absurd (omega (arith, few))
  chain_shows (seen ∷ nodes) link last (suc left) leads all few ends =
      let later : (node_of g.nodes last ≡ None) ⊎ (length nodes ≡ left) =
      elim ends [ inl none ↦ inl none | inr spent ↦ inr (omega (arith, spent)) ] in
      let rest = chain_shows nodes seen.link last left leads.1 all.1.1.1 (omega (arith, few)) later in
      let behind =
      subst (λ l. map pair_of nodes ≡ map (pair_at g words) (chain_from g words left (node_of g.nodes l)))
      (found_node seen.node ChainLink seen.link all.1.1.0) rest in
      let key = found_node seen.node KeyWord seen.key all.0 in
      let owner = found_node seen.node OwnerWord seen.owner all.1.0 in
      let here : pair_of seen ≡ pair_at g words seen.node =
      ap (λ word. (port_of word, owner_of seen.owner)) key
      ∙ ap (λ word. (port_of (word_at g words (Node seen.node KeyWord)), owner_of word)) owner in
      subst (λ next. pair_of seen ∷ map pair_of nodes ≡ map (pair_at g words) (chain_from g words (suc left) next)) (sym leads.0)
      (ap (λ pair. pair ∷ map pair_of nodes) here ∙ ap (λ pairs. pair_at g words seen.node ∷ pairs) behind)

  -- ---- one bucket

  -- the pairs of a bucket of a table of this shape, by the words
  abbrev shown_at : ℕ → ℕ → List (ℕ × ℕ)
  shown_at shape bucket = map (pair_at g words) (bucket_nodes g words (bucket_in g words shape bucket))

  -- a bucket without a place has none
  none_there : (found : Option ℕ) → ((place : ℕ) → found ≡ Some place → ⊥) → [] ≡ map (pair_at g words) (bucket_nodes g words found)
  none_there None never = refl
  none_there (Some place) never = absurd (never place refl)

  -- a chain from the word of the bucket's place
  chain_there : (shape bucket : ℕ) (entries : List ℕ) (place word last : ℕ) (nodes : List NodeSeen)
      → (finding_ran g shape bucket entries).next ≡ Done (buckets.At place)
      → LeadsOver g (head_of place word) nodes last → length nodes ≤ g.nodes
      → (node_of g.nodes last ≡ None) ⊎ (length nodes ≡ g.nodes)
      → AllFindHere (finding_ran g shape bucket entries).steps → AllFindHere (chain_steps g place word nodes)
      → map pair_of nodes ≡ shown_at shape bucket
  chain_there shape bucket entries place word last nodes done leads few ends way all =
      let there = (place_found shape bucket entries (buckets.At place) done way place).0 refl in
      let behind : IsBehind place = subst EndsBehind there (place_in-behind (page_words g words) g shape bucket) in
      let is = found_at place word behind all.0 in
      subst (λ found. map pair_of nodes ≡ map (pair_at g words) (bucket_nodes g words found)) (sym there)
      (subst
      (λ w. map pair_of nodes ≡ map (pair_at g words) (chain_from g words g.nodes (node_of g.nodes (head_of place w)))) is
      (chain_shows nodes (head_of place word) last g.nodes leads all.1 few ends))

  -- what was found at a bucket is what it has by the words
  bucket_shows : (table shape bucket : ℕ) (seen : BucketSeen) → IsBucketSeen g table shape bucket seen
      → AllFindHere (bucket_steps g table shape bucket seen) → pairs_at seen ≡ shown_at shape bucket
  bucket_shows table shape bucket (MissingPage entries) is all =
      none_there (bucket_in g words shape bucket)
      (λ place there. let same = (place_found shape bucket entries (buckets.Absent is.0) is.1 all place).1 there in cc)
  bucket_shows table shape bucket (OwnChain entries place word nodes) is all =
      let parts = AllByRecursion-cut (FindsHere g words) (finding_ran g shape bucket entries).steps (chain_steps g place word nodes) all in
      chain_there shape bucket entries place word (marker_of place) nodes is.0 is.1 is.2
      (inl (links_tell_apart.marker_names_no_node g.nodes place)) parts.0 parts.1
  bucket_shows table shape bucket (StrangeChain entries place word nodes last future) is all =
      let parts =
      AllByRecursion-cut (FindsHere g words) (finding_ran g shape bucket entries).steps
      (chain_steps g place word nodes ++ loaded g (Slot table FutureWord) future ∷ []) all in
      let chain =
      AllByRecursion-cut (FindsHere g words) (chain_steps g place word nodes) (loaded g (Slot table FutureWord) future ∷ []) parts.1 in
      chain_there shape bucket entries place word last nodes is.0 is.1 is.2.few is.2.stops parts.0 chain.0

  -- no more nodes were visited than there are
  few_nodes : (table shape bucket : ℕ) (seen : BucketSeen) → IsBucketSeen g table shape bucket seen → length (nodes_of seen) ≤ g.nodes
  few_nodes table shape bucket (MissingPage entries) is = omega arith
  few_nodes table shape bucket (OwnChain entries place word nodes) is = is.2
  few_nodes table shape bucket (StrangeChain entries place word nodes last future) is = is.2.few

  -- so there is room for its pairs
  all_kept : (table shape bucket : ℕ) (seen : BucketSeen) → IsBucketSeen g table shape bucket seen
      → take g.nodes (pairs_at seen) ≡ pairs_at seen
  all_kept table shape bucket seen is =
      take_all g.nodes (pairs_at seen) (rw (length-map (nodes_of seen) pair_of) (few_nodes table shape bucket seen is))

  -- ---- the buckets that were walked

  -- fewer pairs than one are none
  no_pairs : (pairs : List (ℕ × ℕ)) → length pairs < 1 → pairs ≡ []
  no_pairs [] few = refl
  no_pairs (pair ∷ pairs) few = absurd (omega (arith, few))

  -- all but the last have no pairs, and the last one has these
  record ShowsLast (shape bucket upto : ℕ) (pairs : List (ℕ × ℕ)) : Type 0 where
    later : bucket < upto
    empty : (b : ℕ) → bucket ≤ b → b + 1 < upto → shown_at shape b ≡ []
    shows : pairs ≡ shown_at shape (upto - 1)

  buckets_show : (table shape bucket : ℕ) (first : BucketSeen) (more : List BucketSeen) (upto : ℕ)
      → AreSeen g table shape bucket (first ∷ more) upto → AreTooFew 1 g.nodes [] (first ∷ more)
      → AllFindHere (steps_of g table shape bucket (first ∷ more))
      → ShowsLast shape bucket upto (take g.nodes (pairs_of (first ∷ more)))
  buckets_show table shape bucket first [] upto are few all =
      let own = (AllByRecursion-cut (FindsHere g words) (bucket_steps g table shape bucket first) [] all).0 in
      let last : bucket ≡ upto - 1 = omega (arith, are.2) in
      record {
        later = omega (arith, are.2);
        empty = λ b low high. absurd (omega (arith, are.2, low, high));
        shows = ap (take g.nodes) (append-nil (pairs_at first)) ∙ all_kept table shape bucket first are.0
            ∙ bucket_shows table shape bucket first are.0 own
            ∙ ap (shown_at shape) last;
      }
  buckets_show table shape bucket first (next ∷ more) upto are few all =
      let parts =
      AllByRecursion-cut (FindsHere g words) (bucket_steps g table shape bucket first) (steps_of g table shape (bucket + 1) (next ∷ more)) all in
      let none : pairs_at first ≡ [] =
      no_pairs (pairs_at first) (subst (λ pairs. length pairs < 1) (all_kept table shape bucket first are.0) few.0) in
      let rest =
      buckets_show table shape (bucket + 1) next more upto are.2 (subst (λ pairs. AreTooFew 1 g.nodes pairs (next ∷ more)) none few.1)
      parts.1 in
      let own : shown_at shape bucket ≡ [] = sym (bucket_shows table shape bucket first are.0 parts.0) ∙ none in
      record {
        later = let later = rest.later in omega (arith, later);
        empty = λ b low high. elim (cases_lt bucket b) [
          | inl behind ↦ rest.empty b (omega (arith, behind)) high
          | inr here ↦ let same : bucket ≡ b = omega (arith, low, here) in subst (λ k. shown_at shape k ≡ []) same own
        ];
        shows = ap (λ pairs. take g.nodes (pairs ++ pairs_of (next ∷ more))) none ∙ rest.shows;
      }

  -- ---- the whole walk

  -- what is to be shown, of a table in this slot with this shape
  abbrev AnswersShown : ℕ → ℕ → Option Cursor → List (ℕ × ℕ) → Option Cursor → Type 0
  AnswersShown table shape from pairs next =
      AnswersBy (shown_at shape) (size_of (unpacked shape)) (slot_of (word_at g words (Slot table FutureWord)) ≡ None) from pairs next

  -- there is a bucket from which it begins
  has_first : (serial shape : ℕ) (from : Option Cursor) → Fits serial shape from → first_bucket from < size_of (unpacked shape)
  has_first serial shape None fits = some_buckets shape
  has_first serial shape (Some cursor) fits = fits.1

  -- it has walked so many buckets, and ended so
  record HasEnded (table shape : ℕ) (from : Option Cursor) (pairs : List (ℕ × ℕ)) (next : Option Cursor)
      (seen : List BucketSeen) (upto : ℕ) : Type 0 where
    later : first_bucket from < upto
    within : upto ≤ size_of (unpacked shape)
    finds : AllFindHere (steps_of g table shape (first_bucket from) seen)
    ends : EndsSo (shown_at shape) (size_of (unpacked shape)) (slot_of (word_at g words (Slot table FutureWord)) ≡ None) upto pairs next

  -- it stops only where it has some pairs
  some_pairs : (len : ℕ) (pairs : List (ℕ × ℕ)) → len ≡ length pairs → 1 ≤ len → pairs ≢ []
  some_pairs len pairs counted enough none =
      let same : length pairs ≡ 0 = ap length none in omega (arith, counted, enough, same)

  module _ (table serial shape : ℕ) (from next : Option Cursor) (len : ℕ) (pairs : List (ℕ × ℕ)) (steps : List Performed)
      (all : AllFindHere steps) (walked : WalkedTo g from 1 g.nodes table serial shape len next pairs steps) where
    abbrev Ended : Type 0
    Ended = HasEnded table shape from pairs next walked.seen walked.upto

    -- before a later bucket
    stopped : StopsBefore g from 1 table serial shape walked.seen walked.upto len next steps → Ended
    stopped stops =
        let there = stops.there in
        record {
          later = stops.later;
          within = omega (arith, there);
          finds = subst AllFindHere stops.steps_are all;
          ends = subst
              (EndsSo (shown_at shape) (size_of (unpacked shape)) (slot_of (word_at g words (Slot table FutureWord)) ≡ None) walked.upto pairs)
              (sym stops.cursor_is) (refl, there, some_pairs len pairs walked.counted stops.enough);
        }

    -- at the table's end
    at_end : EndsThere g from table shape walked.seen walked.upto next steps → Ended
    at_end ends =
        let whole = ends.comes.all in
        let some = has_first serial shape from walked.saw.fits in
        let future : Performed = loaded g (Slot table FutureWord) ends.future in
        let parts =
        AllByRecursion-cut (FindsHere g words) (steps_of g table shape (first_bucket from) walked.seen) (future ∷ [])
        (subst AllFindHere ends.comes.steps_are all) in
        let is = found_slot table FutureWord ends.future parts.1.0 in
        record {
          later = omega (arith, whole, some);
          within = omega (arith, whole);
          finds = parts.0;
          ends = subst
              (EndsSo (shown_at shape) (size_of (unpacked shape)) (slot_of (word_at g words (Slot table FutureWord)) ≡ None) walked.upto pairs)
              (sym ends.no_cursor) (whole, ap slot_of (sym is) ∙ ends.none_behind);
        }

    ended : Ended
    ended = elim walked.ended [ inl stops ↦ stopped stops | inr ends ↦ at_end ends ]

    -- the buckets are some, so the last of them has the pairs
    by_seen : (seen : List BucketSeen) → AreSeen g table shape (first_bucket from) seen walked.upto → AreTooFew 1 g.nodes [] seen
        → pairs ≡ take g.nodes (pairs_of seen) → HasEnded table shape from pairs next seen walked.upto
        → AnswersShown table shape from pairs next
    by_seen [] are few kept end = absurd (let later = end.later in omega (arith, are, later))
    by_seen (first ∷ more) are few kept end =
        let last = buckets_show table shape (first_bucket from) first more walked.upto are few end.finds in
        record {
          upto = walked.upto;
          later = end.later;
          within = end.within;
          empty = last.empty;
          shows = kept ∙ last.shows;
          ends = end.ends;
        }

    answers_shown : AnswersShown table shape from pairs next
    answers_shown = by_seen walked.seen walked.saw.are walked.saw.goes_on walked.kept ended

  -- a walk of limit 1 that finds these words shows what its buckets have
  pub still_walk : (caller : ℕ) (from next : Option Cursor) (len : ℕ) (pairs : List (ℕ × ℕ)) (steps : List Performed)
      → EndsRightly g caller from 1 g.nodes (record { reply = Walked len next; room = record { items = pairs; limit = g.nodes } }) steps
      → AllByRecursion (FindsHere g words) steps
      → AnswersBy (bucket_pairs g words) (size_now g words) (IsNoneBehind g words) from pairs next
  still_walk caller from next len pairs steps rightly all =
      let opened = subst AllFindHere rightly.split all in
      let table_is = found_current rightly.current opened.1.0 in
      let shape_is = found_slot (table_of rightly.current) ShapeWord rightly.shape opened.1.1.1.0 in
      let middle = (AllByRecursion-cut (FindsHere g words) rightly.middle _ opened.1.1.1.1).0 in
      let shown : AnswersShown (table_of rightly.current) rightly.shape from pairs next =
      answers_shown (table_of rightly.current) rightly.serial rightly.shape from next len pairs rightly.middle middle rightly.answers in
      subst (λ word. AnswersShown (table_of word) (shape_of g words (table_of word)) from pairs next) table_is
      (subst (λ shape. AnswersShown (table_of rightly.current) shape from pairs next) shape_is shown)
