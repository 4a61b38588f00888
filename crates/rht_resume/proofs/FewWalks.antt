-- In every run the walks of a `next` rise within one table: each but the last ends with a cursor to a later bucket of the table that it found, and
-- the next one goes on there. So there are no more of them than such a table has buckets.
use Rattle.std.proofs.Common.{◌≡◌, ℕ, ◌+◌, ◌<◌, ◌≤◌, ◌⊎◌, Option, Some, None, List, [], ◌∷◌, length, map, drop, slice_index, refl, sym, ◌∙◌, ap, subst, inl, inr, arith}
use Rattle.std.specs.List.{AllByRecursion}
use Rattle.rht_words.specs.declared.env.Env.{Env}
use Rattle.rht_words.specs.Machines.{Performed}
use Rattle.rht_words.specs.Shapes.{unpacked, size_of}
use Rattle.rht_words.proofs.EachElement.{AllByRecursion-weaker}
use Rattle.rht_words.proofs.ShapeSizes.{IsSizeUpTo-size_of}
use Rattle.rht_model.specs.declared.history.Call.{Call}
use Rattle.rht_model.specs.declared.history.Call.TheVariants.{Walk}
use Rattle.rht_model.specs.declared.history.Cursor.{Cursor}
use Rattle.rht_model.specs.declared.history.Reply.{Reply}
use Rattle.rht_model.specs.declared.history.Reply.TheVariants as replies
use Rattle.rht_model.specs.Endings.{ending_in}
use Rattle.rht_walk.specs.WalkLaws.{first_bucket, Fits}
use Rattle.rht_core.specs.Lookups.{shape_found}
use Rattle.rht_core.specs.Traces.{Did, Past, performed_of, traced_of}
use Rattle.rht_core.specs.WalkCauses.{SawForWalk}
use Rattle.rht_core.proofs.Tracing.WalksInRuns.{HasWalked, walked}
use Rattle.rht_core.proofs.Walking.FullWalks.{among-all}
use Rattle.rht_resume.specs.declared.resumed.Spot.{Spot}
use Rattle.rht_resume.specs.Laws.{GoesOnFrom, AreRising, AnyFindsTable, WalksRise, walks_in, endings_in}
use Rattle.rht_resume.specs.Pieces.{Outcome, Turn, On, Over, Never, before, turn_by, turn_of, outcome_by, outcome_from, walk_at, walks_by, walks_from}
use Rattle.rht_resume.proofs.WalkSteps.{on-taking}

-- ---- one walk

-- a walk that ends with a cursor ends at a later bucket, which the table that it found has
abbrev Rises : Past → Type 0
Rises past =
    (from : Option Cursor) (len : ℕ) (cursor : Cursor) → past.done.call ≡ Walk from 1 → past.done.reply ≡ replies.Walked len (Some cursor)
    → GoesOnFrom from cursor × (cursor.bucket < size_of (unpacked (shape_found past.steps)))

later-bucket : (from : Option Cursor) (cursor : Cursor) → GoesOnFrom from cursor → first_bucket from < cursor.bucket
later-bucket None cursor goes = goes
later-bucket (Some begin) cursor goes = goes.1

-- a cursor of this serial goes on from one that fits
goes-on-from : (from : Option Cursor) (cursor : Cursor) (serial shape : ℕ) → Fits serial shape from → cursor.serial ≡ serial
    → first_bucket from < cursor.bucket → GoesOnFrom from cursor
goes-on-from None cursor serial shape fits same later = later
goes-on-from (Some begin) cursor serial shape fits same later = (same ∙ sym fits.0, later)

olds-performed : (steps : List Did) → map (λ (step : Performed). step.old) (map performed_of steps) ≡ map (λ (did : Did). did.old) steps
olds-performed [] = refl
olds-performed (did ∷ steps) = ap (λ olds. did.old ∷ olds) (olds-performed steps)

abbrev the_cursor : Cursor → Option Cursor → Cursor
the_cursor other None = other
the_cursor other (Some it) = it

rises : (env : Env) (c : ℕ) (past : Past) → HasWalked env c past → Rises past
rises env c past had from len cursor call reply =
    let saw = subst (λ r. SawForWalk env c from 1 r past.done.pairs past.steps) reply (had from 1 call) in
    let shape : shape_found past.steps ≡ saw.shape =
    ap (λ olds. slice_index olds 3) (sym (olds-performed past.steps))
    ∙ ap (λ (steps : List Performed). slice_index (map (λ (step : Performed). step.old) steps) 3) saw.split in
    elim saw.answers.ended [
      | inl stops ↦
          let is = ap (the_cursor cursor) stops.cursor_is in
          let at : cursor.bucket ≡ saw.answers.upto = ap (λ (it : Cursor). it.bucket) is in
          let later = stops.later in
          let there = subst (λ word. saw.answers.upto < size_of (unpacked word)) (sym shape) stops.there in (
            goes-on-from from cursor saw.serial saw.shape saw.answers.saw.fits (ap (λ (it : Cursor). it.serial) is) (omega (arith, later, at)),
            omega (arith, there, at),
          )
      | inr ends ↦ absurd (let none = ends.no_cursor in cc)
    ]

-- ---- one after another

-- where fewer buckets are wanted a table has as many too
finds-fewer : (few many : ℕ) (pasts : List Past) → few ≤ many → AnyFindsTable many pasts → AnyFindsTable few pasts
finds-fewer few many [] less any = any
finds-fewer few many (past ∷ pasts) less any = elim any [
  | inl here ↦ inl (omega (arith, less, here))
  | inr there ↦ inr (finds-fewer few many pasts less there)
]

-- a `next` goes on behind an answer with a cursor, and there
record GoesTo (reply : Reply) (later : Spot) : Type 0 where
  cursor : Cursor
  len : ℕ
  replied : reply ≡ replies.Walked len (Some cursor)
  spot : later ≡ before cursor

module _ (limit : ℕ) (spot : Spot) (pairs seen : List (ℕ × ℕ)) (later : Spot) (more : List (ℕ × ℕ)) where
  goes_to : (reply : Reply) → turn_by limit spot pairs reply seen ≡ On later more → GoesTo reply later
  goes_to (replies.Walked len next) on =
      let leads = (on-taking limit spot pairs (drop spot.shown seen) next later more on).1 in
      record {
        cursor = leads.cursor;
        len = len;
        replied = ap (λ n. replies.Walked len n) leads.ended;
        spot = leads.spot;
      }
  goes_to (replies.Again table) on = absurd (cc)
  goes_to _ on = absurd (cc)

abbrev call_in : Past → Call
call_in past = past.done.call

-- the first of these calls is a walk from this spot
abbrev BeginsAt : Spot → List Past → Type 0
BeginsAt spot [] = ⊥
BeginsAt spot (past ∷ pasts) = past.done.call ≡ walk_at spot

-- they rise from there on, and there is one of them, or no more than a table has buckets from the first one's on
record GoesUp (spot : Spot) (pasts : List Past) : Type 0 where
  begins : BeginsAt spot pasts
  rising : AreRising spot.cursor pasts
  few : (length pasts ≡ 1) ⊎ AnyFindsTable (first_bucket spot.cursor + length pasts) pasts

-- one walk more before these
goes-more : (spot later : Spot) (past : Past) (rest : List Past) → Rises past → past.done.call ≡ walk_at spot → GoesTo past.done.reply later
    → GoesUp later rest → GoesUp spot (past ∷ rest)
goes-more spot later past [] rise call goes up = absurd up.begins
goes-more spot later past (next ∷ rest) rise call goes up =
    let at = rise spot.cursor goes.len goes.cursor call goes.replied in
    let cursor_is : later.cursor ≡ Some goes.cursor = ap (λ (s : Spot). s.cursor) goes.spot in
    let low = later-bucket spot.cursor goes.cursor at.0 in
    let high = at.1 in
    let begins : first_bucket later.cursor ≡ goes.cursor.bucket = ap first_bucket cursor_is in
    record {
      begins = call;
      rising = (
        goes.len,
        goes.cursor,
        goes.replied,
        at.0,
        up.begins ∙ ap (λ from. Walk from 1) cursor_is,
        subst (λ from. AreRising from (next ∷ rest)) cursor_is up.rising,
      );
      few = elim up.few [
        | inl one ↦ inr (inl (omega (arith, low, high, one)))
        | inr any ↦
            inr (inr (finds-fewer (first_bucket spot.cursor + length (past ∷ next ∷ rest)) (first_bucket later.cursor + length (next ∷ rest))
            (next ∷ rest) (omega (arith, low, begins)) any))
      ];
    }

module _ (limit : ℕ) (outcome : Outcome) where
  goes-turn : (spot : Spot) (past : Past) (rest : List Past)
      → ((s : Spot) (p : List (ℕ × ℕ)) → outcome_from limit s p (endings_in rest) ≡ Some outcome
      → map call_in rest ≡ walks_from limit s p (endings_in rest) → GoesUp s rest)
      → Rises past → past.done.call ≡ walk_at spot
      → (turn : Turn) → ((later : Spot) (more : List (ℕ × ℕ)) → turn ≡ On later more → GoesTo past.done.reply later)
      → outcome_by turn (endings_in rest) (λ s p. outcome_from limit s p (endings_in rest)) ≡ Some outcome
      → map call_in rest ≡ walks_by turn (λ s p. walks_from limit s p (endings_in rest)) → GoesUp spot (past ∷ rest)
  goes-turn spot past rest others rise call (On later more) goes is calls =
      goes-more spot later past rest rise call (goes later more refl) (others later more is calls)
  goes-turn spot past [] others rise call (Over over) goes is calls = record { begins = call; rising = tt; few = inl refl }
  goes-turn spot past (next ∷ rest) others rise call (Over over) goes is calls = absurd (cc)
  goes-turn spot past rest others rise call Never goes is calls = absurd (cc)

  -- By induction over the walks.
  goes-from : (spot : Spot) (pairs : List (ℕ × ℕ)) (pasts : List Past) → AllByRecursion Rises pasts
      → outcome_from limit spot pairs (endings_in pasts) ≡ Some outcome → map call_in pasts ≡ walks_from limit spot pairs (endings_in pasts)
      → GoesUp spot pasts
  goes-from spot pairs [] rise is calls = absurd (cc)
  goes-from spot pairs (past ∷ rest) rise is calls =
      let call : past.done.call ≡ walk_at spot = cc in
      let later : map call_in rest
      ≡ walks_by (turn_of limit spot pairs (ending_in past.done)) (λ s p. walks_from limit s p (endings_in rest)) = cc in
      goes-turn spot past rest (λ s p. goes-from s p rest rise.1) rise.0 call (turn_of limit spot pairs (ending_in past.done))
      (λ s p on. goes_to limit spot pairs past.done.pairs s p past.done.reply on) is later

-- a single walk finds a table of a bucket or more
one-found : (pasts : List Past) → length pasts ≡ 1 → AnyFindsTable (length pasts) pasts
one-found [] one = absurd (omega (arith, one))
one-found (past ∷ pasts) one =
    let least = (IsSizeUpTo-size_of (unpacked (shape_found past.steps))).least in
    inl (omega (arith, one, least))

pub few_walks : (L : Type 0) (mix : ℕ → ℕ → ℕ → ℕ) → WalksRise L mix
few_walks L mix env events c spot made admitted is_next among =
    let walks = walks_in made in
    let all = ((traced_of {M = L} mix env events).traces c).past in
    let each = AllByRecursion-weaker (HasWalked env c) Rises (rises env c) walks
    (among-all (HasWalked env c) walks all (walked L mix env events c admitted) among) in
    let up = goes-from made.limit made.outcome spot [] walks each is_next.outcome is_next.calls in (
      up.rising,
      elim up.few [
        | inl one ↦ one-found walks one
        | inr any ↦ finds-fewer (length walks) (first_bucket spot.cursor + length walks) walks (omega arith) any
      ],
    )
