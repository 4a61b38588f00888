-- One walk of a `next`: its answer is one that a walk may have, and what comes of it is said by the rules. Where it leads on to another walk,
-- that begins at a later bucket: by its cause a walk that ended with a cursor has walked the bucket at which it began.
use Rattle.std.proofs.Common.{◌≡◌, ℕ, ◌+◌, ◌-◌, ◌<◌, ◌≤◌, ◌==◌, nat_lt, Bool, true, false, if◌then◌else◌, Option, Some, None, List, [], ◌++◌, length, drop, take, refl, sym, ◌∙◌, ap, subst, inl, inr, arith}
use Rattle.std.specs.Prelude.{IfSome, MatchOption}
use Rattle.std.proofs.lemmas.Bool.{ltb-false}
use Rattle.std.proofs.lemmas.List.{length-append}
use Rattle.rht_words.specs.Shapes.{unpacked}
use Rattle.rht_words.proofs.ShapeSizes.{IsSizeUpTo-size_of}
use Rattle.rht_walk.specs.WalkLaws.{first_bucket}
use Rattle.rht_model.specs.declared.finished.Finished.{Finished}
use Rattle.rht_model.specs.declared.history.Call.TheVariants.{Walk}
use Rattle.rht_model.specs.declared.history.Cursor.{Cursor}
use Rattle.rht_model.specs.declared.history.Reply.TheVariants as replies
use Rattle.rht_model.specs.Endings.{replied}
use Rattle.rht_core.specs.Causes.{CauseOf}
use Rattle.rht_run.specs.declared.pass.Pass.{Pass}
use Rattle.rht_run.specs.declared.table.Table.{Table}
use Rattle.rht_run.specs.Caused.{IsCaused}
use Rattle.rht_run.specs.Passes.{HasCalled}
use Rattle.rht_resume.specs.declared.resume.Piece.{Piece}
use Rattle.rht_resume.specs.declared.resume.Piece.TheVariants.{Part, End, Again}
use Rattle.rht_resume.specs.declared.resumed.Spot.{Spot}
use Rattle.rht_resume.specs.Pieces.{Walking, Outcome, Turn, On, Over, Never, start, before, behind_answer, taking}
use Rattle.rht_resume.specs.ServedPieces.{most_buckets, IsAgainCaused, outcome_with, GoesOn, IsTurned, IsLater, HasTurned}

-- ---- what taking pairs may make of a `next`

-- it goes on before another bucket, with all pairs of the answer
pub record LeadsOn (next : Option Cursor) (pairs : List (ℕ × ℕ)) (later : Spot) (more : List (ℕ × ℕ)) : Type 0 where
  pub cursor : Cursor
  pub ended : next ≡ Some cursor
  pub spot : later ≡ before cursor
  pub all : more ≡ pairs

-- behind all pairs of an answer, by whether the piece has enough
on-enough : (enough : Bool) (cursor : Cursor) (pairs : List (ℕ × ℕ)) (later : Spot) (more : List (ℕ × ℕ))
    → (if enough then Over (record { piece = Part; spot = Some (before cursor); pairs = pairs }) else On (before cursor) pairs) ≡ On later more
    → LeadsOn (Some cursor) pairs later more
on-enough true cursor pairs later more on = absurd (cc)
on-enough false cursor pairs later more on = record { cursor = cursor; ended = refl; spot = cc; all = cc }

on-behind : (limit : ℕ) (pairs : List (ℕ × ℕ)) (next : Option Cursor) (later : Spot) (more : List (ℕ × ℕ))
    → behind_answer limit pairs next ≡ On later more → LeadsOn next pairs later more
on-behind limit pairs None later more on = absurd (cc)
on-behind limit pairs (Some cursor) later more on = on-enough (length pairs == limit) cursor pairs later more on

on-few : (few : Bool) (part : Outcome) (limit : ℕ) (pairs : List (ℕ × ℕ)) (next : Option Cursor) (later : Spot) (more : List (ℕ × ℕ))
    → (if few then Over part else behind_answer limit pairs next) ≡ On later more → (few ≡ false) × LeadsOn next pairs later more
on-few true part limit pairs next later more on = absurd (cc)
on-few false part limit pairs next later more on = (refl, on-behind limit pairs next later more on)

module _ (limit : ℕ) (spot : Spot) (pairs : List (ℕ × ℕ)) (fresh : List (ℕ × ℕ)) (next : Option Cursor) (later : Spot) (more : List (ℕ × ℕ))
    (on : taking limit spot pairs (limit - length pairs) fresh next ≡ On later more) where
  pub on-taking : (nat_lt (limit - length pairs) (length fresh) ≡ false) × LeadsOn next (pairs ++ fresh) later more
  on-taking = on-few (nat_lt (limit - length pairs) (length fresh)) _ limit (pairs ++ fresh) next later more on

  -- then the piece has no more pairs than are wanted
  on-within : length pairs ≤ limit → length more ≤ limit
  on-within within =
      let short = ltb-false (limit - length pairs) (length fresh) on-taking.0 in
      omega (arith, ap length on-taking.1.all, length-append pairs fresh, short, within)

-- the piece isn't that the walk has to begin anew
abbrev pub IsWalked : Piece → Type 0
IsWalked Part = Unit {0}
IsWalked (End len) = Unit {0}
IsWalked (Again table) = ⊥

abbrev pub OverWalked : Turn → Type 0
OverWalked (On spot pairs) = Unit {0}
OverWalked (Over outcome) = IsWalked outcome.piece
OverWalked Never = Unit {0}

over-enough : (enough : Bool) (cursor : Cursor) (pairs : List (ℕ × ℕ))
    → OverWalked (if enough then Over (record { piece = Part; spot = Some (before cursor); pairs = pairs }) else On (before cursor) pairs)
over-enough true cursor pairs = tt
over-enough false cursor pairs = tt

over-behind : (limit : ℕ) (pairs : List (ℕ × ℕ)) (next : Option Cursor) → OverWalked (behind_answer limit pairs next)
over-behind limit pairs None = tt
over-behind limit pairs (Some cursor) = over-enough (length pairs == limit) cursor pairs

over-few : (few : Bool) (spot : Option Spot) (shown : List (ℕ × ℕ)) (limit : ℕ) (pairs : List (ℕ × ℕ)) (next : Option Cursor)
    → OverWalked (if few then Over (record { piece = Part; spot = spot; pairs = shown }) else behind_answer limit pairs next)
over-few true spot shown limit pairs next = tt
over-few false spot shown limit pairs next = over-behind limit pairs next

pub over-taking : (limit : ℕ) (spot : Spot) (pairs : List (ℕ × ℕ)) (wanted : ℕ) (fresh : List (ℕ × ℕ)) (next : Option Cursor)
    → OverWalked (taking limit spot pairs wanted fresh next)
over-taking limit spot pairs wanted fresh next =
    over-few (nat_lt wanted (length fresh)) (Some (record { cursor = spot.cursor; shown = spot.shown + wanted }))
    (pairs ++ take wanted fresh) limit (pairs ++ fresh) next

-- ---- by the cause of a walk

module _ {M : Type 0} (mix : ℕ → ℕ → ℕ → ℕ) (t : Table M) where
  -- a cursor is to a later bucket, which the table has
  later-caused : (from : Option Cursor) (limit len : ℕ) (cursor : Cursor) (old now : Pass M)
      → IsCaused mix t (Walk from limit) (replies.Walked len (Some cursor)) old now
      → (first_bucket from < cursor.bucket) × (cursor.bucket < most_buckets)
  later-caused from limit len cursor old now caused =
      let cause = subst (λ (d : Finished). CauseOf M mix t.env caused.events now.number caused.past d.call d.reply) caused.done caused.fact in
      elim cause.answers.ended [
        | inl stops ↦
            let at : cursor.bucket ≡ cause.answers.upto =
            ap bucket_in stops.cursor_is in
            let size = (IsSizeUpTo-size_of (unpacked cause.shape)).greatest in
            let later = stops.later in
            let there = stops.there in
            (omega (arith, later, at), omega (arith, there, at, size))
        | inr ends ↦ absurd (let none = ends.no_cursor in cc)
      ]
    where
      bucket_in : Option Cursor → ℕ
      bucket_in None = 0
      bucket_in (Some it) = it.bucket

  -- ---- the walk

  -- it has ended with a cursor or at the end
  pub HasTurned-walked : (limit : ℕ) (spot : Spot) (old new : Walking) (piece : Option Piece) (pass now : Pass M) (len : ℕ)
      (next : Option Cursor) (seen : List (ℕ × ℕ)) → length old.pairs ≤ limit → HasCalled mix t (Walk spot.cursor 1) (replies.Walked len next) pass now
      → IsCaused mix t (Walk spot.cursor 1) (replies.Walked len next) pass now → seen ≡ now.local.pairs.items
      → IsTurned (taking limit spot old.pairs (limit - length old.pairs) (drop spot.shown seen) next) piece old new
      → HasTurned mix t limit spot old new piece pass now
  HasTurned-walked limit spot old new piece pass now len next seen within called caused seen_is turned = record {
    ending = replied (replies.Walked len next) now.local.owners.items now.local.pairs.items;
    turned =
        subst (λ l. IsTurned (taking limit spot old.pairs (limit - length old.pairs) (drop spot.shown l) next) piece old new) seen_is turned;
    pass = called.pass;
    same = called.same;
    idle = called.idle;
    finished = called.finished;
    cause = no_again piece turned.made;
    rises = λ none. rises piece none turned.made;
    room = λ none. room piece none turned.made;
  }
    where
      turn : Turn
      turn = taking limit spot old.pairs (limit - length old.pairs) (drop spot.shown seen) next

      walked : (p : Piece) → IsWalked p → IsAgainCaused mix t p pass now
      walked Part is = tt
      walked (End length) is = tt
      walked (Again table) is = absurd is

      no_again : (p : Option Piece) → MatchOption p (GoesOn turn new) (λ own. turn ≡ Over (outcome_with own new))
          → IfSome p (λ own. IsAgainCaused mix t own pass now)
      no_again None made = tt
      no_again (Some own) made =
          walked own (subst OverWalked made
          (over-taking limit spot old.pairs (limit - length old.pairs) (drop spot.shown seen) next))

      rises : (p : Option Piece) → p ≡ None → MatchOption p (GoesOn turn new) (λ own. turn ≡ Over (outcome_with own new)) → IsLater spot new
      rises None none goes =
          let leads = (on-taking limit spot old.pairs (drop spot.shown seen) next goes.spot new.pairs goes.on).1 in
          let both = later-caused spot.cursor 1 len leads.cursor pass now
          (subst (λ n. IsCaused mix t (Walk spot.cursor 1) (replies.Walked len n) pass now) leads.ended caused) in
          record {
            cursor = leads.cursor;
            stands = goes.stands ∙ ap (λ (s : Spot). Some s) leads.spot;
            later = both.0;
            there = both.1;
          }
      rises (Some own) none goes = absurd (cc)

      room : (p : Option Piece) → p ≡ None → MatchOption p (GoesOn turn new) (λ own. turn ≡ Over (outcome_with own new))
          → length new.pairs ≤ limit
      room None none goes = on-within limit spot old.pairs (drop spot.shown seen) next goes.spot new.pairs goes.on within
      room (Some own) none goes = absurd (cc)

  -- it has to begin anew
  pub HasTurned-again : (limit : ℕ) (spot : Spot) (old new : Walking) (pass now : Pass M) (table : ℕ)
      → HasCalled mix t (Walk spot.cursor 1) (replies.Again table) pass now
      → IsCaused mix t (Walk spot.cursor 1) (replies.Again table) pass now
      → new ≡ record { spot = Some start; pairs = []; nodes = old.nodes }
      → HasTurned mix t limit spot old new (Some (Again table)) pass now
  HasTurned-again limit spot old new pass now table called caused new_is = record {
    ending = replied (replies.Again table) now.local.owners.items now.local.pairs.items;
    turned = record {
      nodes = ap (λ (w : Walking). w.nodes) new_is;
      made = ap (λ (w : Walking). Over (outcome_with (Again table) w)) (sym new_is);
    };
    pass = called.pass;
    same = called.same;
    idle = called.idle;
    finished = called.finished;
    cause = (spot.cursor, caused);
    rises = λ none. absurd (cc);
    room = λ none. absurd (cc);
  }
