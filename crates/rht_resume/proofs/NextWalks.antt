-- A `next` makes one walk after another. Each but the first begins at a later bucket than the one before, so before the walk with this number
-- there are as many buckets or more; and as a table has no more than so many, the `next` is over by then.
use Rattle.std.proofs.Common.{true, ◌≡◌, ◌≢◌, ℕ, ◌+◌, ◌<◌, ◌≤◌, Option, Some, None, List, [], ◌∷◌, ◌++◌, length, refl, sym, ◌∙◌, ap, subst, arith}
use Rattle.std.proofs.lemmas.List.{append-nil, length_push, length-append}
use Rattle.rht_walk.specs.WalkLaws.{first_bucket}
use Rattle.rht_model.specs.Endings.{Ending, ended_with}
use Rattle.rht_core.specs.Locals.{is_idle}
use Rattle.rht_run.specs.declared.pass.Pass.{Pass}
use Rattle.rht_run.specs.declared.table.Table.{Table}
use Rattle.rht_run.specs.Passes.{IsPassOf, IsSamePass, book_of}
use Rattle.rht_resume.specs.declared.resume.Piece.{Piece}
use Rattle.rht_resume.specs.declared.resume.Piece.TheVariants.{Part, End, Again}
use Rattle.rht_resume.specs.declared.resumed.Spot.{Spot}
use Rattle.rht_resume.specs.Pieces.{Walking, begun, before, outcome_of, walks_of, walk_at, ended_each}
use Rattle.rht_resume.specs.ServedPieces.{most_buckets, IsAgainCaused, outcome_with, HasTurned, HasResumed}
use Rattle.rht_resume.proofs.PieceLemmas.{IsUnderway, IsUnderway-none, IsUnderway-more, over-outcome, over-walks, ended_each-calls}

-- a walk that isn't ended is where a `next` begins
pub begun-open : (spot : Option Spot) → spot ≢ None → spot ≡ Some (begun spot)
begun-open None some = absurd (some refl)
begun-open (Some spot) some = refl

-- A `next` that began at this spot has made so many walks and isn't over.
pub record IsNextUnderway {M : Type 0} (mix : ℕ → ℕ → ℕ → ℕ) (t : Table M) (limit : ℕ) (first : Spot) (nodes : ℕ) (new : Walking)
    (count : ℕ) (old now : Pass M) : Type 0 where
  pub spot : Spot
  pub stands : new.spot ≡ Some spot
  pub same_nodes : new.nodes ≡ nodes
  pub room : length new.pairs ≤ limit
  pub endings : List Ending
  pub underway : IsUnderway limit first endings spot new.pairs
  pub many : length endings ≡ count
  pub low : count ≤ first_bucket spot.cursor
  pub high : 0 < count → first_bucket spot.cursor < most_buckets
  pub pass : IsPassOf mix t now
  pub same : IsSamePass old now
  pub idle : is_idle now.local ≡ true
  pub finished : (book_of now).finished ≡ (book_of old).finished ++ ended_each underway.calls endings

module _ {M : Type 0} (mix : ℕ → ℕ → ℕ → ℕ) (t : Table M) (limit : ℕ) (first : Spot) (nodes : ℕ) (old : Pass M) where
  -- at first it has made none
  pub IsNextUnderway-none : (new : Walking) → new.spot ≡ Some first → new.nodes ≡ nodes → new.pairs ≡ [] → IsPassOf mix t old
      → is_idle old.local ≡ true → IsNextUnderway mix t limit first nodes new 0 old old
  IsNextUnderway-none new stands same_nodes none of_table idle = record {
    spot = first;
    stands = stands;
    same_nodes = same_nodes;
    room = (let empty = ap length none in omega (arith, empty));
    endings = [];
    underway = IsUnderway-none limit first new.pairs none;
    many = refl;
    low = omega arith;
    high = λ some. absurd (omega (arith, some));
    pass = of_table;
    same = record { table = refl; number = refl };
    idle = idle;
    finished = sym (append-nil (book_of old).finished);
  }

  module _ (count : ℕ) (walking new : Walking) (now after : Pass M) (so_far : IsNextUnderway mix t limit first nodes walking count old now) where
    abbrev spot : Spot
    spot = so_far.spot

    some_in : {one other : Spot} → Some one ≡ Some other → one ≡ other
    some_in {one} {other} same = cc

    -- it was made from where the walk stands
    from_here : (here : Spot) (piece : Option Piece) → walking.spot ≡ Some here → HasTurned mix t limit here walking new piece now after
        → HasTurned mix t limit spot walking new piece now after
    from_here here piece is turned =
        subst (λ s. HasTurned mix t limit s walking new piece now after) (some_in (sym is ∙ so_far.stands)) turned

    -- the same pass as at first
    same_pass : (piece : Option Piece) → HasTurned mix t limit spot walking new piece now after → IsSamePass old after
    same_pass piece turned = record {
      table = turned.same.table ∙ so_far.same.table;
      number = turned.same.number ∙ so_far.same.number;
    }

    -- and then it has made one more
    pub IsNextUnderway-more : (here : Spot) → walking.spot ≡ Some here → HasTurned mix t limit here walking new None now after
        → IsNextUnderway mix t limit first nodes new (count + 1) old after
    IsNextUnderway-more here is made =
        let turned = from_here here None is made in
        let later = turned.rises refl in
        let goes = turned.turned.made in
        let before_next : goes.spot ≡ before later.cursor = some_in (sym goes.stands ∙ later.stands) in
        let bucket : first_bucket goes.spot.cursor ≡ later.cursor.bucket = ap (λ (s : Spot). first_bucket s.cursor) before_next in
        let low = so_far.low in
        let rising = later.later in
        let there = later.there in
        let many = so_far.many in
        record {
          spot = goes.spot;
          stands = goes.stands;
          same_nodes = turned.turned.nodes ∙ so_far.same_nodes;
          room = turned.room refl;
          endings = so_far.endings ++ turned.ending ∷ [];
          underway =
              IsUnderway-more limit first so_far.endings spot walking.pairs turned.ending so_far.underway goes.spot new.pairs goes.on;
          many = omega (arith, many, length_push so_far.endings turned.ending);
          low = omega (arith, low, rising, bucket);
          high = λ some. omega (arith, there, bucket);
          pass = turned.pass;
          same = same_pass None turned;
          idle = turned.idle;
          finished =
              turned.finished ∙ ap (λ l. l ++ ended_with (walk_at spot) turned.ending ∷ []) so_far.finished
              ∙ ended_each-calls limit first so_far.endings spot walking.pairs turned.ending so_far.underway (book_of old).finished;
        }

    -- or this one has ended it
    pub HasResumed-over : (start_of : Walking) (piece : Piece) → first ≡ begun start_of.spot → start_of.nodes ≡ nodes → count < most_buckets
        → (stood : Spot) → walking.spot ≡ Some stood → HasTurned mix t limit stood walking new (Some piece) now after
        → HasResumed mix t limit start_of new piece old after
    HasResumed-over start_of piece here same_nodes few stood is made =
        let turned = from_here stood (Some piece) is made in
        let over = turned.turned.made in
        let endings = so_far.endings ++ turned.ending ∷ [] in
        let many = so_far.many in
        record {
          endings = endings;
          outcome =
              ap (λ s. outcome_of limit s endings) (sym here)
              ∙ over-outcome limit first so_far.endings spot walking.pairs turned.ending so_far.underway (outcome_with piece new) over;
          nodes = turned.turned.nodes ∙ so_far.same_nodes ∙ sym same_nodes;
          pass = turned.pass;
          same = same_pass (Some piece) turned;
          idle = turned.idle;
          finished =
              turned.finished ∙ ap (λ l. l ++ ended_with (walk_at spot) turned.ending ∷ []) so_far.finished
              ∙ ended_each-calls limit first so_far.endings spot walking.pairs turned.ending so_far.underway (book_of old).finished
              ∙ ap (λ l. (book_of old).finished ++ ended_each l endings)
              (sym (over-walks limit first so_far.endings spot walking.pairs turned.ending so_far.underway (outcome_with piece new) over))
              ∙ ap (λ s. (book_of old).finished ++ ended_each (walks_of limit s endings) endings) here;
          few = omega (arith, many, few, length_push so_far.endings turned.ending);
        }

    -- its cause is that of its last walk
    pub IsAgainCaused-over : (here : Spot) (piece : Piece) → HasTurned mix t limit here walking new (Some piece) now after
        → IsAgainCaused mix t piece old after
    IsAgainCaused-over here piece turned = earlier piece turned.cause
      where
        fewer : length (book_of old).finished ≤ length (book_of now).finished
        fewer =
            let all = ap length so_far.finished in
            omega (arith, all, length-append (book_of old).finished (ended_each so_far.underway.calls so_far.endings))

        earlier : (p : Piece) → IsAgainCaused mix t p now after → IsAgainCaused mix t p old after
        earlier Part cause = tt
        earlier (End len) cause = tt
        earlier (Again table) (from, cause) = (
          from,
          record {
            events = cause.events;
            admitted = cause.admitted;
            shows = cause.shows;
            at = cause.at;
            behind = (let behind = cause.behind in let less = fewer in omega (arith, behind, less));
            past = cause.past;
            place = cause.place;
            done = cause.done;
            fact = cause.fact;
          },
        )
