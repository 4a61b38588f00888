-- A caller opens its read section before it knows anything of a table, and closes it once it does so no more: it then knows what it knew
-- before, and in its section it may come to the tables from the current one on.
use Rattle.std.proofs.Common.{◌≡◌, ◌≢◌, ℕ, ◌+◌, ◌%◌, ◌^◌, ◌<◌, List, length, Option, Some, None, Bool, true, false, refl, sym, subst, inl, inr, arith}
use Rattle.rht_words.specs.declared.env.Env.{Env}
use Rattle.rht_words.specs.declared.op.Op.{Op}
use Rattle.rht_words.specs.declared.op.Op.TheVariants.{Add}
use Rattle.rht_words.specs.Operations.{applied}
use Rattle.rht_words.specs.Places.{Section, place_of, words_in}
use Rattle.rht_words.proofs.Memory.{Memory, IsWrite, is_write}
use Rattle.rht_ghost.proofs.Theory.Ghosts.{Ghost, IsSince, put-same, table_at, with_from, none-some}
use Rattle.rht_ghost.proofs.Theory.Wholes.{IsTurned, Whole}
use Rattle.rht_ghost.proofs.Theory.Knowns.{Known, Nowhere}
use Rattle.rht_ghost.proofs.Theory.Knowledge.{Knowing, ReadsFrom, inside-some, TableMeans}
use Rattle.rht_ghost.proofs.Theory.KnowledgeKept.{Means-rely, Only-rely}
use Rattle.rht_ghost.proofs.Theory.Steps.{Opens, Closes, Holding, mem, SilentStep, silent}
use Rattle.rht_ghost.proofs.Moves.Sections.{IsTurn, turn_section, turn_rely}
use Rattle.rht_ghost.proofs.Theory.Reliance.{Rely}
use Rattle.rht_ghost.proofs.Theory.Frames.{Made}

-- where an operation opens the caller's section none is open, not even over its calls
abbrev pub OpensNone : Env → ℕ → Ghost → Op → Holding → Type 0
OpensNone env c G op h = op ≡ Add (place_of env.geometry (Section c)) 1 → h.section ≡ false → G.from c ≡ None

module _ (env : Env) (mix : ℕ → ℕ → ℕ → ℕ) (c : ℕ) (h : Holding) (known : Known) (nowhere : known.table ≡ Nowhere) where
  -- what the call holds in its section, or out of it, and what the caller knows then
  abbrev pub holding : Bool → Holding
  holding section = record h { section = section }

  abbrev pub knowing : Bool → Memory → Ghost → Type 0
  knowing section M G = Knowing env mix c (holding section) known M G

  -- it adds 1 to its own section word
  abbrev turning : Op
  turning = Add (place_of env.geometry (Section c)) 1

  module _ (words : List ℕ) (G : Ghost) (all : length words ≡ words_in env.geometry)
      (whole : Whole env mix (mem env mix words) G) (low : c < env.geometry.callers) where
    abbrev M : Memory
    M = mem env mix words

    abbrev M' : Memory
    M' = mem env mix (applied words turning)

    within : c < 16
    within = let callers = env.geometry.within.callers_within in omega (arith, low, callers.1)

    abbrev value : ℕ
    value = (M (Section c) + 1) % 2 ^ 64

    write : IsWrite env.geometry M M' (Section c) value
    write = is_write env.geometry words (Section c) turning all within refl

    -- what it knew it still knows, in its section and out of it
    module _ (was now : Bool) (from : Option ℕ) (reads : ReadsFrom now from G.current)
        (is : IsTurn env mix c value from M M' G) where
      abbrev G' : Ghost
      G' = with_from G c from

      turned : Made env mix c M G M' G'
      turned = turn_section env mix c value from M M' G whole write is

      rely : Rely env mix c M G M' G'
      rely = turn_rely env mix c value from M M' G whole write is c

      reads_then : ReadsFrom now (G'.from c) G'.current
      reads_then = subst (λ f. ReadsFrom now f G.current) (sym (put-same G.from c from)) reads

      known_then : knowing was M G → knowing now M' G'
      known_then knows = record {
        only = Only-rely env mix c M M' G G' whole rely h.node h.lock h.second h.raised h.slot h.pages h.worker was now reads_then
            knows.only;
        means = Means-rely env mix c M M' G G' whole rely known (subst (TableMeans env mix c G') (sym nowhere) tt) knows.means;
      }

    -- the word of a section that isn't open is even, and of one that is odd
    opened : G.from c ≡ None → IsTurn env mix c value (Some G.current) M M' G
    opened none = record {
      caller = low;
      turned = let even = subst (λ f. IsTurned env mix f (M (Section c))) none (whole.sections.words c within) in
          omega (arith, even);
      later = λ τ since. since;
      locked = λ j holds. absurd (subst (λ f. IsSince f (table_at G j)) none (whole.sections.locked j c holds));
    }

    closed : (first : ℕ) → G.from c ≡ Some first → ((j : ℕ) → (G.bucket j).holder ≢ Some c)
        → IsTurn env mix c value None M M' G
    closed first is none = record {
      caller = low;
      turned = let odd = subst (λ f. IsTurned env mix f (M (Section c))) is (whole.sections.words c within) in
          omega (arith, odd);
      later = λ τ since. absurd since;
      locked = λ j holds. absurd (none j holds);
    }

    -- none is open yet, not even over its caller's calls
    pub open_step : G.from c ≡ None → knowing false M G
        → SilentStep env mix c words G turning (holding false) (holding true) (knowing true)
    open_step none knows =
        let is = opened none in
        silent env mix c words G turning (holding false) (holding true) (knowing true) (Opens c) whole
        (refl, none) tt (turned false true (Some G.current) (omega arith) is)
        (record { within = within; turns = refl; outside = refl; holds = refl })
        (known_then false true (Some G.current) (omega arith) is knows)

    -- it has locked no bucket when it closes it
    pub close_step : h.lock ≡ None → h.second ≡ None → knowing true M G
        → SilentStep env mix c words G turning (holding true) (holding false) (knowing false)
    close_step no_lock no_second knows =
        let first = inside-some (G.from c) G.current knows.only.reads in
        let is = closed first.0 first.1 unlocked in
        silent env mix c words G turning (holding true) (holding false) (knowing false) (Closes c) whole refl tt
        (turned true false None tt is)
        (record { within = within; turns = refl; inside = refl; holds = refl }) (known_then true false None tt is knows)
      where
        unlocked : (j : ℕ) → (G.bucket j).holder ≢ Some c
        unlocked j holds = elim (knows.only.locks j holds) [
          | inl first ↦ none-some no_lock first
          | inr second ↦ none-some no_second second
        ]

    -- ---- a section that its caller holds open over its calls

    -- what is so of the whole and of others behind the turning, and what the caller knows then, of whose calls none has opened it
    pub record HasTurned (from : Option ℕ) : Type 0 where
      pub made : Made env mix c M G M' (with_from G c from)
      pub own : Rely env mix c M G M' (with_from G c from)
      pub knows : knowing false M' (with_from G c from)

    -- it is opened between calls
    pub enter_turns : G.from c ≡ None → knowing false M G → HasTurned (Some G.current)
    enter_turns none knows =
        let is = opened none in
        let from : Option ℕ = Some G.current in
        record {
          made = turned false false from (omega arith) is;
          own = rely false false from (omega arith) is;
          knows = known_then false false from (omega arith) is knows;
        }

    -- and closed between calls, where no bucket is locked
    pub leave_turns : (first : ℕ) → G.from c ≡ Some first → h.lock ≡ None → h.second ≡ None → knowing false M G → HasTurned None
    leave_turns first over no_lock no_second knows =
        let is = closed first over unlocked in
        record {
          made = turned false false None tt is;
          own = rely false false None tt is;
          knows = known_then false false None tt is knows;
        }
      where
        unlocked : (j : ℕ) → (G.bucket j).holder ≢ Some c
        unlocked j holds = elim (knows.only.locks j holds) [
          | inl one ↦ none-some no_lock one
          | inr other ↦ none-some no_second other
        ]
