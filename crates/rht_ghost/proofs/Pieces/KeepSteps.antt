-- The operations by which the caller that does the work keeps all section words in the slot of a table that is being retired, as
-- steps: a load of each word, and its store. Behind the last store the table is retired.
use Rattle.std.proofs.Common.{◌≡◌, ℕ, ◌+◌, ◌<◌, List, length, true, refl, arith}
use Rattle.rht_words.specs.declared.env.Env.{Env}
use Rattle.rht_words.specs.declared.op.Op.{Op}
use Rattle.rht_words.specs.declared.op.Op.TheVariants.{Load, Store}
use Rattle.rht_words.specs.Operations.{old_of, applied}
use Rattle.rht_words.specs.Places.{Section, Slot, LoadedSection, place_of, words_in}
use Rattle.rht_words.proofs.Memory.{Memory, IsWrite, is_write}
use Rattle.rht_ghost.proofs.Theory.Ghosts.{Retired, Ghost, index_at}
use Rattle.rht_ghost.proofs.Theory.Wholes.{Whole}
use Rattle.rht_ghost.proofs.Theory.Knowns.{MakesNothing, KnownWork, Works, HasKept, HasLoadedWord}
use Rattle.rht_ghost.proofs.Theory.Knowledge.{Knowing}
use Rattle.rht_ghost.proofs.Theory.Steps.{KeepsWord, Settles, Holding, mem, SilentStep, silent, loads}
use Rattle.rht_ghost.proofs.Moves.Keeping.{can_keep, can_settle, keep_work, settle_work}
use Rattle.rht_ghost.proofs.Moves.WorkHoldings.{restood_only}
use Rattle.rht_ghost.proofs.Pieces.WorkSteps.{knows_work}

module _ (env : Env) (mix : ℕ → ℕ → ℕ → ℕ) (c : ℕ) (h : Holding) where
  abbrev pub working : KnownWork → Memory → Ghost → Type 0
  working known M G = Knowing env mix c h (knows_work MakesNothing known) M G

  abbrev pub section_load : ℕ → Op
  section_load caller = Load (place_of env.geometry (Section caller))

  abbrev pub word_store : ℕ → ℕ → ℕ → Op
  word_store slot caller word = Store (place_of env.geometry (Slot slot (LoadedSection caller))) word

  module _ (words : List ℕ) (G : Ghost) (all : length words ≡ words_in env.geometry)
      (whole : Whole env mix (mem env mix words) G) where
    abbrev M : Memory
    M = mem env mix words

    -- the word of the next caller is loaded
    pub keep_load_step : (slot count : ℕ) → working (HasKept slot count) M G
        → SilentStep env mix c words G (section_load count) h h
        (working (HasLoadedWord slot count (old_of words (section_load count))))
    keep_load_step slot count knows =
        let op = section_load count in
        loads env mix c words G op h h (working (HasLoadedWord slot count (old_of words op))) whole refl refl (record {
          only = knows.only;
          means = record {
            node = tt;
            table = tt;
            bucket = tt;
            making = tt;
            work = record {
              works = knows.means.work.works;
              more = record { keeping = knows.means.work.more; loaded = λ since. refl };
            };
          };
        })

    module _ (slot count word : ℕ) (low : count < env.geometry.callers) (moves : h.moving ≡ true)
        (knows : working (HasLoadedWord slot count word) M G) where
      abbrev op : Op
      op = word_store slot count word

      abbrev M' : Memory
      M' = mem env mix (applied words op)

      within : slot < 8
      within = knows.means.work.more.keeping.within

      caller_in : count < 16
      caller_in = let few = env.geometry.within.callers_within in omega (arith, low, few.1)

      write : IsWrite env.geometry M M' (Slot slot (LoadedSection count)) word
      write = is_write env.geometry words (Slot slot (LoadedSection count)) op all (within, caller_in) refl

      -- it is stored, where another caller is still to come
      pub keep_store_step : SilentStep env mix c words G op h h (working (HasKept slot (count + 1)))
      keep_store_step =
          let works = knows.means.work.works in
          let is = knows.means.work.more in
          let worked = keep_work env mix c slot count word M G whole works M' is write in
          silent env mix c words G op h h (working (HasKept slot (count + 1))) (KeepsWord slot count word) whole
          (can_keep env mix c slot count word M G whole works is) tt worked.made
          (record { within = within; caller_in = caller_in; keeping = refl; moves = moves; holds = refl })
          (record {
            only = knows.only;
            means = record { node = tt; table = tt; bucket = tt; making = tt; work = worked.means };
          })

      -- and where it is the last one's, the table is retired
      pub settle_step : count + 1 ≡ env.geometry.callers → SilentStep env mix c words G op h h (working Works)
      settle_step last =
          let works = knows.means.work.works in
          let is = knows.means.work.more in
          let worked = settle_work env mix c slot count word M G whole works M' is last write in
          silent env mix c words G op h h (working Works) (Settles slot count word) whole
          (can_settle env mix c slot count word M G whole works is last) tt worked.made
          (record { within = within; caller_in = caller_in; keeping = refl; moves = moves; holds = refl })
          (record {
            only = restood_only env mix c G h.node h.lock h.second h.raised h.slot h.pages h.worker h.section knows.only slot
                (Retired (index_at G slot)) refl;
            means = record { node = tt; table = tt; bucket = tt; making = tt; work = worked.means };
          })
