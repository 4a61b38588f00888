-- What leads a resizing from one state to the next: an operation that leaves it with more, and a load behind
-- which it knows more. What is held, known and told in the next state is read off that state.
use Rattle.std.proofs.Common.{◌≡◌, ℕ, Bool, true, false, List, [], length, Option, Some, None, refl, sym, ◌∙◌, ap, subst, inl, inr}
use Rattle.rht_words.specs.declared.env.Env.{Env}
use Rattle.rht_words.specs.declared.op.Op.{Op}
use Rattle.rht_words.specs.declared.machine.Next.TheVariants.{Go}
use Rattle.rht_words.specs.Operations.{old_of, word_after}
use Rattle.rht_words.specs.Places.{words_in}
use Rattle.rht_words.proofs.Memory.{Memory}
use Rattle.rht_model.specs.declared.history.Call.TheVariants as calls
use Rattle.rht_model.specs.declared.history.Reply.{Reply}
use Rattle.rht_model.specs.Multimap.{Multimap}
use Rattle.rht_model.specs.Answers.{plain}
use Rattle.rht_move.specs.declared.work.WorkAt.{WorkAt}
use Rattle.rht_move.specs.WorkHeld.{holds_work_lock, holds_work, holds_moving, held_of_work}
use Rattle.rht_model.specs.Replies.{takes_out}
use Rattle.rht_model.specs.Replies.{IsWorkReply, AreOwnersWith}
use Rattle.rht_ghost.proofs.Theory.Ghosts.{Ghost}
use Rattle.rht_ghost.proofs.Theory.Wholes.{Whole}
use Rattle.rht_ghost.proofs.Theory.Knowns.{Known, MakesNothing, KnownWork}
use Rattle.rht_ghost.proofs.Theory.Knowledge.{WorkMeans, Means, Only, Knowing}
use Rattle.rht_ghost.proofs.Theory.Answering.{Tells}
use Rattle.rht_ghost.proofs.Theory.Steps.{answered-map, Holding, mem, owners, SilentStep, silent-map, with_answer, Step, still_has}
use Rattle.rht_ghost.proofs.Pieces.WorkSteps.{knows_work, work_loads}
use Rattle.rht_words.specs.declared.config.Kind.{Kind}
use Rattle.rht_move.proofs.WorkKnowledge.{known_of_work, WorkNext}

-- what is held while entries are moved, with the lock of this bucket or none
abbrev pub moving_at : Option ℕ → Holding
moving_at lock = holds_moving lock None

-- this is said to the call from here on, which isn't about bindings
pub says : {kind : Kind} {c : ℕ} {now : Multimap} (reply : Reply) → IsWorkReply reply
    → AreOwnersWith reply [] → takes_out reply ≡ false
    → Tells kind c calls.Work None now None (Some (plain reply))
says reply is none_named none = inr (record {
  learns = record { unknown = refl; answer = plain reply; known = refl; said = inr refl };
  right = record { replied = record { reply = is; owners = none_named }; tells = refl };
  takes_none = none;
})

module _ (env : Env) (mix : ℕ → ℕ → ℕ → ℕ) (c : ℕ) where
  -- what is known of the work alone, of the holding h
  abbrev pub knowing : Holding → KnownWork → Memory → Ghost → Type 0
  knowing h known M' G' = Knowing env mix c h (knows_work MakesNothing known) M' G'

  pub knows_that : (h : Holding) (M' : Memory) (G' : Ghost) (known more : KnownWork) → knowing h known M' G'
      → WorkMeans env mix c M' G' more → knowing h more M' G'
  knows_that h M' G' known more k means = record {
    only = k.only;
    means = record { node = tt; table = tt; bucket = tt; making = tt; work = means };
  }

module _ {env : Env} {mix : ℕ → ℕ → ℕ → ℕ} {c : ℕ} {words : List ℕ} {G : Ghost} where
  -- an operation leads to a state
  pub leads : {op : Op} {h h' : Holding} {known : Known} (next : WorkAt)
      → Tells env.config.kind c calls.Work h.node (owners env mix (mem env mix words) G) h.answer
      (held_of_work next).answer
      → h'.node ≡ h.node
      → held_of_work next ≡ with_answer env mix h' (held_of_work next).answer → known_of_work next ≡ known
      → SilentStep env mix c words G op h h' (λ M' G'. Knowing env mix c h' known M' G')
      → Step env mix c calls.Work words G op h (held_of_work next) (WorkNext env mix c (next, Go))
  leads {op = op} {h = h} {h' = h'} next tells same holds is moved =
      let answer = (held_of_work next).answer in
      subst (λ x. Step env mix c calls.Work words G op h x (WorkNext env mix c (next, Go))) (sym holds)
      (answered-map env mix answer tells (still_has {h = h} {h' = with_answer env mix h' answer} same)
      (λ M' G' w k. record {
        only = subst (λ (x : Holding). Only env mix c G' x) (sym holds) k.only;
        means = subst (λ (x : Known). Means env mix c M' G' x) (sym is) k.means;
      }) moved)

  -- what it knows of the work behind an operation, once more follows from it
  pub learning : {op : Op} {h h' : Holding} (known more : KnownWork)
      → ((M' : Memory) (G' : Ghost) → Whole env mix M' G' → WorkMeans env mix c M' G' known
      → WorkMeans env mix c M' G' more)
      → SilentStep env mix c words G op h h' (knowing env mix c h' known)
      → SilentStep env mix c words G op h h' (knowing env mix c h' more)
  learning {h' = h'} known more learns step =
      silent-map env mix
      (λ M' G' w k. knows_that env mix c h' M' G' known more k (learns M' G' w k.means.work)) step

  -- ---- loads that decide nothing of the answer

  -- while it has the work alone, and while it moves entries
  module _ (all : length words ≡ words_in env.geometry) (whole : Whole env mix (mem env mix words) G) where
    -- in its section, or out of it
    load_alone : (section : Bool) {op : Op} (known more : KnownWork) (next : WorkAt)
        → word_after (old_of words op) op ≡ old_of words op
        → let h = record holds_work_lock { section = section } in
        knowing env mix c h known (mem env mix words) G
        → (WorkMeans env mix c (mem env mix words) G known → WorkMeans env mix c (mem env mix words) G more)
        → held_of_work next ≡ h → known_of_work next ≡ knows_work MakesNothing more
        → Step env mix c calls.Work words G op h (held_of_work next) (WorkNext env mix c (next, Go))
    load_alone section {op} known more next same knows learns holds is =
        let h = record holds_work_lock { section = section } in
        leads next (inl (ap (λ (x : Holding). x.answer) holds)) refl
        (holds ∙ ap (λ a. with_answer env mix h a) (sym (ap (λ (x : Holding). x.answer) holds))) is
        (work_loads env mix c h words G all whole None MakesNothing op known more same knows learns)

    pub load_early : {op : Op} (known more : KnownWork) (next : WorkAt)
        → word_after (old_of words op) op ≡ old_of words op
        → knowing env mix c holds_work known (mem env mix words) G
        → (WorkMeans env mix c (mem env mix words) G known → WorkMeans env mix c (mem env mix words) G more)
        → held_of_work next ≡ holds_work → known_of_work next ≡ knows_work MakesNothing more
        → Step env mix c calls.Work words G op holds_work (held_of_work next) (WorkNext env mix c (next, Go))
    load_early {op} = load_alone true {op = op}

    pub load_outside : {op : Op} (known more : KnownWork) (next : WorkAt)
        → word_after (old_of words op) op ≡ old_of words op
        → knowing env mix c holds_work_lock known (mem env mix words) G
        → (WorkMeans env mix c (mem env mix words) G known → WorkMeans env mix c (mem env mix words) G more)
        → held_of_work next ≡ holds_work_lock → known_of_work next ≡ knows_work MakesNothing more
        → Step env mix c calls.Work words G op holds_work_lock (held_of_work next) (WorkNext env mix c (next, Go))
    load_outside {op} = load_alone false {op = op}

    pub load_moving : {op : Op} (lock : Option ℕ) (known more : KnownWork) (next : WorkAt)
        → word_after (old_of words op) op ≡ old_of words op
        → knowing env mix c (moving_at lock) known (mem env mix words) G
        → (WorkMeans env mix c (mem env mix words) G known → WorkMeans env mix c (mem env mix words) G more)
        → Tells env.config.kind c calls.Work None (owners env mix (mem env mix words) G) None
        (held_of_work next).answer
        → held_of_work next ≡ with_answer env mix (moving_at lock) (held_of_work next).answer
        → known_of_work next ≡ knows_work MakesNothing more
        → Step env mix c calls.Work words G op (moving_at lock) (held_of_work next)
        (WorkNext env mix c (next, Go))
    load_moving {op = op} lock known more next same knows learns tells holds is =
        leads next tells refl holds is
        (work_loads env mix c (moving_at lock) words G all whole lock MakesNothing op known more same knows
        learns)
