-- What the workers leave whose commands stand for calls: each has served its own, so all passes have served all of them, with the endings of
-- which comes what the workers leave.
use Rattle.std.proofs.Common.{◌≡◌, ℕ, zero, suc, ◌+◌, ◌<◌, Bool, List, [], ◌∷◌, length, get_or, refl, sym, ◌∙◌, ap, subst, arith}
use Rattle.std.proofs.lemmas.List.{get_or_default}
use Rattle.rht_words.specs.declared.config.Config.{Config}
use Rattle.rht_model.specs.declared.history.Call.{Call}
use Rattle.rht_model.specs.Endings.{Ending}
use Rattle.rht_run.specs.declared.pass.Pass.{Pass}
use Rattle.rht_run.specs.declared.table.Table.{Table}
use Rattle.rht_run.specs.Workers.{HasServedCalls, HaveServedAll}
use Rattle.rht_workers.specs.Jobs.{HaveWorkedAll}
use Rattle.rht_workers.specs.WorkerCalls.{calls_from, HasServedBy}
use Rattle.rht_workers.proofs.WorkerCommands.{calls_of-all}

-- where there is something for each place below a count, there is a list of them
choice : {A : Type 0} (Is : ℕ → A → Type 0) (default : A) (count : ℕ) → ((i : ℕ) → i < count → (a : A) × Is i a)
    → (chosen : List A) × (length chosen ≡ count) × ((i : ℕ) → i < count → Is i (get_or chosen i default))
choice {A} Is default zero each = ([], refl, λ i below. absurd (omega (arith, below)))
choice {A} Is default (suc count) each =
    let first = each 0 (omega arith) in
    let rest = choice (λ i. Is (suc i)) default count (λ i below. each (suc i) (omega (arith, below))) in
    (first.0 ∷ rest.0, ap suc rest.1, at first.0 rest.0 first.1 rest.2)
  where
    at : (a : A) (chosen : List A) → Is 0 a → ((i : ℕ) → i < count → Is (suc i) (get_or chosen i default))
        → (i : ℕ) → i < suc count → Is i (get_or (a ∷ chosen) i default)
    at a chosen here behind zero below = here
    at a chosen here behind (suc i) below = behind i (omega (arith, below))

module _ {M L : Type 0} (mix : ℕ → ℕ → ℕ → ℕ) (config : Config) (t : Table M) (auto : Bool) (calls : ℕ → L → List Ending → List Call)
    (Answered : ℕ → L → List Ending → Type 0) (none : L) (passes : List (Pass M)) (left : List L)
    (all : HaveWorkedAll (λ i pass own. HasServedBy mix t auto (calls (i + 1)) (Answered (i + 1)) i pass own) config t passes left) where
  -- how the calls of a worker ended, whose pass stands at its place
  record IsEnded (default : Pass M) (i : ℕ) (endings : List Ending) : Type 0 where
    answered : Answered (i + 1) (get_or left i none) endings
    served : HasServedCalls mix t auto i (calls (i + 1) (get_or left i none) endings) (get_or passes i default) endings

  ended : (default : Pass M) (i : ℕ) → i < config.callers → (endings : List Ending) × IsEnded default i endings
  ended default i below =
      let done = all.each i default none below in
      (done.endings, record { answered = done.answered; served = done.served })

  -- the endings of each worker's calls
  pub record AreEnded : Type 0 where
    pub endings : List (List Ending)
    pub workers : length endings ≡ config.callers
    pub answered : (i : ℕ) → i < config.callers → Answered (i + 1) (get_or left i none) (get_or endings i [])
    pub served : (i : ℕ) (default : Pass M) → i < config.callers
        → HasServedCalls mix t auto i (calls (i + 1) (get_or left i none) (get_or endings i [])) (get_or passes i default) (get_or endings i [])

  by_passes : (others : List (Pass M)) → passes ≡ others → AreEnded
  by_passes [] same =
      let no_workers : config.callers ≡ 0 = (let many = all.many in omega (arith, many, ap length same)) in record {
        endings = [];
        workers = sym no_workers;
        answered = λ i below. absurd (omega (arith, below, no_workers));
        served = λ i default below. absurd (omega (arith, below, no_workers));
      }
  by_passes (pass ∷ others) same =
      let chosen = choice (IsEnded pass) [] config.callers (ended pass) in record {
        endings = chosen.0;
        workers = chosen.1;
        answered = λ i below. (chosen.2 i below).answered;
        served = λ i default below.
            let count = all.many in
            let within : i < length passes = omega (arith, below, count) in
            subst (λ (p : Pass M).
            HasServedCalls mix t auto i (calls (i + 1) (get_or left i none) (get_or chosen.0 i [])) p (get_or chosen.0 i []))
            (get_or_default passes i pass default within) (chosen.2 i below).served;
      }

  pub AreEnded-all : AreEnded
  AreEnded-all = by_passes passes refl

  -- So all passes have served all calls, where those of each worker are told by this.
  pub HaveServedAll-ended : (ended : AreEnded) {A : Type 0} (own : ℕ → A → List Call) (default : A) (told : List A)
      → length told ≡ config.callers
      → ((i : ℕ) → own (i + 1) (get_or told i default) ≡ calls (i + 1) (get_or left i none) (get_or ended.endings i []))
      → HaveServedAll mix config t auto (calls_from own 1 told) passes ended.endings
  HaveServedAll-ended ended own default told count are = record {
    config_same = all.config_same;
    ways_plain = all.ways_plain;
    many = all.many;
    workers = ended.workers;
    each = λ i pass below.
        let within : i < length told = omega (arith, below, count) in
        subst (λ cs. HasServedCalls mix t auto i cs (get_or passes i pass) (get_or ended.endings i []))
        (sym (calls_of-all own default i told within ∙ are i)) (ended.served i pass below);
  }
