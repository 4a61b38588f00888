-- A machine that holds another one in a state, as its piece, performs the piece's operations until that ends, and goes on from what
-- it makes of the answer. So what is known of a run of the piece is known of the first operations of the machine.
use Rattle.std.proofs.Common.{◌≡◌, ℕ, List, [], ◌∷◌, ◌++◌, refl, sym, ap, ◌∙◌, subst}
use Rattle.rht_words.specs.declared.op.Op.{Op}
use Rattle.rht_words.specs.declared.machine.Next.{Next}
use Rattle.rht_words.specs.declared.machine.Next.TheVariants.{Go, Done}
use Rattle.rht_words.specs.Machines.{Performed, Ran, went_on, ran}

-- the piece, the machine, the machine's state that holds the piece, and what it makes of an answer
module _ {P A M R : Type 0} (piece_plan : P → Op) (piece_after : P → ℕ → P × Next A) (plan : M → Op)
    (after : M → ℕ → M × Next R) (holds : P → M) (ends : P → A → M × Next R) where
  -- what it makes of a step of the piece
  abbrev pub on_piece : P × Next A → M × Next R
  on_piece (p, Go) = (holds p, Go)
  on_piece (p, Done answer) = ends p answer

  -- what comes of it once these operations were performed
  abbrev pub behind : List Performed → M × Next R → List ℕ → Ran R
  behind steps (m, Go) olds =
      record { steps = steps ++ (ran plan after m olds).steps; next = (ran plan after m olds).next }
  behind steps (m, Done answer) olds = record { steps = steps; next = Done answer }

  -- the run begins with one of the piece that has ended
  pub record PieceEnded (p : P) (run : Ran R) : Type 0 where
    pub first : List ℕ
    pub rest : List ℕ
    pub left : P
    pub answer : A
    pub ended : (ran piece_plan piece_after p first).next ≡ Done answer
    pub is : run ≡ behind (ran piece_plan piece_after p first).steps (ends left answer) rest

  module _ (plans : (p : P) → plan (holds p) ≡ piece_plan p)
      (goes : (p : P) (old : ℕ) → after (holds p) old ≡ on_piece (piece_after p old)) where
    -- the piece's next operation
    abbrev step_of : P → ℕ → Performed
    step_of p old = record { op = piece_plan p; old = old }

    -- what comes of the machine after it
    abbrev run_of : P → ℕ → List ℕ → M × Next R → Ran R
    run_of p old olds next = went_on (step_of p old) next.1 (ran plan after next.0 olds)

    one_step : (p : P) (old : ℕ) (olds : List ℕ)
        → ran plan after (holds p) (old ∷ olds) ≡ run_of p old olds (on_piece (piece_after p old))
    one_step p old olds =
        ap
        (λ (op : Op). went_on (record { op = op; old = old }) (after (holds p) old).1
        (ran plan after (after (holds p) old).0 olds))
        (plans p)
        ∙ ap (run_of p old olds) (goes p old)

    -- an operation before
    behind-first : (step : Performed) (steps : List Performed) (next : M × Next R) (olds : List ℕ)
        → went_on step Go (behind steps next olds) ≡ behind (step ∷ steps) next olds
    behind-first step steps (m, Go) olds = refl
    behind-first step steps (m, Done answer) olds = refl

    ended_at : (p : P) (old : ℕ) (olds : List ℕ) (next : M × Next R)
        → run_of p old olds next ≡ behind (step_of p old ∷ []) next olds
    ended_at p old olds (m, Go) = refl
    ended_at p old olds (m, Done answer) = refl

    -- what comes of the piece after its next operation
    abbrev piece_of : P → ℕ → List ℕ → P × Next A → Ran A
    piece_of p old olds next = went_on (step_of p old) next.1 (ran piece_plan piece_after next.0 olds)

    after_step : (p : P) (old : ℕ) (olds : List ℕ) (answer : R) (next : P × Next A) → piece_after p old ≡ next
        → ((ran plan after (holds next.0) olds).next ≡ Done answer
        → PieceEnded next.0 (ran plan after (holds next.0) olds))
        → (run_of p old olds (on_piece next)).next ≡ Done answer
        → PieceEnded p (run_of p old olds (on_piece next))
    after_step p old olds answer (q, Go) is later done =
        let l = later done in
        let run = ran piece_plan piece_after q l.first in
        record {
          first = old ∷ l.first;
          rest = l.rest;
          left = l.left;
          answer = l.answer;
          ended = subst (λ (n : P × Next A). (piece_of p old l.first n).next ≡ Done l.answer) (sym is) l.ended;
          is =
              ap (λ (rest : Ran R). went_on (step_of p old) Go rest) l.is
              ∙ behind-first (step_of p old) run.steps (ends l.left l.answer) l.rest
              ∙ ap (λ (n : P × Next A). behind (piece_of p old l.first n).steps (ends l.left l.answer) l.rest)
              (sym is);
        }
    after_step p old olds answer (q, Done found) is later done = record {
      first = old ∷ [];
      rest = olds;
      left = q;
      answer = found;
      ended = subst (λ (n : P × Next A). (piece_of p old [] n).next ≡ Done found) (sym is) refl;
      is =
          ended_at p old olds (ends q found)
          ∙ ap (λ (n : P × Next A). behind (piece_of p old [] n).steps (ends q found) olds) (sym is);
    }

    -- Where the machine has ended, so has its piece. By induction over the words that the operations find.
    pub piece_ended : (olds : List ℕ) (p : P) (answer : R) → (ran plan after (holds p) olds).next ≡ Done answer
        → PieceEnded p (ran plan after (holds p) olds)
    piece_ended [] p answer done = absurd (cc)
    piece_ended (old ∷ olds) p answer done =
        let one = one_step p old olds in
        subst (PieceEnded p) (sym one)
        (after_step p old olds answer (piece_after p old) refl
        (λ later. piece_ended olds (piece_after p old).0 answer later)
        (subst (λ (run : Ran R). run.next ≡ Done answer) one done))
