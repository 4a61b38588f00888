-- Draws of serials: which one each table that was attached has, and which a caller; and what a draw, an attaching, and any other operation
-- leave of that.
use Rattle.std.proofs.Common.{◌≡◌, ◌≢◌, ℕ, ◌+◌, ◌%◌, ◌^◌, ◌<◌, ◌≤◌, refl, sym, ap, ◌∙◌, arith}
use Rattle.std.specs.Prelude.{Option, Some, None}
use Rattle.rht_ghost.proofs.Theory.Ghosts.{Ghost, put, put-all}

-- So many serials were drawn. Each table that was attached has one of these draws, which is its own, and so has each caller of which this is
-- said.
pub record AreDrawn (drawn : ℕ) (serial : ℕ) (G : Ghost) (of_table : ℕ → ℕ) (of_caller : ℕ → Option ℕ) : Type 0 where
  pub next : serial ≡ drawn % 2 ^ 64
  pub before : (τ : ℕ) → τ < G.attached → of_table τ < drawn
  pub serials : (τ : ℕ) → τ < G.attached → (G.table τ).serial ≡ of_table τ % 2 ^ 64
  pub apart : (τ σ : ℕ) → τ < G.attached → σ < G.attached → of_table τ ≡ of_table σ → τ ≡ σ
  pub held : (c draw : ℕ) → of_caller c ≡ Some draw → draw < drawn
  pub beside : (c draw τ : ℕ) → of_caller c ≡ Some draw → τ < G.attached → of_table τ ≢ draw
  pub alone : (c k draw : ℕ) → of_caller c ≡ Some draw → of_caller k ≡ Some draw → c ≡ k

-- the same tables have the same serials
pub record SameSerials (G G' : Ghost) : Type 0 where
  pub attached : G'.attached ≡ G.attached
  pub serials : (τ : ℕ) → (G'.table τ).serial ≡ (G.table τ).serial

pub still-drawn : (drawn serial serial' : ℕ) (G G' : Ghost) (T : ℕ → ℕ) (C : ℕ → Option ℕ) → serial' ≡ serial → SameSerials G G'
    → AreDrawn drawn serial G T C → AreDrawn drawn serial' G' T C
still-drawn drawn serial serial' G G' T C same tables are = record {
  next = same ∙ are.next;
  before = λ τ l. are.before τ (low τ l);
  serials = λ τ l. tables.serials τ ∙ are.serials τ (low τ l);
  apart = λ τ σ l m. are.apart τ σ (low τ l) (low σ m);
  held = are.held;
  beside = λ c draw τ has l. are.beside c draw τ has (low τ l);
  alone = are.alone;
}
  where
    low : (τ : ℕ) → τ < G'.attached → τ < G.attached
    low τ l = let attached = tables.attached in omega (arith, l, attached)

-- a caller draws one more
pub more-drawn : (drawn serial serial' : ℕ) (G : Ghost) (T : ℕ → ℕ) (C : ℕ → Option ℕ) (c : ℕ) → serial' ≡ (serial + 1) % 2 ^ 64
    → AreDrawn drawn serial G T C → AreDrawn (drawn + 1) serial' G T (put C c (Some drawn))
more-drawn drawn serial serial' G T C c adds are = record {
  next = let next = are.next in omega (arith, adds, next);
  before = λ τ l. let b = are.before τ l in omega (arith, b);
  serials = are.serials;
  apart = are.apart;
  held = λ k draw. put-all (λ i o. o ≡ Some draw → draw < drawn + 1) C c (Some drawn)
      (λ e. let same : drawn ≡ draw = cc in omega (arith, same))
      (λ i ne has. let b = are.held i draw has in omega (arith, b)) k;
  beside = λ k draw τ has l. put-all (λ i o. o ≡ Some draw → T τ ≢ draw) C c (Some drawn)
      (λ e same. let new : drawn ≡ draw = cc in let b = are.before τ l in absurd (omega (arith, new, b, same)))
      (λ i ne has. are.beside i draw τ has l) k has;
  alone = λ k i draw. put-all (λ k o. o ≡ Some draw → put C c (Some drawn) i ≡ Some draw → k ≡ i) C c (Some drawn)
      (λ e. let new : drawn ≡ draw = cc in
      put-all (λ i o. o ≡ Some draw → c ≡ i) C c (Some drawn) (λ e. refl)
      (λ i ne has. let b = are.held i draw has in absurd (omega (arith, new, b))) i)
      (λ k ne has.
      put-all (λ i o. o ≡ Some draw → k ≡ i) C c (Some drawn)
      (λ e. let new : drawn ≡ draw = cc in let b = are.held k draw has in absurd (omega (arith, new, b)))
      (λ i other has_too. are.alone k i draw has has_too) i) k;
}

-- the caller's table is attached, and has its draw
pub attached-drawn : (drawn serial serial' : ℕ) (G G' : Ghost) (T : ℕ → ℕ) (C : ℕ → Option ℕ) (c draw stored : ℕ) → serial' ≡ serial
    → G'.attached ≡ G.attached + 1
    → ((τ : ℕ) → τ < G.attached → (G'.table τ).serial ≡ (G.table τ).serial) → (G'.table G.attached).serial ≡ stored
    → C c ≡ Some draw → stored ≡ draw % 2 ^ 64 → AreDrawn drawn serial G T C
    → AreDrawn drawn serial' G' (put T G.attached draw) (put C c None)
attached-drawn drawn serial serial' G G' T C c draw stored same one old new has of are = record {
  next = same ∙ are.next;
  before = λ τ l. put-all (λ i d. i < G'.attached → d < drawn) T G.attached draw (λ l. are.held c draw has)
      (λ i ne l. are.before i (low i ne l)) τ l;
  serials = λ τ l. put-all (λ i d. i < G'.attached → (G'.table i).serial ≡ d % 2 ^ 64) T G.attached draw
      (λ l. new ∙ of) (λ i ne l. old i (low i ne l) ∙ are.serials i (low i ne l)) τ l;
  apart = λ τ σ l m.
      put-all (λ i d. i < G'.attached → d ≡ put T G.attached draw σ → i ≡ σ) T G.attached draw
      (λ l. put-all (λ j d. j < G'.attached → draw ≡ d → G.attached ≡ j) T G.attached draw (λ m e. refl)
      (λ j ne m e. absurd (are.beside c draw j has (low j ne m) (sym e))) σ m)
      (λ i ne l. put-all (λ j d. j < G'.attached → T i ≡ d → i ≡ j) T G.attached draw
      (λ m e. absurd (are.beside c draw i has (low i ne l) e))
      (λ j other m e. are.apart i j (low i ne l) (low j other m) e) σ m) τ l;
  held = λ k d. put-all (λ i o. o ≡ Some d → d < drawn) C c None (λ e. absurd (cc)) (λ i ne has. are.held i d has) k;
  beside = λ k d τ. put-all (λ i o. o ≡ Some d → τ < G'.attached → put T G.attached draw τ ≢ d) C c None (λ e. absurd (cc))
      (λ i ne has_too l.
      put-all (λ σ t. σ < G'.attached → t ≢ d) T G.attached draw
      (λ l same. ne (are.alone i c draw (has_too ∙ ap Some (sym same)) has))
      (λ σ other l. are.beside i d σ has_too (low σ other l)) τ l) k;
  alone = λ k i d. put-all (λ k o. o ≡ Some d → put C c None i ≡ Some d → k ≡ i) C c None (λ e. absurd (cc))
      (λ k ne has_it. put-all (λ i o. o ≡ Some d → k ≡ i) C c None (λ e. absurd (cc))
      (λ i other has_too. are.alone k i d has_it has_too) i) k;
}
  where
    low : (τ : ℕ) → τ ≢ G.attached → τ < G'.attached → τ < G.attached
    low τ ne l = omega (arith, ne, l, one)

-- ---- later tables

-- later tables are more, and those that there were have their slots and their draws
pub record AreGrown (G : Ghost) (T : ℕ → ℕ) (G' : Ghost) (T' : ℕ → ℕ) : Type 0 where
  pub attached : G.attached ≤ G'.attached
  pub current : G.current ≤ G'.current
  pub slots : (τ : ℕ) → τ < G.attached → (G'.table τ).slot ≡ (G.table τ).slot
  pub draws : (τ : ℕ) → τ < G.attached → T' τ ≡ T τ

pub none-grown : (G : Ghost) (T : ℕ → ℕ) → AreGrown G T G T
none-grown G T = record {
  attached = omega arith;
  current = omega arith;
  slots = λ τ l. refl;
  draws = λ τ l. refl;
}

pub grown-on : (G G' G'' : Ghost) (T T' T'' : ℕ → ℕ) → AreGrown G T G' T' → AreGrown G' T' G'' T'' → AreGrown G T G'' T''
grown-on G G' G'' T T' T'' first second =
    let more = first.attached in
    let on = second.attached in
    let from = first.current in
    let to = second.current in
    record {
      attached = omega (arith, more, on);
      current = omega (arith, from, to);
      slots = λ τ l. second.slots τ (omega (arith, l, more)) ∙ first.slots τ l;
      draws = λ τ l. second.draws τ (omega (arith, l, more)) ∙ first.draws τ l;
    }
