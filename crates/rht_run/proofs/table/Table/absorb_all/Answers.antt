use Rattle.std.proofs.Common.{inl, inr, ⊎_elim, List, [], ◌∷◌, sym, subst, ◌∙◌}
use Rattle.rht_run.specs.declared.pass.Pass.{Pass}
use Rattle.rht_run.specs.declared.seats.Held.{Held}
use Rattle.rht_run.specs.Rule.{In, held_at}
use Rattle.rht_run.specs.Passes.{Among, seen_by}
use Rattle.rht_run.proofs.ViewLists.{in_left}
use Rattle.rht_run.proofs.ClosedTables.{among_push, among_left, among_last, none_among, in_joined}
use Rattle.rht_run.proofs.table.Table.absorb_all.Goals as goal

pub absorb-requires-clause-pass : goal.absorb-requires-clause-pass
absorb-requires-clause-pass g c =
    c.loop-pass.invariant.all c.in-Some.pass
    (subst (Among c.in-Some.pass) (sym c.in-Some.ensures.items) (among_last c.in-Some.pass c.pop.new.self.items))

pub loop-pass-preserved : goal.loop-pass-preserved
loop-pass-preserved g c =
    let before = c.loop-pass.invariant in
    let q : Pass g.row.M.Denot = c.in-Some.pass in
    let rest : List (Pass g.row.M.Denot) = c.pop.new.self.items in
    let held : List (Held g.row.M.Denot) = c.loop-pass.seat.me.0.held in
    let is = before.all q (subst (Among q) (sym c.in-Some.ensures.items) (among_last q rest)) in
    record {
      table = c.absorb.ensures.seat.0 ∙ before.table;
      slots = c.absorb.ensures.seat.1;
      env = c.absorb.ensures.seat.2;
      all = λ p a. before.all p (subst (Among p) (sym c.in-Some.ensures.items) (among_left p rest (q ∷ []) a));
      old = λ h i. subst (In h) (sym c.absorb.ensures.held) (in_left h held q.seat.me.0.held (before.old h i));
      taken = λ p a. ⊎_elim
          (λ b. ⊎_elim inl
          (λ e. inr (subst (In (held_at p.number (seen_by p))) (sym c.absorb.ensures.held)
          (in_joined p q held q.seat.me.0.held e is.held)))
          (among_push p q rest (subst (Among p) c.in-Some.ensures.items b)))
          (λ i. inr (subst (In (held_at p.number (seen_by p))) (sym c.absorb.ensures.held)
          (in_left _ held q.seat.me.0.held i)))
          (before.taken p a);
    }

pub returns-clause-taken : goal.returns-clause-taken
returns-clause-taken g c p a = ⊎_elim
    (λ b. absurd (none_among p c.loop-pass.passes.items (sym c.loop-pass.passes.ok.0 ∙ c.in_default.ensures.cases.0) b))
    (λ i. i) (c.loop-pass.invariant.taken p a)
