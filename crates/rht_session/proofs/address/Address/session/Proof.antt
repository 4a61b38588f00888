-- `session` lends what the address owns, and the address follows it.
use mathlib.Core.Path.{◌≡◌, refl}
use mathlib.Core.List.{List, [], ◌∷◌}
use Prim.Native.Nat.{ℕ}
use seplogic.Ra.Ura.{Ura}
use base.Fraction.{full_share}
use base.Logic.{ent, sep, id⊢}
use base.Fml.{Fml, GName, ftrue, flft, fsep}
use mir.Syntax.{named}
use mir.Raw.{raw as bare}
use mir.Val.{Val, vptr}
use contract.Monad.{fact}
use contract.Running.{tables}
use types.Logic.{Logic, sem}
use types.Kit.{‵, raw, ◌⊛◌, some, later, at_ret, ◌$◌, ◌∵◌, !, qed, move, keep, drop, use1, split, split3, join, pick, fsplit, fsplit3, fjoin, fpack, rewrite, suffices, frame, done, await, group}
use types.Part.{whole, sub, look_in}
use types.Run.{stop, fld, load, of_opd, first, blocks, exec, returns, enter, addr}
use types.ByLocal.{alloc_all, pass_all, free_all, look_at, get, through, sets, sets_last, env}
use denote.Follow.{follows, Part, lends_Part}
use denote.Memory.{part_at, part_of, mem, cell_at}
use denote.RawPtr.{block_ptr}
use denote.Ref.{MutBor, MutRef, mut_vals, mut_Tells}
use denote.Signature.{plain, mut_ref_to}
use denote.Exit.{no}
use denote.Steps.{heard, nothing, opens}
use denote.Triple.Walked.{says, Stays, stay_dropped, walk_of, ends_at, Goes-spent_ref}
use Rattle.std.proofs.raw_atomic.Walks.{proved}
use Rattle.std.proofs.VecSteps.Shapes.{after}
use Rattle.std.proofs.alloc.Calls.{token}
use Rattle.std_alloc.proofs.BoxSteps.Form.{D, τ, word, handle}
use Rattle.std_alloc.proofs.BoxSteps.Steps.{box_out, box_in}
use Rattle.rht_session.specs.Lending.{with_session}
use Rattle.rht_session.specs.contracts.session.Session.{the_row as S}
use Rattle.rht_session.specs.contracts.address.Address.{the_row as A}
use Rattle.rht_session.proofs.AsBox.{E}
use Rattle.rht_session.specs.contracts.address.Address.session as f
use Rattle.rht_session.proofs.address.Address.session.Statement.{statement}
use Rattle.rht_session.proofs.address.Address.session.Code as code

abbrev stayed : Stays f.ended.signature.params f.ended.kept
stayed = (stay_dropped (mut_ref_to (0 ∷ []) tt (plain (λ _. A))) no, tt)

-- all that the address owns but the session
abbrev Rest : A.Denot → ℕ → ℕ → ℕ → ℕ → Val → Fml
Rest h rb ro b o hv =
    fsep (fsep (token E.al h.alloc (bare (τ E)) (block_ptr b o)) (handle E h.alloc hv)) (cell_at full_share A.mir (word E hv b o ∷ []) rb ro)

-- with any session there it is the address again
back : {M : Type 1} {𝓤 : Ura M} (𝓛 : Logic 𝓤) (h : A.Denot) (rb ro b o : ℕ) (hv : Val) → h.at ≡ block_ptr b o → (w : S.Denot)
    → ent 𝓤 (sep 𝓤 (sem 𝓛 ((mem S).own_at w b o)) (sem 𝓛 (Rest h rb ro b o hv))) (sem 𝓛 ((mem A).own_at (with_session h w) rb ro))
unfolding part_of
back {𝓤 = 𝓤} 𝓛 h rb ro b o hv at_b w =
    let v : D E = record { ptr = h.at; alloc = h.alloc; value = w } in
    qed 𝓛 (‵ (part_at S full_share w b o) ∷ ‵ (Rest h rb ro b o hv) ∷ []) ∵ move ! (1 ∷ []) $ fsplit ! $ fsplit ! $ move ! (3 ∷ []) $
    box_in E ! v b o w at_b refl $ use1 𝓛 (‵ (A.own_val (with_session h w) (word E hv b o ∷ []))) (id⊢ 𝓤 _) $ move ! (1 ∷ 0 ∷ []) $ fjoin ! $
    fpack ! (List Val) (λ us. fsep (cell_at full_share A.mir us rb ro) (A.own_val (with_session h w) us)) (word E hv b o ∷ []) $ done !

pub session_spec : {M : Type 1} → statement M
session_spec 𝓤 𝓛 𝓜 𝓡 wired =
    let c = f.clauses 𝓛 𝓜.mem 𝓡.returns in let W = walk_of 𝓛 f.ended stayed c in let 𝓣 = tables 𝓤 𝓛.H 𝓜 𝓡 𝓡.env in
    proved 𝓛 f.ended stayed c 𝓜 𝓡 (Goes-spent_ref 𝓛 1 (0 ∷ []) tt (plain (λ _. A)), tt)
    f.Key.name code.function (code.unfolded 𝓤 𝓛.H 𝓜 𝓡 wired)
    (λ κs. (mut_vals, tt)) (λ κs. (mut_Tells (named 0) κs.0 A, tt)) (λ κs qs bounds a _ are.
    let κ = κs.0 in let q = qs.0 in let γ = a.0.ghost_name in
    let rb = a.0.ref_ptr.0 in let ro = a.0.ref_ptr.1 in let h = a.0.now in let vs = mut_vals a.0 in
    let y : W.Ghost = ((κs, qs, bounds, a, (vs, tt)), tt) in
    qed 𝓛 (((‵ (flft κ q) ⊛ ‵ ftrue) ⊛ ‵ ((MutRef (named 0) κ A).own_val a.0 vs) ⊛ ‵ ftrue)
    ∷ raw (fact 𝓤 ((s : S.Denot) × (h.sessions ≡ s ∷ []))) ∷ []) ∵
    move ! (1 ∷ []) $ heard ! ((s : S.Denot) × (h.sessions ≡ s ∷ [])) (λ has.
    let v : D E = record { ptr = h.at; alloc = h.alloc; value = has.0 } in
    split ! $ split ! $ move ! (2 ∷ []) $ split ! $ keep ! (0 ∷ 2 ∷ []) $
    enter ! _ _ _ _ _ $ alloc_all ! (λ l. pass_all ! refl ((tt, tt), tt) $
    fsplit3 ! $ drop ! $ opens ! tt A rb ro (λ us. move ! (1 ∷ []) $
    rewrite ! 0 (λ (ss : List S.Denot). ‵ (A.own_val (record h { sessions = ss }) us)) has.1 refl $
    box_out E ! v us (λ b o hv at_b ws fa. move ! (1 ∷ 2 ∷ []) $ fjoin ! $ move ! (1 ∷ []) $
    rewrite ! 2 (λ (vs : List Val). ‵ (cell_at full_share A.mir vs rb ro)) ws refl $
    -- [the session; the token with the handle; the address's cell; the open borrow, in three entries]
    first ! $ blocks ! $
    sets ! (of_opd ! (load ! (through ! refl (fld ! refl (stop !))) (look_in ! 2 (sub ! 0 refl (whole !))))) refl (tt, tt) $
    sets ! (of_opd ! (get ! refl)) refl (tt, tt) $
    sets_last ! (addr ! (through ! refl (stop !))) refl (tt, tt) $
    exec ! 𝓣.C 𝓣.Λ (env code.Mir.locals l) (after 1 (code.function).body) (at_ret _ (W.post y)) $
    sets ! (of_opd ! (get ! refl)) refl (tt, tt) $
    move ! (1 ∷ 2 ∷ []) $ fjoin ! $ move ! (2 ∷ 3 ∷ 4 ∷ 1 ∷ 0 ∷ []) $ group ! 5 $
    use1 𝓛 (later (some (λ (γ' : GName). raw
    (Part 𝓛 A S (with_session h) (named 0) κ q rb ro b o γ (sem 𝓛 (Rest h rb ro b o hv)) (back 𝓛 h rb ro b o hv at_b) has.0 γ'))))
    (lends_Part 𝓛 A S (with_session h) (named 0) κ q rb ro b o γ (sem 𝓛 (Rest h rb ro b o hv)) (back 𝓛 h rb ro b o hv at_b)
    (A.coded.code h) (A.coded.code h) has.0) $ await ! tt $ pick ! (λ γ'.
    returns ! (look_at ! 0 refl) $ free_all ! refl $ keep ! (0 ∷ []) $
    let lent : MutBor S.Denot = record { ref_ptr = (b, o); ghost_name = γ'; now = has.0 } in
    use1 𝓛 (‵ ((MutRef (named 0) κ S).own_val lent (vptr b o ∷ [])) ⊛ ‵ (flft κ q) ⊛ ‵ (follows A S γ γ' (with_session h))) (id⊢ 𝓤 _) $ split3 ! $
    suffices ! _ (ends_at 𝓛 f.ended stayed c y (vptr b o) lent (tt, tt) (tt, tt)) $
    nothing ! $ nothing ! $ fjoin ! $ join ! $ nothing ! $ move ! (2 ∷ 0 ∷ []) $ join ! $ join ! $ frame ! $ says ! has.1 $ done !))))))
