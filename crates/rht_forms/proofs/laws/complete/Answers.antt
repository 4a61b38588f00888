use Rattle.std.proofs.Common.{[], Some, ap, inl, inr}
use Rattle.rht_script.specs.Grammar.{reading_of}
use Rattle.rht_script.specs.Dealt.{dealing_of}
use Rattle.rht_lease.specs.Reading.{lease_reading_of}
use Rattle.rht_resume.specs.Reading.{resume_reading_of}
use Rattle.rht_check.specs.Reading.{claim_reading_of}
use Rattle.rht_forms.specs.declared.form.Form.TheVariants.{Gen, Deal, Lease, Check, Resume}
use Rattle.rht_forms.proofs.ServedScripts.{never_rises}
use Rattle.rht_forms.proofs.ToldInput.{script_bounded, deal_bounded, lease_bounded, resume_bounded, claim_bounded, HasInput-script, IsFaultOf-script, HasInput-deal, IsFaultOf-deal, HasInput-leases, IsFaultOf-leases, HasInput-resume, IsFaultOf-resume, HasInput-claim, IsFaultOf-claim, HasInput-gen, IsReadAs-told, IsAtFault-told}
use Rattle.rht_forms.proofs.laws.complete.Goals as goal

pub returns-clause-served : goal.returns-clause-served
returns-clause-served g c form said named reads script =
    c.run.ensures.served form c.args.bytes.items (Some []) named (ap Some c.new-source.ensures)
    (HasInput-script form reads (Some c.args.bytes.items) (Some []) said (IsReadAs-told reading_of script_bounded c.args.bytes.items said script))
    never_rises never_rises

pub returns-clause-refused : goal.returns-clause-refused
returns-clause-refused g c form fault named reads first =
    let input = IsAtFault-told reading_of script_bounded c.args.bytes.items fault first in
    elim (c.run.ensures.refused form c.args.bytes.items input.0 fault named (ap Some c.new-source.ensures)
    (IsFaultOf-script form reads (Some c.args.bytes.items) input.0 fault input.1) never_rises) [
      | inl two ↦ inl two.0
      | inr memory ↦ inr memory
    ]

pub returns-clause-dealt : goal.returns-clause-dealt
returns-clause-dealt g c said named says =
    c.run.ensures.served Deal c.args.bytes.items (Some []) named (ap Some c.new-source.ensures)
    (HasInput-deal (Some c.args.bytes.items) (Some []) said (IsReadAs-told dealing_of deal_bounded c.args.bytes.items said says))
    never_rises never_rises

pub returns-clause-undealt : goal.returns-clause-undealt
returns-clause-undealt g c fault named first =
    let input = IsAtFault-told dealing_of deal_bounded c.args.bytes.items fault first in
    elim (c.run.ensures.refused Deal c.args.bytes.items input.0 fault named (ap Some c.new-source.ensures)
    (IsFaultOf-deal (Some c.args.bytes.items) input.0 fault input.1) never_rises) [
      | inl two ↦ inl two.0
      | inr memory ↦ inr memory
    ]

pub returns-clause-leased : goal.returns-clause-leased
returns-clause-leased g c said named says =
    c.run.ensures.served Lease c.args.bytes.items (Some []) named (ap Some c.new-source.ensures)
    (HasInput-leases (Some c.args.bytes.items) (Some []) said (IsReadAs-told lease_reading_of lease_bounded c.args.bytes.items said says))
    never_rises never_rises

pub returns-clause-unleased : goal.returns-clause-unleased
returns-clause-unleased g c fault named first =
    let input = IsAtFault-told lease_reading_of lease_bounded c.args.bytes.items fault first in
    elim (c.run.ensures.refused Lease c.args.bytes.items input.0 fault named (ap Some c.new-source.ensures)
    (IsFaultOf-leases (Some c.args.bytes.items) input.0 fault input.1) never_rises) [
      | inl two ↦ inl two.0
      | inr memory ↦ inr memory
    ]

pub returns-clause-resumed : goal.returns-clause-resumed
returns-clause-resumed g c said named says =
    c.run.ensures.served Resume c.args.bytes.items (Some []) named (ap Some c.new-source.ensures)
    (HasInput-resume (Some c.args.bytes.items) (Some []) said (IsReadAs-told resume_reading_of resume_bounded c.args.bytes.items said says))
    never_rises never_rises

pub returns-clause-unresumed : goal.returns-clause-unresumed
returns-clause-unresumed g c fault named first =
    let input = IsAtFault-told resume_reading_of resume_bounded c.args.bytes.items fault first in
    elim (c.run.ensures.refused Resume c.args.bytes.items input.0 fault named (ap Some c.new-source.ensures)
    (IsFaultOf-resume (Some c.args.bytes.items) input.0 fault input.1) never_rises) [
      | inl two ↦ inl two.0
      | inr memory ↦ inr memory
    ]

pub returns-clause-judged : goal.returns-clause-judged
returns-clause-judged g c said named says =
    c.run.ensures.served Check c.args.bytes.items (Some []) named (ap Some c.new-source.ensures)
    (HasInput-claim (Some c.args.bytes.items) (Some []) said (IsReadAs-told claim_reading_of claim_bounded c.args.bytes.items said says))
    never_rises never_rises

pub returns-clause-unclaimed : goal.returns-clause-unclaimed
returns-clause-unclaimed g c fault named first =
    let input = IsAtFault-told claim_reading_of claim_bounded c.args.bytes.items fault first in
    elim (c.run.ensures.refused Check c.args.bytes.items input.0 fault named (ap Some c.new-source.ensures)
    (IsFaultOf-claim (Some c.args.bytes.items) input.0 fault input.1) never_rises) [
      | inl two ↦ inl two.0
      | inr memory ↦ inr memory
    ]

pub returns-clause-generated : goal.returns-clause-generated
returns-clause-generated g c number named =
    let bytes = Some c.args.bytes.items in
    c.run.ensures.served (Gen number) c.args.bytes.items bytes named (ap Some c.new-source.ensures)
    (HasInput-gen number bytes) never_rises never_rises
