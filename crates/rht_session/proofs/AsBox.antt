-- An address with a session owns what a box with it owns, and so do the box's parts.
use mir.Syntax.{impl, tnil, dnil}
use mathlib.Core.List.{[]}
use denote.Signature.{Slot, plain}
use Rattle.std_alloc.proofs.BoxSteps.Form.{Bx}
use Rattle.std_heap.specs.contracts.Global as Heap
use Rattle.std_heap.specs.contracts.GlobalAllocator.TheImpl.{ghosts, dict}
use Rattle.std_heap.proofs.Global.TheLaws as heap
use Rattle.rht_session.specs.contracts.session.Session as Session
use Rattle.rht_session.proofs.session.Session.TheLaws as session
use Rattle.rht_session.specs.contracts.parts.Parts as Parts
use Rattle.rht_session.specs.contracts.address.Address as Address

-- the box
abbrev pub E : Bx
E = record {
  row = Session.the_row;
  laws = session.the_row_laws;
  al = record { row = Heap.the_row; laws = heap.the_row_laws; g = ghosts; d = dict; drops = impl [] tnil dnil };
}

abbrev pub FromParts : Slot 0
FromParts = plain (λ _. Parts.the_row Session.the_row Heap.the_row ghosts)

abbrev pub FromAddress : Slot 0
FromAddress = plain (λ _. Address.the_row)

abbrev pub FromHeap : Slot 0
FromHeap = plain (λ _. Heap.the_row)
