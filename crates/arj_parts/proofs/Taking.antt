-- What a message is handled as: a request, an answer, or neither; and one that isn't meant is void.
use Rattle.std.proofs.Common.{◌≡◌, Bool, true, false, cond, List, [], refl, sym, ap, subst, ◌∙◌, Option, Some, None, ℕ}
use Rattle.std.specs.Prelude.{is_some}
use Rattle.arj_asking.specs.Hearing.{heard_as}
use Rattle.arj_disk.specs.FileMap.{FileMap}
use Rattle.arj_node.specs.Handing.{IsTaken, outs_of}
use Rattle.arj_node.specs.Outgoing.{IsHalted}
use Rattle.arj_node.specs.declared.outgoing.Outgoing.{Outgoing}
use Rattle.arj_parts.specs.Calls.{Call, Halts, Takes}
use Rattle.arj_parts.specs.Kept.{Kept, RestsOn, StandsOn}
use Rattle.arj_parts.specs.Taken.{answered_here, asked_here, handled_here, other_here, taken_here}
use Rattle.arj_protocol.specs.Ask.{Reply, answers}
use Rattle.arj_protocol.specs.Node.{Handled, Here, Parts, Void, coord_heard, handle_answer, handle_ask, is_meant}
use Rattle.arj_protocol.specs.Words.{Ask, Asked, Head, Message, asks}
use Rattle.arj_serve.specs.Asked.{asked_by}
use Rattle.arj_serve.specs.Kept.{parts_with}
use Rattle.arj_store.specs.declared.store.ObjectStore.{Ghosts}

-- where the node makes the same of it, the parts took it
module _ {O : Type 0} (o : Ghosts O) (handled other : ℕ → Here → Handled) (call : Call O) (same : (n : ℕ) (h : Here) →
    StandsOn o n call.old call.file h → other n h ≡ handled n h) where
  pub takes_as : (took : Bool) → Takes o other call took → Takes o handled call took
  takes_as took takes n h stands =
      subst (λ v. IsTaken (StandsOn o n call.new call.left) h v call.before call.after took) (same n h stands) (takes n h stands)

  pub halts_as : Halts o (λ n h. outs_of (other n h)) call → Halts o (λ n h. outs_of (handled n h)) call
  halts_as halts n h stands =
      subst (λ v. IsHalted (RestsOn o n call.left) (outs_of v) h.disk call.before call.after) (same n h stands) (halts n h stands)

-- a void message leaves the parts as they were
pub void_takes : {O : Type 0} (o : Ghosts O) (handled : ℕ → Here → Handled) (p : Kept O) (file : FileMap) (outs : List Outgoing) →
    ((n : ℕ) (h : Here) → StandsOn o n p file h → handled n h ≡ Void [])
    → Takes o handled (record { old = p; new = p; file = file; left = file; before = outs; after = outs }) false
void_takes o handled p file outs void n h stands =
    record { looks = []; is = void n h stands; quiet = refl; same = refl; stands = stands; outs = refl }

-- ---- by its kind

-- there is none
pub none_is : {A : Type 0} (a : Option A) → false ≡ is_some a → a ≡ None
none_is None is = refl
none_is (Some x) is = absurd (cc is)

module _ (from : ℕ) (m : Message) (n : ℕ) (h : Here) where
  pub as_request : true ≡ is_some (asks m) → asked_here from m n h ≡ handled_here from m n h
  as_request is = by (asks m) is
    where
      by : (a : Option (Head × Ask)) → true ≡ is_some a → asked_by n h.disk h.parts from a ≡ handle_ask n h.disk h.parts from m a
      by None is = absurd (cc is)
      by (Some a) is = refl

  no_request : asks m ≡ None → handle_answer n h.disk h.parts from m (answers m) ≡ handled_here from m n h
  no_request none = ap (handle_ask n h.disk h.parts from m) (sym none)

  pub as_answer : asks m ≡ None → true ≡ is_some (answers m) → answered_here from m n h ≡ handled_here from m n h
  as_answer none is = by (answers m) is ∙ no_request none
    where
      by : (a : Option (Asked × Reply)) → true ≡ is_some a →
          coord_heard h.parts (heard_as from a h.disk.intents h.parts.coord) ≡ handle_answer n h.disk h.parts from m a
      by None is = absurd (cc is)
      by (Some a) is = refl

  pub as_other : asks m ≡ None → answers m ≡ None → other_here from m n h ≡ handled_here from m n h
  as_other none void = ap (handle_answer n h.disk h.parts from m) (sym void) ∙ no_request none

-- ---- what is meant

module _ {O : Type 0} (o : Ghosts O) (p : Kept O) (file : FileMap) (from : ℕ) (m : Message) (b : Bool) (meant : b ≡ is_meant (parts_with p.services p.coord) m) (n : ℕ) (h : Here) (stands : StandsOn o n p file h) where
  by_test : cond b (handled_here from m n h) (Void []) ≡ taken_here from m n h
  by_test = ap (λ c. cond c (handled_here from m n h) (Void [])) (meant ∙ ap (λ (t : Parts). is_meant t m) (sym stands.parts))

  pub as_meant : b ≡ true → handled_here from m n h ≡ taken_here from m n h
  as_meant is = ap (λ c. cond c (handled_here from m n h) (Void [])) (sym is) ∙ by_test

  pub as_void : b ≡ false → taken_here from m n h ≡ Void []
  as_void is = sym by_test ∙ ap (λ c. cond c (handled_here from m n h) (Void [])) is
