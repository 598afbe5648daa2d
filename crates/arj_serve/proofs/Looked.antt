-- What the store of objects reads and is asked in memory, as the protocol's pair has it.
use Rattle.std.proofs.Common.{◌≡◌, ◌∙◌, Bool, true, sym, ap, subst, Option, Some, None}
use Rattle.std.specs.Prelude.{IfSome, IsSome, MatchOption, IsErrAnd, IsErrOf, OnErr, Result, Ok, Err, ◌↔◌}
use Rattle.arj_base.specs.State.{StateInForm}
use Rattle.arj_disk.specs.FileMap.{FileMap}
use Rattle.arj_disk.specs.Says.{names}
use Rattle.arj_disk.specs.declared.slot.Role.{Role}
use Rattle.arj_disk.specs.declared.slot.Role.TheVariants.{Store}
use Rattle.arj_law_store.specs.store.Reads.{ReadsAs}
use Rattle.arj_law_store.proofs.store.Held.{found}
use Rattle.arj_law_store.proofs.store.Lookups.{holder_as, prepared_as, reads}
use Rattle.arj_protocol.specs.Effect.{Disk, Pair, held_at, holder_of, is_prepared}
use Rattle.arj_protocol.specs.Words.{Uid, ObjectState}
use Rattle.arj_serve.specs.Kept.{Kept, StandsOn}
use Rattle.arj_serve.specs.Objects.{AreObjects, IsObjectState}
use Rattle.arj_store.specs.Pair as files
use Rattle.arj_store.specs.declared.answer.Read.{Read}
use Rattle.arj_store.specs.declared.answer.StoreFault.{StoreFault}
use Rattle.arj_store.specs.declared.answer.StoreFault.TheVariants.{Stopped}
use Rattle.arj_store.specs.declared.store.ObjectStore.{Ghosts}

-- the state of an object is in form
in_form_at : (u : Uid) (d : Pair) → AreObjects d → IfSome (held_at u d) StateInForm
in_form_at u d good = by (held_at u d) (found IsObjectState u d.held good.held)
  where
    by : (o : Option ObjectState) → IfSome o (IsObjectState u) → IfSome o StateInForm
    by None own = tt
    by (Some s) own = own.in_form

-- what the store's trait promises of a formed role
abbrev pub Sound : {O : Type 0} → Ghosts O → Type 0
Sound o = (r : Role) (file : FileMap) → o.formed file r → files.IsSound r (o.pair file r)

-- the store of standing services, as its calls see it
module _ {O : Type 0} (o : Ghosts O) (sound : Sound o) (s : Kept O) (file : FileMap) (d : Disk) (stands : StandsOn o s file d) (store : O) (same : store ≡ s.store) where
  role_is : o.own_role store ≡ Store
  role_is = ap o.own_role same ∙ stands.role_is

  keeps : o.keeps store file
  keeps = subst (λ x. o.keeps x file) (sym same) stands.keeps

  pub once_there : (a b u : Uid) → names ((o.pair file Store).pend a) u → names ((o.pair file Store).pend b) u → a ≡ b
  once_there = (sound Store file stands.formed).once

  pub store_holder : (u : Uid) (r : Option Uid)
      → ((f : FileMap) → o.keeps store f →
      MatchOption r (files.InDoubt (o.pair f (o.own_role store)) u → ⊥) (λ act. names ((o.pair f (o.own_role store)).pend act) u)) →
      holder_of u d.store ≡ r
  store_holder u r at = holder_as (o.pair file Store) d.store stands.pair once_there u r
      (subst (λ k. MatchOption r (files.InDoubt (o.pair file k) u → ⊥) (λ act. names ((o.pair file k).pend act) u)) role_is (at file keeps))

  pub store_reads : (u : Uid) (a : Read) → files.Reads (o.pair file (o.own_role store)) u a → ReadsAs d.store u a
  store_reads u a at =
      reads (o.pair file Store) d.store stands.pair once_there u a (in_form_at u d.store stands.objects) (subst (λ k. files.Reads (o.pair file k) u a) role_is at)

  pub store_prepared : (act : Uid) (b : Bool) →
      ((f : FileMap) → o.keeps store f → (b ≡ true) ↔ IsSome ((o.pair f (o.own_role store)).pend act)) → is_prepared act d.store ≡ b
  store_prepared act b at =
      prepared_as (o.pair file Store) d.store stands.pair act b (subst (λ k. (b ≡ true) ↔ IsSome ((o.pair file k).pend act)) role_is (at file keeps))

pub on_err : {T E : Type 0} {P : Type 0} (r : Result T E) → P → OnErr r P
on_err (Ok x) p = tt
on_err (Err e) p = p

-- a call that hands on a stop was stopped
pub stopped_too : {T U : Type 0} (r : Result T StoreFault) (e : StoreFault) → IsErrAnd r (λ f. f ≡ e) → IsErrOf r Stopped →
    (let q : Result U StoreFault = Err e in IsErrOf q Stopped)
stopped_too (Ok value) e is stop = absurd is
stopped_too (Err other) e is stop = cc
