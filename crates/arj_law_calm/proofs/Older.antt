-- What nodes of a calm image hold beside the last states at listed stores are older states.
use Rattle.std.proofs.Common.{◌≡◌, ◌≢◌, ◌<◌, ◌≤◌, ◌⊎◌, ◌+◌, ◌==◌, inl, inr, ℕ, zero, suc, List, [], ◌∷◌, ◌++◌, map, length, Bool, true}
use Rattle.std.proofs.Common.{false, Option, Some, None}
use Rattle.std.proofs.Common.{refl, sym, ◌∙◌, ap, subst, arith, eqb-true, is_some, Contains, ⊎_elim}
use Rattle.std.specs.List.{AllByRecursion}
use Rattle.arj_base.specs.State.{StateInForm, state_bytes}
use Rattle.arj_base.specs.Uid.{UidFits, nobody, object}
use Rattle.arj_base.specs.declared.state.Format.{Format}
use Rattle.arj_base.specs.declared.state.Format.TheVariants as format
use Rattle.arj_base.specs.declared.state.ObjectState.{ObjectState}
use Rattle.arj_base.specs.declared.uid.Uid.{Uid}
use Rattle.arj_class.specs.Forms.{FormatHolds, ValueInForm, payload_of}
use Rattle.arj_class.specs.declared.value.Value.{Value}
use Rattle.arj_disk.specs.declared.slot.Role.TheVariants.{Store}
use Rattle.arj_journal.specs.declared.body.Line.{Line}
use Rattle.arj_journal.specs.declared.header.Header.{Header}
use Rattle.arj_journal.specs.declared.header.ObjectLine.{ObjectLine}
use Rattle.arj_law.proofs.JoinedLists.{all_append}
use Rattle.arj_lock.proofs.Members.{In, in_to}
use Rattle.arj_model.specs.Disks.{Disks, held}
use Rattle.arj_model.specs.Last.{listed, object_line}
use Rattle.arj_past.specs.Past.{HoldsPast, state_to}
use Rattle.arj_protocol.specs.Order.{has}

module _ (header : Header) (lines : List Line) (disks : Disks) where
  -- an older state: a node that isn't listed holds the state of an object behind some tops
  pub record IsFound (p : ℕ × ObjectState) : Type 0 where
    pub object_is : ObjectLine
    pub there : In object_is header.objects
    pub place : List ℕ
    pub is : p.1 ≡ state_to header lines place object_is.x
    pub unlisted : has (listed header lines object_is.x) p.0 ≡ false
    pub held : held (disks p.0) Store (object object_is.x) ≡ Some (state_bytes p.1)

  -- that of an object at a node, if there is one
  one : (n : ℕ) (o : ObjectLine) → In o header.objects → HoldsPast header lines (disks n) o.x →
      (ps : List (ℕ × ObjectState)) × AllByRecursion IsFound ps
  one n o there past = by (has (listed header lines o.x) n) refl (held (disks n) Store (object o.x)) refl
    where
      by : (b : Bool) → has (listed header lines o.x) n ≡ b → (h : Option (List ℕ)) → held (disks n) Store (object o.x) ≡ h →
          (ps : List (ℕ × ObjectState)) × AllByRecursion IsFound ps
      by true e h g = ([], tt)
      by false e None g = ([], tt)
      by false e (Some bytes) g = let p = past bytes g in (
        (n, state_to header lines p.0 o.x) ∷ [],
        (
          record {
            object_is = o;
            there = there;
            place = p.0;
            is = refl;
            unlisted = e;
            held = g ∙ ap Some p.1;
          },
          tt,
        ),
      )

  -- those of some objects at a node
  at_node : (n : ℕ) (os : List ObjectLine) → ((o : ObjectLine) → In o os → In o header.objects) →
      ((o : ObjectLine) → In o header.objects → HoldsPast header lines (disks n) o.x) →
      (ps : List (ℕ × ObjectState)) × AllByRecursion IsFound ps
  at_node n [] inside past = ([], tt)
  at_node n (o ∷ os) inside past =
      let here = inside o (inl refl) in
      let first = one n o here (past o here) in
      let rest = at_node n os (λ p i. inside p (inr i)) past in
      (first.0 ++ rest.0, all_append IsFound first.0 rest.0 first.1 rest.1)

  -- those at the nodes from 1 on
  pub at_nodes : (count : ℕ) → ((n : ℕ) → 1 ≤ n → n ≤ count → (o : ObjectLine) → In o header.objects →
      HoldsPast header lines (disks n) o.x) →
      (ps : List (ℕ × ObjectState)) × AllByRecursion IsFound ps
  at_nodes zero past = ([], tt)
  at_nodes (suc count) past =
      let before = at_nodes count (λ n low high. past n low (omega (arith, high))) in
      let here = at_node (suc count) header.objects (λ o i. i) (past (suc count) (omega arith) (omega arith)) in
      (before.0 ++ here.0, all_append IsFound before.0 here.0 before.1 here.1)
