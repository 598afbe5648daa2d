-- What is known of nodes in every run, as far as naming's confirmations count on it: a top that has an entry prepared isn't decided where
-- its abort is told, or that of its serializing action.
use Rattle.arj_law_parts.proofs.Words
use Words.{◌≡◌, ◌≢◌, ◌∙◌, ◌==◌, ℕ, true, false, List, [], ◌∷◌, Option, Some, None, refl, sym, ap, subst, inl, inr, Contains, eqb-true}
use Words.{is_some, AllByRecursion, End, Head, ObjectState, Uid, asks, actor, top_of, Grants, Marks, Pair, is_prepared, Naming, Parts}
use Words.{at_uid, Node, Post, Seen}
use Words.list
use Words.ask
use Words.ending
use Rattle.arj_law_promise.proofs.Terms
use Terms.{Action, told_by, at_in, in_at, IsGoodOf, IsMemory, IsUp, In, AreRecorded, IsPathedOf, KnowsParted, WorksAreKnown, IsPartAsked}
use Terms.{AcksAreKnown, HasAcked, IsPartOf, WasRecorded, records_in, ArePastIn, AsksForItself, HasPrepared, IsForItself}
use Rattle.arj_law_disk_view.specs.view.Pairs.{AreSorted}
use Rattle.arj_law_promise.proofs.settling
use settling.{Settled.sorted_as, Stills.IsRight}
use settling.Confirms.{AsksConfirm, IsConfirming, part_of_it}

-- who was told of ends, records, who takes part, what waits, who acknowledges, and which actions the journal has
abbrev pub KnowsNaming : List Action → Seen → Type 0
KnowsNaming begun M = ((ArePastIn begun M × AreRecorded begun M) × (KnowsParted begun M × WorksAreKnown M))
    × (AcksAreKnown false begun M × IsPathedOf begun M)

abbrev pub NamingKnown : Seen → Type 0
NamingKnown M = (begun : List Action) × IsGoodOf begun M × KnowsNaming begun M

abbrev pub AllKnown : Seen → Type 0
AllKnown M = IsRight M × NamingKnown M

-- and beside it what holds of naming's confirmations
abbrev pub IsNaming : Seen → Type 0
IsNaming M = AllKnown M × IsConfirming M

-- ---- lists

-- of each action that has something prepared this holds
pub prepared_so : (Q : Uid → Type 0) (d : Pair) (u : Uid) → HasPrepared Q d → is_prepared u d ≡ true → Q u
prepared_so Q d u h on = by (at_uid u d.pend) refl
  where
    each : (es : List (Uid × List ObjectState)) → AllByRecursion (λ (e : Uid × List ObjectState). Q e.0) es → (e : Uid × List ObjectState) →
        list.In e es → Q e.0
    each [] all e i = absurd i
    each (x ∷ es) all e (inl same) = subst (λ (z : Uid × List ObjectState). Q z.0) same all.0
    each (x ∷ es) all e (inr i) = each es all.1 e i

    by : (o : Option (List ObjectState)) → at_uid u d.pend ≡ o → Q u
    by None none = absurd (let no_way : false ≡ true = sym (ap (λ (z : Option (List ObjectState)). is_some z) none) ∙ on in cc no_way)
    by (Some states) found = each d.pend h.each (u, states) (at_in u states d.pend found)

-- and so that it is prepared
pub prepared_itself : (d : Pair) → AreSorted d.pend → HasPrepared (λ u. is_prepared u d ≡ true) d
prepared_itself d sorted = record {
  sorted = sorted;
  each = each d.pend (λ e i. ap (λ (z : Option (List ObjectState)). is_some z) (in_at e d.pend (sorted_as d.pend sorted) i));
}
  where
    each : (es : List (Uid × List ObjectState)) → ((e : Uid × List ObjectState) → list.In e es → is_prepared e.0 d ≡ true) →
        AllByRecursion (λ (e : Uid × List ObjectState). is_prepared e.0 d ≡ true) es
    each [] so = tt
    each (e ∷ es) so = (so e (inl refl), each es (λ z i. so z (inr i)))

module _ (M : Seen) (known : AllKnown M) where
  abbrev begun : List Action
  begun = let n = known.1 in n.0

  pub parted : KnowsParted (let n = known.1 in n.0) M
  parted = let n = known.1 in let z = n.2 in z.0.1.0

  pub acks : AcksAreKnown false (let n = known.1 in n.0) M
  acks = let n = known.1 in let z = n.2 in z.1.0

  -- all that naming is asked to confirm of a top is one
  pub one_confirm : (u : Uid) (c e : AsksConfirm M.sent u) → (e.grants ≡ c.grants) × (e.excluded ≡ c.excluded) × (e.included ≡ c.included)
  one_confirm u c e =
      let same : ask.Confirm c.grants c.excluded c.included ≡ ask.Confirm e.grants e.excluded e.included = parted.one c.post e.post c.head
      e.head (ask.Confirm c.grants c.excluded c.included) (ask.Confirm e.grants e.excluded e.included) c.posted e.posted c.asking
      e.asking refl refl (c.by ∙ sym e.by) in
      (cc (sym same), cc (sym same), cc (sym same))

  -- a top asks itself
  pub its_top : (p : Post) (h : Head) (grants : Grants) (excluded included : Marks) → In p M.sent →
      asks p.message ≡ Some (h, ask.Confirm grants excluded included) → actor h.path ≡ top_of h.path
  its_top p h grants excluded included there is =
      let d = (let z = known.0.0 in z.0.1) in
      let all = (let z = d.2 in z.1) in
      let f : IsForItself d.0 p.from h (top_of h.path) = subst (AsksForItself d.0 p.from) is (all.sent p there) (top_of h.path) refl in
      f.same

  -- where an end of it was told, or of its serializing action, a recorded top that naming was asked about was acknowledged
  pub told_acked : (p : Post) (w u : Uid) → In p M.sent → p.to ≡ 1 → Contains {X = Uid × End} (told_by p.message) (w, ending.Abort) →
      IsPartOf (let n = known.1 in n.0) u w → AsksConfirm M.sent u → WasRecorded (records_in M.nodes) M.sent u → HasAcked M.sent u 1
  told_acked p w u there to told part asked was =
      let l = acks.world in
      subst (HasAcked M.sent u) to
      (l.aborts p w u there told part (subst (λ n. IsPartAsked M.sent u n) (sym to) (part_of_it M.sent u asked)) was)

  -- ---- nodes

  -- naming is at node 1, in the disk's incarnation
  pub naming_here : (k : ℕ) (a : Node) (t : Parts) (n : Naming) → M.nodes k ≡ Some a → a.live ≡ Some t → t.naming ≡ Some n → k ≡ 1
  naming_here k a t n here up_it named =
      let d = (let z = known.0.0 in z.0.1) in
      let all = (let z = d.2 in z.1) in
      let q = all.nodes k a here in
      eqb-true k 1 (sym (q.live t up_it) ∙ ap (λ (o : Option Naming). is_some o) named)

  pub no_naming : (k : ℕ) (a : Node) (t : Parts) → M.nodes k ≡ Some a → a.live ≡ Some t → t.naming ≡ None → k ≢ 1
  no_naming k a t here up_it none one =
      let d = (let z = known.0.0 in z.0.1) in
      let all = (let z = d.2 in z.1) in
      let q = all.nodes k a here in
      let no_way : false ≡ true = sym (ap (λ (o : Option Naming). is_some o) none) ∙ q.live t up_it ∙ ap (λ j. j == 1) one in cc no_way

  pub sorted_names : (k : ℕ) (a : Node) → M.nodes k ≡ Some a → AreSorted (let d = a.disk in let p = d.names in p.pend)
  sorted_names k a here =
      let d = (let z = known.0.0 in z.0.1) in
      let all = (let z = d.2 in z.1) in
      let q = all.nodes k a here in
      let h = q.names in h.sorted

  pub its_inc : (k : ℕ) (a : Node) (t : Parts) → M.nodes k ≡ Some a → a.live ≡ Some t →
      (let c = t.coord in let z = c.tree in z.inc) ≡ (let d = a.disk in d.inc)
  its_inc k a t here up_it =
      let n = known.1 in
      let g : IsGoodOf n.0 M = n.1 in
      let p = g.places k a here in
      let m : IsUp n.0 M.sent M.labels k (let d = a.disk in
      d.inc) t = subst (IsMemory n.0 M.sent M.labels k (let d = a.disk in d.inc)) up_it p.memory in
      m.inc
