-- Steps of the loop that puts the files of states.
use Rattle.std.proofs.Common.{◌≡◌, ◌≢◌, ◌⊎◌, ◌∙◌, true, false, ◌||◌, List, [], ◌∷◌, ◌++◌, drop, ℕ, zero, suc, ◌+◌, ◌<◌, take, get_or}
use Rattle.std.proofs.Common.{length, arith, refl, sym, ap, subst, inl, inr, ⊎_elim, map, Some}
use Rattle.std.specs.Prelude.{IfSome}
use Rattle.std.specs.List.{AllByRecursion, IsDistinct}
use Rattle.std.proofs.lemmas.List.{map-append, take-append-drop, take_more}
use Rattle.std.proofs.lemmas.List.Folds.{list_any-append}
use Rattle.arj_base.specs.State.{state_bytes}
use Rattle.arj_base.specs.Uid.{uid_eq, UidFits}
use Rattle.arj_base.specs.declared.state.ObjectState.{ObjectState}
use Rattle.arj_base.specs.declared.uid.Uid.{Uid}
use Rattle.arj_disk.specs.Disk.{PutsOrNot}
use Rattle.arj_disk.specs.declared.slot.Role.{Role}
use Rattle.arj_disk.specs.declared.slot.Slot.{Slot}
use Rattle.arj_disk.specs.declared.slot.Slot.TheVariants as slot
use Rattle.arj_disk.specs.FileMap.{FileMap}
use Rattle.arj_disk.specs.Formed.{IsStateOf}
use Rattle.arj_store.specs.Formed.{IsPreparedOf, prepared_bytes}
use Rattle.arj_store.specs.declared.prepare.Place.{Place}
use Rattle.arj_store.specs.declared.prepare.Place.TheVariants as place
use Rattle.arj_store.specs.Pair.{uid_of}
use Rattle.arj_store.specs.Shadow.{is_in, slot_at, PutsFirst, PutsStates, HasStates, PutsAll}
use Rattle.arj_store.proofs.Lists.{all_at}
use Rattle.arj_store.proofs.Uids.{in_more, slot_cases, uid_isnt, uid_same}

-- names of one kind tell their objects
pub slot_once : (kind : Place) (u w : Uid) → slot_at kind u ≡ slot_at kind w → u ≡ w
slot_once place.Committed u w e = cc
slot_once place.Shadow u w e = cc

pub slot_not_tmp : (kind : Place) (u : Uid) → slot_at kind u ≢ slot.Tmp
slot_not_tmp place.Committed u = λ e. cc
slot_not_tmp place.Shadow u = λ e. cc

pub puts_none : (kind : Place) (us : List Uid) (file : FileMap) → PutsStates kind us file file
puts_none kind us file q tmp = inl refl

pub puts_more : (kind : Place) (us : List Uid) (old mid new : FileMap) (u : Uid) (bytes : List ℕ) → is_in us u ≡ true →
    PutsStates kind us old mid → PutsOrNot mid new (slot_at kind u) bytes
    → (new (slot_at kind u) ≡ mid (slot_at kind u)) ⊎ IfSome (new (slot_at kind u)) (IsStateOf u) → PutsStates kind us old new
puts_more kind us old mid new u bytes among puts step form q tmp = ⊎_elim
    (λ (e : q ≡ slot_at kind u). ⊎_elim (λ (same : new (slot_at kind u) ≡ mid (slot_at kind u)). kept (ap new e ∙ same ∙ ap mid (sym e)))
    (λ (there : IfSome (new (slot_at kind u)) (IsStateOf u)). inr (u, among, e, subst (λ p. IfSome (new p) (IsStateOf u)) (sym e) there)) form)
    (λ (other : q ≢ slot_at kind u). kept (step.others q other tmp)) (slot_cases q (slot_at kind u))
  where
    kept : new q ≡ mid q → (new q ≡ old q) ⊎ ((w : Uid) × (is_in us w ≡ true) × (q ≡ slot_at kind w) × IfSome (new q) (IsStateOf w))
    kept same = subst (λ o. (o ≡ old q) ⊎ ((w : Uid) × (is_in us w ≡ true) × (q ≡ slot_at kind w) × IfSome o (IsStateOf w))) (sym same) (puts q tmp)

-- what stays as it is puts nothing more
pub puts_kept : (kind : Place) (us : List Uid) (old mid new : FileMap) → ((q : Slot) → q ≢ slot.Tmp → new q ≡ mid q) →
    PutsStates kind us old mid → PutsStates kind us old new
puts_kept kind us old mid new kept puts q tmp =
    subst (λ o. (o ≡ old q) ⊎ ((w : Uid) × (is_in us w ≡ true) × (q ≡ slot_at kind w) × IfSome o (IsStateOf w))) (sym (kept q tmp)) (puts q tmp)

-- a put that left its file as it was left all
pub put_kept : (mid new : FileMap) (p : Slot) (bytes : List ℕ) → PutsOrNot mid new p bytes → new p ≡ mid p → (q : Slot) → q ≢ slot.Tmp →
    new q ≡ mid q
put_kept mid new p bytes step same q tmp =
    ⊎_elim (λ (e : q ≡ p). ap new e ∙ same ∙ ap mid (sym e)) (λ (other : q ≢ p). step.others q other tmp) (slot_cases q p)

-- what is put of some objects is put of more
puts_of_more : (kind : Place) (us ws : List Uid) (old new : FileMap) → ((u : Uid) → is_in us u ≡ true → is_in ws u ≡ true) →
    PutsStates kind us old new → PutsStates kind ws old new
puts_of_more kind us ws old new more puts q tmp = ⊎_elim (λ (same : new q ≡ old q). inl same)
    (λ (e : (w : Uid) × (is_in us w ≡ true) × (q ≡ slot_at kind w) × IfSome (new q) (IsStateOf w)). inr (e.0, more e.0 e.1, e.2, e.3)) (puts q tmp)

-- the first few states' objects are among all
in_first : (states : List ObjectState) (n : ℕ) (u : Uid) → is_in (map uid_of (take n states)) u ≡ true → is_in (map uid_of states) u ≡ true
in_first states n u is =
    let all : is_in (map uid_of states) u ≡ (is_in (map uid_of (take n states)) u || is_in (map uid_of (drop n states)) u) =
    ap (λ ss. is_in (map uid_of ss) u) (sym (take-append-drop n states)) ∙ ap (λ us. is_in us u) (map-append uid_of (take n states) (drop n states)) ∙ list_any-append (uid_eq u) (map uid_of (take n states)) (map uid_of (drop n states)) in
    grind (arith, all, is)

pub puts_of_all : (kind : Place) (states : List ObjectState) (n : ℕ) (old new : FileMap) →
    PutsStates kind (map uid_of (take n states)) old new → PutsStates kind (map uid_of states) old new
puts_of_all kind states n old new = puts_of_more kind (map uid_of (take n states)) (map uid_of states) old new (in_first states n)

-- the object of the i-th state
pub get_map : (states : List ObjectState) (i : ℕ) (d : ObjectState) → i < length states →
    get_or (map uid_of states) i (uid_of d) ≡ uid_of (get_or states i d)
get_map [] i d within = let never : ⊥ = omega arith in absurd never
get_map (s ∷ ss) zero d within = refl
get_map (s ∷ ss) (suc i) d within = get_map ss i d (omega arith)

pub length_map : (states : List ObjectState) → length (map uid_of states) ≡ length states
length_map [] = refl
length_map (s ∷ ss) = let rest = length_map ss in omega (arith, rest)

-- an earlier state is of another object
apart : (s : ObjectState) (ss : List ObjectState) (i : ℕ) (d : ObjectState) → i < length ss →
    AllByRecursion (λ w. uid_eq s.uid w ≡ false) (map uid_of ss) → s.uid ≢ (get_or ss i d).uid
apart s ss i d within others =
    let short : i < length (map uid_of ss) = omega (arith, length_map ss) in
    uid_isnt s.uid (get_or ss i d).uid (subst (λ w. uid_eq s.uid w ≡ false) (get_map ss i d within) (all_at (λ w. uid_eq s.uid w ≡ false) (map uid_of ss) i (uid_of d) short others))

has_next : (kind : Place) (states : List ObjectState) (i : ℕ) (d : ObjectState) (mid new : FileMap) → i < length states →
    IsDistinct uid_eq (map uid_of states) → HasStates kind (take i states) mid
    → ((w : Uid) → w ≢ (get_or states i d).uid → new (slot_at kind w) ≡ mid (slot_at kind w)) →
    new (slot_at kind (get_or states i d).uid) ≡ Some (state_bytes (get_or states i d)) → HasStates kind (take (suc i) states) new
unfolding IsDistinct
has_next kind [] i d mid new within distinct has others here = let never : ⊥ = omega arith in absurd never
has_next kind (s ∷ ss) zero d mid new within distinct has others here = (here, tt)
has_next kind (s ∷ ss) (suc i) d mid new within distinct has others here =
    (others s.uid (apart s ss i d (omega arith) distinct.0) ∙ has.0, has_next kind ss i d mid new (omega arith) distinct.1 has.1 others here)

pub has_more : (kind : Place) (states : List ObjectState) (i : ℕ) (d : ObjectState) (mid new : FileMap) → i < length states →
    IsDistinct uid_eq (map uid_of states) → HasStates kind (take i states) mid
    → ((w : Uid) → w ≢ (get_or states i d).uid → new (slot_at kind w) ≡ mid (slot_at kind w)) →
    new (slot_at kind (get_or states i d).uid) ≡ Some (state_bytes (get_or states i d)) → HasStates kind (take (i + 1) states) new
has_more kind states i d mid new within distinct has others here =
    let next : suc i ≡ i + 1 =
    omega arith in subst (λ n. HasStates kind (take n states) new) next (has_next kind states i d mid new within distinct has others here)

-- files of other objects of the kind stay
pub put_others : (kind : Place) (mid new : FileMap) (u : Uid) (bytes : List ℕ) → PutsOrNot mid new (slot_at kind u) bytes → (w : Uid) →
    w ≢ u → new (slot_at kind w) ≡ mid (slot_at kind w)
put_others kind mid new u bytes step w other = step.others (slot_at kind w) (λ e. other (slot_once kind w u e)) (slot_not_tmp kind w)

-- ---- the loop's step, of the state at a place and the name of its file

module _ (kind : Place) (states : List ObjectState) (i : ℕ) (s : ObjectState) (q : Slot) (old mid new : FileMap) (within : i < length states) (is : s ≡ get_or states i s) (name : q ≡ slot_at kind s.uid)
    (step : PutsOrNot mid new q (state_bytes s)) where
  named : PutsOrNot mid new (slot_at kind s.uid) (state_bytes s)
  named = subst (λ p. PutsOrNot mid new p (state_bytes s)) name step

  -- the objects of the states before it
  abbrev us : List Uid
  us = map uid_of (take i states)

  objects : map uid_of (take (i + 1) states) ≡ us ++ s.uid ∷ []
  objects = ap (map uid_of) (take_more states i s within) ∙ map-append uid_of (take i states) (get_or states i s ∷ []) ∙ ap (λ r. us ++ uid_of r ∷ []) (sym is)

  pub step_puts : PutsStates kind us old mid → (new q ≡ mid q) ⊎ IfSome (new q) (IsStateOf s.uid) →
      PutsStates kind (map uid_of (take (i + 1) states)) old new
  step_puts puts form = subst (λ ws. PutsStates kind ws old new) (sym objects)
      (puts_more kind (us ++ s.uid ∷ []) old mid new s.uid (state_bytes s) (grind (arith, in_more us s.uid s.uid, uid_same s.uid))
      (puts_of_more kind us (us ++ s.uid ∷ []) old mid (λ w among. grind (arith, in_more us s.uid w, among)) puts) named
      (subst (λ p. (new p ≡ mid p) ⊎ IfSome (new p) (IsStateOf s.uid)) name form))

  pub step_has : IsDistinct uid_eq (map uid_of states) → HasStates kind (take i states) mid → new q ≡ Some (state_bytes s) →
      HasStates kind (take (i + 1) states) new
  step_has distinct has here = has_more kind states i s mid new within distinct has
      (subst (λ r. (w : Uid) → w ≢ r.uid →
      new (slot_at kind w) ≡ mid (slot_at kind w)) is (put_others kind mid new s.uid (state_bytes s) named))
      (subst (λ r. new (slot_at kind r.uid) ≡ Some (state_bytes r)) is (ap new (sym name) ∙ here))

  -- where it ends here, the states so far are put, and this one perhaps
  pub step_first : IsDistinct uid_eq (map uid_of states) → PutsStates kind us old mid → HasStates kind (take i states) mid →
      (new q ≡ mid q) ⊎ IfSome (new q) (IsStateOf s.uid)
      → PutsFirst kind states old new
  step_first distinct puts has form = ⊎_elim
      (λ (same : new q ≡ mid q). let kept = put_kept mid new q (state_bytes s) step same in
      record {
        count = i;
        puts = puts_kept kind us old mid new kept puts;
        there =
            has_kept (take i states) (λ w. kept (slot_at kind w) (slot_not_tmp kind w)) has;
      })
      (λ (here : new q ≡ Some (state_bytes s)). record {
        count = i + 1;
        puts = step_puts puts form;
        there =
            step_has distinct has here;
      }) step.here
    where
      has_kept : (ss : List ObjectState) → ((w : Uid) → new (slot_at kind w) ≡ mid (slot_at kind w)) → HasStates kind ss mid →
          HasStates kind ss new
      has_kept [] kept has = tt
      has_kept (r ∷ rs) kept has = (kept r.uid ∙ has.0, has_kept rs kept has.1)

-- ---- the file of the action, after the shadows

module _ (role : Role) (act : Uid) (states : List ObjectState) (us : List Uid) (bytes : List ℕ) (old mid new : FileMap) (objects : us ≡ map uid_of states) (file : bytes ≡ prepared_bytes act us) (form : IsPreparedOf act bytes)
    (fit : AllByRecursion UidFits us) (puts : PutsStates place.Shadow (map uid_of states) old mid) (has : HasStates place.Shadow states mid) (step : PutsOrNot mid new (slot.Prepared role act) bytes) where
  spelled : bytes ≡ prepared_bytes act (map uid_of states)
  spelled = file ∙ ap (prepared_bytes act) objects

  pub puts_all : new (slot.Prepared role act) ≡ Some bytes → PutsAll role act states old new
  puts_all here = record {
    between = mid;
    shadows = puts;
    there = has;
    file = record {
      here = here ∙ ap Some spelled;
      form = subst (IsPreparedOf act) spelled form;
      fit = subst (AllByRecursion UidFits) objects fit;
      others = step.others;
    };
  }

  pub puts_some_or_all : PutsStates place.Shadow (map uid_of states) old new ⊎ PutsAll role act states old new
  puts_some_or_all = ⊎_elim
      (λ (same : new (slot.Prepared role act) ≡ mid (slot.Prepared role act)). inl (puts_kept place.Shadow (map uid_of states) old mid new (put_kept mid new (slot.Prepared role act) bytes step same) puts))
      (λ (here : new (slot.Prepared role act) ≡ Some bytes). inr (puts_all here)) step.here
